-- What a run has stays known where more names are, and what it asks for is known or held.
use Rattle.std.proofs.Common.{◌≡◌, ℕ, ◌+◌, ◌<◌, Bool, true, false, nat_lt, cond, List, [], ◌∷◌, Option, Some, None, IfSome, arith, refl, sym, ap, subst, ◌∙◌}
use Rattle.std.proofs.lemmas.Bool.{ltb-true, eq-eqb}
use Rattle.std.specs.Prelude.{IsSomeAnd}
use Rattle.std.proofs.lemmas.List.Elements.{recursion_from_All}
use Rattle.tx_tok.specs.declared.tok.Tok.{Tok}
use Rattle.tx_tok.specs.declared.tok.Tok.TheVariants as tok
use Rattle.tx_tok.specs.declared.tok.ListRef.{ListRef}
use Rattle.tx_tok.specs.declared.tok.ListRef.TheVariants as list
use Rattle.tx_node.specs.declared.BoxNode.{BoxNode}
use Rattle.tx_eqtb.specs.declared.meaning.Meaning.{Meaning}
use Rattle.tx_eqtb.specs.declared.meaning.Meaning.TheVariants as meaning
use Rattle.tx_environment.specs.Holding.{pooled_in, pooled_of, is_number}
use Rattle.tx_describe.specs.declared.rest.Rest.{Rest}
use Rattle.tx_describe.specs.declared.rest.Rest.TheVariants as rest
use Rattle.tx_describe.specs.Rests.{KnowsRest, KnowsToken, name_wanted, wanted}
use Rattle.tx_frames.specs.Knowledge.{Known, KnowsList}
use Rattle.tx_commands.specs.Knowledge.{KnowsMeaning}
use Rattle.tx_scene.specs.declared.scene.Scene.{Scene}
use Rattle.tx_scene.specs.Knowledge.{KnowsScene, references}
use Rattle.tx_assign.specs.declared.prefixes.Prefixes.{Prefixes}
use Rattle.tx_views.specs.declared.place.Place.{Place}
use Rattle.tx_describe.specs.declared.rest.Wanted.{Wanted}
use Rattle.tx_describe.specs.declared.rest.Wanted.TheVariants as wants
use Rattle.tx_run.specs.declared.doing.Stored.{Stored}
use Rattle.tx_run.specs.declared.doing.Doing.{Doing}
use Rattle.tx_run.specs.declared.doing.Doing.TheVariants as doing
use Rattle.tx_run.specs.declared.op.Op.{Op}
use Rattle.tx_run.specs.declared.op.Op.TheVariants as op
use Rattle.tx_run.specs.declared.run.Run.{Run}
use Rattle.tx_run.specs.Runs.{asked_for, asked_by, asked_after, asked, IsForTake}
use Rattle.tx_run.specs.Knowledge.{in_hand, counts_as, held_by, holds_list, known_by, known_in, KnowsDoing, KnowsBehind, KnowsRun, KnowsOperation}
use Rattle.tx_run.proofs.MoreLemmas.{Below, more-doing, more-behind}

-- more names
pub more-run : (names more : ℕ → Bool) (run : Run) → ((n : ℕ) → names n ≡ true → more n ≡ true) → KnowsScene more run.scene → KnowsRun names run → KnowsRun more run
more-run names more run le scene knows = record {
  scene = scene;
  doing = more-doing (known_in names run.scene run.doing) (known_in more run.scene run.doing) (record { names = le; lists = λ l h. h }) run.doing knows.doing;
  behind = more-behind (known_by names run.scene) (known_by more run.scene) (record { names = le; lists = λ l h. h }) run.doing run.frames run.command knows.behind;
}

-- the list of a meaning
pooled-list : (known : Known) (l : ListRef) → KnowsList known l → IfSome (pooled_in l) (λ id. known.list (list.Pooled id) ≡ true)
pooled-list known list.Empty h = tt
pooled-list known (list.Frozen k) h = tt
pooled-list known (list.Pooled id) h = h

pooled-known : (known : Known) (m : Meaning BoxNode) → KnowsMeaning known m → IfSome (pooled_of m) (λ id. known.list (list.Pooled id) ≡ true)
pooled-known known (meaning.Macro long protected l) h = pooled-list known l h
pooled-known known (meaning.List l) h = pooled-list known l h
pooled-known known _ h = tt

module _ (names : ℕ → Bool) (run : Run) where
  -- what may be asked for, if anything is
  MayAsk : Option Op → Type 0
  MayAsk None = Unit {0}
  MayAsk (Some o) = KnowsOperation names o run

  list-counts : (id : ℕ) → (known_in names run.scene run.doing).list (list.Pooled id) ≡ true → 0 < held_by id run
  list-counts id h = omega (arith, ltb-true 0 (references id run.scene + in_hand id run.doing) h)

  token-asks : (t : Tok) → KnowsToken names t → MayAsk (asked_for (name_wanted t))
  unfolding MayAsk
  token-asks (tok.Name n) h = h
  token-asks (tok.Char c b) h = tt
  token-asks (tok.Active b) h = tt
  token-asks (tok.Param n) h = tt
  token-asks tok.Stop h = tt

  rest-asks : (x : Rest) → KnowsRest names (known_in names run.scene run.doing).list x → MayAsk (asked_for (wanted x))
  unfolding MayAsk
  rest-asks rest.Nothing h = tt
  rest-asks (rest.Token t) h = token-asks t h
  rest-asks (rest.Tokens []) h = tt
  rest-asks (rest.Tokens (t ∷ ts)) h = token-asks t (recursion_from_All (KnowsToken names) (t ∷ ts) h).0
  rest-asks (rest.Content list.Empty) h = tt
  rest-asks (rest.Content (list.Frozen k)) h = tt
  rest-asks (rest.Content (list.Pooled id)) h = list-counts id h
  rest-asks (rest.Meaning s) h = tt

  takes : (m : Meaning BoxNode) (id : ℕ) → KnowsMeaning (known_in names run.scene run.doing) m → pooled_of m ≡ Some id → 0 < held_by id run
  takes m id h e =
      list-counts id (subst (λ o. IfSome o (λ n. (known_in names run.scene run.doing).list (list.Pooled n) ≡ true)) e (pooled-known (known_in names run.scene run.doing) m h))

  doing-asks : (d : Doing) → KnowsDoing (known_in names run.scene run.doing) d → MayAsk (asked_by d)
  unfolding MayAsk
  doing-asks (doing.Letter n) h = h
  doing-asks (doing.Reads s how id) h = list-counts id h.1
  doing-asks (doing.Prints s d) h = rest-asks d.rest h.1
  doing-asks (doing.Tells what d) h = rest-asks d.rest h
  doing-asks (doing.Takes p place m id) h = takes m id h.1 h.2
  doing-asks _ h = tt

  falls : (id : ℕ) → run.fallen ≡ Some id → 0 < held_by id run
  falls id e =
      let one : counts_as id run.fallen ≡ 1 = ap (counts_as id) e ∙ ap (λ (b : Bool). cond b 1 0) (eq-eqb id id refl) in
      omega (arith, one)

  after : (f : Option ℕ) → run.fallen ≡ f → KnowsRun names run → MayAsk (asked_after f run.doing)
  unfolding MayAsk
  after None e knows = doing-asks run.doing knows.doing
  after (Some id) e knows = falls id e

  pub asked-known : (o : Op) → KnowsRun names run → asked run ≡ Some o → KnowsOperation names o run
  unfolding MayAsk
  asked-known o knows e = subst MayAsk e (after run.fallen refl knows)

-- what is asked for tells what is about to be done
pub is-share : Option Op → Bool
is-share (Some op.Share) = true
is-share _ = false

pub is-take : Option Op → Bool
is-take (Some (op.Take id)) = true
is-take _ = false

texts-not : (o : Option Wanted) → (is-share (asked_for o) ≡ false) × (is-take (asked_for o) ≡ false)
unfolding is-share is-take
texts-not (Some (wants.Text n)) = (refl, refl)
texts-not (Some (wants.Content id)) = (refl, refl)
texts-not (Some (wants.Frozen k)) = (refl, refl)
texts-not None = (refl, refl)

pub shares-not : (f : Option ℕ) (d : Doing) → ((p : Prefixes) (place : Place) (what : Stored) (tokens : List Tok) → d ≡ doing.Shares p place what tokens → ⊥) → is-share (asked_after f d) ≡ false
unfolding is-share
shares-not (Some id) d apart = refl
shares-not None (doing.Shares p place what tokens) apart = absurd (apart p place what tokens refl)
shares-not None (doing.Prints s d) apart = (texts-not (wanted d.rest)).0
shares-not None (doing.Tells what d) apart = (texts-not (wanted d.rest)).0
shares-not None _ apart = refl

pub takes-not : (f : Option ℕ) (d : Doing) → ((p : Prefixes) (place : Place) (m : Meaning BoxNode) (id : ℕ) → d ≡ doing.Takes p place m id → ⊥) → is-take (asked_after f d) ≡ false
unfolding is-take
takes-not (Some id) d apart = refl
takes-not None (doing.Takes p place m id) apart = absurd (apart p place m id refl)
takes-not None (doing.Prints s d) apart = (texts-not (wanted d.rest)).1
takes-not None (doing.Tells what d) apart = (texts-not (wanted d.rest)).1
takes-not None _ apart = refl

pub for-take : (o : Option Op) → IsSomeAnd o IsForTake → is-take o ≡ true
unfolding is-take
for-take (Some (op.Take id)) h = refl
for-take (Some _) h = absurd h
for-take None h = absurd h

pub for-share : is-share (Some op.Share) ≡ true
unfolding is-share
for-share = refl
