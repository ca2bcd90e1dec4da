-- What a state stands for depends on the contents of the pooled lists that it holds, and on no others.
use Rattle.std.proofs.Common.{◌≡◌, ℕ, ◌<◌, ◌==◌, Bool, true, false, List, [], ◌∷◌, length, Option, None, Some, IfSome, if◌then◌else◌, arith, refl, sym, ap, subst, ◌∙◌, eq-eqb}
use Rattle.std.proofs.lemmas.Bool.{eqb-true}
use Rattle.tx_model.specs.Tokens as model
use Rattle.tx_tok.specs.declared.tok.Tok.{Tok}
use Rattle.tx_tok.specs.declared.tok.Tok.TheVariants as tok
use Rattle.tx_tok.specs.declared.tok.ListRef.{ListRef}
use Rattle.tx_tok.specs.declared.tok.ListRef.TheVariants as list
use Rattle.tx_node.specs.declared.BoxNode.{BoxNode}
use Rattle.tx_prims.specs.declared.primitives.Primitive.{Primitive}
use Rattle.tx_prims.specs.Primitives.{primitive_at}
use Rattle.tx_eqtb.specs.declared.meaning.Meaning.{Meaning}
use Rattle.tx_eqtb.specs.declared.meaning.Meaning.TheVariants as meaning
use Rattle.tx_eqtb.specs.Meanings.{Map}
use Rattle.tx_eqtb.specs.Tables.{Table, now}
use Rattle.tx_save.specs.declared.group.Group.{Group}
use Rattle.tx_save.specs.Saves.{Saves, outside, groups, all_held}
use Rattle.tx_private.specs.Meanings as private
use Rattle.tx_views.specs.declared.sense.Sense.{Sense}
use Rattle.tx_views.specs.declared.sense.Sense.TheVariants as sense
use Rattle.tx_views.specs.Views.{View, all_viewed, list_in}
use Rattle.tx_views.specs.Places.{addr_at, is_numbered}
use Rattle.tx_views.specs.Meanings.{primitive_in, meaning_in, sense_in, map_in}
use Rattle.tx_views.specs.Environments.{environment_of, environment_in}
use Rattle.tx_environment.specs.Holding.{pooled_in, pooled_of, pooled_of_sense, is_number, IsCountedIn, IsHeldIn, HasNoPooled, SameContents}
use Rattle.tx_environment.proofs.HoldingLemmas.{Each, Everywhere, EverywhereIn, at-now, at-outside, all-counted, held-list}

by_answer : {P : Type 0} (b : Bool) → (b ≡ true → P) → (b ≡ false → P) → P
by_answer true p q = p refl
by_answer false p q = q refl

module _ (view : View) (content : ListRef → List Tok) where
  -- the view with these contents of lists
  abbrev with_content : View
  with_content = record view { content = content }

  -- a meaning stands for the same with these contents
  abbrev IsAlike : {B : Type 0} → Meaning B → Type 0
  IsAlike m = meaning_in view m ≡ meaning_in with_content m

  map-alike : {B : Type 0} (m : Map B) → Everywhere IsAlike m → map_in view m ≡ map_in with_content m
  map-alike m all = λ i at. if is_numbered view at then all (addr_at view at) i else private.Undefined

  levels-alike : {B : Type 0} (m : Map B) (maps : List (Map B)) (gs : List Group) → Everywhere IsAlike m → EverywhereIn IsAlike maps → environment_of view m maps gs ≡ environment_of with_content m maps gs
  levels-alike m [] gs here all = let is = map-alike m here in λ i. record { groups = []; outside = is i }
  levels-alike m (outer ∷ maps) [] here all = let is = map-alike m here in λ i. record { groups = []; outside = is i }
  levels-alike m (outer ∷ maps) (g ∷ gs) here all =
      let is = map-alike m here in
      let rest = levels-alike outer maps gs all.0 all.1 in
      λ i. record { groups = record { map = is i; kind = g.kind; after = all_viewed view g.after } ∷ (rest i).groups; outside = (rest i).outside }

module _ (IsAmong : ℕ → Type 0) (view other : View) (contents : SameContents IsAmong view other) where
  list-alike : (tokens : ListRef) → IfSome (pooled_in tokens) IsAmong → view.content tokens ≡ other.content tokens
  list-alike list.Empty among = contents.empty
  list-alike (list.Frozen place) among = contents.frozen place
  list-alike (list.Pooled id) among = contents.pooled id among

  meaning-alike : (m : Meaning BoxNode) → IfSome (pooled_of m) IsAmong → IsAlike view other.content m
  meaning-alike (meaning.Macro long protected body) among = ap (λ tokens. private.Macro' (record { long = long; protected = protected; body = all_viewed view tokens })) (list-alike body among)
  meaning-alike (meaning.List tokens) among = ap (λ c. private.Tokens (all_viewed view c)) (list-alike tokens among)
  meaning-alike m among = refl

  each-alike : (ms : List (Meaning BoxNode)) → Each (λ m. IfSome (pooled_of m) IsAmong) ms → Each (IsAlike view other.content) ms
  each-alike [] all = tt
  each-alike (m ∷ ms) all = (meaning-alike m all.0, each-alike ms all.1)

  -- what a table and a save stack stand for, where all lists that they have are among these
  environment-alike : (frozen : Map BoxNode) (t : Table BoxNode) (s : Saves BoxNode) → HasNoPooled frozen → Each (λ m. IfSome (pooled_of m) IsAmong) (all_held t s) → environment_in view frozen t s ≡ environment_in other frozen t s
  environment-alike frozen t s none all =
      let P : Meaning BoxNode → Type 0 = IsAlike view other.content in
      let start : Everywhere P frozen = λ at. meaning-alike (frozen at) (subst (λ n. IfSome n IsAmong) (sym (none at)) tt) in
      let held_alike : Each P (all_held t s) = each-alike (all_held t s) all in
      let naming = contents.naming in
      let number = contents.number in
      levels-alike view other.content (now frozen t) (outside frozen t s) (groups s) (at-now P frozen t s start held_alike) (at-outside P frozen t s start held_alike)
      ∙ (λ i. environment_in (record { naming = naming i; number = number i; content = other.content }) frozen t s)

-- what a table and a save stack stand for depends on the contents of the lists that they hold
pub same-environment : (view other : View) (frozen : Map BoxNode) (t : Table BoxNode) (s : Saves BoxNode) → HasNoPooled frozen → SameContents (IsCountedIn (all_held t s)) view other → environment_in view frozen t s ≡ environment_in other frozen t s
same-environment view other frozen t s none contents = environment-alike (IsCountedIn (all_held t s)) view other contents frozen t s none (all-counted (all_held t s))

-- A view in which one pooled list has a token, and no other list has any.
marking : ℕ → View
marking id = record {
  naming = λ n. [];
  number = λ text. 0;
  content = λ tokens. if is_number id (pooled_in tokens) then tok.Stop ∷ [] else [];
}

-- the tokens that a meaning of the definitions has
abbrev tokens_of : private.Meaning → List model.Token
tokens_of (private.Macro' macro) = macro.body
tokens_of (private.Tokens tokens) = tokens
tokens_of _ = []

marked-list : (id : ℕ) (tokens : ListRef) → 0 < length (list_in (marking id) tokens) → pooled_in tokens ≡ Some id
unfolding marking
marked-list id list.Empty some = absurd (omega (arith, some))
marked-list id (list.Frozen place) some = absurd (omega (arith, some))
marked-list id (list.Pooled number) some = by_answer (id == number)
    (λ y. ap Some (sym (eqb-true id number y)))
    (λ n. absurd (omega (arith, some, ap (λ b. length (all_viewed (marking id) (if b then tok.Stop ∷ [] else []))) n)))

-- a meaning that has a token there has that list
marked-meaning : (id : ℕ) (m : Meaning BoxNode) → 0 < length (tokens_of (meaning_in (marking id) m)) → pooled_of m ≡ Some id
marked-meaning id (meaning.Macro long protected body) some = marked-list id body some
marked-meaning id (meaning.List tokens) some = marked-list id tokens some
marked-meaning id (meaning.Prim place) some = by (primitive_at place) some
  where
    by : (p : Option Primitive) → 0 < length (tokens_of (primitive_in p)) → None ≡ Some id
    by None h = absurd (omega (arith, h))
    by (Some p) h = absurd (omega (arith, h))
marked-meaning id m some = absurd (omega (arith, some))

marked-own : (id : ℕ) → length (list_in (marking id) (list.Pooled id)) ≡ 1
unfolding marking
marked-own id = ap (λ b. length (all_viewed (marking id) (if b then tok.Stop ∷ [] else []))) (eq-eqb id id refl)

body-marked : (tokens : ListRef) (m : Meaning BoxNode) → ((view : View) → list_in view tokens ≡ tokens_of (meaning_in view m)) → IfSome (pooled_in tokens) (λ id. pooled_of m ≡ Some id)
body-marked list.Empty m same = tt
body-marked (list.Frozen place) m same = tt
body-marked (list.Pooled id) m same = marked-meaning id m (omega (arith, marked-own id, ap length (same (marking id))))

-- a meaning and what a token means have the same pooled list, where they stand for the same in each view
sense-list : (r : Sense) (m : Meaning BoxNode) → ((view : View) → sense_in view r ≡ meaning_in view m) → IfSome (pooled_of_sense r) (λ id. pooled_of m ≡ Some id)
sense-list (sense.Macro long protected body) m same = body-marked body m (λ view. ap tokens_of (same view))
sense-list (sense.List tokens) m same = body-marked tokens m (λ view. ap tokens_of (same view))
sense-list r m same = tt

-- so it is held where the meaning's is
pub sense-held : (r : Sense) (m : Meaning BoxNode) (ms : List (Meaning BoxNode)) → ((view : View) → sense_in view r ≡ meaning_in view m) → IsHeldIn ms (pooled_of m) → IsHeldIn ms (pooled_of_sense r)
sense-held r m ms same there = held-list (pooled_of_sense r) (pooled_of m) ms (sense-list r m same) there
