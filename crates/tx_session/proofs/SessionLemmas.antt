-- What is known at a session's beginning, and what it is behind a region.
use Rattle.std.proofs.Common.{◌≡◌, ℕ, zero, suc, ◌<◌, Bool, List, [], ◌∷◌, length, Option, Some, None, is_some, unwrap_or, arith, refl, ap}
use Rattle.std.specs.List.{AllByRecursion}
use Rattle.std.proofs.lemmas.List.Elements.{recursion_from_All}
use Rattle.tx_tok.specs.declared.tok.Tok.{Tok}
use Rattle.tx_tok.specs.declared.tok.Tok.TheVariants as tok
use Rattle.tx_tok.specs.declared.tok.ListRef.{ListRef}
use Rattle.tx_tok.specs.declared.tok.ListRef.TheVariants as list
use Rattle.tx_node.specs.declared.BoxNode.{BoxNode}
use Rattle.tx_eqtb.specs.declared.addr.AddrKind.{AddrKind}
use Rattle.tx_eqtb.specs.declared.addr.AddrKind.TheVariants as kind
use Rattle.tx_eqtb.specs.declared.meaning.Meaning.{Meaning}
use Rattle.tx_eqtb.specs.declared.meaning.Meaning.TheVariants as meaning
use Rattle.tx_eqtb.specs.Addresses.{entry_at}
use Rattle.tx_eqtb.specs.Meanings.{meanings, start}
use Rattle.tx_environment.specs.Holding.{pooled_in, pooled_of, HasNoPooled}
use Rattle.tx_input.specs.Worlds.{IsKnown, AllKnown}
use Rattle.tx_format.specs.declared.state.Engineless.{Engineless}
use Rattle.tx_format.specs.Formats.{IsFreezable, ListWithin, MeaningWithin, TokenWithin, list_at}
use Rattle.tx_run.specs.Knowledge.{KnowsFormat}
use Rattle.tx_store.specs.Sessions.{Session, IsSound}
use Rattle.tx_engine.specs.Agreement.{known_names}
use Rattle.tx_engine.specs.declared.engine.Engine.{Engine}
use Rattle.tx_engine.specs.declared.step.End.{End}
use Rattle.tx_engine.specs.declared.step.End.TheVariants as end
use Rattle.tx_engine.specs.Standing.{frozen_of, reported, Answered}
use Rattle.tx_model.specs.declared.reply.Status.TheVariants as status
use Rattle.tx_private.specs.Region.{State, Outcome, Region}
use Rattle.tx_scene.specs.Scenes.{state_in}
use Rattle.tx_session.specs.Replies.{RestsAs}

-- no list of a format is pooled
within-list : (lists : ℕ) (l : ListRef) → ListWithin lists l → pooled_in l ≡ None
within-list lists list.Empty h = refl
within-list lists (list.Frozen k) h = refl
within-list lists (list.Pooled id) h = absurd h

within-meaning : (lists : ℕ) (m : Meaning BoxNode) → MeaningWithin lists m → pooled_of m ≡ None
within-meaning lists (meaning.Macro long outer l) h = within-list lists l h
within-meaning lists (meaning.List l) h = within-list lists l h
within-meaning lists _ h = refl

start-listless : (k : AddrKind) → pooled_of (start k) ≡ None
start-listless kind.Toks = refl
start-listless kind.ToksParam = refl
start-listless _ = refl

found-listless : (k : AddrKind) (found : Option (Meaning BoxNode)) → ((m : Meaning BoxNode) → found ≡ Some m → pooled_of m ≡ None) → pooled_of (unwrap_or found (start k)) ≡ None
found-listless k None h = start-listless k
found-listless k (Some m) h = h m refl

none-pooled : (format : Engineless) → IsFreezable format → HasNoPooled (meanings format.frozen)
none-pooled format freezable at =
    found-listless at.kind (entry_at format.frozen at) (λ m e. within-meaning (length format.lists) m (freezable.entries at m e).1)

-- the names in its lists are known
known-token : (session : Session) → IsSound session → (t : Tok) → TokenWithin (length session.format.names) t → IsKnown (known_names session) t
known-token session sound (tok.Name n) h = ap is_some (sound.of_format n h)
known-token session sound _ h = tt

known-tokens : (session : Session) → IsSound session → (ts : List Tok) → AllByRecursion (TokenWithin (length session.format.names)) ts → AllKnown (known_names session) ts
known-tokens session sound [] h = tt
known-tokens session sound (t ∷ ts) h = (known-token session sound t h.0, known-tokens session sound ts h.1)

all-lists : (P : List Tok → Type 0) → P [] → (lists : List (List Tok)) → ((k : ℕ) → k < length lists → P (list_at lists k)) → (k : ℕ) → P (list_at lists k)
all-lists P none [] h k = none
all-lists P none (l ∷ lists) h zero = h zero (omega arith)
all-lists P none (l ∷ lists) h (suc k) = all-lists P none lists (λ j lt. h (suc j) (omega (arith, lt))) k

pub knows-format : (session : Session) → IsSound session → IsFreezable session.format → KnowsFormat (known_names session) session.format
knows-format session sound freezable = record {
  none = none-pooled session.format freezable;
  lists = all-lists (AllKnown (known_names session)) tt session.format.lists
      (λ k lt. known-tokens session sound (list_at session.format.lists k) (recursion_from_All (TokenWithin (length session.format.names)) (list_at session.format.lists k) (freezable.tokens k lt)));
}

-- A region leaves one state at the most, so the one that is kept behind it is one, however the numbers are read.
pub rests-as : (session : Session) (e : Engine) (ended : End) (s : State) (preamble : Bool) (text : List ℕ) (budget : ℕ) → ((r : State) (p : Bool) (t : List ℕ) (b : ℕ) (o q : Outcome) (x y : State) → Region r p t b o x → Region r p t b q y → (o ≡ q) × (x ≡ y)) → Answered session e ended s preamble text budget → RestsAs session e ended
rests-as session e end.Done s preamble text budget one answered = λ g agrees h agrees-too.
    (one s preamble text budget (reported status.Done e.run.scene) (reported status.Done e.run.scene) (state_in h (frozen_of session) e.run.scene) (state_in g (frozen_of session) e.run.scene) (answered h agrees-too) (answered g agrees)).1
rests-as session e end.Failed s preamble text budget one answered = tt
rests-as session e end.Spent s preamble text budget one answered = tt
rests-as session e end.Memory s preamble text budget one answered = tt
