-- Which pooled lists meanings have, and what depends on their contents.
use Rattle.std.specs.Prelude.{◌≡◌, ℕ, ◌<◌, ◌==◌, Bool, false, List, Option, Some, None, IfSome, count_by}
use Rattle.tx_tok.specs.declared.tok.ListRef.{ListRef}
use Rattle.tx_tok.specs.declared.tok.ListRef.TheVariants as list
use Rattle.tx_node.specs.declared.BoxNode.{BoxNode}
use Rattle.tx_eqtb.specs.declared.addr.Addr.{Addr}
use Rattle.tx_eqtb.specs.declared.meaning.Meaning.{Meaning}
use Rattle.tx_eqtb.specs.declared.meaning.Meaning.TheVariants as meaning
use Rattle.tx_eqtb.specs.Meanings.{Map}
use Rattle.tx_views.specs.declared.sense.Sense.{Sense}
use Rattle.tx_views.specs.declared.sense.Sense.TheVariants as sense
use Rattle.tx_views.specs.Views.{View}

-- the number of a list, where it is pooled
abbrev pub pooled_in : ListRef → Option ℕ
pooled_in (list.Pooled id) = Some id
pooled_in _ = None

-- the number of the pooled list that a meaning has
abbrev pub pooled_of : Meaning BoxNode → Option ℕ
pooled_of (meaning.Macro long protected body) = pooled_in body
pooled_of (meaning.List tokens) = pooled_in tokens
pooled_of _ = None

-- the same of what a token means, as a value of its own
abbrev pub pooled_of_sense : Sense → Option ℕ
pooled_of_sense (sense.Macro long protected body) = pooled_in body
pooled_of_sense (sense.List tokens) = pooled_in tokens
pooled_of_sense _ = None

-- whether there is a number, and it is this one
abbrev pub is_number : ℕ → Option ℕ → Bool
is_number id None = false
is_number id (Some number) = id == number

-- how often a list of meanings has the pooled list with this number
abbrev pub counted : ℕ → List (Meaning BoxNode) → ℕ
counted id meanings = count_by (λ m. is_number id (pooled_of m)) meanings

-- one of the meanings has the pooled list with this number
abbrev pub IsCountedIn : List (Meaning BoxNode) → ℕ → Type 0
IsCountedIn meanings id = 0 < counted id meanings

-- the pooled list with this number, if there is a number, is one that one of the meanings has
abbrev pub IsHeldIn : List (Meaning BoxNode) → Option ℕ → Type 0
IsHeldIn meanings number = IfSome number (IsCountedIn meanings)

-- no meaning of a map has a pooled list
abbrev pub HasNoPooled : Map BoxNode → Type 0
HasNoPooled m = (at : Addr) → pooled_of (m at) ≡ None

-- Two views read names alike, and all lists but pooled ones whose numbers aren't among these.
pub record SameContents (IsAmong : ℕ → Type 0) (view other : View) : Type 0 where
  pub naming : view.naming ≡ other.naming
  pub number : view.number ≡ other.number
  pub empty : view.content list.Empty ≡ other.content list.Empty
  pub frozen : (place : ℕ) → view.content (list.Frozen place) ≡ other.content (list.Frozen place)
  pub pooled : (id : ℕ) → IsAmong id → view.content (list.Pooled id) ≡ other.content (list.Pooled id)
