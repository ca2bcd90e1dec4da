-- A frozen state, and which states can be frozen.
use Rattle.std.specs.Prelude.{⊤, ◌≡◌, ◌≢◌, ℕ, Bool, ◌<◌, ◌≤◌, ◌^◌, List, [], length, get_or, take, Option, Some}
use Rattle.std.specs.List.{IsDistinct, All}
use Rattle.std.specs.Map.{keys_of}
use Rattle.std.specs.Cmp.Lexicographic.{pointwise}
use Rattle.tx_tok.specs.contracts.tok.TokPartialEq.TheImpl as tokens
use Rattle.tx_eqtb.specs.Addresses.{same, entry_at}
use Rattle.tx_eqtb.specs.Meanings.{meanings}
use Rattle.tx_eqtb.specs.declared.addr.Addr.{Addr}
use Rattle.tx_eqtb.specs.declared.addr.AddrKind.{AddrKind}
use Rattle.tx_eqtb.specs.declared.addr.AddrKind.TheVariants as kind
use Rattle.tx_eqtb.specs.declared.meaning.Meaning.{Meaning}
use Rattle.tx_eqtb.specs.declared.meaning.Meaning.TheVariants as meaning
use Rattle.tx_names.specs.Names.{Names, IsDistinct as NamesDiffer}
use Rattle.tx_node.specs.declared.BoxNode.{BoxNode}
use Rattle.tx_tok.specs.declared.tok.ListRef.{ListRef}
use Rattle.tx_tok.specs.declared.tok.ListRef.TheVariants as list
use Rattle.tx_tok.specs.declared.tok.Tok.{Tok}
use Rattle.tx_tok.specs.declared.tok.Tok.TheVariants as tok
use Rattle.tx_format.specs.declared.state.Engineless.{Engineless}
use Rattle.tx_format.specs.States.{map_of, primitive_names}
use Rattle.tx_format.specs.declared.preset.Preset.{Preset}

-- the texts as a table of names, which are numbered from 0
abbrev pub table_of : List (List ℕ) → Names
table_of texts = record { first = 0; texts = texts }

-- a reference to a list leads to one of so many
abbrev pub ListWithin : ℕ → ListRef → Type 0
ListWithin lists list.Empty = ⊤
ListWithin lists (list.Frozen k) = k < lists
ListWithin lists (list.Pooled id) = ⊥

-- a meaning leads to none but so many lists
abbrev pub MeaningWithin : ℕ → Meaning BoxNode → Type 0
MeaningWithin lists (meaning.Macro long outer text) = ListWithin lists text
MeaningWithin lists (meaning.List text) = ListWithin lists text
MeaningWithin lists _ = ⊤

-- an address, if it is a name's, is that of one of so many
abbrev pub AddressWithin : ℕ → AddrKind → ℕ → Type 0
AddressWithin names kind.Name n = n < names
AddressWithin names _ n = ⊤

-- a token, if it is a name, is one of so many
abbrev pub TokenWithin : ℕ → Tok → Type 0
TokenWithin names (tok.Name n) = n < names
TokenWithin names _ = ⊤

-- the list at a place
abbrev pub list_at : List (List Tok) → ℕ → List Tok
list_at lists k = get_or lists k []

-- whether two lists have the same tokens
abbrev pub same_tokens : List Tok → List Tok → Bool
same_tokens = pointwise tokens.ghosts.eq

-- no list stands there twice
abbrev pub ListsDiffer : List (List Tok) → Type 0
ListsDiffer lists = (j k : ℕ) → j < length lists → k < length lists → list_at lists j ≡ list_at lists k → j ≡ k

-- A state that can be frozen: its addresses, names and lists are distinct, the primitives' names come
-- first, lists have numbers, no list is empty, and all that is referred to is there.
pub record IsFreezable (state : Engineless) : Type 0 where
  pub addresses : IsDistinct same (keys_of state.frozen)
  pub names : NamesDiffer (table_of state.names)
  pub primitives : take (length primitive_names) state.names ≡ primitive_names
  pub lists : ListsDiffer state.lists
  pub room : length state.lists ≤ 2 ^ 32
  pub filled : (k : ℕ) → k < length state.lists → list_at state.lists k ≢ []
  pub entries : (at : Addr) (m : Meaning BoxNode) → entry_at state.frozen at ≡ Some m → AddressWithin (length state.names) at.kind at.no × MeaningWithin (length state.lists) m
  pub tokens : (k : ℕ) → k < length state.lists → All (TokenWithin (length state.names)) (list_at state.lists k)

-- the state of a preset, without files
pub record IsPreset (preset : Preset) (state : Engineless) : Type 0 where
  pub meanings : (at : Addr) → meanings state.frozen at ≡ map_of preset at
  pub names : state.names ≡ primitive_names
  pub lists : state.lists ≡ []
  pub files : state.files ≡ []
