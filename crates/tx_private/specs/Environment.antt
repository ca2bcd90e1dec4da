-- The environment: one map per open level. The TeXbook, chapter 24.
use Rattle.std.specs.Prelude.{ℕ, ℤ, pos, ◌+◌, nat_lt, Bool, List, [], ◌∷◌, ◌++◌, length, map, Option, Some, None, if◌then◌else◌}
use Rattle.tx_model.specs.declared.category.Cat.{Cat}
use Rattle.tx_model.specs.declared.category.Cat.TheVariants as cat
use Rattle.tx_model.specs.Tokens.{Token, Char, Name, Active, Param, Stop}
use Rattle.tx_prims.specs.declared.primitives.IntegerParameter.{IntegerParameter}
use Rattle.tx_save.specs.declared.group.GroupKind.{GroupKind}
use Rattle.tx_private.specs.Meanings.{Address, OfName, OfActive, OfCode, OfInteger, CatCodes, Meaning, Undefined, Character, Integer, Map, with_meaning}
use Rattle.tx_private.specs.Categories.{category_numbered}

-- an open group: its map, its kind, and the tokens that \aftergroup keeps for its end
pub record Level : Type 0 where
  pub map : Map
  pub kind : GroupKind
  pub after : List Token

-- the open groups, the innermost first, and the map outside of all groups
pub record Environment : Type 0 where
  pub groups : List Level
  pub outside : Map

-- the innermost map
abbrev pub present_in : List Level → Map → Map
present_in [] outside = outside
present_in (level ∷ levels) outside = level.map

abbrev pub present : Environment → Map
present e = present_in e.groups e.outside

-- a local assignment changes the innermost map
abbrev pub assigning_in : Address → Meaning → List Level → Map → Environment
assigning_in at meaning [] outside = record { groups = []; outside = with_meaning at meaning outside }
assigning_in at meaning (level ∷ levels) outside =
    record { groups = record level { map = with_meaning at meaning level.map } ∷ levels; outside = outside }

abbrev pub in_level : Address → Meaning → Level → Level
in_level at meaning level = record level { map = with_meaning at meaning level.map }

-- a global one changes all maps
abbrev pub assigning : Bool → Address → Meaning → Environment → Environment
assigning global at meaning e =
    if global then record { groups = map (in_level at meaning) e.groups; outside = with_meaning at meaning e.outside }
    else assigning_in at meaning e.groups e.outside

-- a group's start repeats the innermost map
abbrev pub beginning : GroupKind → Environment → Environment
beginning kind e = record e { groups = record { map = present e; kind = kind; after = [] } ∷ e.groups }

-- the value of an integer
abbrev pub integer_in : Meaning → ℤ
integer_in (Integer n) = n
integer_in _ = pos 0

abbrev pub parameter_of : Environment → IntegerParameter → ℤ
parameter_of e p = integer_in (present e (OfInteger p))

-- the present category of a byte
abbrev pub category_of : Environment → ℕ → Cat
category_of e b = if nat_lt b 256 then category_numbered (integer_in (present e (OfCode CatCodes b))) else cat.Other

-- the present meaning of a token
abbrev pub meaning_of : Environment → Token → Meaning
meaning_of e (Char c b) = Character c b
meaning_of e (Name text) = present e (OfName text)
meaning_of e (Active b) = present e (OfActive b)
-- a macro parameter and the stop stand in lists alone and are never pending
meaning_of e (Param n) = Undefined
meaning_of e Stop = Undefined
