-- Meanings, and the maps that give them. The TeXbook, chapters 20 and 24.
use Rattle.std.specs.Prelude.{ℕ, ℤ, pos, ◌-◌, List, [], ◌∷◌, length, if◌then◌else◌, Option, Some, None}
use Rattle.std.specs.Str.{bytes_eq}
use Rattle.tx_model.specs.declared.category.Cat.{Cat}
use Rattle.tx_model.specs.declared.category.Cat.TheVariants as cat
use Rattle.tx_model.specs.declared.primitive.Primitive.{Primitive}
use Rattle.tx_model.specs.Tokens.{Token, Char, Name, Active, Param, Stop}

-- an integer parameter
pub data Parameter : Type 0 where
  EndLineChar : Parameter
  NewLineChar : Parameter
  EscapeChar : Parameter

-- what has a meaning
pub data Address : Type 0 where
  OfName : List ℕ → Address
  OfActive : ℕ → Address
  OfCategory : ℕ → Address
  OfParameter : Parameter → Address

pub data Meaning : Type 0 where
  Undefined : Meaning
  Primitive' : Primitive → Meaning
  -- a macro without parameters, by the tokens that it stands for
  Macro : List Token → Meaning
  -- that of a character, or of a name that is let to one
  Character : Cat → ℕ → Meaning
  -- the category of a byte
  Category : Cat → Meaning
  -- the value of a parameter
  Integer : ℤ → Meaning

abbrev pub Map : Type 0
Map = Address → Meaning

-- one map per open level, the innermost first
abbrev pub Environment : Type 0
Environment = List Map

abbrev pub meaning_at : Address → Environment → Meaning
meaning_at address [] = Undefined
meaning_at address (map ∷ maps) = map address

-- a map in which this name means this
abbrev pub with_name : List ℕ → Meaning → Map → Map
with_name text meaning map (OfName name) = if bytes_eq name text then meaning else map (OfName name)
with_name text meaning map address = map address

-- a definition changes the innermost map
abbrev pub defining : List ℕ → Meaning → Environment → Environment
defining text meaning [] = []
defining text meaning (map ∷ maps) = with_name text meaning map ∷ maps

-- a group's start repeats the innermost map
abbrev pub beginning_group : Environment → Environment
beginning_group [] = []
beginning_group (map ∷ maps) = map ∷ map ∷ maps

-- a group's end drops the innermost map; the outermost one stays
abbrev pub ending_group : Environment → Option Environment
ending_group [] = None
ending_group (map ∷ []) = None
ending_group (map ∷ outer ∷ maps) = Some (outer ∷ maps)

abbrev pub open_groups : Environment → ℕ
open_groups maps = length maps - 1

abbrev pub category_in : Meaning → Cat
category_in (Category c) = c
category_in _ = cat.Other

abbrev pub integer_in : Meaning → ℤ
integer_in (Integer n) = n
integer_in _ = pos 0

-- the present category of a byte
abbrev pub category_of : Environment → ℕ → Cat
category_of maps b = category_in (meaning_at (OfCategory b) maps)

-- the present value of a parameter
abbrev pub parameter_of : Environment → Parameter → ℤ
parameter_of maps p = integer_in (meaning_at (OfParameter p) maps)

-- the present meaning of a token
abbrev pub meaning_of : Environment → Token → Meaning
meaning_of maps (Char c b) = Character c b
meaning_of maps (Name text) = meaning_at (OfName text) maps
meaning_of maps (Active b) = meaning_at (OfActive b) maps
-- a macro parameter and the stop stand in lists alone and are never pending
meaning_of maps (Param n) = Undefined
meaning_of maps Stop = Undefined
