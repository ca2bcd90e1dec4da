-- The families of the primitives, and their places in the table.
use Rattle.std.specs.Prelude.{ℕ, List, Option}
use Rattle.tx_prims.specs.declared.primitives.Family.{Family}
use Rattle.tx_prims.specs.declared.primitives.Family.TheVariants as family
use Rattle.tx_prims.specs.declared.primitives.Primitive.{Primitive}
use Rattle.tx_prims.specs.declared.primitives.Primitive.TheVariants as primitive
use Rattle.tx_prims.specs.declared.primitives.TheConstants.{PRIMITIVES}
use Rattle.tx_prims.specs.Rows.{row_of, row_at, place_of}

-- the family that a primitive belongs to
abbrev pub family_of : Primitive → Family
family_of (primitive.Expandable _) = family.Expandable
family_of (primitive.Assignment _) = family.Assignment
family_of (primitive.Command _) = family.Command
family_of (primitive.Math _) = family.Math
family_of (primitive.IntegerParameter _) = family.IntegerParameter
family_of (primitive.DimensionParameter _) = family.DimensionParameter
family_of (primitive.GlueParameter _) = family.GlueParameter
family_of (primitive.ListParameter _) = family.ListParameter

-- The three words below name the whole table. They are opaque where they are cited, so that no goal
-- carries its rows; a proof that needs one at a given name or place writes `unfolding`.

-- the primitive of a name
unfoldable pub primitive_named : List ℕ → Option Primitive
primitive_named name = row_of name PRIMITIVES

-- the place in the table of a name
unfoldable pub place_named : List ℕ → Option ℕ
place_named name = place_of name PRIMITIVES

-- the primitive at a place of the table
unfoldable pub primitive_at : ℕ → Option Primitive
primitive_at place = row_at place PRIMITIVES
