-- Meanings as the definitions have them.
use Rattle.std.specs.Prelude.{ℕ, Bool, Option, Some, None, if◌then◌else◌}
use Rattle.tx_tok.specs.declared.tok.ListRef.{ListRef}
use Rattle.tx_prims.specs.declared.primitives.Primitive.{Primitive}
use Rattle.tx_prims.specs.Primitives.{primitive_at}
use Rattle.tx_eqtb.specs.declared.meaning.Meaning.{Meaning}
use Rattle.tx_eqtb.specs.declared.meaning.Meaning.TheVariants as meaning
use Rattle.tx_eqtb.specs.Meanings.{Map}
use Rattle.tx_private.specs.Meanings as private
use Rattle.tx_views.specs.declared.sense.Sense.{Sense}
use Rattle.tx_views.specs.declared.sense.Sense.TheVariants as sense
use Rattle.tx_views.specs.Views.{View, list_in}
use Rattle.tx_views.specs.Places.{register_in, addr_at, is_numbered}

-- a primitive by its place in the table
abbrev pub primitive_in : Option Primitive → private.Meaning
primitive_in None = private.Undefined
primitive_in (Some p) = private.Prim p

abbrev pub macro_in : View → Bool → Bool → ListRef → private.Meaning
macro_in view long protected list = private.Macro' (record { long = long; protected = protected; body = list_in view list })

-- what a meaning stands for; fonts, boxes and shapes are nothing yet
abbrev pub meaning_in : {B : Type 0} → View → Meaning B → private.Meaning
meaning_in view meaning.Undefined = private.Undefined
meaning_in view (meaning.Prim place) = primitive_in (primitive_at place)
meaning_in view (meaning.Macro long protected list) = macro_in view long protected list
meaning_in view (meaning.Char c b) = private.Character c b
meaning_in view (meaning.Code math n) = private.Code math n
meaning_in view (meaning.Register r n) = private.Register' (register_in r) n
meaning_in view (meaning.Font n) = private.Undefined
meaning_in view (meaning.Int n) = private.Integer n
meaning_in view (meaning.Dim d) = private.Dimension d
meaning_in view (meaning.Glue g) = private.Glue g
meaning_in view (meaning.List list) = private.Tokens (list_in view list)
meaning_in view (meaning.Held b) = private.Undefined
meaning_in view (meaning.Shape pairs) = private.Undefined

-- the same of what a token means, as a value of its own
abbrev pub sense_in : View → Sense → private.Meaning
sense_in view sense.Undefined = private.Undefined
sense_in view (sense.Primitive p) = private.Prim p
sense_in view (sense.Macro long protected list) = macro_in view long protected list
sense_in view (sense.Char c b) = private.Character c b
sense_in view (sense.Code math n) = private.Code math n
sense_in view (sense.Register r n) = private.Register' (register_in r) n
sense_in view (sense.Int n) = private.Integer n
sense_in view (sense.Dim d) = private.Dimension d
sense_in view (sense.Glue g) = private.Glue g
sense_in view (sense.List list) = private.Tokens (list_in view list)

-- the map of the definitions that a map by numbers stands for
abbrev pub map_in : {B : Type 0} → View → Map B → private.Map
map_in view m at = if is_numbered view at then meaning_in view (m (addr_at view at)) else private.Undefined
