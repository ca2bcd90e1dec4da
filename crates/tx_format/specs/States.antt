-- The two states in which a session can begin: START, that of a preamble, and BARE.
use Rattle.std.specs.Prelude.{ℕ, ℤ, pos, List, [], map, nat_lt, Option, None, Some, unwrap_or, slice_get, if◌then◌else◌}
use Rattle.std.specs.Option.{option_map}
use Rattle.tx_eqtb.specs.declared.addr.Addr.{Addr}
use Rattle.tx_eqtb.specs.declared.addr.AddrKind.{AddrKind}
use Rattle.tx_eqtb.specs.declared.addr.AddrKind.TheVariants as kind
use Rattle.tx_eqtb.specs.declared.meaning.Meaning.{Meaning}
use Rattle.tx_eqtb.specs.declared.meaning.Meaning.TheVariants as meaning
use Rattle.tx_eqtb.specs.Meanings.{Map, start}
use Rattle.tx_node.specs.declared.BoxNode.{BoxNode}
use Rattle.tx_prims.specs.declared.primitives.TheConstants.{PRIMITIVES}
use Rattle.tx_prims.specs.Keys.{text_of}
use Rattle.tx_format.specs.declared.preset.Preset.{Preset}
use Rattle.tx_format.specs.declared.preset.Preset.TheVariants as preset
use Rattle.tx_format.specs.declared.parameters.TheConstants.{INTEGERS, DIMENSIONS, GLUES}
use Rattle.tx_format.specs.Codes.{category, lower_case, upper_case, space_factor, math_code, delimiter_code}
use Rattle.tx_format.specs.Parameters.{integer, dimension, glue}

-- the code of this kind that a byte has, if this is a kind of codes
abbrev pub code : Preset → AddrKind → ℕ → Option ℤ
code preset kind.CatCode byte = Some (pos (category preset byte))
code preset kind.LcCode byte = Some (pos (lower_case byte))
code preset kind.UcCode byte = Some (pos (upper_case byte))
code preset kind.SfCode byte = Some (pos (space_factor byte))
code preset kind.MathCode byte = Some (pos (math_code byte))
code preset kind.DelCode byte = Some (delimiter_code byte)
code _ _ _ = None

abbrev pub byte_code : Preset → AddrKind → ℕ → Option (Meaning BoxNode)
byte_code preset kind n = if nat_lt n 256 then option_map meaning.Int (code preset kind n) else None

-- what a state says of an address: primitives by their places in the table, parameters by their places in
-- their families, and the codes of bytes
abbrev pub told : Preset → AddrKind → ℕ → Option (Meaning BoxNode)
told preset kind.Name n = if nat_lt n 297 then Some (meaning.Prim n) else None
told preset kind.IntParam n = option_map (λ parameter. meaning.Int (integer preset parameter)) (slice_get INTEGERS n)
told preset kind.DimenParam n = option_map (λ parameter. meaning.Dim (dimension preset parameter)) (slice_get DIMENSIONS n)
told preset kind.GlueParam n = option_map (λ parameter. meaning.Glue (glue preset parameter)) (slice_get GLUES n)
told preset other n = byte_code preset other n

-- the meaning of every address: what the state says, and else nothing, zero, void or empty
abbrev pub map_of : Preset → Map BoxNode
map_of preset at = unwrap_or (told preset at.kind at.no) (start at.kind)

abbrev pub start_map : Map BoxNode
start_map = map_of preset.Start

abbrev pub bare_map : Map BoxNode
bare_map = map_of preset.Bare

-- The names of the primitives, in the order of their table. It is opaque where it is cited, so that no
-- goal carries the rows.
unfoldable pub primitive_names : List (List ℕ)
primitive_names = map (λ row. text_of row.key) PRIMITIVES
