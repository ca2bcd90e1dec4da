-- The state BARE, in which a region begins where there is no preamble.
use Rattle.std.specs.Prelude.{ℕ, pos, negsuc, ◌==◌, ◌||◌, List, if◌then◌else◌}
use Rattle.std.specs.Str.{bytes_eq}
use Rattle.std.specs.Char.{is_ascii_alphabetic}
use lib.Chars.{codes}
use Rattle.tx_model.specs.declared.category.Cat.{Cat}
use Rattle.tx_model.specs.declared.category.Cat.TheVariants as cat
use Rattle.tx_model.specs.declared.primitive.Primitive.TheVariants as primitive
use Rattle.tx_model.specs.Environment.{Map, Meaning, Undefined, Primitive', Category, Integer, Parameter, EndLineChar, NewLineChar, EscapeChar, OfName, OfActive, OfCategory, OfParameter}

-- the category of a byte
abbrev pub bare_category : ℕ → Cat
bare_category b =
    if is_ascii_alphabetic b then cat.Letter
    else if b == 92 then cat.Escape
    else if b == 123 then cat.Begin
    else if b == 125 then cat.End
    else if b == 36 then cat.Math
    else if b == 38 then cat.Tab
    else if b == 13 then cat.LineEnd
    else if b == 35 then cat.Parameter
    else if b == 94 then cat.Superscript
    else if b == 95 then cat.Subscript
    else if b == 0 then cat.Ignored
    else if (b == 32) || (b == 9) then cat.Space
    else if b == 37 then cat.Comment
    else if b == 127 then cat.Invalid
    else cat.Other

-- the meaning of a name
abbrev pub bare_name : List ℕ → Meaning
bare_name text =
    if bytes_eq text (codes "relax") then Primitive' primitive.Relax
    else if bytes_eq text (codes "par") then Primitive' primitive.Par
    else if bytes_eq text (codes "def") then Primitive' primitive.Def
    else if bytes_eq text (codes "message") then Primitive' primitive.Message
    else Undefined

abbrev pub bare_parameter : Parameter → Meaning
bare_parameter EndLineChar = Integer (pos 13)
bare_parameter NewLineChar = Integer (negsuc 0)
bare_parameter EscapeChar = Integer (pos 92)

abbrev pub bare_map : Map
bare_map (OfName text) = bare_name text
bare_map (OfActive b) = Undefined
bare_map (OfCategory b) = Category (bare_category b)
bare_map (OfParameter p) = bare_parameter p
