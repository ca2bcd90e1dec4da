-- Categories by their numbers. The TeXbook, chapter 7.
use Rattle.std.specs.Prelude.{ℕ, ◌==◌, ℤ, pos, negsuc, if◌then◌else◌}
use Rattle.tx_model.specs.declared.category.Cat.{Cat}
use Rattle.tx_model.specs.declared.category.Cat.TheVariants as cat

abbrev pub category_at : ℕ → Cat
category_at n =
    if n == 0 then cat.Escape
    else if n == 1 then cat.Begin
    else if n == 2 then cat.End
    else if n == 3 then cat.Math
    else if n == 4 then cat.Tab
    else if n == 5 then cat.LineEnd
    else if n == 6 then cat.Parameter
    else if n == 7 then cat.Superscript
    else if n == 8 then cat.Subscript
    else if n == 9 then cat.Ignored
    else if n == 10 then cat.Space
    else if n == 11 then cat.Letter
    else if n == 12 then cat.Other
    else if n == 13 then cat.Active
    else if n == 14 then cat.Comment
    else cat.Invalid

-- a category code is never below 0
abbrev pub category_numbered : ℤ → Cat
category_numbered (pos n) = category_at n
category_numbered (negsuc n) = cat.Other
