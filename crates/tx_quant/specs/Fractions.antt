-- Decimals behind a point (TeX: The Program, section 452).
use Rattle.std.specs.Prelude.{ℕ, nat_lt, if◌then◌else◌, List, [], ◌∷◌, ◌++◌, length}

-- a decimal more, of which the first 17 count
abbrev pub with_decimal : List ℕ → ℕ → List ℕ
with_decimal ds d = if nat_lt (length ds) 17 then ds ++ d ∷ [] else ds
