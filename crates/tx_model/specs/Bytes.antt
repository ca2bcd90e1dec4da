-- Bytes that the definitions name.
use Rattle.std.specs.Prelude.{ℕ}

abbrev pub newline : ℕ
newline = 10

abbrev pub blank : ℕ
blank = 32
