-- The bases of numbers.
use Rattle.std.specs.Prelude.{ℕ}
use Rattle.tx_quant.specs.declared.base.Base.{Base}
use Rattle.tx_quant.specs.declared.base.Base.TheVariants.{Octal, Decimal, Hexadecimal}

abbrev pub radix_of : Base → ℕ
radix_of Octal = 8
radix_of Decimal = 10
radix_of Hexadecimal = 16
