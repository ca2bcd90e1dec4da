-- Sums and differences.
use Rattle.std.specs.Prelude.{ℤ, ◌+ℤ◌, neg_ℤ}
use Rattle.tx_etex.specs.declared.sums.Sign.{Sign}
use Rattle.tx_etex.specs.declared.sums.Sign.TheVariants as sign

-- a sum, or a difference
abbrev pub signed_sum : Sign → ℤ → ℤ → ℤ
signed_sum sign.Plus x y = x +ℤ y
signed_sum sign.Minus x y = x +ℤ neg_ℤ y
