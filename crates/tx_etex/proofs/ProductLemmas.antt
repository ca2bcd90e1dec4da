-- Products and quotients of 64-bit numbers.
use Rattle.std.proofs.Common.{◌≡◌, ◌<◌, ◌≤◌, ◌^◌, ◌==◌, false, Some, arith, lit<}
use Rattle.std.specs.Prelude.{ℤ, ◌*ℤ◌, unsigned_abs, FitsSigned}
use Rattle.std.specs.Int.{w64}
use Rattle.std.proofs.lemmas.Int.{fits_signed_mul, unsigned_abs-mul}
use Rattle.std.proofs.Math.Nat.{mul-le-mul_left}
use Rattle.tx_num.specs.Quotients.{rounded_quotient}
use Rattle.tx_etex.specs.declared.amount.Amount.{Amount}
use Rattle.tx_etex.specs.Expressions.{quotient}

pub product-fits : (a n : ℤ) → unsigned_abs a < 2 ^ 31 → unsigned_abs n < 2 ^ 31 → FitsSigned w64 (a *ℤ n)
product-fits a n p q = fits_signed_mul w64 a n (2 ^ 31) (2 ^ 31) (omega arith) (omega arith) (lit< tt)

pub product-below : (a n : ℤ) → unsigned_abs a < 2 ^ 31 → unsigned_abs n < 2 ^ 31 → unsigned_abs (a *ℤ n) < 2 ^ 62
product-below a n p q =
    let le : unsigned_abs n ≤ 2147483647 = omega arith in
    omega (arith, unsigned_abs-mul a n, mul-le-mul_left (unsigned_abs a) le)

-- the parts of a quotient by what is not 0
pub quotient-parts : (a n : Amount) (width stretch shrink : ℤ) → (unsigned_abs n.width == 0) ≡ false →
    width ≡ rounded_quotient a.width n.width → stretch ≡ rounded_quotient a.stretch.size n.width →
    shrink ≡ rounded_quotient a.shrink.size n.width →
    Some (record {
      width = width;
      stretch = record { size = stretch; order = a.stretch.order };
      shrink = record { size = shrink; order = a.shrink.order };
    }) ≡ quotient (Some a) (Some n)
quotient-parts a n width stretch shrink nonzero w s h = rw (nonzero, w, s, h)
