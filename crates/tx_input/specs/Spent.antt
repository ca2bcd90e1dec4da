-- The steps of a region.
use Rattle.std.specs.Prelude.{ℕ}

pub record StepsOf : Type 0 where
  pub budget : ℕ
  pub spent : ℕ
