-- the bytes so far have their categories
use Rattle.std.proofs.Common.{◌≡◌, ℕ, ◌<◌, List, length, get_or}
use Rattle.tx_model.specs.declared.category.Cat.{Cat}
use Rattle.tx_model.specs.declared.category.Cat.TheVariants.{Other}
use Rattle.tx_model.specs.Bare.{bare_category}
use Rattle.tx_scan.proofs.cats.Cats.bare.Given as goal

pub record AreSet (cats : List Cat) (byte : ℕ) : Type 0 where
  pub len : length cats ≡ 256
  pub each : (k : ℕ) → k < byte → get_or cats k Other ≡ bare_category k

abbrev pub invariant-loop-byte : goal.invariant-loop-byte
invariant-loop-byte l = AreSet l.cats l.byte
