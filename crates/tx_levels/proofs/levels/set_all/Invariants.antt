use Rattle.std.proofs.Common.{◌≡◌, map}
use Rattle.tx_levels.specs.Wholes.{changed}
use Rattle.tx_levels.proofs.levels.set_all.Given as goal

abbrev pub invariant-loop-whole : goal.invariant-loop-whole
invariant-loop-whole l = l.all.items ≡ map (λ whole. changed whole l.at l.n) l.yielded
