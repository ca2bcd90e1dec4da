use Rattle.std.proofs.Common.{◌≡◌, take}
use Rattle.std.specs.List.{fold}
use Rattle.tx_levels.specs.Calls.{after}
use Rattle.tx_levels.proofs.both.Both.play.Given as goal

abbrev pub invariant-loop-call : goal.invariant-loop-call
invariant-loop-call l = l.both.levels ≡ fold (λ levels call. after call levels) l.fn.self.levels (take l.call-index l.calls)
