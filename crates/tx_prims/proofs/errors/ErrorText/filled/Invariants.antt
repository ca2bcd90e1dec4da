use Rattle.std.proofs.Common.{◌≡◌, ◌++◌, drop}
use Rattle.tx_prims.specs.Errors.{value_of, filled_from}
use Rattle.tx_prims.proofs.errors.ErrorText.filled.Given as goal

-- what is written and what is still to be filled is the whole
abbrev pub invariant-loop-byte : goal.invariant-loop-byte
invariant-loop-byte l =
    l.line.items ++ filled_from (value_of l.values) l.next l.last (drop l.byte-index l.byte-items) ≡ filled_from (value_of l.values) l.initial.next l.initial.last l.byte-items
