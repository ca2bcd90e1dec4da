use Rattle.std.proofs.Common.{◌≡◌, vec_len}
use Rattle.tx_macro.proofs.macro_match.empty_slots.Given as goal

abbrev pub invariant-loop : goal.invariant-loop
invariant-loop l = vec_len l.slots ≡ l.counter
