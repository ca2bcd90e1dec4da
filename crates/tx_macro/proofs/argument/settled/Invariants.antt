use Rattle.std.proofs.Common.{◌≡◌, ◌≤◌, ◌+◌, ◌-◌, ◌++◌, List, length, take, drop}
use Rattle.tx_tok.specs.declared.tok.Tok.{Tok}
use Rattle.tx_macro.specs.Outcome.{delimited}
use Rattle.tx_macro.proofs.argument.settled.Given as goal

abbrev pub invariant-loop-place : goal.invariant-loop-place
invariant-loop-place l = record {
  says : (later : List Tok) → delimited l.fn.rule l.delimiter l.fn.from.depth (take l.fn.from.known l.taken) (drop l.fn.from.known l.taken ++ later) ≡ delimited l.fn.rule l.delimiter l.place.depth (take l.place.known l.taken) (drop l.place.known l.taken ++ later);
  within : l.place.known ≤ length l.taken;
  shallow : l.place.depth ≤ l.place.known;
  short : length l.taken ≤ l.place.known + length l.delimiter;
}

abbrev pub decreases-loop-place : goal.decreases-loop-place
decreases-loop-place l = length l.taken - l.place.known
