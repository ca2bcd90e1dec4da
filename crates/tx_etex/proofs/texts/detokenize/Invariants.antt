use Rattle.std.proofs.Common.{◌≡◌, ◌++◌, drop}
use Rattle.tx_etex.specs.Texts.{detokenized}
use Rattle.tx_etex.proofs.texts.detokenize.Given as goal

abbrev pub invariant-loop-i : goal.invariant-loop-i
invariant-loop-i l = l.text.items ++ detokenized (drop l.i l.list) (drop l.i l.names) ≡ detokenized l.list l.names
