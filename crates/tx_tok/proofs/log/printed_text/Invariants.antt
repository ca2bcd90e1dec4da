-- what is printed so far and what the rest prints as is what the text prints as
use Rattle.std.proofs.Common.{◌≡◌, ◌++◌, drop}
use Rattle.tx_model.specs.Log.{printed}
use Rattle.tx_tok.proofs.log.printed_text.Given as goal

abbrev pub invariant-loop-byte : goal.invariant-loop-byte
invariant-loop-byte l = l.out.items ++ printed l.newline (drop l.byte-index l.text) ≡ printed l.newline l.text
