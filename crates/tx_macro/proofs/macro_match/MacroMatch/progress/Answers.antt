use Rattle.std.proofs.Common.{arith}
use Rattle.tx_macro.proofs.MatchingLemmas.{is_done, open-first, open-argument}
use Rattle.tx_macro.proofs.macro_match.MacroMatch.progress.Goals as goal

pub returns-then-self-len : goal.returns-then-self-len
returns-then-self-len c = open-first c.args.self.now (omega arith) c.requires

pub returns-then-self-len-2 : goal.returns-then-self-len-2
returns-then-self-len-2 c = open-argument c.args.self.now (omega arith) (omega arith) c.requires

pub returns : goal.returns
returns c = is_done c.args.self.now (omega arith) (omega arith) (omega arith)
