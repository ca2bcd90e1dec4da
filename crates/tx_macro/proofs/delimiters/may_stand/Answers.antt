use Rattle.std.proofs.Common.{sym, arith}
use Rattle.tx_macro.proofs.StandingLemmas.{begins-longer}
use Rattle.tx_macro.proofs.delimiters.may_stand.Goals as goal

pub returns-then-tokens-delimiter : goal.returns-then-tokens-delimiter
returns-then-tokens-delimiter c = sym (begins-longer c.args.delimiter.now c.args.tokens.now (omega arith))
