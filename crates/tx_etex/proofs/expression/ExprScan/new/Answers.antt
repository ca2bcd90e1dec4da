use Rattle.tx_etex.proofs.ReadingLemmas.{says-expression}
use Rattle.tx_etex.proofs.expression.ExprScan.new.Goals as goal

pub returns : goal.returns
returns c = λ items. rw (c.begun.ensures, c.new.ensures.items) (says-expression c.args.kind items)
