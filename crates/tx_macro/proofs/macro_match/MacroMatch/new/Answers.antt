use Rattle.tx_macro.proofs.MatchingLemmas.{open-new, waits-fresh}
use Rattle.tx_macro.proofs.macro_match.MacroMatch.new.Goals as goal

pub returns-clause-open : goal.returns-clause-open
returns-clause-open c = (
  open-new (record { long = c.args.long; par = c.args.par }) c.args.params.now c.in_ok-first.first.items c.in_ok-delimiters.delimiters.items c.new.result c.in_ok-first.ensures c.in_ok-delimiters.ensures c.new.ensures c.requires.1,
  waits-fresh (record { long = c.args.long; par = c.args.par }) c.in_ok-delimiters.delimiters.items c.new.result c.new.ensures,
)
