use Rattle.std.proofs.Common.{take, drop, ap, sym, ◌∙◌, arith}
use Rattle.tx_macro.specs.Outcome.{opened}
use Rattle.tx_macro.specs.Matching.{with_arguments, going_on}
use Rattle.tx_macro.proofs.MatchingLemmas.{standing-more, answers-progress}
use Rattle.tx_macro.proofs.macro_match.MacroMatch.feed_first.Goals as goal

pub progress-requires : goal.progress-requires
progress-requires c = c.requires.open.1

pub returns : goal.returns
returns c =
    let m = c.args.self.now in
    answers-progress m c.args.t c.progress.result _
    (λ later. ap (λ s. opened s (λ rest. with_arguments (take m.found m.arguments.items) (going_on m.rule (drop m.found m.delimiters.items) m.current rest)))
    (standing-more m.first.items m.matched c.index.result.now c.args.t later (omega arith) c.index.ensures (sym c.is_same.ensures ∙ c.if-not-is_same.false)))
    c.progress.ensures
