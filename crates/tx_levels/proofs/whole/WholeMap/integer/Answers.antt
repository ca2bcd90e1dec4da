use Rattle.std.proofs.Common.{◌∙◌, ap, sym}
use Rattle.tx_eqtb.specs.Meanings.{meanings}
use Rattle.tx_levels.specs.Wholes.{last_given, integer_of}
use Rattle.tx_levels.proofs.WholeLemmas.{integer-given, not-given}
use Rattle.tx_levels.proofs.whole.WholeMap.integer.Goals as goal

pub returns-then-is_some : goal.returns-then-is_some
returns-then-is_some c =
    integer-given c.args.self.now (meanings c.args.frozen.now) c.args.at c.last-given.result (c.last-given.ensures ∙ ap (last_given c.args.at) (c.as_slice.ensures.value ∙ c.self.view_is)) (sym c.if-is_some.ensures)

pub returns : goal.returns
returns c =
    c.integer.ensures ∙ ap integer_of (c.get.ensures ∙ not-given c.args.self.now (meanings c.args.frozen.now) c.args.at c.last-given.result (c.last-given.ensures ∙ ap (last_given c.args.at) (c.as_slice.ensures.value ∙ c.self.view_is)) (sym c.if-is_some.ensures))
