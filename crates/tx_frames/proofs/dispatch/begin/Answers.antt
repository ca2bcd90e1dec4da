use Rattle.std.proofs.Common.{sym, subst}
use Rattle.tx_frames.specs.declared.reading.Reading.TheVariants as reading
use Rattle.tx_frames.specs.declared.frame.Frame.TheVariants as frame
use Rattle.tx_frames.specs.declared.answer.Answer.TheVariants as answer
use Rattle.tx_frames.specs.Kinds.{kind_in}
use Rattle.tx_frames.specs.Answers.{BecomesBegun}
use Rattle.tx_frames.proofs.ScanLemmas.{scan-begun}
use Rattle.tx_frames.specs.Knowledge.{KnowsReading}
use Rattle.tx_frames.proofs.KnowledgeLemmas.{knows-none, scan-fresh}
use Rattle.tx_frames.proofs.dispatch.begin.Goals as goal

pub returns-in-Number-clause-becomes : goal.returns-in-Number-clause-becomes
returns-in-Number-clause-becomes c view w =
    subst (λ r. BecomesBegun view (kind_in view r) w (answer.Goes (frame.Scan r c.number.result) c.new-none.result)) (sym c.in-Number.is)
    (scan-begun view reading.Number c.number.result c.new-none.result w (c.number.ensures.says view) (c.number.ensures.wish view) c.new-none.ensures)

pub returns-in-Dimension-clause-becomes : goal.returns-in-Dimension-clause-becomes
returns-in-Dimension-clause-becomes c view w =
    subst (λ r. BecomesBegun view (kind_in view r) w (answer.Goes (frame.Scan (reading.Dimension c.in-Dimension.mu) c.dimension.result) c.new-none.result)) (sym c.in-Dimension.is)
    (scan-begun view (reading.Dimension c.in-Dimension.mu) c.dimension.result c.new-none.result w (c.dimension.ensures.says view) (c.dimension.ensures.wish view) c.new-none.ensures)

pub returns-in-Glue-clause-becomes : goal.returns-in-Glue-clause-becomes
returns-in-Glue-clause-becomes c view w =
    subst (λ r. BecomesBegun view (kind_in view r) w (answer.Goes (frame.Scan (reading.Glue c.in-Glue.mu) c.glue.result) c.new-none.result)) (sym c.in-Glue.is)
    (scan-begun view (reading.Glue c.in-Glue.mu) c.glue.result c.new-none.result w (c.glue.ensures.says view) (c.glue.ensures.wish view) c.new-none.ensures)

pub returns-in-Keyword-clause-becomes : goal.returns-in-Keyword-clause-becomes
returns-in-Keyword-clause-becomes c view w =
    subst (λ r. BecomesBegun view (kind_in view r) w (answer.Goes (frame.Scan (reading.Keyword c.in-Keyword.set) c.keyword.result) c.new-none.result)) (sym c.in-Keyword.is)
    (scan-begun view (reading.Keyword c.in-Keyword.set) c.keyword.result c.new-none.result w (c.keyword.ensures.says view) (c.keyword.ensures.wish view) c.new-none.ensures)

pub returns-in-Quantity-clause-becomes : goal.returns-in-Quantity-clause-becomes
returns-in-Quantity-clause-becomes c view w =
    subst (λ r. BecomesBegun view (kind_in view r) w c.quantity.result) (sym c.in-Quantity.is) (c.quantity.ensures.becomes view w)

pub returns-in-Text-clause-becomes : goal.returns-in-Text-clause-becomes
returns-in-Text-clause-becomes c view w =
    subst (λ r. BecomesBegun view (kind_in view r) w c.text.result) (sym c.in-Text.is) (c.text.ensures.becomes view w)

pub returns-in-Number-clause-knows : goal.returns-in-Number-clause-knows
returns-in-Number-clause-knows c known k = ((k, scan-fresh known c.number.result c.number.ensures.names), knows-none known c.new-none.result c.new-none.ensures)

pub returns-in-Dimension-clause-knows : goal.returns-in-Dimension-clause-knows
returns-in-Dimension-clause-knows c known k = ((tt, scan-fresh known c.dimension.result c.dimension.ensures.names), knows-none known c.new-none.result c.new-none.ensures)

pub returns-in-Glue-clause-knows : goal.returns-in-Glue-clause-knows
returns-in-Glue-clause-knows c known k = ((tt, scan-fresh known c.glue.result c.glue.ensures.names), knows-none known c.new-none.result c.new-none.ensures)

pub returns-in-Keyword-clause-knows : goal.returns-in-Keyword-clause-knows
returns-in-Keyword-clause-knows c known k = ((tt, scan-fresh known c.keyword.result c.keyword.ensures.names), knows-none known c.new-none.result c.new-none.ensures)

pub returns-in-Quantity-clause-knows : goal.returns-in-Quantity-clause-knows
returns-in-Quantity-clause-knows c known k = c.quantity.ensures.knows known (subst (λ x. KnowsReading known x) c.in-Quantity.is k).0

pub returns-in-Text-clause-knows : goal.returns-in-Text-clause-knows
returns-in-Text-clause-knows c known k = c.text.ensures.knows known
