use Rattle.std.proofs.Common.{[], sym, subst}
use Rattle.tx_eqtb.specs.Meanings.{meanings}
use Rattle.tx_private.specs.Readings as private
use Rattle.tx_opens.specs.Opens.{begun, given, depth_of, Comes}
use Rattle.tx_frames.specs.Kinds.{expanded_kind}
use Rattle.tx_run.specs.declared.doing.Taker.{Taker}
use Rattle.tx_run.specs.Runs.{opens, world_now, ComesEnded, Leads}
use Rattle.tx_run.proofs.ReadingLemmas.{ends-expanded}
use Rattle.tx_run.proofs.run.Run.ended.Goals as goal

-- the innermost reading takes a token as it stands
pub returns-in-Innermost-clause-leads : goal.returns-in-Innermost-clause-leads
returns-in-Innermost-clause-leads c = λ g is.
    let frozen = meanings c.args.format.now.frozen in
    subst (λ (who : Taker). Leads (ComesEnded g frozen who c.args.self.now) g frozen c.ended_plain.result c.ended_plain.new.self) (sym c.in-Innermost.is) (c.ended_plain.ensures.leads g is)

-- it is given the text's end as a value
pub returns-in-Expanded-clause-leads : goal.returns-in-Expanded-clause-leads
returns-in-Expanded-clause-leads c = λ g is r after.
    let run = c.args.self.now in
    let frozen = meanings c.args.format.now.frozen in
    let around = opens g.view run in
    let text = c.in-Expanded.field-0 in
    let o = given (begun (expanded_kind text)) private.End in
    subst (λ (who : Taker). ComesEnded g frozen who run r) (sym c.in-Expanded.is)
    (subst (λ m. Comes o around m r) (sym (ends-expanded text [] (world_now g frozen run))) (after o (depth_of around)))
