use Rattle.std.proofs.Common.{◌≡◌, sym, subst, ◌∙◌, ap}
use Rattle.tx_eqtb.specs.Meanings.{meanings}
use Rattle.tx_views.specs.Views.{all_viewed}
use Rattle.tx_run.specs.Readings.{kind_of}
use Rattle.tx_run.specs.Doings.{used}
use Rattle.tx_run.specs.Runs.{opens, AnyComes, Leads}
use Rattle.tx_run.proofs.TextLemmas.{copied-list}
use Rattle.tx_run.proofs.run.Run.copies.Goals as goal

-- nothing is in the empty list
pub returns-in-Empty-clause-leads : goal.returns-in-Empty-clause-leads
returns-in-Empty-clause-leads c = λ g ground.
    let frozen = meanings c.args.format.now.frozen in
    let run = c.args.self.now in
    let empty : c.new-tokens.result ≡ g.view.content c.args.list = c.new-tokens.ensures ∙ sym ground.ground.view.empty ∙ ap g.view.content (sym c.in-Empty.is) in
    subst (λ xs. Leads (AnyComes g frozen (kind_of g.view c.args.begun) (opens g.view run) (used c.args.how (all_viewed g.view xs)) run) g frozen c.copied.result c.copied.new.self) empty (c.copied.ensures.copied frozen g ground.ground)

-- a list of the format
pub returns-in-Frozen-clause-leads : goal.returns-in-Frozen-clause-leads
returns-in-Frozen-clause-leads c = λ g ground.
    let frozen = meanings c.args.format.now.frozen in
    let run = c.args.self.now in
    copied-list c.args.format.now g frozen (kind_of g.view c.args.begun) (opens g.view run) c.args.how run c.copied-in-Frozen.new.self c.frozen_list-tokens.result c.copied-in-Frozen.result c.in-Frozen.place c.args.list c.in-Frozen.is ground
    (c.copied-in-Frozen.ensures.copied frozen g ground.ground) c.copied-in-Frozen.ensures.memory c.frozen_list-tokens.ensures.list
