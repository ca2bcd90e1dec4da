use Rattle.std.proofs.Common.{refl, sym, ◌∙◌, ap, subst}
use Rattle.tx_model.specs.declared.reply.Status.TheVariants as status
use Rattle.tx_model.specs.World.{failure}
use Rattle.tx_model.specs.Moves.{TextEnd}
use Rattle.tx_model.specs.Reads.{Gave, Failed, Spent}
use Rattle.tx_names.proofs.TextLemmas.{extends-through}
use Rattle.tx_gullet.specs.declared.outcome.Outcome.TheVariants as outcome
use Rattle.tx_gullet.specs.Levels.{KeepsBefore}
use Rattle.tx_gullet.specs.Outcomes.{region_outcome}
use Rattle.tx_gullet.specs.Scenes.{world_of}
use Rattle.tx_gullet.specs.Runs.{ComesTo}
use Rattle.tx_gullet.proofs.UndoLemmas.{keeps-through}
use Rattle.tx_gullet.proofs.RunLemmas.{comes-to, both-ok}
use Rattle.tx_gullet.proofs.running.Running.go.Goals as goal

pub ticks-preserved : goal.ticks-preserved
ticks-preserved c = (
  c.in-Went.ensures.sound,
  λ naming apart agrees.
      let tick = c.in-Went.ensures.meaning naming apart agrees in
      let before = c.ticks.invariant.1 naming apart tick.0 in
      (before.0, λ r e. before.1 r (tick.1 r e)),
  keeps-through _ c.ticks.self.scene.equivalents c.tick.new.self.scene.equivalents c.ticks.invariant.2 c.in-Went.ensures.kept,
  extends-through _ c.ticks.self.scene.names c.tick.new.self.scene.names c.ticks.invariant.3 c.in-Went.ensures.extends,
)

pub returns-in-Done-clause-comes : goal.returns-in-Done-clause-comes
returns-in-Done-clause-comes c =
    comes-to c.args.self.now c.tick.new.self c.output.new.self (outcome.Done c.output.result) (λ naming. Gave TextEnd (world_of naming c.tick.new.self.scene)) c.output.ensures.state
    (λ naming apart agrees.
    let tick = c.in-Done.ensures.meaning naming apart agrees in
    let before = c.ticks.invariant.1 naming apart tick.0 in
    (before.0, before.1 _ (tick.1 _ (TextEnd, refl))))
    (λ naming. sym (ap (λ o. record { status = status.Done; steps = o.steps; pages = o.pages; dvi = o.dvi; log = o.log }) c.output.ensures.made))
    (λ naming map. refl)

pub returns-in-Done-clause-kept : goal.returns-in-Done-clause-kept
returns-in-Done-clause-kept c =
    subst (λ s. KeepsBefore c.args.self.now.scene.equivalents s.equivalents) (sym c.output.ensures.state) (keeps-through _ c.ticks.self.scene.equivalents c.tick.new.self.scene.equivalents c.ticks.invariant.2 c.in-Done.ensures.kept)

pub returns-in-Failed-clause-comes : goal.returns-in-Failed-clause-comes
returns-in-Failed-clause-comes c =
    both-ok c.fail.result _ _ _
    (λ o is fail.
    subst (λ x. ComesTo c.args.self.now x c.fail.new.self) (sym fail.1)
    (comes-to c.args.self.now c.tick.new.self c.fail.new.self (outcome.Fail fail.0) (λ naming. Failed (failure c.in-Failed.error (world_of naming c.tick.new.self.scene))) c.fail.ensures.state
    (λ naming apart agrees.
    let tick = c.in-Failed.ensures.meaning naming apart agrees in
    let before = c.ticks.invariant.1 naming apart tick.0 in
    (before.0, before.1 _ (tick.1 _ refl)))
    (λ naming. sym (is naming) ∙ ap region_outcome fail.1)
    (λ naming map. refl)))
    c.fail.ensures.fails c.fail.ensures.fail

pub returns-in-Failed-clause-kept : goal.returns-in-Failed-clause-kept
returns-in-Failed-clause-kept c =
    subst (λ s. KeepsBefore c.args.self.now.scene.equivalents s.equivalents) (sym c.fail.ensures.state) (keeps-through _ c.ticks.self.scene.equivalents c.tick.new.self.scene.equivalents c.ticks.invariant.2 c.in-Failed.ensures.kept)

pub returns-in-Spent-clause-comes : goal.returns-in-Spent-clause-comes
returns-in-Spent-clause-comes c =
    comes-to c.args.self.now c.tick.new.self c.output-in-Spent.new.self (outcome.Spent c.output-in-Spent.result) (λ naming. Spent (world_of naming c.tick.new.self.scene).output) c.output-in-Spent.ensures.state
    (λ naming apart agrees.
    let tick = c.in-Spent.ensures.meaning naming apart agrees in
    let before = c.ticks.invariant.1 naming apart tick.0 in
    (before.0, before.1 _ (tick.1 _ refl)))
    (λ naming. sym (ap (λ o. record { status = status.Spent; steps = o.steps; pages = o.pages; dvi = o.dvi; log = o.log }) c.output-in-Spent.ensures.made))
    (λ naming map. refl)

pub returns-in-Spent-clause-kept : goal.returns-in-Spent-clause-kept
returns-in-Spent-clause-kept c =
    subst (λ s. KeepsBefore c.args.self.now.scene.equivalents s.equivalents) (sym c.output-in-Spent.ensures.state) (keeps-through _ c.ticks.self.scene.equivalents c.tick.new.self.scene.equivalents c.ticks.invariant.2 c.in-Spent.ensures.kept)
