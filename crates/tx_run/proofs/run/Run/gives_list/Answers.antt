use Rattle.tx_run.specs.Knowledge.{known_by}
use Rattle.std.proofs.Common.{◌≡◌, [], pos, sym, ◌∙◌}
use Rattle.tx_eqtb.specs.Meanings.{meanings}
use Rattle.tx_private.specs.Errors.{numbered}
use Rattle.tx_private.specs.Readings as private
use Rattle.tx_opens.specs.Opens.{ComesGiven}
use Rattle.tx_views.specs.Views.{list_in}
use Rattle.tx_commands.specs.Commands as commands
use Rattle.tx_commands.specs.declared.item.Item.TheVariants as command_item
use Rattle.tx_scene.specs.Scenes.{world}
use Rattle.tx_run.specs.Runs.{opens, AnyComes, AnyEnds, FailsNow}
use Rattle.tx_run.proofs.RunLemmas.{leads-map}
use Rattle.tx_run.proofs.ReadingLemmas.{lacking, value-overfull, ends-with, ends-any, given-command, concluded}
use Rattle.tx_run.proofs.run.Run.gives_list.Goals as goal

-- more tokens are pending than may be
pub returns-then-is_overfull-clause-leads : goal.returns-then-is_overfull-clause-leads
returns-then-is_overfull-clause-leads c = λ g is.
    let run = c.args.self.now in
    let frozen = meanings c.args.format.now.frozen in
    let v = private.Tokens (list_in g.view c.args.list) in
    leads-map (FailsNow frozen (numbered 57 4 (pos 0)) g run.scene) (AnyEnds g frozen v run) g frozen c.overfull.result c.overfull.new.self
    (λ r p. value-overfull g frozen v run r (λ depth. sym (c.is_overfull.ensures g frozen depth) ∙ c.if-is_overfull.true) p)
    (c.overfull.ensures.leads g is)

-- the list is copied
pub returns-then-is_some-clause-leads : goal.returns-then-is_some-clause-leads
returns-then-is_some-clause-leads c = λ g is.
    let run = c.args.self.now in
    let frozen = meanings c.args.format.now.frozen in
    let v = private.Tokens (list_in g.view c.args.list) in
    leads-map (AnyComes g frozen private.ListValue (opens g.view run) (λ w. private.Done v w) run) (AnyEnds g frozen v run) g frozen c.copies.result c.copies.new.self
    (λ r p. ends-any g frozen private.ListValue v run r (λ depth. sym (c.is_overfull.ensures g frozen depth) ∙ c.if-is_overfull.false) p)
    (c.copies.ensures.leads g is)

-- an assignment takes it
pub returns-clause-leads : goal.returns-clause-leads
returns-clause-leads c = λ g is.
    let run = c.args.self.now in
    let frozen = meanings c.args.format.now.frozen in
    let v = private.Tokens (list_in g.view c.args.list) in
    leads-map (ComesGiven (commands.open_of g.view run.command) (private.Given v) [] (world g frozen 0 run.scene)) (AnyEnds g frozen v run) g frozen c.conclude.result c.conclude.new.self
    (λ r p. ends-with g frozen v run r (λ depth. sym (c.is_overfull.ensures g frozen depth) ∙ c.if-is_overfull.false) (given-command g frozen run.frames run (private.Given v) r (lacking (run.frames ≡ []) c.last.result (sym c.is_some.ensures ∙ c.if-is_some.false) c.last.ensures.none) p))
    (concluded c.args.format.now g run.command (command_item.List c.args.list) c.feed-outcome.result run c.conclude.result c.conclude.new.self is c.conclude.ensures.concludes (λ w. c.feed-outcome.ensures.becomes g.view w))

pub returns-clause-knows : goal.returns-clause-knows
returns-clause-knows c names format scene behind list =
    c.conclude.ensures.knows names format scene (c.feed-outcome.ensures.knows (known_by names c.args.self.now.scene) behind.control list)
