use Rattle.std.proofs.Common.{pos, [], arith}
use Rattle.tx_eqtb.specs.Meanings.{meanings}
use Rattle.tx_private.specs.Errors.{numbered}
use Rattle.tx_private.specs.Readings as private
use Rattle.tx_private.specs.Moves.{move_in}
use Rattle.tx_opens.specs.Opens.{begun, depth_of, Comes}
use Rattle.tx_frames.specs.Kinds.{kind_in}
use Rattle.tx_run.specs.declared.doing.Start.TheVariants as start
use Rattle.tx_run.specs.Readings.{innermost, outer}
use Rattle.tx_run.specs.Runs.{opens, world_now, world_in, FailsNow}
use Rattle.tx_run.proofs.RunLemmas.{leads-map}
use Rattle.tx_run.proofs.WishLemmas.{wishes-within, wishes-too-deep, is-shallow}
use Rattle.tx_run.proofs.run.Run.within.Goals as goal

-- it is one too many
pub returns-then-saturating_add-gt-DEEPEST-clause-leads : goal.returns-then-saturating_add-gt-DEEPEST-clause-leads
returns-then-saturating_add-gt-DEEPEST-clause-leads c = λ g is.
    let run = c.args.self.now in
    let frozen = meanings c.args.format.now.frozen in
    let k = kind_in g.view c.args.reading.now in
    leads-map (FailsNow frozen (numbered 57 6 (pos 0)) g run.scene) (Comes (innermost g.view run.frames run.command) (outer g.view run.frames run.command) (private.Sub k (world_now g frozen run))) g frozen c.error.result c.error.new.self
    (λ r p. wishes-too-deep g frozen (start.Within c.args.reading.now) run r (c.requires.room g frozen (depth_of (opens g.view run))) (omega arith) p)
    (c.error.ensures.leads g is)

-- or it begins
pub returns-clause-leads : goal.returns-clause-leads
returns-clause-leads c = λ g is.
    let run = c.args.self.now in
    let frozen = meanings c.args.format.now.frozen in
    let k = kind_in g.view c.args.reading.now in
    leads-map (Comes (begun k) (opens g.view run) (move_in k [] (world_in g frozen k (opens g.view run) run))) (Comes (innermost g.view run.frames run.command) (outer g.view run.frames run.command) (private.Sub k (world_now g frozen run))) g frozen c.open.result c.open.new.self
    (λ r p. wishes-within g frozen k run r (c.requires.room g frozen (depth_of (opens g.view run))) (is-shallow g.view run.frames run.command (start.Within c.args.reading.now) (omega arith)) p)
    (c.open.ensures.leads g is)
