use Rattle.std.proofs.Common.{pos, arith}
use Rattle.tx_eqtb.specs.Meanings.{meanings}
use Rattle.tx_private.specs.Errors.{numbered}
use Rattle.tx_private.specs.Readings as private
use Rattle.tx_opens.specs.Opens.{begun, depth_of, Comes}
use Rattle.tx_frames.specs.Kinds.{expanded_kind}
use Rattle.tx_run.specs.declared.doing.Start.TheVariants as start
use Rattle.tx_run.specs.Readings.{innermost, outer}
use Rattle.tx_run.specs.Runs.{opens, world_now, FailsNow}
use Rattle.tx_run.proofs.RunLemmas.{leads-map}
use Rattle.tx_run.proofs.WishLemmas.{wishes-expanded, wishes-too-deep}
use Rattle.tx_run.proofs.run.Run.expands.Goals as goal

-- more readings are open than may be
pub returns-then-depth-gt-DEEPEST-clause-leads : goal.returns-then-depth-gt-DEEPEST-clause-leads
returns-then-depth-gt-DEEPEST-clause-leads c = λ g is.
    let run = c.args.self.now in
    let frozen = meanings c.args.format.now.frozen in
    leads-map (FailsNow frozen (numbered 57 6 (pos 0)) g run.scene) (Comes (innermost g.view run.frames run.command) (outer g.view run.frames run.command) (private.Sub (expanded_kind c.args.text) (world_now g frozen run))) g frozen c.error.result c.error.new.self
    (λ r p. wishes-too-deep g frozen (start.Expanded c.args.text) run r (c.requires.room g frozen (depth_of (opens g.view run))) (omega arith) p)
    (c.error.ensures.leads g is)

-- or the token is taken
pub returns-clause-leads : goal.returns-clause-leads
returns-clause-leads c = λ g is.
    let run = c.args.self.now in
    let frozen = meanings c.args.format.now.frozen in
    let k = expanded_kind c.args.text in
    leads-map (Comes (begun k) (opens g.view run) (private.Take (world_now g frozen run))) (Comes (innermost g.view run.frames run.command) (outer g.view run.frames run.command) (private.Sub k (world_now g frozen run))) g frozen c.take.result c.take.new.self
    (λ r p. wishes-expanded g frozen c.args.text run r (c.requires.room g frozen (depth_of (opens g.view run))) (omega arith) p)
    (c.take.ensures.leads g is)
