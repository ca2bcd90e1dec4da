use Rattle.tx_run.specs.Knowledge.{known_by}
use Rattle.std.proofs.Common.{[], refl}
use Rattle.tx_eqtb.specs.Meanings.{meanings}
use Rattle.tx_private.specs.Moves.{move_in}
use Rattle.tx_opens.specs.Opens.{begun}
use Rattle.tx_frames.specs.Kinds.{kind_in}
use Rattle.tx_run.specs.Runs.{opens, world_in}
use Rattle.tx_run.proofs.run.Run.open.Goals as goal

-- what the reading does at its beginning is carried out
pub returns-clause-leads : goal.returns-clause-leads
returns-clause-leads c = λ g is.
    let run = c.args.self.now in
    let k = kind_in g.view c.args.reading.now in
    let w = world_in g (meanings c.args.format.now.frozen) k (opens g.view run) run in
    c.carry.ensures.carries g is (begun k) (move_in k [] w) refl (c.begin-answer.ensures.becomes g.view w)

pub returns-clause-knows : goal.returns-clause-knows
returns-clause-knows c names format scene behind reading =
    c.carry.ensures.knows names format scene behind reading (c.begin-answer.ensures.knows (known_by names c.args.self.now.scene) reading)
