use Rattle.std.proofs.Common.{◌-◌, arith}
use Rattle.tx_eqtb.specs.Meanings.{meanings}
use Rattle.tx_run.specs.Runs.{Means}
use Rattle.tx_run.proofs.RunLemmas.{leads-map}
use Rattle.tx_run.proofs.CommandLemmas.{keeps-same}
use Rattle.tx_run.proofs.TextLemmas.{sound-first}
use Rattle.tx_run.proofs.WishLemmas.{does-moves, keeps-later}
use Rattle.tx_run.proofs.run.Run.tick.Goals as goal

-- too many ticks came
pub returns-then-self-eq0-clause-sound : goal.returns-then-self-eq0-clause-sound
returns-then-self-eq0-clause-sound c = sound-first (meanings c.args.format.now.frozen) c.args.self.now.doing c.args.self.now.scene c.requires.sound

-- what has fallen away is to be released
pub returns-in-Some-clause-leads : goal.returns-in-Some-clause-leads
returns-in-Some-clause-leads c = λ g is r p. does-moves g (meanings c.args.format.now.frozen) c.args.self.now.doing c.args.self.now (c.args.self.now.moves - 1) r p

pub returns-in-Some-clause-keeps : goal.returns-in-Some-clause-keeps
returns-in-Some-clause-keeps c =
    let run = c.args.self.now in
    keeps-later run.scene (run.moves - 1) run.moves run.scene (run.moves - 1) (omega arith) (keeps-same run.scene (run.moves - 1))

-- or the region goes on
pub returns-in-None-clause-leads : goal.returns-in-None-clause-leads
returns-in-None-clause-leads c = λ g is.
    let run = c.args.self.now in
    let frozen = meanings c.args.format.now.frozen in
    leads-map (Means g frozen (record run { moves = run.moves - 1 })) (Means g frozen run) g frozen c.go.result c.go.new.self
    (λ r p. does-moves g frozen run.doing run (run.moves - 1) r p)
    (c.go.ensures.leads g is)

pub returns-in-None-clause-keeps : goal.returns-in-None-clause-keeps
returns-in-None-clause-keeps c =
    let run = c.args.self.now in
    keeps-later run.scene (run.moves - 1) run.moves c.go.new.self.scene c.go.new.self.moves (omega arith) c.go.ensures.keeps

pub returns-in-None-clause-fewer : goal.returns-in-None-clause-fewer
returns-in-None-clause-fewer c = λ going. omega (arith, c.go.ensures.keeps.left)

pub returns-then-self-eq0-clause-knows : goal.returns-then-self-eq0-clause-knows
returns-then-self-eq0-clause-knows c names format knows = knows.scene

pub returns-in-Some-clause-knows : goal.returns-in-Some-clause-knows
returns-in-Some-clause-knows c names format knows = record { scene = knows.scene; doing = knows.doing; behind = knows.behind }

pub returns-in-None-clause-knows : goal.returns-in-None-clause-knows
returns-in-None-clause-knows c names format knows = c.go.ensures.knows names format (record { scene = knows.scene; doing = knows.doing; behind = knows.behind })
