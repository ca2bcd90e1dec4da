use Rattle.std.proofs.Common.{subst}
use Rattle.tx_names.specs.Names.{Agrees}
use Rattle.tx_gullet.specs.Scenes.{world_of}
use Rattle.tx_gullet.specs.Runs.{outer}
use Rattle.tx_gullet.proofs.RunLemmas.{wish-spent, wish-broken, frame-more}
use Rattle.tx_gullet.proofs.running.Running.tick.Goals as goal

pub taken-requires-clause-sound : goal.taken-requires-clause-sound
taken-requires-clause-sound c = record {
  scene = c.in-Token.ensures.sound;
  frame = frame-more c.args.self.now.scene.names c.take.new.self.names c.in-Token.ensures.grows c.args.self.now.frame c.requires.sound.frame;
}

pub returns-in-Token-clause-meaning : goal.returns-in-Token-clause-meaning
returns-in-Token-clause-meaning c naming apart agrees =
    let now = subst (Agrees naming) c.taken.ensures.names agrees in
    let takes = c.in-Token.ensures.taking naming apart now in
    (takes.0, λ r e. c.taken.ensures.took naming apart now r e (world_of naming c.args.self.now.scene) takes.1)

pub returns-in-End-clause-meaning : goal.returns-in-End-clause-meaning
returns-in-End-clause-meaning c naming apart agrees =
    let takes = c.in-End.ensures.taking naming apart agrees in
    (takes.0, λ r e. c.none_taken.ensures.took naming apart agrees r e (world_of naming c.args.self.now.scene) takes.1)

pub returns-in-Spent-clause-meaning : goal.returns-in-Spent-clause-meaning
returns-in-Spent-clause-meaning c naming apart agrees =
    let takes = c.in-Spent.ensures.taking naming apart agrees in
    (takes.0, λ r e. wish-spent naming c.args.self.now.frame (outer naming c.args.self.now) (world_of naming c.args.self.now.scene) _ r takes.1 e)

pub returns-in-Invalid-clause-meaning : goal.returns-in-Invalid-clause-meaning
returns-in-Invalid-clause-meaning c naming apart agrees =
    let takes = c.in-Invalid.ensures.taking naming apart agrees in
    (takes.0, λ r e. wish-broken naming c.args.self.now.frame (outer naming c.args.self.now) (world_of naming c.args.self.now.scene) _ r takes.1 e)
