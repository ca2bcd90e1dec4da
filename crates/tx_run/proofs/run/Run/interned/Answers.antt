use Rattle.std.proofs.Common.{rules}
use Rattle.tx_run.proofs.TextLemmas.{names-numbered, interned-token}
use Rattle.tx_run.proofs.run.Run.interned.Goals as goal

-- the token is the wanted name's
pub returns-in-Ok-clause-answers : goal.returns-in-Ok-clause-answers
returns-in-Ok-clause-answers c = λ g ground named. interned-token g c.args.self.now c.in-Interns.taker c.args.number c.in-Ok.token c.interned.new.self c.in-Interns.is c.in-Ok.ensures.ok ground named

-- the name may be a new one of the session's own
pub returns-in-Ok-clause-keeps : goal.returns-in-Ok-clause-keeps
returns-in-Ok-clause-keeps c = record {
  environment = search rules;
  sound = search rules;
  waits = search rules;
  steps = search rules;
  moves = search rules;
  names = names-numbered c.args.number c.args.self.now.scene.input c.interned.new.self c.in-Ok.token c.in-Ok.ensures.ok;
}
