use Rattle.std.proofs.Common.{rules}
use Rattle.tx_run.proofs.TextLemmas.{names-found, found-token, found-full}
use Rattle.tx_run.proofs.run.Run.found.Goals as goal

-- the token is the wanted name's
pub returns-in-Token-clause-answers : goal.returns-in-Token-clause-answers
returns-in-Token-clause-answers c = λ g ground agrees. found-token g c.args.self.now c.in-Finds.taker c.args.number c.in-Token.token c.found.new.self c.in-Finds.is c.in-Token.ensures.found ground agrees

-- no name can be made
pub returns-in-Full-clause-answers : goal.returns-in-Full-clause-answers
returns-in-Full-clause-answers c = λ g ground agrees. found-full g c.args.self.now c.in-Finds.taker c.args.number c.in-Full.limit c.found.new.self c.in-Finds.is c.in-Full.ensures.found.1 c.in-Full.ensures.found.2 ground agrees

-- the name may be a new one of the session's own
pub returns-in-Token-clause-keeps : goal.returns-in-Token-clause-keeps
returns-in-Token-clause-keeps c = record {
  environment = search rules;
  sound = search rules;
  waits = search rules;
  steps = search rules;
  moves = search rules;
  names = names-found c.args.number c.args.self.now.scene.input c.found.new.self c.in-Token.token c.in-Token.ensures.found;
}
