use Rattle.tx_environment.specs.Steps.{held}
use Rattle.tx_environment.proofs.ContentLemmas.{sense-held}
use Rattle.tx_environment.proofs.environment.Environment.sense.Goals as goal

pub returns-in-Name-clause-holds : goal.returns-in-Name-clause-holds
returns-in-Name-clause-holds c none = sense-held c.of.result c.meaning.result.now (held c.args.self.now) c.of.ensures (c.meaning.ensures.holds none)

pub returns-in-Active-clause-holds : goal.returns-in-Active-clause-holds
returns-in-Active-clause-holds c none =
    sense-held c.of-in-Active.result c.meaning-in-Active.result.now (held c.args.self.now) c.of-in-Active.ensures (c.meaning-in-Active.ensures.holds none)
