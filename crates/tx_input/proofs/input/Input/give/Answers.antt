use Rattle.std.proofs.Common.{None, ap}
use Rattle.tx_input.specs.declared.input.Input.{Input}
use Rattle.tx_input.proofs.NameLemmas.{names-wanted}
use Rattle.tx_input.proofs.input.Input.give.Goals as goal

pub returns-clause-ok : goal.returns-clause-ok
returns-clause-ok c =
    names-wanted c.args.number c.args.self.now c.requires _ (ap (λ (x : Input). record x { wanted = None }) (c.in_ok-join.ensures.ok))
