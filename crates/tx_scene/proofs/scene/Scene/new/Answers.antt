use Rattle.std.proofs.Common.{None, ap}
use Rattle.tx_eqtb.specs.Meanings.{meanings}
use Rattle.tx_scene.specs.declared.scene.Scene.{Scene}
use Rattle.tx_scene.proofs.HoldingLemmas.{new-state}
use Rattle.tx_scene.proofs.scene.Scene.new.Goals as goal

pub returns-clause-state : goal.returns-clause-state
returns-clause-state c g view of =
    let made : Scene = record { alloc = c.args.alloc; input = c.new.result; environment = c.new-2.result; kept = None; stored = 0; preamble = c.args.preamble; log = c.new-3.result } in (
      record { view = view; formats = c.new.ensures.view g.formats g.view of },
      new-state g (meanings c.args.frozen.now) made (c.new-2.ensures.environment g.view) c.new-2.ensures.outermost (ap (λ i. i.names) c.new.ensures.is),
    )
