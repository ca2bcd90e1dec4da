use Rattle.tx_gullet.proofs.LevelLemmas.{groups-counted}
use Rattle.tx_gullet.proofs.equivalents.Equivalents.open_groups.Goals as goal

pub returns : goal.returns
returns c naming =
    groups-counted naming c.args.self.now c.loop-save.groups c.loop-save.save-index c.as_slice-save-items.result.now c.as_slice-save-items.ensures.value c.loop-save.invariant.0 c.loop-save-test.false
