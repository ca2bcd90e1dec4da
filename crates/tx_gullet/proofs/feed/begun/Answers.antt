use Rattle.std.proofs.Common.{refl}
use Rattle.tx_gullet.proofs.feed.begun.Goals as goal

pub returns : goal.returns
returns c = (record { groups = 0; tokens = c.new.result }, refl, refl, c.new.ensures.items)
