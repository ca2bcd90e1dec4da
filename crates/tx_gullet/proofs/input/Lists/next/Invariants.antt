-- what is pending and what is known of names stays
use Rattle.std.proofs.Common.{◌≡◌, List}
use Rattle.tx_model.specs.Pending.{Member}
use Rattle.tx_names.specs.Names.{Names, Naming}
use Rattle.tx_gullet.specs.Pieces.{pieces, KnowsLists}
use Rattle.tx_gullet.proofs.input.Lists.next.Given as goal

abbrev pub invariant-used : goal.invariant-used
invariant-used l =
    ((naming : Naming) (behind : List Member) → pieces naming l.self behind ≡ pieces naming l.initial.self behind)
    × ((names : Names) → KnowsLists names l.initial.self → KnowsLists names l.self)

abbrev pub decreases-used : goal.decreases-used
decreases-used l = goal.left-used l
