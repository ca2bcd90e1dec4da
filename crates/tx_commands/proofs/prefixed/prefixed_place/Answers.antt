use Rattle.std.proofs.Common.{◌≡◌, sym, ◌∙◌, ◌||◌, false}
use Rattle.tx_commands.proofs.prefixed.prefixed_place.Goals as goal

pub returns-else-are_flagged-clause-becomes : goal.returns-else-are_flagged-clause-becomes
returns-else-are_flagged-clause-becomes c =
    let e : (c.args.prefixes.long || c.args.prefixes.protected) ≡ false = sym c.are_flagged.ensures ∙ c.if-are_flagged.false in
    rw e c.at_place.ensures.becomes

pub returns-else-are_flagged-clause-knows : goal.returns-else-are_flagged-clause-knows
returns-else-are_flagged-clause-knows c = λ known s k. c.at_place.ensures.knows known k
