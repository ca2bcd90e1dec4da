use Rattle.std.proofs.Common.{◌≡◌, sym, ◌∙◌, ◌||◌, true, false}
use Rattle.tx_commands.proofs.prefixed.flagged_assignment.Goals as goal

pub returns-then-are_flagged-clause-becomes : goal.returns-then-are_flagged-clause-becomes
returns-then-are_flagged-clause-becomes c =
    let e : (c.args.prefixes.long || c.args.prefixes.protected) ≡ true = sym c.are_flagged.ensures ∙ c.if-are_flagged.true in
    rw e c.definition.ensures.becomes

pub returns-else-are_flagged-clause-becomes : goal.returns-else-are_flagged-clause-becomes
returns-else-are_flagged-clause-becomes c =
    let e : (c.args.prefixes.long || c.args.prefixes.protected) ≡ false = sym c.are_flagged.ensures ∙ c.if-are_flagged.false in
    rw e c.assignment.ensures.becomes
