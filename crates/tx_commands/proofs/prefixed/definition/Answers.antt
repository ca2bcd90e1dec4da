use Rattle.std.proofs.Common.{◌≡◌, sym, ◌∙◌, true}
use Rattle.tx_private.specs.Controls.{defines as is_definition}
use Rattle.tx_commands.proofs.prefixed.definition.Goals as goal

pub returns-then-defines-clause-becomes : goal.returns-then-defines-clause-becomes
returns-then-defines-clause-becomes c =
    let e : is_definition c.args.primitive ≡ true = sym c.defines.ensures ∙ c.if-defines.true in
    rw e c.assignment.ensures.becomes
