use Rattle.std.proofs.Common.{◌≡◌, sym, ◌∙◌, false}
use Rattle.tx_private.specs.Lists.{is_skipped}
use Rattle.tx_views.specs.Meanings.{sense_in}
use Rattle.tx_commands.proofs.prefixed.behind_prefixes.Goals as goal

pub returns-else-is_skipped-clause-becomes : goal.returns-else-is_skipped-clause-becomes
returns-else-is_skipped-clause-becomes c = λ view w.
    let e : is_skipped (sense_in view c.args.sense.now) ≡ false = sym (c.is_skipped.ensures view) ∙ c.if-is_skipped.false in
    rw e (c.prefixed.ensures.becomes view w)
