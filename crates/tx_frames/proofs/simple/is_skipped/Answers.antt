use Rattle.std.proofs.Common.{sym, subst}
use Rattle.std.specs.Prelude.{◌≡◌}
use Rattle.tx_private.specs.Lists.{is_skipped}
use Rattle.tx_views.specs.Meanings.{sense_in}
use Rattle.tx_frames.proofs.simple.is_skipped.Goals as goal

pub returns-in-Char : goal.returns-in-Char
returns-in-Char c view = subst (λ s. c.is_blank.result ≡ is_skipped (sense_in view s)) (sym c.in-Char.is) (c.is_blank.ensures view)

pub returns-in-Primitive : goal.returns-in-Primitive
returns-in-Primitive c view = subst (λ s. c.is_relax.result ≡ is_skipped (sense_in view s)) (sym c.in-Primitive.is) (c.is_relax.ensures view)
