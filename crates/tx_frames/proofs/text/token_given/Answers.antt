use Rattle.std.proofs.Common.{◌∷◌, [], cond, refl, sym, ◌∙◌, ap}
use Rattle.tx_private.specs.Errors.{plain}
use Rattle.tx_private.specs.Readings.{Bad}
use Rattle.tx_frames.specs.Texts.{as_open, taking_on, adding_on}
use Rattle.tx_frames.proofs.FrameLemmas.{becomes-same}
use Rattle.tx_frames.proofs.text.token_given.Goals as goal

pub returns-clause-becomes : goal.returns-clause-becomes
returns-clause-becomes c view w =
    let none = sym (c.is_refused.ensures view) ∙ c.if-is_refused.false in
    becomes-same view (as_open c.args.text.kind (taking_on view c.args.text c.args.token)) (as_open c.args.text.kind (adding_on view c.args.text c.args.token)) _ _ w c.added.result
    (record { kind = refl; says = λ i later v. ap (λ b. cond b (Bad (plain 63) v) (adding_on view c.args.text c.args.token (i ∷ later) v)) none })
    (ap (λ b. cond b (Bad (plain 63) w) (adding_on view c.args.text c.args.token [] w)) none)
    (c.added.ensures.becomes view w)

pub returns-clause-knows : goal.returns-clause-knows
returns-clause-knows c known k t = c.added.ensures.knows known k t
