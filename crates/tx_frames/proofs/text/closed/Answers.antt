use Rattle.std.proofs.Common.{◌≡◌, ◌∷◌, [], ◌++◌, ◌-◌, suc, arith, refl}
use Rattle.tx_frames.specs.Texts.{as_open, closing_on, goes_on}
use Rattle.tx_frames.proofs.FrameLemmas.{becomes-same}
use Rattle.tx_frames.proofs.TextLemmas.{closes-group}
use Rattle.tx_frames.proofs.text.closed.Goals as goal

pub returns-clause-becomes : goal.returns-clause-becomes
returns-clause-becomes c view w =
    let some = c.if-groups-eq0.false in
    let e : c.args.text.groups ≡ suc (c.args.text.groups - 1) = omega arith in
    becomes-same view (as_open c.args.text.kind (closing_on view c.args.text c.args.token)) (as_open c.args.text.kind (λ items v. goes_on view c.args.text.kind v (c.args.text.groups - 1) (c.args.text.tokens ++ c.args.token ∷ []) items v)) _ _ w c.with_token.result
    (record { kind = refl; says = λ i later v. closes-group view c.args.text c.args.token (c.args.text.groups - 1) (i ∷ later) v e })
    (closes-group view c.args.text c.args.token (c.args.text.groups - 1) [] w e)
    (c.with_token.ensures.becomes view w)

pub returns-clause-knows : goal.returns-clause-knows
returns-clause-knows c known k t = c.with_token.ensures.knows known k t
