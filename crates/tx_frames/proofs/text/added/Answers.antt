use Rattle.std.proofs.Common.{◌∷◌, [], ◌++◌, ◌+◌, refl, sym, ◌∙◌}
use Rattle.tx_frames.specs.Texts.{as_open, adding_on, closing_on, goes_on}
use Rattle.tx_frames.proofs.FrameLemmas.{becomes-same}
use Rattle.tx_frames.proofs.TextLemmas.{adds-left, adds-right, adds-other}
use Rattle.tx_frames.proofs.text.added.Goals as goal

pub returns-then-is_left_brace-clause-becomes : goal.returns-then-is_left_brace-clause-becomes
returns-then-is_left_brace-clause-becomes c view w =
    let left = sym (c.is_left_brace.ensures view) ∙ c.if-is_left_brace.true in
    becomes-same view (as_open c.args.text.kind (adding_on view c.args.text c.args.token)) (as_open c.args.text.kind (λ items v. goes_on view c.args.text.kind v (c.args.text.groups + 1) (c.args.text.tokens ++ c.args.token ∷ []) items v)) _ _ w c.within.result
    (record { kind = refl; says = λ i later v. adds-left view c.args.text c.args.token (i ∷ later) v left })
    (adds-left view c.args.text c.args.token [] w left)
    (c.within.ensures.becomes view w)

pub returns-then-is_right_brace-clause-becomes : goal.returns-then-is_right_brace-clause-becomes
returns-then-is_right_brace-clause-becomes c view w =
    let left = sym (c.is_left_brace.ensures view) ∙ c.if-is_left_brace.false in
    let right = sym (c.is_right_brace.ensures view) ∙ c.if-is_right_brace.true in
    becomes-same view (as_open c.args.text.kind (adding_on view c.args.text c.args.token)) (as_open c.args.text.kind (closing_on view c.args.text c.args.token)) _ _ w c.closed.result
    (record { kind = refl; says = λ i later v. adds-right view c.args.text c.args.token (i ∷ later) v left right })
    (adds-right view c.args.text c.args.token [] w left right)
    (c.closed.ensures.becomes view w)

pub returns-clause-becomes : goal.returns-clause-becomes
returns-clause-becomes c view w =
    let left = sym (c.is_left_brace.ensures view) ∙ c.if-is_left_brace.false in
    let right = sym (c.is_right_brace.ensures view) ∙ c.if-is_right_brace.false in
    becomes-same view (as_open c.args.text.kind (adding_on view c.args.text c.args.token)) (as_open c.args.text.kind (λ items v. goes_on view c.args.text.kind v c.args.text.groups (c.args.text.tokens ++ c.args.token ∷ []) items v)) _ _ w c.with_token.result
    (record { kind = refl; says = λ i later v. adds-other view c.args.text c.args.token (i ∷ later) v left right })
    (adds-other view c.args.text c.args.token [] w left right)
    (c.with_token.ensures.becomes view w)

pub returns-then-is_left_brace-clause-knows : goal.returns-then-is_left_brace-clause-knows
returns-then-is_left_brace-clause-knows c known k t = c.within.ensures.knows known k t

pub returns-then-is_right_brace-clause-knows : goal.returns-then-is_right_brace-clause-knows
returns-then-is_right_brace-clause-knows c known k t = c.closed.ensures.knows known k t

pub returns-clause-knows : goal.returns-clause-knows
returns-clause-knows c known k t = c.with_token.ensures.knows known k t
