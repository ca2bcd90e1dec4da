-- One token more of a delimited argument.
use Rattle.std.proofs.Common.{◌≡◌, ℕ, zero, suc, ◌+◌, ◌<◌, ◌≤◌, Bool, true, false, ◌&&◌, eqb, List, [], ◌∷◌, ◌++◌, length, take, drop, get_or, refl, ap, ◌∙◌, arith, append_assoc, append-nil, length-drop}
use Rattle.std.proofs.lemmas.List.{drop_more, take_more, take-append-le, drop-append-le}
use Rattle.std.proofs.lemmas.Bool.Decides.{nat_tests}
use Rattle.tx_tok.specs.declared.tok.Tok.{Tok}
use Rattle.tx_macro.specs.declared.rule.Rule.{Rule}
use Rattle.tx_macro.specs.declared.rule.Misuse.{Misuse}
use Rattle.tx_macro.specs.Outcome.{At, Breaks, grown, Standing, Differs, standing, Piece, Found, Partial, Wrong, stripped, ended, onward, delimited}
use Rattle.tx_macro.specs.Settling.{begins}
use Rattle.tx_macro.proofs.StandingLemmas.{standing-differs, standing-stands, standing-within}

depth_zero : (depth : ℕ) → eqb depth 0 ≡ true → depth ≡ 0
depth_zero zero e = refl
depth_zero (suc depth) e = grind (arith, nat_tests)

ended-onward : (b : Bool) (s : Standing) (argument : List Tok) (later : Piece) → (b ≡ true → s ≡ Differs) → ended b s argument later ≡ later
ended-onward true s argument later h = rw (h refl) refl
ended-onward false s argument later h = refl

-- a token of the argument
pub delimited-onward : (rule : Rule) (delimiter : List Tok) (depth : ℕ) (argument : List Tok) (t : Tok) (tokens : List Tok) → (depth ≡ 0 → standing delimiter (t ∷ tokens) ≡ Differs) → delimited rule delimiter depth argument (t ∷ tokens) ≡ onward (grown rule depth t) (λ n. delimited rule delimiter n (argument ++ t ∷ []) tokens)
delimited-onward rule delimiter depth argument t tokens h =
    ended-onward (eqb depth 0) (standing delimiter (t ∷ tokens)) argument (onward (grown rule depth t) (λ n. delimited rule delimiter n (argument ++ t ∷ []) tokens)) (λ e. h (depth_zero depth e))

-- the token at this place is the argument's, where the delimiter doesn't stand there
pub delimited-place : (rule : Rule) (delimiter taken : List Tok) (known depth : ℕ) (d : Tok) → known < length taken → length taken ≤ known + length delimiter → (depth ≡ 0 → begins delimiter (drop known taken) ≡ false) → (later : List Tok) → delimited rule delimiter depth (take known taken) (drop known taken ++ later) ≡ onward (grown rule depth (get_or taken known d)) (λ n. delimited rule delimiter n (take (known + 1) taken) (drop (known + 1) taken ++ later))
delimited-place rule delimiter taken known depth d inside short differs later =
    let more = drop_more taken known d inside in
    let further = take_more taken known d inside in
    let short_rest : length (drop known taken) ≤ length delimiter = omega (arith, length-drop known taken) in
    let differs_there : depth ≡ 0 → standing delimiter (get_or taken known d ∷ (drop (known + 1) taken ++ later)) ≡ Differs = λ e. rw more at (standing-differs delimiter (drop known taken) later short_rest (differs e)) in
    rw (more, further) (delimited-onward rule delimiter depth (take known taken) (get_or taken known d) (drop (known + 1) taken ++ later) differs_there)

place-differs : (b c : Bool) → (b && c) ≡ false → b ≡ true → c ≡ false
place-differs true c e h = e
place-differs false c e h = cc

pub settles-at : (rule : Rule) (delimiter taken : List Tok) (known depth n : ℕ) (d : Tok) → known < length taken → length taken ≤ known + length delimiter → (eqb depth 0 && begins delimiter (drop known taken)) ≡ false → grown rule depth (get_or taken known d) ≡ At n → (later : List Tok) → delimited rule delimiter depth (take known taken) (drop known taken ++ later) ≡ delimited rule delimiter n (take (known + 1) taken) (drop (known + 1) taken ++ later)
settles-at rule delimiter taken known depth n d inside short ends g later =
    delimited-place rule delimiter taken known depth d inside short (λ e. place-differs (eqb depth 0) (begins delimiter (drop known taken)) ends (rw e refl)) later
    ∙ ap (λ g. onward g (λ n. delimited rule delimiter n (take (known + 1) taken) (drop (known + 1) taken ++ later))) g

pub settles-breaks : (rule : Rule) (delimiter taken : List Tok) (known depth : ℕ) (e : Misuse) (d : Tok) → known < length taken → length taken ≤ known + length delimiter → (eqb depth 0 && begins delimiter (drop known taken)) ≡ false → grown rule depth (get_or taken known d) ≡ Breaks e → (later : List Tok) → delimited rule delimiter depth (take known taken) (drop known taken ++ later) ≡ Wrong e
settles-breaks rule delimiter taken known depth e d inside short ends g later =
    delimited-place rule delimiter taken known depth d inside short (λ z. place-differs (eqb depth 0) (begins delimiter (drop known taken)) ends (rw z refl)) later
    ∙ ap (λ g. onward g (λ n. delimited rule delimiter n (take (known + 1) taken) (drop (known + 1) taken ++ later))) g

-- the delimiter stands, and ends the argument
pub delimited-stands : (rule : Rule) (delimiter : List Tok) (depth : ℕ) (argument tokens later : List Tok) → 0 < length delimiter → depth ≡ 0 → length tokens ≡ length delimiter → begins delimiter tokens ≡ true → delimited rule delimiter depth argument (tokens ++ later) ≡ Found (stripped argument) later
delimited-stands rule delimiter depth argument [] later some d same e = absurd (omega arith)
delimited-stands rule delimiter depth argument (t ∷ tokens) later some d same e =
    rw (d, standing-stands delimiter (t ∷ tokens) later same e) refl

-- the tokens end within the delimiter
pub delimited-within : (rule : Rule) (delimiter : List Tok) (depth : ℕ) (argument tokens : List Tok) → (0 < length tokens → depth ≡ 0) → length tokens < length delimiter → begins delimiter tokens ≡ true → delimited rule delimiter depth argument (tokens ++ []) ≡ Partial
delimited-within rule delimiter depth argument [] d short e = refl
delimited-within rule delimiter depth argument (t ∷ tokens) d short e =
    rw (d (omega arith), append-nil tokens, standing-within delimiter (t ∷ tokens) short e) refl

-- a token added to those that were taken
pub delimited-push : (rule : Rule) (delimiter : List Tok) (depth known : ℕ) (old new : List Tok) (t : Tok) → known ≤ length old → new ≡ old ++ t ∷ [] → (later : List Tok) → delimited rule delimiter depth (take known old) (drop known old ++ t ∷ later) ≡ delimited rule delimiter depth (take known new) (drop known new ++ later)
delimited-push rule delimiter depth known old new t inside e later =
    rw (e, take-append-le known old (t ∷ []) inside, drop-append-le known old (t ∷ []) inside, append_assoc) refl
