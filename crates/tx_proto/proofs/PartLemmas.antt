-- First parts of frames and of BYE.
use Rattle.std.proofs.Common.{◌≡◌, ℕ, ◌+◌, ◌-◌, ◌<◌, ◌≤◌, inl, inr, List, [], ◌∷◌, ◌++◌, length, length-append, get_or, take, drop, replicate, sym, ap, subst, ◌∙◌, arith, append_assoc}
use Rattle.std.specs.Fmt.{decimal}
use Rattle.std.proofs.lemmas.Fmt.{length-decimal-le, decimal_digit}
use Rattle.std.proofs.lemmas.List.{append-nil, take-append-drop, drop_more, length-replicate, length-take-le}
use Rattle.tx_model.specs.Frames.{frame, bye}
use Rattle.tx_proto.specs.declared.header.HeaderState.{HeaderState}
use Rattle.tx_proto.specs.declared.header.HeaderState.TheVariants as state
use Rattle.tx_proto.specs.Parts.{IsFrameOrBye, IsPart, IsProperPart}
use Rattle.tx_proto.specs.Headers.{header, region, front, IsSound, IsBudget, IsLength}
use Rattle.tx_proto.proofs.FrameLemmas.{frame-parts}

-- a frame's parts, with nothing behind
frame-is : (budget : ℕ) (text : List ℕ) → region ++ (decimal budget ++ 32 ∷ (decimal (length text) ++ 10 ∷ (text ++ []))) ≡ frame (record { budget = budget; text = text })
frame-is budget text = sym (frame-parts (record { budget = budget; text = text }) []) ∙ append-nil (frame (record { budget = budget; text = text }))

-- a list cut at one of its places
cut : (xs tail : List ℕ) (n : ℕ) → n < length xs → take n xs ++ (get_or xs n 0 ∷ (drop (n + 1) xs ++ tail)) ≡ xs ++ tail
cut xs tail n h =
    ap (λ ys. take n xs ++ (ys ++ tail)) (sym (drop_more xs n 0 h)) ∙ sym (append_assoc (take n xs) (drop n xs) tail) ∙ ap (λ ys. ys ++ tail) (take-append-drop n xs)

-- a header and a text of its length are a frame
pub header-frame : (budget len : ℕ) (text : List ℕ) → IsBudget budget → IsLength len → length text ≡ len → IsFrameOrBye (header budget len ++ text)
header-frame budget len text is short long =
    inl (
      record { budget = budget; text = text },
      record { some_steps = is.0; few_steps = is.1; short = omega (arith, long) },
      ap (λ n. header budget n ++ text) (sym long),
    )

-- so a header is a first part
pub header-is-part : (budget len : ℕ) → IsBudget budget → IsLength len → IsPart (header budget len)
header-is-part budget len is short = (replicate len 0, header-frame budget len (replicate len 0) is short (length-replicate len 0))

-- and so is a header with fewer bytes than the text's
pub short-is-proper : (budget len : ℕ) (text : List ℕ) → IsBudget budget → IsLength len → length text < len → IsProperPart (header budget len ++ text)
short-is-proper budget len text is short fewer =
    let long : length (text ++ 0 ∷ replicate (len - length text - 1) 0) ≡ len =
    omega (arith, length-append text (0 ∷ replicate (len - length text - 1) 0), length-replicate {A = ℕ} (len - length text - 1) 0)
    in (
      0,
      replicate (len - length text - 1) 0,
      subst IsFrameOrBye (sym (append_assoc (header budget len) text (0 ∷ replicate (len - length text - 1) 0)))
          (header-frame budget len (text ++ 0 ∷ replicate (len - length text - 1) 0) is short long),
    )

-- what a sound state stands for is a first part, and not the whole
pub front-is-proper : (s : HeaderState) → IsSound s → IsProperPart (front s)
front-is-proper (state.Region n) sound = (
  get_or region n 0,
  drop (n + 1) region ++ (decimal 1 ++ 32 ∷ (decimal 0 ++ 10 ∷ [])),
  inl (record { budget = 1; text = [] }, record { some_steps = omega arith; few_steps = omega arith; short = omega arith }, cut region (decimal 1 ++ 32 ∷ (decimal 0 ++ 10 ∷ [])) n sound ∙ frame-is 1 []),
)
front-is-proper (state.Bye n) sound = (get_or bye n 0, drop (n + 1) bye ++ [], inr (cut bye [] n sound.1 ∙ append-nil bye))
front-is-proper state.BeforeBudget sound = (
  49,
  32 ∷ (decimal 0 ++ 10 ∷ []),
  inl (
    record { budget = 1; text = [] },
    record { some_steps = omega arith; few_steps = omega arith; short = omega arith },
    ap (λ ds. region ++ (ds ++ 32 ∷ (decimal 0 ++ 10 ∷ []))) (sym (decimal_digit 1 (omega arith))) ∙ frame-is 1 [],
  ),
)
front-is-proper (state.Budget budget) sound = (
  32,
  decimal 0 ++ 10 ∷ [],
  inl (
    record { budget = budget; text = [] },
    record { some_steps = sound.0; few_steps = sound.1; short = omega arith },
    append_assoc region (decimal budget) (32 ∷ (decimal 0 ++ 10 ∷ [])) ∙ frame-is budget [],
  ),
)
front-is-proper (state.BeforeLength budget) sound = (
  48,
  10 ∷ [],
  inl (
    record { budget = budget; text = [] },
    record { some_steps = sound.0; few_steps = sound.1; short = omega arith },
    append_assoc (region ++ decimal budget) (32 ∷ []) (48 ∷ 10 ∷ [])
        ∙ append_assoc region (decimal budget) (32 ∷ 48 ∷ 10 ∷ [])
        ∙ ap (λ ds. region ++ (decimal budget ++ 32 ∷ (ds ++ 10 ∷ []))) (sym (decimal_digit 0 (omega arith)))
        ∙ frame-is budget [],
  ),
)
front-is-proper (state.Length budget len) sound = (
  10,
  replicate len 0,
  subst IsFrameOrBye (append_assoc (region ++ decimal budget ++ 32 ∷ [] ++ decimal len) (10 ∷ []) (replicate len 0)) (header-frame budget len (replicate len 0) sound.0 sound.1 (length-replicate len 0)),
)

budget-digits : (budget : ℕ) → IsBudget budget → length (decimal budget) ≤ 8
budget-digits budget is = length-decimal-le 8 budget (omega arith) (omega (arith, is.1)) (omega (arith, is.1))

-- the length of what a sound state stands for
pub length-front : (s : HeaderState) → IsSound s → length (front s) < 24
length-front (state.Region n) sound = let long : length (take n region) ≡ n = length-take-le n region (omega arith) in omega arith
length-front (state.Bye n) sound = let long : length (take n bye) ≡ n = length-take-le n bye (omega (arith, sound.1)) in omega (arith, sound.1, long)
length-front state.BeforeBudget sound = omega arith
length-front (state.Budget budget) sound = let digits = budget-digits budget sound in omega (arith, length-append region (decimal budget), digits)
length-front (state.BeforeLength budget) sound =
    let digits = budget-digits budget sound in
    omega (arith, length-append (region ++ decimal budget) (32 ∷ []), length-append region (decimal budget), digits)
length-front (state.Length budget len) sound =
    let digits = budget-digits budget sound.0 in
    let others : length (decimal len) ≤ 7 = length-decimal-le 7 len (omega arith) (omega (arith, sound.1)) (omega (arith, sound.1)) in
    omega (
      arith,
      length-append (region ++ decimal budget ++ 32 ∷ []) (decimal len),
      length-append (region ++ decimal budget) (32 ∷ []),
      length-append region (decimal budget),
      digits,
      others,
    )
