-- The lines of a text, cut at a place.
use Rattle.std.proofs.Common.{◌≡◌, ◌≢◌, ℕ, zero, suc, ◌+◌, ◌-◌, ◌<◌, ◌≤◌, ◌==◌, List, [], ◌∷◌, ◌++◌, length, take, drop, get_or, refl, sym, ◌∙◌, ap, subst, arith, true, false}
use Rattle.std.proofs.lemmas.List.{take_all, drop_all, take_more, drop-drop, length-drop}
use Rattle.std.proofs.lemmas.Bool.Decides.{nat_tests}
use Rattle.tx_model.specs.declared.category.Cat.{Cat}
use Rattle.tx_model.specs.declared.category.LineState.{LineState}
use Rattle.tx_model.specs.declared.category.LineState.TheVariants.{NewLine}
use Rattle.tx_model.specs.Lines.{lines_of, trimmed, before_trimmed, begun, next_number}
use Rattle.tx_model.specs.Scanner.{Rest, Scanned, Found, LineUsed, found_in, scanned_from}
use Rattle.tx_scan.specs.declared.line.Scan.{Scan}
use Rattle.tx_scan.specs.declared.line.Scan.TheVariants as scan
use Rattle.tx_scan.specs.declared.line.Left.{Left}
use Rattle.tx_scan.specs.declared.line.InLine.TheVariants.{Found as InLineFound}
use Rattle.tx_scan.specs.declared.later.Begun.{Begun}
use Rattle.tx_scan.specs.declared.later.InLines.TheVariants.{Found as InLinesFound}
use Rattle.tx_scan.specs.Scans.{Tells, TellsNext, AfterNext, LooksInto, LooksIntoLines, rest_of}

-- none of the first i bytes ends a line
abbrev pub HasNoEnd : List ℕ → ℕ → Type 0
HasNoEnd bytes i = (k : ℕ) → k < i → get_or bytes k 0 ≢ 10

pub lines-cut : (bytes : List ℕ) (i : ℕ) → i < length bytes → HasNoEnd bytes i → get_or bytes i 0 ≡ 10 → lines_of bytes ≡ take i bytes ∷ lines_of (drop (suc i) bytes)
lines-cut [] i lt none here = absurd (omega arith)
lines-cut (b ∷ bytes) zero lt none here = let t : (b == 10) ≡ true = grind (arith, nat_tests) in rw t refl
lines-cut (b ∷ bytes) (suc i) lt none here =
    let f : (b == 10) ≡ false = grind (arith, nat_tests, none 0) in
    rw (f, lines-cut bytes i (omega arith) (λ k h. none (suc k) (omega arith)) here) refl

pub lines-whole : (b : ℕ) (bytes : List ℕ) → HasNoEnd (b ∷ bytes) (length (b ∷ bytes)) → lines_of (b ∷ bytes) ≡ (b ∷ bytes) ∷ []
lines-whole b [] none = let f : (b == 10) ≡ false = grind (arith, nat_tests, none 0) in rw f refl
lines-whole b (c ∷ bytes) none =
    let f : (b == 10) ≡ false = grind (arith, nat_tests, none 0) in
    rw (f, lines-whole c bytes (λ k h. none (suc k) (omega arith))) refl

pub trimmed-blank : (line : List ℕ) → trimmed (line ++ 32 ∷ []) ≡ trimmed line
trimmed-blank [] = refl
trimmed-blank (b ∷ line) = ap (before_trimmed b) (trimmed-blank line)

pub trimmed-other : (line : List ℕ) (b : ℕ) → b ≢ 32 → trimmed (line ++ b ∷ []) ≡ line ++ b ∷ []
trimmed-other [] b ne = let f : (b == 32) ≡ false = grind (arith, nat_tests) in rw f refl
trimmed-other (c ∷ []) b ne = ap (before_trimmed c) (trimmed-other [] b ne)
trimmed-other (c ∷ d ∷ line) b ne = ap (before_trimmed c) (trimmed-other (d ∷ line) b ne)

-- the first line, as a loop finds it at its end
pub first-cut : (bytes : List ℕ) (i : ℕ) → i < length bytes → HasNoEnd bytes i → get_or bytes i 0 ≡ 10 → lines_of bytes ≡ take i bytes ∷ lines_of (drop (i + 1) bytes)
first-cut bytes i lt none here =
    let e : i + 1 ≡ suc i = omega arith in
    rw e (lines-cut bytes i lt none here)

pub first-whole : (bytes : List ℕ) (i : ℕ) → 0 < length bytes → length bytes ≤ i → HasNoEnd bytes i → lines_of bytes ≡ take (length bytes) bytes ∷ lines_of (drop (length bytes) bytes)
first-whole [] i some end none = absurd (omega arith)
first-whole (b ∷ bytes) i some end none =
    rw (take_all (length (b ∷ bytes)) (b ∷ bytes) (omega arith), drop_all (length (b ∷ bytes)) (b ∷ bytes) (omega arith))
    (lines-whole b bytes (λ k h. none k (omega arith)))

-- so many bytes of a line are those before the last one, and the last one
one-more : (line : List ℕ) (n : ℕ) → suc n ≤ length line → take (suc n) line ≡ take n line ++ get_or line n 0 ∷ []
one-more line n within = let e : suc n ≡ n + 1 = omega arith in rw e (take_more line n 0 (omega arith))

pub trim-step : (line : List ℕ) (n : ℕ) → 0 < n → n ≤ length line → get_or line (n - 1) 0 ≡ 32 → trimmed (take (n - 1) line) ≡ trimmed (take n line)
trim-step line zero some within here = absurd (omega arith)
trim-step line (suc n) some within here =
    let e : suc n - 1 ≡ n = omega arith in
    let h : get_or line n 0 ≡ 32 = rw e at here in
    rw (e, one-more line n within, h) (sym (trimmed-blank (take n line)))

pub trim-stop : (line : List ℕ) (n : ℕ) → 0 < n → n ≤ length line → get_or line (n - 1) 0 ≢ 32 → take n line ≡ trimmed (take n line)
trim-stop line zero some within other = absurd (omega arith)
trim-stop line (suc n) some within other =
    let e : suc n - 1 ≡ n = omega arith in
    let h : get_or line n 0 ≢ 32 = rw e at other in
    rw (one-more line n within) (sym (trimmed-other (take n line) (get_or line n 0) h))

-- what stands in a line stands next in the text
pub tells-next : (cats : ℕ → Cat) (ending : List ℕ) (number : ℕ) (later : List (List ℕ)) (found : Found) (what : Scan) (state : LineState) (rest : List ℕ) → Tells found what state rest → TellsNext (scanned_from cats ending number found later) what (record { unread = rest; later = later; number = number; state = state })
tells-next cats ending number later found (scan.Char c b) state rest e = rw e refl
tells-next cats ending number later found (scan.NameText text) state rest e = rw e refl
tells-next cats ending number later found (scan.Active b) state rest e = rw e refl
tells-next cats ending number later found scan.Par state rest e = rw e refl
tells-next cats ending number later found scan.Invalid state rest e = rw e refl
tells-next cats ending number later found scan.End state rest e = absurd e
tells-next cats ending number later found scan.Memory state rest e = absurd e

-- the slice from n to the end
pub rest-of : (bytes : List ℕ) (n : ℕ) → take (length bytes - n) (drop n bytes) ≡ drop n bytes
rest-of bytes n = take_all (length bytes - n) (drop n bytes) (omega (arith, length-drop n bytes))

-- one line more, of the rest, was begun, and this stands next in it
pub next-line : (cats : ℕ → Cat) (ending : List ℕ) (later : List ℕ) (first number at len used : ℕ) (rest line unread : List ℕ) (what : Scan) (state : LineState) → rest ≡ drop at later → scanned_from cats ending number LineUsed (lines_of (drop at later)) ≡ scanned_from cats ending first LineUsed (lines_of later) → lines_of rest ≡ take len rest ∷ lines_of (drop used rest) → line ≡ begun ending (take len rest) → Tells (found_in cats NewLine line) what state unread → TellsNext (scanned_from cats ending first LineUsed (lines_of later)) what (record { unread = unread; later = lines_of (drop (at + used) later); number = next_number number; state = state })
next-line cats ending later first number at len used rest line unread what state slice same cut is told =
    let more : drop used rest ≡ drop (at + used) later = ap (drop used) slice ∙ drop-drop used at later in
    let there : scanned_from cats ending number LineUsed (lines_of rest) ≡ scanned_from cats ending first LineUsed (lines_of later) = rw slice same in
    let from : scanned_from cats ending (next_number number) (found_in cats NewLine (begun ending (take len rest))) (lines_of (drop used rest)) ≡ scanned_from cats ending first LineUsed (lines_of later) = rw cut at there in
    rw (← from, ← is, more) (tells-next cats ending (next_number number) (lines_of (drop (at + used) later)) (found_in cats NewLine line) what state unread told)

-- what stands next, after a call that had memory
pub told-after : (next : Scanned) (old : Rest) (what : Scan) (new : Rest) → TellsNext next what new → AfterNext next old what new
told-after next old (scan.Char c b) new told = told
told-after next old (scan.NameText text) new told = told
told-after next old (scan.Active b) new told = told
told-after next old scan.Par new told = told
told-after next old scan.Invalid new told = told
told-after next old scan.End new told = told
told-after next old scan.Memory new told = absurd told

-- the slice from n to the end of what a call gave, which is xs
pub slice-from : (slice xs : List ℕ) (n : ℕ) → slice ≡ xs → take (length slice - n) (drop n slice) ≡ drop n xs
slice-from slice xs n e = rest-of slice n ∙ ap (drop n) e

-- what a look into the present line tells, of which this rest is left, stands next
pub in-this-line : (cats : ℕ → Cat) (ending slice line : List ℕ) (later : List (List ℕ)) (read number : ℕ) (state after : LineState) (what : Scan) (left : Left) (rest : List ℕ) → slice ≡ line → LooksInto (found_in cats state (drop read slice)) slice (InLineFound what after left) → rest ≡ rest_of line left → TellsNext (scanned_from cats ending number (found_in cats state (drop read line)) later) what (record { unread = rest; later = later; number = number; state = after })
in-this-line cats ending slice line later read number state after what left rest e told is =
    let here : LooksInto (found_in cats state (drop read line)) line (InLineFound what after left) = subst (λ l. LooksInto (found_in cats state (drop read l)) l (InLineFound what after left)) e told in
    rw is (tells-next cats ending number later (found_in cats state (drop read line)) what after (rest_of line left) here.1)

-- what stands in the later lines stands next
pub in-later-lines : (next : Scanned) (text : List ℕ) (at : ℕ) (what : Scan) (begun : Begun) (rest : List ℕ) → rest ≡ drop at text → LooksIntoLines next rest (InLinesFound what begun) → TellsNext next what (record { unread = drop begun.read begun.line; later = lines_of (drop (at + begun.used) text); number = begun.number; state = begun.state })
in-later-lines next text at what begun rest e told =
    let same : drop begun.used rest ≡ drop (at + begun.used) text = ap (drop begun.used) e ∙ drop-drop begun.used at text in
    rw (← same) told.3
