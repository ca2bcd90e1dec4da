-- Where an input breaks.
use Rattle.std.proofs.Common.{◌≡◌, ℕ, suc, ◌+◌, ◌<◌, ◌≤◌, ◌⊎◌, inl, inr, List, [], ◌∷◌, ◌++◌, Option, None, Some, IfSome, length, length-append, take, drop, refl, sym, ap, subst, ◌∙◌, arith, append_assoc}
use Rattle.std.specs.List.{flat_map, AllByRecursion}
use Rattle.std.proofs.lemmas.List.{append-nil, take_at, take_all, take-take, take-append-drop, take-append-le}
use Rattle.std.proofs.lemmas.Bool.{cases_lt}
use Rattle.tx_model.specs.Frames.{Request, IsLawful, frame, bye, InputEnd, ByBytes, ByBye, EndsSo, IsInput, IsLawfulInput, CanGoOn, BreaksAt}
use Rattle.tx_bytes.specs.Tells.{Tells, Loses}
use Rattle.tx_proto.specs.Requests.{ReadsToBreak}
use Rattle.tx_proto.specs.Parts.{IsFrameOrBye, IsPart, IsProperPart, BeginsNone}
use Rattle.tx_proto.proofs.FrameLemmas.{one-frame, frame-not-bye, frame-not-none, bye-not-none, proper-begins-none}

-- a lawful input has no bytes, or begins with a frame or BYE
pub record Begins (input : List ℕ) : Type 0 where
  pub whole : List ℕ
  pub rest : List ℕ
  pub one : IsFrameOrBye whole
  pub is : input ≡ whole ++ rest

pub lawful-begins : (input : List ℕ) → IsLawfulInput input → (input ≡ []) ⊎ Begins input
lawful-begins input ([], ByBytes, reading) = inl (reading.frames ∙ reading.ends)
lawful-begins input ([], ByBye, reading) = inr (record { whole = bye; rest = reading.ends.0; one = inr refl; is = reading.frames ∙ reading.ends.1 })
lawful-begins input (r ∷ rs, ending, reading) =
    inr (record { whole = frame r; rest = flat_map frame rs ++ reading.rest; one = inl (r, reading.lawful.0, refl); is = reading.frames ∙ append_assoc (frame r) (flat_map frame rs) reading.rest })

-- a frame, and BYE, are lawful inputs
pub whole-is-lawful : (whole : List ℕ) → IsFrameOrBye whole → IsLawfulInput whole
whole-is-lawful whole (inl (r, lawful, is)) =
    (r ∷ [], ByBytes, record { lawful = (lawful, tt); rest = []; frames = is ∙ sym (append-nil (frame r)) ∙ sym (append-nil (frame r ++ [])); ends = refl })
whole-is-lawful whole (inr is) = ([], ByBye, record { lawful = tt; rest = bye; frames = is; ends = ([], sym (append-nil bye)) })

-- a first part can go on
pub part-goes-on : (bytes : List ℕ) → IsPart bytes → CanGoOn bytes
part-goes-on bytes (more, one) = (more, whole-is-lawful (bytes ++ more) one)

-- what begins no frame and no BYE can't
pub none-goes-on : (bytes : List ℕ) → 1 ≤ length bytes → BeginsNone bytes → CanGoOn bytes → ⊥
none-goes-on bytes some none (more, lawful) =
    elim (lawful-begins (bytes ++ more) lawful) [
      | inl empty ↦ let l = ap length empty in omega (arith, l, length-append bytes more)
      | inr begins ↦ none more begins.whole begins.rest begins.one begins.is
    ]

-- a first part, and a byte with which nothing begins, break at that byte
pub breaks-at-byte : (bytes : List ℕ) (c : ℕ) → IsPart bytes → BeginsNone (bytes ++ c ∷ []) → BreaksAt (bytes ++ c ∷ []) (length bytes)
breaks-at-byte bytes c part none =
    let long : length (bytes ++ c ∷ []) ≡ length bytes + 1 = length-append bytes (c ∷ []) in
    record {
      within = omega (arith, long);
      before = subst CanGoOn (sym (take_at bytes (c ∷ []) (length bytes) refl)) (part-goes-on bytes part);
      at_byte = λ less goes. none-goes-on (bytes ++ c ∷ []) (omega (arith, long)) none (subst CanGoOn (take_all (length bytes + 1) (bytes ++ c ∷ []) (omega (arith, long))) goes);
      at_end = λ same lawful. absurd (omega (arith, long, same));
    }

-- a first part that isn't the whole and has bytes breaks at its end
pub breaks-at-end : (bytes : List ℕ) → 1 ≤ length bytes → IsProperPart bytes → BreaksAt bytes (length bytes)
breaks-at-end bytes some (next, more, one) = record {
  within = omega arith;
  before = subst CanGoOn (sym (take_all (length bytes) bytes (omega arith))) (part-goes-on bytes (next ∷ more, one));
  at_byte = λ less goes. omega (arith, less);
  at_end = λ same lawful. elim (lawful-begins bytes lawful) [
    | inl empty ↦ let l = ap length empty in omega (arith, l)
    | inr begins ↦ proper-begins-none bytes begins.whole begins.rest (next, more, one) begins.one begins.is
  ];
}

-- a first part of what can go on can
goes-shorter : (m n : ℕ) (input : List ℕ) → m ≤ n → CanGoOn (take n input) → CanGoOn (take m input)
goes-shorter m n input le (more, lawful) =
    let front : take m (take n input) ≡ take m input = take-take m n input le in
    let whole : take m input ++ drop m (take n input) ≡ take n input = ap (λ xs. xs ++ drop m (take n input)) (sym front) ∙ take-append-drop m (take n input) in (
      drop m (take n input) ++ more,
      subst IsLawfulInput (ap (λ xs. xs ++ more) (sym whole) ∙ append_assoc (take m input) (drop m (take n input)) more) lawful,
    )

not-later : (input : List ℕ) (p q : ℕ) → BreaksAt input p → BreaksAt input q → p < q → ⊥
not-later input p q first second less = first.at_byte (omega (arith, second.within)) (goes-shorter (p + 1) q input (omega arith) second.before)

-- an input breaks at one place
pub breaks-once : (input : List ℕ) (p q : ℕ) → BreaksAt input p → BreaksAt input q → p ≡ q
breaks-once input p q first second =
    elim (cases_lt p q) [
      | inl less ↦ absurd (not-later input p q first second less)
      | inr other ↦ elim (cases_lt q p) [
        | inl more ↦ absurd (not-later input q p second first more)
        | inr same ↦ omega arith
      ]
    ]

-- a lawful input breaks nowhere
pub never-breaks : (input : List ℕ) (place : ℕ) → IsLawfulInput input → BreaksAt input place → ⊥
never-breaks input place lawful breaks =
    elim (cases_lt place (length input)) [
      | inl less ↦ breaks.at_byte less (drop (place + 1) input, subst IsLawfulInput (sym (take-append-drop (place + 1) input)) lawful)
      | inr end ↦ breaks.at_end (omega (arith, breaks.within, end)) lawful
    ]

-- what breaks at one of its bytes breaks there whatever follows
pub breaks-longer : (bytes more : List ℕ) (place : ℕ) → place < length bytes → BreaksAt bytes place → BreaksAt (bytes ++ more) place
breaks-longer bytes more place less breaks = record {
  within = omega (arith, length-append bytes more);
  before = subst CanGoOn (sym (take-append-le place bytes more (omega arith))) breaks.before;
  at_byte = λ within goes. breaks.at_byte less (subst CanGoOn (take-append-le (place + 1) bytes more (omega arith)) goes);
  at_end = λ same lawful. let long = length-append bytes more in absurd (omega arith);
}

add-frame : (r : Request) (input : List ℕ) → IsLawful r → IsLawfulInput input → IsLawfulInput (frame r ++ input)
add-frame r input lawful (rs, ending, reading) = (
  r ∷ rs,
  ending,
  record {
    lawful = (lawful, reading.lawful);
    rest = reading.rest;
    frames = ap (λ xs. frame r ++ xs) reading.frames ∙ sym (append_assoc (frame r) (flat_map frame rs) reading.rest);
    ends = reading.ends;
  },
)

drop-frame : (r : Request) (input : List ℕ) → IsLawful r → IsLawfulInput (frame r ++ input) → IsLawfulInput input
drop-frame r input lawful ([], ByBytes, reading) = absurd (frame-not-none r input (reading.frames ∙ reading.ends))
drop-frame r input lawful ([], ByBye, reading) = absurd (frame-not-bye r input reading.ends.0 (reading.frames ∙ reading.ends.1))
drop-frame r input lawful (s ∷ ss, ending, reading) =
    let same = one-frame r s input (flat_map frame ss ++ reading.rest) lawful reading.lawful.0 (reading.frames ∙ append_assoc (frame s) (flat_map frame ss) reading.rest) in
    (ss, ending, record { lawful = reading.lawful.1; rest = reading.rest; frames = same.1; ends = reading.ends })

-- lawful frames in front of an input change nothing of its being lawful
pub add-frames : (rs : List Request) (input : List ℕ) → AllByRecursion IsLawful rs → IsLawfulInput input → IsLawfulInput (flat_map frame rs ++ input)
add-frames [] input all lawful = lawful
add-frames (r ∷ rs) input all lawful =
    subst IsLawfulInput (sym (append_assoc (frame r) (flat_map frame rs) input)) (add-frame r (flat_map frame rs ++ input) all.0 (add-frames rs input all.1 lawful))

pub drop-frames : (rs : List Request) (input : List ℕ) → AllByRecursion IsLawful rs → IsLawfulInput (flat_map frame rs ++ input) → IsLawfulInput input
drop-frames [] input all lawful = lawful
drop-frames (r ∷ rs) input all lawful =
    drop-frames rs input all.1 (drop-frame r (flat_map frame rs ++ input) all.0 (subst IsLawfulInput (append_assoc (frame r) (flat_map frame rs) input) lawful))

goes-behind : (rs : List Request) (bytes : List ℕ) → AllByRecursion IsLawful rs → CanGoOn bytes → CanGoOn (flat_map frame rs ++ bytes)
goes-behind rs bytes all (more, lawful) = (more, subst IsLawfulInput (sym (append_assoc (flat_map frame rs) bytes more)) (add-frames rs (bytes ++ more) all lawful))

goes-before : (rs : List Request) (bytes : List ℕ) → AllByRecursion IsLawful rs → CanGoOn (flat_map frame rs ++ bytes) → CanGoOn bytes
goes-before rs bytes all (more, lawful) = (more, drop-frames rs (bytes ++ more) all (subst IsLawfulInput (append_assoc (flat_map frame rs) bytes more) lawful))

pub take-past : (xs ys : List ℕ) (n : ℕ) → take (length xs + n) (xs ++ ys) ≡ xs ++ take n ys
take-past [] ys n = let none : 0 + n ≡ n = omega arith in ap (λ k. take k ys) none
take-past (x ∷ xs) ys n =
    let more : suc (length xs) + n ≡ suc (length xs + n) = omega arith in ap (λ k. take k (x ∷ (xs ++ ys))) more ∙ ap (λ zs. x ∷ zs) (take-past xs ys n)

one-more : (xs ys : List ℕ) (n : ℕ) → take (length xs + n + 1) (xs ++ ys) ≡ xs ++ take (n + 1) ys
one-more xs ys n = let same : length xs + n + 1 ≡ length xs + (n + 1) = omega arith in ap (λ k. take k (xs ++ ys)) same ∙ take-past xs ys (n + 1)

-- behind lawful frames an input breaks at its own place after them
pub breaks-behind : (rs : List Request) (rest : List ℕ) (place : ℕ) → AllByRecursion IsLawful rs → BreaksAt rest place → BreaksAt (flat_map frame rs ++ rest) (length (flat_map frame rs) + place)
breaks-behind rs rest place all breaks =
    let long = length-append (flat_map frame rs) rest in
    record {
      within = omega (arith, long, breaks.within);
      before = subst CanGoOn (sym (take-past (flat_map frame rs) rest place)) (goes-behind rs (take place rest) all breaks.before);
      at_byte = λ less goes. breaks.at_byte (omega (arith, long, less)) (goes-before rs (take (place + 1) rest) all (subst CanGoOn (one-more (flat_map frame rs) rest place) goes));
      at_end = λ same lawful. breaks.at_end (omega (arith, long, same)) (drop-frames rs rest all lawful);
    }

same-ends : (x : List ℕ) (a b : InputEnd) → EndsSo x a → EndsSo x b → a ≡ b
same-ends x ByBytes ByBytes first second = refl
same-ends x ByBytes ByBye first second = absurd (bye-not-none second.0 (sym second.1 ∙ first))
same-ends x ByBye ByBytes first second = absurd (bye-not-none first.0 (sym first.1 ∙ second))
same-ends x ByBye ByBye first second = refl

end-not-frame : (x : List ℕ) (a : InputEnd) (s : Request) (y : List ℕ) → EndsSo x a → x ≡ frame s ++ y → ⊥
end-not-frame x ByBytes s y ends e = frame-not-none s y (sym e ∙ ends)
end-not-frame x ByBye s y ends e = frame-not-bye s y ends.0 (sym e ∙ ends.1)

readings : (rs ss : List Request) (x y : List ℕ) (a b : InputEnd) → AllByRecursion IsLawful rs → AllByRecursion IsLawful ss → EndsSo x a → EndsSo y b → flat_map frame rs ++ x ≡ flat_map frame ss ++ y → (rs ≡ ss) × (a ≡ b)
readings [] [] x y a b first second ends also e = (refl, same-ends x a b ends (subst (λ z. EndsSo z b) (sym e) also))
readings [] (s ∷ ss) x y a b first second ends also e = absurd (end-not-frame x a s (flat_map frame ss ++ y) ends (e ∙ append_assoc (frame s) (flat_map frame ss) y))
readings (r ∷ rs) [] x y a b first second ends also e =
    absurd (end-not-frame y b r (flat_map frame rs ++ x) also (sym e ∙ append_assoc (frame r) (flat_map frame rs) x))
readings (r ∷ rs) (s ∷ ss) x y a b first second ends also e =
    let same = one-frame r s (flat_map frame rs ++ x) (flat_map frame ss ++ y) first.0 second.0
    (sym (append_assoc (frame r) (flat_map frame rs) x) ∙ e ∙ append_assoc (frame s) (flat_map frame ss) y)
    in
    let others = readings rs ss x y a b first.1 second.1 ends also same.1 in
    let requests : r ∷ rs ≡ s ∷ ss = ap (λ t. t ∷ rs) same.0 ∙ ap (λ ts. s ∷ ts) others.0 in
    (requests, others.1)

-- an input is read in one way
pub reads-once : (input : List ℕ) (rs ss : List Request) (a b : InputEnd) → IsInput input rs a → IsInput input ss b → (rs ≡ ss) × (a ≡ b)
reads-once input rs ss a b first second = readings rs ss first.rest second.rest a b first.lawful second.lawful first.ends second.ends (sym first.frames ∙ second.frames)

left-breaks : (left now : Option (List ℕ)) (bytes : List ℕ) (place : ℕ) → Loses left bytes now → BreaksAt bytes place → (length bytes ≡ place + 1) ⊎ ((length bytes ≡ place) × IfSome now (λ rest. rest ≡ [])) → IfSome left (λ input. BreaksAt input place)
left-breaks None now bytes place loses breaks to = tt
left-breaks (Some input) now bytes place (rest, is, after) breaks (inl within) =
    subst (λ xs. BreaksAt xs place) (sym is) (breaks-longer bytes rest place (omega (arith, within)) breaks)
left-breaks (Some input) now bytes place (rest, is, after) breaks (inr (long, end)) =
    let none : rest ≡ [] = subst (λ told. IfSome told (λ ys. ys ≡ [])) after end in
    subst (λ xs. BreaksAt xs place) (sym (is ∙ ap (λ ys. bytes ++ ys) none ∙ append-nil bytes)) breaks

-- what is told to be left breaks at the place to which it is read
pub breaks-left : (old new : Tells) (place : ℕ) → ReadsToBreak old place new → IfSome old.left (λ left. BreaksAt left place)
breaks-left old new place read = left-breaks old.left new.left read.bytes place read.next.left read.breaks read.to
