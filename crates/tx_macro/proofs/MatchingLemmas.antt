-- What a matcher says, step by step.
use Rattle.std.proofs.Common.{◌≡◌, ℕ, ◌+◌, ◌<◌, ◌≤◌, true, List, [], ◌∷◌, ◌++◌, length, take, drop, take_all, set, get_or, refl, sym, ap, ◌∙◌, inl, inr, arith}
use Rattle.std.proofs.lemmas.Bool.{cases_lt}
use Rattle.std.proofs.lemmas.List.{drop_more, drop_all, take_more_set}
use Rattle.tx_tok.specs.declared.tok.Tok.{Tok}
use Rattle.tx_tok.specs.declared.tok.Tok.TheVariants as tok
use Rattle.tx_macro.specs.declared.argument.Argument.{Argument}
use Rattle.tx_macro.specs.declared.macro_match.MacroMatch.{MacroMatch}
use Rattle.tx_macro.specs.declared.macro_match.Match.{Match}
use Rattle.tx_macro.specs.declared.macro_match.Match.TheVariants as answer
use Rattle.tx_macro.specs.declared.rule.Rule.{Rule}
use Rattle.tx_macro.specs.declared.rule.Misuse.{Misuse}
use Rattle.tx_macro.specs.Outcome.{same, Found, Partial, Wrong, Standing, Stands, Within, Differs, delimited, standing, Outcome, Matched, Open, Fails, with_argument, followed, arguments, opened, front, behind, argument_before}
use Rattle.tx_macro.specs.Matching.{piece, with_arguments, going_on, WaitsFor, IsFresh, IsShort, says, IsOpen, IsDone, Progress, Answers}

pub with_arguments-matched : (args : List (List Tok)) (tokens : List Tok) → with_arguments args (Matched [] tokens) ≡ Matched args tokens
with_arguments-matched [] tokens = refl
with_arguments-matched (a ∷ args) tokens = ap (with_argument a) (with_arguments-matched args tokens)

pub with_arguments-open : (args : List (List Tok)) → with_arguments args Open ≡ Open
with_arguments-open [] = refl
with_arguments-open (a ∷ args) = ap (with_argument a) (with_arguments-open args)

pub with_arguments-fails : (args : List (List Tok)) (e : Misuse) → with_arguments args (Fails e) ≡ Fails e
with_arguments-fails [] e = refl
with_arguments-fails (a ∷ args) e = ap (with_argument a) (with_arguments-fails args e)

pub with_arguments-push : (args : List (List Tok)) (a : List Tok) (o : Outcome) → with_arguments (args ++ a ∷ []) o ≡ with_arguments args (with_argument a o)
with_arguments-push [] a o = refl
with_arguments-push (b ∷ args) a o = ap (with_argument b) (with_arguments-push args a o)

-- a token of the first delimiter
pub standing-more : (first : List Tok) (n : ℕ) (p t : Tok) (later : List Tok) → n < length first → p ≡ get_or first n p → same p t ≡ true → standing (drop n first) (t ∷ later) ≡ standing (drop (n + 1) first) later
standing-more first n p t later inside is e =
    let there : same (get_or first n p) t ≡ true = rw (← is) e in
    rw (drop_more first n p inside, there) refl

pub standing-none : (first : List Tok) (n : ℕ) → n < length first → (p : Tok) → standing (drop n first) [] ≡ Within
standing-none first n inside p = rw (drop_more first n p inside) refl

-- an argument of which no token was taken
pub piece-fresh : (rule : Rule) (ds : List (List Tok)) (a : Argument) → IsFresh a → (tokens : List Tok) → going_on rule ds a tokens ≡ arguments rule ds tokens
piece-fresh rule [] a fresh tokens = refl
piece-fresh rule ([] ∷ ds) a fresh tokens = rw (fresh.taken, fresh.depth) refl
piece-fresh rule ((p ∷ d) ∷ ds) a fresh tokens = rw (fresh.taken, fresh.known, fresh.depth) refl

fresh-partial : (rule : Rule) (d : List Tok) (depth k : ℕ) (argument taken : List Tok) → taken ≡ [] → k ≡ 0 → delimited rule d depth argument (drop k taken ++ []) ≡ Partial
fresh-partial rule d depth k argument taken none start = rw (none, start) refl

short-fresh : (d : List Tok) (a : Argument) → IsFresh a → IsShort d a
short-fresh d a fresh = let none : length a.taken.items ≡ 0 = ap length fresh.taken in omega (arith, none)

pub waits-fresh : (rule : Rule) (ds : List (List Tok)) (a : Argument) → IsFresh a → WaitsFor rule ds a
waits-fresh rule [] a fresh = tt
waits-fresh rule ([] ∷ ds) a fresh = (refl, short-fresh [] a fresh)
waits-fresh rule ((p ∷ d) ∷ ds) a fresh =
    (fresh-partial rule (p ∷ d) a.place.depth a.place.known (take a.place.known a.taken.items) a.taken.items fresh.taken fresh.known, short-fresh (p ∷ d) a fresh)

-- more tokens are wanted where an argument is under way
pub going_on-open : (rule : Rule) (ds : List (List Tok)) (n : ℕ) (a : Argument) → n < length ds → WaitsFor rule (drop n ds) a → going_on rule (drop n ds) a [] ≡ Open
going_on-open rule ds n a inside waits =
    let more = drop_more ds n [] inside in
    let partial : piece rule (get_or ds n []) a [] ≡ Partial = (rw more at waits).0 in
    rw (more, partial) refl

-- how much of the first delimiter was matched, and what follows it
pub opened-past : (first : List Tok) (n : ℕ) (tokens : List Tok) (later : List Tok → Outcome) → length first ≤ n → opened (standing (drop n first) tokens) later ≡ later tokens
opened-past first n tokens later h = rw (drop_all n first h) refl

pub says-past : (m : MacroMatch) → length m.first.items ≤ m.matched → (tokens : List Tok) → says m tokens ≡ with_arguments (take m.found m.arguments.items) (going_on m.rule (drop m.found m.delimiters.items) m.current tokens)
says-past m h tokens =
    opened-past m.first.items m.matched tokens (λ rest. with_arguments (take m.found m.arguments.items) (going_on m.rule (drop m.found m.delimiters.items) m.current rest)) h

done-says : (m : MacroMatch) → length m.first.items ≤ m.matched → length m.delimiters.items ≤ m.found → (tokens : List Tok) → says m tokens ≡ Matched (take m.found m.arguments.items) tokens
done-says m h k tokens =
    says-past m h tokens
    ∙ (ap (λ ds. with_arguments (take m.found m.arguments.items) (going_on m.rule ds m.current tokens)) (drop_all m.found m.delimiters.items k)
    ∙ with_arguments-matched (take m.found m.arguments.items) tokens)

-- all that there is to match was matched
pub is_done : (m : MacroMatch) → length m.first.items ≤ m.matched → length m.delimiters.items ≤ m.found → length m.arguments.items ≤ m.found → IsDone m
is_done m h k slots later =
    done-says m h k later ∙ ap (λ args. Matched args later) (take_all m.found m.arguments.items slots)

-- the first delimiter is under way
pub open-first : (m : MacroMatch) → m.matched < length m.first.items → WaitsFor m.rule (drop m.found m.delimiters.items) m.current → IsOpen m
open-first m h waits =
    (ap (λ s. opened s (λ rest. with_arguments (take m.found m.arguments.items) (going_on m.rule (drop m.found m.delimiters.items) m.current rest))) (standing-none m.first.items m.matched h tok.Stop), waits)

-- an argument is under way
pub open-argument : (m : MacroMatch) → length m.first.items ≤ m.matched → m.found < length m.delimiters.items → WaitsFor m.rule (drop m.found m.delimiters.items) m.current → IsOpen m
open-argument m h k waits =
    (says-past m h [] ∙ (ap (with_arguments (take m.found m.arguments.items)) (going_on-open m.rule m.delimiters.items m.found m.current k waits) ∙ with_arguments-open (take m.found m.arguments.items)), waits)

open≢matched : (args : List (List Tok)) (tokens : List Tok) → Matched args tokens ≡ Open → ⊥
open≢matched args tokens e = cc

-- a matcher that can be fed behind its first delimiter has an argument under way
pub argument_left : (m : MacroMatch) → length m.first.items ≤ m.matched → IsOpen m → m.found < length m.delimiters.items
argument_left m h can =
    let none = λ (k : length m.delimiters.items ≤ m.found). open≢matched (take m.found m.arguments.items) [] (sym (done-says m h k []) ∙ can.0) in
    elim (cases_lt m.found (length m.delimiters.items)) [ inl k ↦ k | inr k ↦ absurd (none k) ]

pub waits_there : (m : MacroMatch) (d : List Tok) → m.found < length m.delimiters.items → d ≡ get_or m.delimiters.items m.found d → IsOpen m → IsShort d m.current
waits_there m d k is can =
    let waits = rw (drop_more m.delimiters.items m.found d k, ← is) at can.1 in
    waits.1

pub waits-at : (rule : Rule) (ds : List (List Tok)) (k : ℕ) (d : List Tok) (a : Argument) → k < length ds → d ≡ get_or ds k d → piece rule d a [] ≡ Partial → IsShort d a → WaitsFor rule (drop k ds) a
waits-at rule ds k d a inside is partial short = rw (drop_more ds k d inside, ← is) (partial, short)

-- what is said where an argument is under way
abbrev SaysAt : Rule → List Tok → ℕ → List (List Tok) → List (List Tok) → Argument → List Tok → Outcome
SaysAt rule first n args ds a tokens = opened (standing (drop n first) tokens) (λ rest. with_arguments args (going_on rule ds a rest))

going_on-at : (rule : Rule) (ds : List (List Tok)) (k : ℕ) (d : List Tok) (a : Argument) (tokens : List Tok) → k < length ds → d ≡ get_or ds k d → going_on rule (drop k ds) a tokens ≡ followed (piece rule d a tokens) (arguments rule (drop (k + 1) ds))
going_on-at rule ds k d a tokens inside is = rw (drop_more ds k d inside, ← is) refl

pub says-open : (rule : Rule) (first : List Tok) (n : ℕ) (args ds : List (List Tok)) (k : ℕ) (d : List Tok) (a : Argument) → length first ≤ n → k < length ds → d ≡ get_or ds k d → piece rule d a [] ≡ Partial → SaysAt rule first n args (drop k ds) a [] ≡ Open
says-open rule first n args ds k d a h inside is partial =
    opened-past first n [] (λ rest. with_arguments args (going_on rule (drop k ds) a rest)) h
    ∙ (ap (with_arguments args) (going_on-at rule ds k d a [] inside is ∙ ap (λ p. followed p (arguments rule (drop (k + 1) ds))) partial) ∙ with_arguments-open args)

pub says-more : (rule : Rule) (first : List Tok) (n : ℕ) (args ds : List (List Tok)) (k : ℕ) (d : List Tok) (old new : Argument) (t : Tok) (later : List Tok) → length first ≤ n → k < length ds → d ≡ get_or ds k d → piece rule d old (t ∷ later) ≡ piece rule d new later → SaysAt rule first n args (drop k ds) old (t ∷ later) ≡ SaysAt rule first n args (drop k ds) new later
says-more rule first n args ds k d old new t later h inside is e =
    opened-past first n (t ∷ later) (λ rest. with_arguments args (going_on rule (drop k ds) old rest)) h
    ∙ (ap (with_arguments args) (going_on-at rule ds k d old (t ∷ later) inside is ∙ (ap (λ p. followed p (arguments rule (drop (k + 1) ds))) e ∙ sym (going_on-at rule ds k d new later inside is)))
    ∙ sym (opened-past first n later (λ rest. with_arguments args (going_on rule (drop k ds) new rest)) h))

pub says-wrong : (rule : Rule) (first : List Tok) (n : ℕ) (args ds : List (List Tok)) (k : ℕ) (d : List Tok) (old : Argument) (t : Tok) (later : List Tok) (e : Misuse) → length first ≤ n → k < length ds → d ≡ get_or ds k d → piece rule d old (t ∷ later) ≡ Wrong e → SaysAt rule first n args (drop k ds) old (t ∷ later) ≡ Fails e
says-wrong rule first n args ds k d old t later e h inside is wrong =
    opened-past first n (t ∷ later) (λ rest. with_arguments args (going_on rule (drop k ds) old rest)) h
    ∙ (ap (with_arguments args) (going_on-at rule ds k d old (t ∷ later) inside is ∙ ap (λ p. followed p (arguments rule (drop (k + 1) ds))) wrong) ∙ with_arguments-fails args e)

pub says-ended : (rule : Rule) (first : List Tok) (n : ℕ) (args ds : List (List Tok)) (k : ℕ) (d : List Tok) (old new : Argument) (a : List Tok) (t : Tok) (later : List Tok) → length first ≤ n → k < length ds → k < length args → d ≡ get_or ds k d → IsFresh new → piece rule d old (t ∷ later) ≡ Found a later → SaysAt rule first n (take k args) (drop k ds) old (t ∷ later) ≡ SaysAt rule first n (take (k + 1) (set args k a)) (drop (k + 1) ds) new later
says-ended rule first n args ds k d old new a t later h inside slot is fresh ends =
    opened-past first n (t ∷ later) (λ rest. with_arguments (take k args) (going_on rule (drop k ds) old rest)) h
    ∙ (ap (with_arguments (take k args)) (going_on-at rule ds k d old (t ∷ later) inside is ∙ ap (λ p. followed p (arguments rule (drop (k + 1) ds))) ends)
    ∙ (sym (with_arguments-push (take k args) a (arguments rule (drop (k + 1) ds) later))
    ∙ (ap (λ x. with_arguments x (arguments rule (drop (k + 1) ds) later)) (sym (take_more_set args k a slot))
    ∙ (ap (with_arguments (take (k + 1) (set args k a))) (sym (piece-fresh rule (drop (k + 1) ds) new fresh later))
    ∙ sym (opened-past first n later (λ rest. with_arguments (take (k + 1) (set args k a)) (going_on rule (drop (k + 1) ds) new rest)) h)))))

-- the delimiter that was read is that of the argument under way
pub is_found : (ds : List (List Tok)) (k : ℕ) (item slice : List Tok) → item ≡ get_or ds k item → slice ≡ item → slice ≡ get_or ds k slice
is_found ds k item slice is same = rw same is

pub opened-same : (s : Standing) (k l : List Tok → Outcome) → ((rest : List Tok) → k rest ≡ l rest) → opened s k ≡ opened s l
opened-same (Stands rest) k l e = e rest
opened-same Within k l e = refl
opened-same Differs k l e = refl

piece-same : (rule : Rule) (d : List Tok) (a b : Argument) → b.taken.items ≡ a.taken.items → b.place ≡ a.place → (tokens : List Tok) → piece rule d a tokens ≡ piece rule d b tokens
piece-same rule [] a b e f tokens = rw (e, f) refl
piece-same rule (p ∷ d) a b e f tokens = rw (e, f) refl

going_on-same : (rule : Rule) (ds : List (List Tok)) (a b : Argument) → b.taken.items ≡ a.taken.items → b.place ≡ a.place → (tokens : List Tok) → going_on rule ds a tokens ≡ going_on rule ds b tokens
going_on-same rule [] a b e f tokens = refl
going_on-same rule (d ∷ ds) a b e f tokens = ap (λ p. followed p (arguments rule ds)) (piece-same rule d a b e f tokens)

-- an argument to which nothing was added says the same
pub says-same : (rule : Rule) (first : List Tok) (n : ℕ) (args ds : List (List Tok)) (a b : Argument) → b.taken.items ≡ a.taken.items → b.place ≡ a.place → (tokens : List Tok) → SaysAt rule first n args ds a tokens ≡ SaysAt rule first n args ds b tokens
says-same rule first n args ds a b e f tokens =
    opened-same (standing (drop n first) tokens) (λ rest. with_arguments args (going_on rule ds a rest)) (λ rest. with_arguments args (going_on rule ds b rest)) (λ rest. ap (with_arguments args) (going_on-same rule ds a b e f rest))

pub waits-same : (rule : Rule) (ds : List (List Tok)) (a b : Argument) → b.taken.items ≡ a.taken.items → b.place ≡ a.place → WaitsFor rule ds a → WaitsFor rule ds b
waits-same rule [] a b e f h = tt
waits-same rule (d ∷ ds) a b e f h =
    (sym (piece-same rule d a b e f []) ∙ h.0, rw (e, f) h.1)

-- what feeding answers where its token was taken
pub answers-progress : (old : MacroMatch) (t : Tok) (m : Match) (new : MacroMatch) → ((later : List Tok) → says old (t ∷ later) ≡ says new later) → Progress new m → Answers old t m new
answers-progress old t answer.More new e h = (e, h)
answers-progress old t answer.Done new e h = (e, h)
answers-progress old t answer.NoMatch new e h = absurd h
answers-progress old t answer.ParEnded new e h = absurd h
answers-progress old t answer.ExtraBrace new e h = absurd h
answers-progress old t answer.Memory new e h = absurd h

argument_before-none : (rule : Rule) (d : List Tok) → argument_before rule d [] ≡ Partial
argument_before-none rule [] = refl
argument_before-none rule (p ∷ d) = refl

outcome-open : (rule : Rule) (params : List Tok) → 0 < length params → opened (standing (front params) []) (arguments rule (behind params)) ≡ Open
outcome-open rule [] h = absurd (omega arith)
outcome-open rule (tok.Param n ∷ params) h = ap (λ p. followed p (arguments rule (behind params))) (argument_before-none rule (front params))
outcome-open rule (tok.Char c b ∷ params) h = refl
outcome-open rule (tok.Name n ∷ params) h = refl
outcome-open rule (tok.Active b ∷ params) h = refl
outcome-open rule (tok.Stop ∷ params) h = refl

-- a matcher of which no token was fed is open
pub open-new : (rule : Rule) (params first : List Tok) (ds : List (List Tok)) (a : Argument) → first ≡ front params → ds ≡ behind params → IsFresh a → 0 < length params → opened (standing first []) (λ rest. going_on rule ds a rest) ≡ Open
open-new rule params first ds a e f fresh some =
    rw (e, f) (opened-same (standing (front params) []) (λ rest. going_on rule (behind params) a rest) (arguments rule (behind params)) (piece-fresh rule (behind params) a fresh) ∙ outcome-open rule params some)
