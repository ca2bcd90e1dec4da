-- What the wish for a token comes to, by what stands next.
use Rattle.std.proofs.Common.{◌≡◌, ◌≢◌, ◌<◌, ℕ, pos, ◌+◌, ◌==◌, List, [], ◌∷◌, ◌++◌, length, Option, None, Some, true, false, refl, ap, ◌∙◌, sym, subst, arith}
use Rattle.std.proofs.lemmas.List.{length-append}
use Rattle.std.proofs.lemmas.Bool.Decides.{nat_tests}
use Rattle.tx_model.specs.declared.error.Error.TheVariants.{InvalidCharacter}
use Rattle.tx_model.specs.Tokens.{Token, Name}
use Rattle.tx_model.specs.Scanner.{Rest, Gives, Used, Halts, scanned}
use Rattle.tx_model.specs.Pending.{Member, Single, Text, next}
use Rattle.tx_model.specs.World.{failure, Takes, Finds-none, Spends, Breaks, taking}
use Rattle.tx_tok.specs.declared.tok.Tok.{Tok}
use Rattle.tx_tok.specs.declared.tok.Tok.TheVariants as tok
use Rattle.tx_tok.specs.Tokens.{token_in}
use Rattle.tx_scan.specs.Scans.{category_by}
use Rattle.tx_names.specs.Names.{Names, Naming, Agrees, HasNumber, number_of, with_text}
use Rattle.tx_names.proofs.TextLemmas.{at_number}
use Rattle.tx_gullet.specs.declared.input.Lists.{Lists}
use Rattle.tx_gullet.specs.declared.meaning.Meaning.{Meaning}
use Rattle.tx_gullet.specs.declared.meaning.Meaning.TheVariants as meaning
use Rattle.tx_gullet.specs.declared.equivalents.Save.{Save}
use Rattle.tx_gullet.specs.declared.equivalents.Save.TheVariants as save
use Rattle.tx_gullet.specs.declared.scene.Scene.{Scene}
use Rattle.tx_gullet.specs.declared.scene.Taken.{Taken}
use Rattle.tx_gullet.specs.declared.scene.Taken.TheVariants as taken
use Rattle.tx_gullet.specs.Meanings.{IsKnown, AreKnown, KnowsMeaning}
use Rattle.tx_gullet.specs.Levels.{meaning_by, KnowsSave}
use Rattle.tx_gullet.specs.Pieces.{pieces}
use Rattle.tx_gullet.specs.Scenes.{world_of, IsSound, KnowsTaken, present, one_more, TakesBy, AfterStep, AfterName, Grows}
use Rattle.tx_gullet.proofs.LevelLemmas.{all-more}

-- a list has the next token
pub step-of-lists : (naming : Naming) (old new : Scene) (lists : Lists) (token : Tok) (t : Taken) → pieces naming old.lists (Text old.scanner ∷ []) ≡ Single (token_in naming token) false ∷ pieces naming lists (Text old.scanner ∷ []) → AfterStep (record old { lists = lists }) token t new → TakesBy naming old t new
unfolding next
step-of-lists naming old new lists token (taken.Token t) e h =
    let more : (old.steps.spent == old.steps.budget) ≡ false = grind (arith, nat_tests, h) in
    let now : taking (world_of naming old) ≡ Takes (present naming (one_more (record old { lists = lists })) token) (world_of naming (one_more (record old { lists = lists }))) = rw (e, more) refl in
    subst (λ s. taking (world_of naming old) ≡ Takes (present naming s t) (world_of naming s)) (sym h.2)
    (subst (λ x. taking (world_of naming old) ≡ Takes (present naming (one_more (record old { lists = lists })) x) (world_of naming (one_more (record old { lists = lists })))) (sym h.0) now)
step-of-lists naming old new lists token taken.Spent e h =
    let over : (old.steps.spent == old.steps.budget) ≡ true = grind (arith, nat_tests, h) in
    let now : taking (world_of naming old) ≡ Spends (world_of naming old).output = rw (e, over) refl in
    subst (λ s. taking (world_of naming old) ≡ Spends (world_of naming s).output) (sym h.1) now
step-of-lists naming old new lists token taken.End e h = absurd h
step-of-lists naming old new lists token taken.Invalid e h = absurd h
step-of-lists naming old new lists token taken.Memory e h = absurd h

-- no list has a token left
abbrev pub IsPassed : Naming → Lists → Type 0
IsPassed naming lists = (behind : List Member) → pieces naming lists behind ≡ behind

-- the text has the next token, a name's table being what it is afterwards
pub step-of-text : (naming : Naming) (old new : Scene) (table : Names) (rest : Rest) (token : Tok) (t : Taken) → scanned (category_by old.equivalents.cats) (pos 13) old.scanner ≡ Gives (token_in naming token) rest → AfterStep (record old { scanner = rest; names = table }) token t new → IsPassed naming old.lists → TakesBy naming old t new
unfolding next
step-of-text naming old new table rest token (taken.Token t) found h passed =
    let more : (old.steps.spent == old.steps.budget) ≡ false = grind (arith, nat_tests, h) in
    let before = passed (Text old.scanner ∷ []) in
    let after = passed (Text rest ∷ []) in
    let now : taking (world_of naming old) ≡ Takes (present naming (one_more (record old { scanner = rest; names = table })) token) (world_of naming (one_more (record old { scanner = rest; names = table }))) = rw (before, found, more, after) refl in
    subst (λ s. taking (world_of naming old) ≡ Takes (present naming s t) (world_of naming s)) (sym h.2)
    (subst (λ x. taking (world_of naming old) ≡ Takes (present naming (one_more (record old { scanner = rest; names = table })) x) (world_of naming (one_more (record old { scanner = rest; names = table })))) (sym h.0) now)
step-of-text naming old new table rest token taken.Spent found h passed =
    let over : (old.steps.spent == old.steps.budget) ≡ true = grind (arith, nat_tests, h) in
    let before = passed (Text old.scanner ∷ []) in
    let now : taking (world_of naming old) ≡ Spends (world_of naming old).output = rw (before, found, over) refl in
    subst (λ s. taking (world_of naming old) ≡ Spends (world_of naming s).output) (sym h.1) now
step-of-text naming old new table rest token taken.End found h passed = absurd h
step-of-text naming old new table rest token taken.Invalid found h passed = absurd h
step-of-text naming old new table rest token taken.Memory found h passed = absurd h

-- the text has a token next, and no step is left
spent-of-text : (naming : Naming) (old new : Scene) (rest : Rest) (token : Token) → scanned (category_by old.equivalents.cats) (pos 13) old.scanner ≡ Gives token rest → (old.steps.spent ≡ old.steps.budget) × (new ≡ record old { scanner = rest }) → IsPassed naming old.lists → taking (world_of naming old) ≡ Spends (world_of naming new).output
unfolding next
spent-of-text naming old new rest token found h passed =
    let over : (old.steps.spent == old.steps.budget) ≡ true = grind (arith, nat_tests, h) in
    let before = passed (Text old.scanner ∷ []) in
    let now : taking (world_of naming old) ≡ Spends (world_of naming old).output = rw (before, found, over) refl in
    subst (λ s. taking (world_of naming old) ≡ Spends (world_of naming s).output) (sym h.1) now

-- the text has a name next
pub name-of-text : (naming : Naming) (old new : Scene) (rest : Rest) (text : List ℕ) (t : Taken) → scanned (category_by old.equivalents.cats) (pos 13) old.scanner ≡ Gives (Name text) rest → AfterName (record old { scanner = rest }) text t new → Agrees naming new.names → Agrees naming old.names × (IsPassed naming old.lists → TakesBy naming old t new)
name-of-text naming old new rest text (taken.Token t) found h agrees = (
  (h.2.agrees naming agrees).1,
  λ passed.
      step-of-text naming old new new.names rest (tok.Name h.0) (taken.Token t)
      (found ∙ ap (λ x. Gives (Name x) rest) (sym (h.2.agrees naming agrees).0))
      (h.1, h.2.has_step, h.2.becomes)
      passed,
)
name-of-text naming old new rest text taken.Spent found h agrees = (
  subst (λ s. Agrees naming s.names) h.1 agrees,
  λ passed. spent-of-text naming old new rest (Name text) found h passed,
)
name-of-text naming old new rest text taken.Memory found h agrees = (subst (Agrees naming) h agrees, λ passed. tt)
name-of-text naming old new rest text taken.End found h agrees = absurd h
name-of-text naming old new rest text taken.Invalid found h agrees = absurd h

pub text-used : (naming : Naming) (old : Scene) (rest : Rest) → scanned (category_by old.equivalents.cats) (pos 13) old.scanner ≡ Used rest → IsPassed naming old.lists → taking (world_of naming old) ≡ Finds-none (world_of naming (record old { scanner = rest }))
unfolding next
text-used naming old rest found passed =
    let before = passed (Text old.scanner ∷ []) in
    let after = passed (Text rest ∷ []) in
    rw (before, found, after) refl

pub text-halts : (naming : Naming) (old : Scene) (rest : Rest) → scanned (category_by old.equivalents.cats) (pos 13) old.scanner ≡ Halts rest → IsPassed naming old.lists → taking (world_of naming old) ≡ Breaks (failure InvalidCharacter (world_of naming (record old { scanner = rest })))
unfolding next
text-halts naming old rest found passed =
    let before = passed (Text old.scanner ∷ []) in
    let after = passed (Text rest ∷ []) in
    rw (before, found, after) refl

-- What is known stays known where the table grows.
pub known-more : (old new : Names) → Grows old new → (t : Tok) → IsKnown old t → IsKnown new t
known-more old new grows (tok.Name n) k = grows n k
known-more old new grows (tok.Char c b) k = tt
known-more old new grows (tok.Active b) k = tt
known-more old new grows (tok.Param n) k = tt
known-more old new grows tok.Stop k = tt

pub are-known-more : (old new : Names) → Grows old new → (tokens : List Tok) → AreKnown old tokens → AreKnown new tokens
are-known-more old new grows tokens all = all-more (IsKnown old) (IsKnown new) tokens (known-more old new grows) all

meaning-more : (old new : Names) → Grows old new → (m : Meaning) → KnowsMeaning old m → KnowsMeaning new m
meaning-more old new grows (meaning.Macro list) k = are-known-more old new grows list.value.items k
meaning-more old new grows meaning.Undefined k = tt
meaning-more old new grows (meaning.Primitive p) k = tt
meaning-more old new grows (meaning.Character c b) k = tt

save-more : (old new : Names) → Grows old new → (x : Save) → KnowsSave old x → KnowsSave new x
save-more old new grows save.Group k = tt
save-more old new grows (save.Name n m) k = meaning-more old new grows m k

pub sound-more : (s : Scene) (table : Names) → Grows s.names table → IsSound s → IsSound (record s { names = table })
sound-more s table grows sound = record {
  equivalents = record {
    cells = λ n. meaning-more s.names table grows (meaning_by s.equivalents.names.entries n) (sound.equivalents.cells n);
    saves = all-more (KnowsSave s.names) (KnowsSave table) s.equivalents.saves.items (save-more s.names table grows) sound.equivalents.saves;
    has_cells = sound.equivalents.has_cells;
  };
  lists = record {
    list = are-known-more s.names table grows s.lists.list.value.items sound.lists.list;
    later = all-more (λ l. AreKnown s.names l.list.value.items) (λ l. AreKnown table l.list.value.items) s.lists.later.items (λ l. are-known-more s.names table grows l.list.value.items) sound.lists.later;
  };
}

-- a step changes nothing of what is known
pub sound-stepped : (old new : Scene) (token : Tok) (t : Taken) → AfterStep old token t new → IsSound old → IsSound new
sound-stepped old new token (taken.Token t) h sound = subst IsSound (sym h.2) (record { equivalents = record { cells = sound.equivalents.cells; saves = sound.equivalents.saves; has_cells = sound.equivalents.has_cells }; lists = record { list = sound.lists.list; later = sound.lists.later } })
sound-stepped old new token taken.Spent h sound = subst IsSound (sym h.1) sound
sound-stepped old new token taken.End h sound = absurd h
sound-stepped old new token taken.Invalid h sound = absurd h
sound-stepped old new token taken.Memory h sound = absurd h

pub known-stepped : (old new : Scene) (token : Tok) (t : Taken) → AfterStep old token t new → IsKnown old.names token → KnowsTaken new.names t
known-stepped old new token (taken.Token t) h k = subst (λ s. IsKnown s.names t) (sym h.2) (subst (IsKnown old.names) (sym h.0) k)
known-stepped old new token taken.Spent h k = tt
known-stepped old new token taken.End h k = tt
known-stepped old new token taken.Invalid h k = tt
known-stepped old new token taken.Memory h k = tt

pub agrees-stepped : (naming : Naming) (old new : Scene) (token : Tok) (t : Taken) → AfterStep old token t new → Agrees naming new.names → Agrees naming old.names
agrees-stepped naming old new token (taken.Token t) h agrees = subst (λ s. Agrees naming s.names) h.2 agrees
agrees-stepped naming old new token taken.Spent h agrees = subst (λ s. Agrees naming s.names) h.1 agrees
agrees-stepped naming old new token taken.End h agrees = absurd h
agrees-stepped naming old new token taken.Invalid h agrees = absurd h
agrees-stepped naming old new token taken.Memory h agrees = absurd h

-- the table after a name was made has all numbers that it had
pub grows-by-intern : (old new : Names) (text : List ℕ) → (number_of old text ≢ None → new ≡ old) → (number_of old text ≡ None → new ≡ with_text text old) → Grows old new
grows-by-intern old new text present absent = by-number (number_of old text) refl
  where
    by-number : (o : Option ℕ) → number_of old text ≡ o → Grows old new
    by-number None e n has =
        subst (λ t. HasNumber t n) (sym (absent e)) (has.0, longer n has.1)
      where
        longer : (k : ℕ) → k < old.first + length old.texts → k < old.first + length (old.texts ++ text ∷ [])
        longer k less =
            let more : length (old.texts ++ text ∷ []) ≡ length old.texts + 1 = length-append old.texts (text ∷ []) in
            omega arith
    by-number (Some m) e n has =
        subst (λ t. HasNumber t n) (sym (present (λ none. cc))) has

-- a name that was made, and the step that was spent for it
pub name-stepped : (old new : Scene) (table : Names) (text : List ℕ) (n : ℕ) (t : Taken) → old.steps.spent ≢ old.steps.budget → number_of table text ≡ Some n → Grows old.names table → ((naming : Naming) → Agrees naming table → (naming n ≡ text) × Agrees naming old.names) → AfterStep (record old { names = table }) (tok.Name n) t new → AfterName old text t new
name-stepped old new table text n (taken.Token t) left number grows agrees h = (
  n,
  h.0,
  record {
    has_step = left;
    becomes = h.2 ∙ ap (λ x. one_more (record old { names = x })) (sym same);
    number = subst (λ x. HasNumber x n) (sym same) (at_number table text n number).0;
    grows = subst (Grows old.names) (sym same) grows;
    agrees = λ naming a. agrees naming (subst (Agrees naming) same a);
  },
)
  where
    same : new.names ≡ table
    same = ap (λ s. s.names) h.2
name-stepped old new table text n taken.Spent left number grows agrees h = absurd (left h.0)
name-stepped old new table text n taken.End left number grows agrees h = absurd h
name-stepped old new table text n taken.Invalid left number grows agrees h = absurd h
name-stepped old new table text n taken.Memory left number grows agrees h = absurd h

-- what is taken depends on the world alone
pub takes-before : (naming : Naming) (old mid : Scene) (t : Taken) (new : Scene) → world_of naming old ≡ world_of naming mid → TakesBy naming mid t new → TakesBy naming old t new
takes-before naming old mid (taken.Token t) new same h = ap taking same ∙ h
takes-before naming old mid taken.Spent new same h = ap taking same ∙ h
takes-before naming old mid taken.End new same h = ap taking same ∙ h
takes-before naming old mid taken.Invalid new same h = ap taking same ∙ h
takes-before naming old mid taken.Memory new same h = tt
