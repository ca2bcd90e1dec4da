-- What was before anything was saved, and how it is given back.
use Rattle.std.proofs.Common.{◌≡◌, ◌≢◌, ◌+◌, ◌≤◌, ℕ, Bool, true, false, cond, ◌<◌, List, [], ◌∷◌, ◌++◌, length, reverse, Option, None, Some, refl, sym, ◌∙◌, ap, subst, nat_eq, arith}
use mathlib.Core.Path.{fun_ext}
use Rattle.std.specs.Prelude.{IsSome}
use Rattle.std.specs.List.{AllByRecursion, AllZip}
use Rattle.std.specs.Map.{lookup}
use Rattle.std.specs.Str.{bytes_eq}
use Rattle.std.specs.Cmp.Lexicographic.{same_text}
use Rattle.std.proofs.lemmas.Bool.Decides.{nat_tests}
use Rattle.std.proofs.lemmas.List.{length-append}
use Rattle.indexmap.specs.IndexMap.{insert_entry}
use Rattle.tx_model.specs.Environment.{Map, Environment, Address, OfName, OfActive, OfCategory, OfParameter, ending_group, open_groups}
use Rattle.tx_model.specs.Region.{outermost}
use Rattle.tx_names.specs.Names.{Names, Naming, KeepsApart}
use Rattle.tx_scan.specs.declared.cats.Cats.{Cats}
use Rattle.tx_gullet.specs.declared.meaning.Meaning.{Meaning}
use Rattle.tx_gullet.specs.declared.equivalents.Save.{Save}
use Rattle.tx_gullet.specs.declared.equivalents.Save.TheVariants as save
use Rattle.tx_gullet.specs.declared.equivalents.Equivalents.{Equivalents}
use Rattle.tx_gullet.specs.Meanings.{meaning_in, KnowsMeaning, IsSameMeaning}
use Rattle.tx_gullet.specs.Levels.{Cells, or_undefined, map_of, below, with_cell, before_of, meaning_by, with_meaning, undone, HasCell, KeepsBefore, if_ended}
use Rattle.tx_gullet.proofs.LevelLemmas.{lookup-by-name, reverse-last, all-append, all-more, all-before-last}

-- what a number finds in cells after one was written
pub number-written : (k n : ℕ) (m : Meaning) (cells : Cells) → lookup (nat_eq k) (with_cell cells n m) ≡ cond (nat_eq k n) (Some m) (lookup (nat_eq k) cells)
number-written k n m [] = refl
number-written k n m (cell ∷ cells) = by-number (number-written k n m cells) (nat_eq n cell.0) refl
  where
    found : Cells → Option Meaning
    found es = lookup (nat_eq k) es

    by-both : (s t : Bool) → nat_eq k n ≡ s → nat_eq k cell.0 ≡ t → n ≢ cell.0 → cond t (Some cell.1) (cond s (Some m) (found cells)) ≡ cond s (Some m) (cond t (Some cell.1) (found cells))
    by-both true true d e other =
        let none : ⊥ = grind (arith, nat_tests) in
        absurd none
    by-both true false d e other = refl
    by-both false true d e other = refl
    by-both false false d e other = refl

    by-same : (s : Bool) → cond s (Some m) (found cells) ≡ cond s (Some m) (cond s (Some cell.1) (found cells))
    by-same true = refl
    by-same false = refl

    by-number : found (with_cell cells n m) ≡ cond (nat_eq k n) (Some m) (found cells) → (t : Bool) → nat_eq n cell.0 ≡ t → found (cond t ((cell.0, m) ∷ cells) (cell ∷ insert_entry nat_eq cells n m)) ≡ cond (nat_eq k n) (Some m) (found (cell ∷ cells))
    by-number rest true e =
        let same : n ≡ cell.0 = grind (arith, nat_tests) in
        subst (λ j. cond (nat_eq k cell.0) (Some m) (found cells) ≡ cond (nat_eq k j) (Some m) (found (cell ∷ cells))) (sym same) (by-same (nat_eq k cell.0))
    by-number rest false e =
        let other : n ≢ cell.0 = grind (arith, nat_tests) in
        ap (λ o. cond (nat_eq k cell.0) (Some cell.1) o) rest
        ∙ by-both (nat_eq k n) (nat_eq k cell.0) refl refl other

pub meaning-written : (n : ℕ) (m : Meaning) (cells : Cells) → meaning_by (with_cell cells n m) ≡ with_meaning n m (meaning_by cells)
meaning-written n m cells = fun_ext (λ k. ap before_of (number-written k n m cells) ∙ either (nat_eq k n) (lookup (nat_eq k) cells))
  where
    either : (t : Bool) (o : Option Meaning) → before_of (cond t (Some m) o) ≡ cond t m (before_of o)
    either true o = refl
    either false o = refl

-- a number is given the meaning again that it had
given-again : (n : ℕ) (m : Meaning) (means : ℕ → Meaning) → with_meaning n (means n) (with_meaning n m means) ≡ means
given-again n m means = fun_ext (λ k. by-test k (nat_eq k n) refl)
  where
    by-test : (k : ℕ) (t : Bool) → nat_eq k n ≡ t → cond t (means n) (cond t m (means k)) ≡ means k
    by-test k true e =
        let same : n ≡ k = grind (arith, nat_tests) in
        ap means same
    by-test k false e = refl

-- what was before stays where a cell is written and what it had is saved
pub before-defined : (cells new : Cells) (saves more : List Save) (n : ℕ) (m was : Meaning) → new ≡ with_cell cells n m → more ≡ saves ++ save.Name n was ∷ [] → was ≡ before_of (lookup (nat_eq n) cells) → undone (meaning_by new) (reverse more) ≡ undone (meaning_by cells) (reverse saves)
before-defined cells new saves more n m was written last had =
    ap (λ cs. undone (meaning_by cs) (reverse more)) written
    ∙ ap (undone (meaning_by (with_cell cells n m))) (ap reverse last ∙ reverse-last saves (save.Name n was))
    ∙ ap (λ means. undone (with_meaning n was means) (reverse saves)) (meaning-written n m cells)
    ∙ ap (λ x. undone (with_meaning n x (with_meaning n m (meaning_by cells))) (reverse saves)) had
    ∙ ap (λ means. undone means (reverse saves)) (given-again n m (meaning_by cells))

-- and where a saved meaning is given back
pub before-restored : (cells new : Cells) (saves rest left : List Save) (x : Save) (n : ℕ) (m : Meaning) → new ≡ with_cell cells n m → left ≡ rest → saves ≡ rest ++ x ∷ [] → x ≡ save.Name n m → undone (meaning_by new) (reverse left) ≡ undone (meaning_by cells) (reverse saves)
before-restored cells new saves rest left x n m written kept last is =
    ap (λ cs. undone (meaning_by cs) (reverse left)) written
    ∙ ap (λ s. undone (meaning_by (with_cell cells n m)) (reverse s)) kept
    ∙ ap (λ means. undone means (reverse rest)) (meaning-written n m cells)
    ∙ sym (ap (undone (meaning_by cells)) (ap reverse (last ∙ ap (λ y. rest ++ y ∷ []) is) ∙ reverse-last rest (save.Name n m)))

-- Numbers that have cells keep them.
cell-stays : (cells : Cells) (n : ℕ) (m : Meaning) (x : Save) → HasCell cells x → HasCell (with_cell cells n m) x
cell-stays cells n m save.Group h = tt
cell-stays cells n m (save.Name k old) h = subst (λ o. IsSome o) (sym (number-written k n m cells)) (by-test (nat_eq k n))
  where
    by-test : (t : Bool) → IsSome (cond t (Some m) (lookup (nat_eq k) cells))
    by-test true = refl
    by-test false = h

pub cells-stay : (cells new : Cells) (n : ℕ) (m : Meaning) (saves : List Save) → new ≡ with_cell cells n m → AllByRecursion (HasCell cells) saves → AllByRecursion (HasCell new) saves
cells-stay cells new n m saves written all =
    subst (λ cs. AllByRecursion (HasCell cs) saves) (sym written) (all-more (HasCell cells) (HasCell (with_cell cells n m)) saves (cell-stays cells n m) all)

-- and the number of the one that is written gets one
pub cell-written : (cells new : Cells) (n : ℕ) (m was : Meaning) → new ≡ with_cell cells n m → HasCell new (save.Name n was)
cell-written cells new n m was written =
    let same : nat_eq n n ≡ true = grind (arith, nat_tests) in
    ap (λ cs. is-some (lookup (nat_eq n) cs)) written ∙ ap is-some (number-written n n m cells ∙ ap (λ t. cond t (Some m) (lookup (nat_eq n) cells)) same)
  where
    is-some : Option Meaning → Bool
    is-some None = false
    is-some (Some x) = true

-- what holds of what all numbers mean
pub all-written : (P : Meaning → Type 0) (cells new : Cells) (n : ℕ) (m : Meaning) → new ≡ with_cell cells n m → ((k : ℕ) → P (meaning_by cells k)) → P m → (k : ℕ) → P (meaning_by new k)
all-written P cells new n m written all one k =
    subst P (sym (ap (λ cs. meaning_by cs k) written ∙ ap (λ means. means k) (meaning-written n m cells))) (by-test (nat_eq k n))
  where
    by-test : (t : Bool) → P (cond t m (meaning_by cells k))
    by-test true = one
    by-test false = all k

-- Nothing was changed, or one change came after another.
pub keeps-same : (old new : Equivalents) → new.cats ≡ old.cats → new.names.entries ≡ old.names.entries → new.saves.items ≡ old.saves.items → KeepsBefore old new
keeps-same old new cats cells saves = record {
  cats = cats;
  before = ap (λ cs. undone (meaning_by cs) (reverse new.saves.items)) cells ∙ ap (λ s. undone (meaning_by old.names.entries) (reverse s)) saves;
  has_cells = λ h. subst (λ s. AllByRecursion (HasCell new.names.entries) s) (sym saves) (subst (λ cs. AllByRecursion (HasCell cs) old.saves.items) (sym cells) h);
}

pub keeps-through : (old mid new : Equivalents) → KeepsBefore old mid → KeepsBefore mid new → KeepsBefore old new
keeps-through old mid new e f = record {
  cats = f.cats ∙ e.cats;
  before = f.before ∙ e.before;
  has_cells = λ h. f.has_cells (e.has_cells h);
}

-- a definition
pub keeps-defined : (old new : Equivalents) (n : ℕ) (m was : Meaning) → new.cats ≡ old.cats → new.names.entries ≡ with_cell old.names.entries n m → new.saves.items ≡ old.saves.items ++ save.Name n was ∷ [] → was ≡ before_of (lookup (nat_eq n) old.names.entries) → KeepsBefore old new
keeps-defined old new n m was cats written last had = record {
  cats = cats;
  before = before-defined old.names.entries new.names.entries old.saves.items new.saves.items n m was written last had;
  has_cells = λ h. subst (AllByRecursion (HasCell new.names.entries)) (sym last)
      (all-append (HasCell new.names.entries) old.saves.items (save.Name n was ∷ []) (cells-stay old.names.entries new.names.entries n m old.saves.items written h) (cell-written old.names.entries new.names.entries n m was written, tt));
}

-- a saved meaning that is given back
pub keeps-restored : (old new : Equivalents) (rest : List Save) (x : Save) (n : ℕ) (m : Meaning) → new.cats ≡ old.cats → new.names.entries ≡ with_cell old.names.entries n m → new.saves.items ≡ rest → old.saves.items ≡ rest ++ x ∷ [] → x ≡ save.Name n m → KeepsBefore old new
keeps-restored old new rest x n m cats written kept last is = record {
  cats = cats;
  before = before-restored old.names.entries new.names.entries old.saves.items rest new.saves.items x n m written kept last is;
  has_cells = λ h. cells-stay old.names.entries new.names.entries n m new.saves.items written (subst (AllByRecursion (HasCell old.names.entries)) (sym kept) (all-before-last (HasCell old.names.entries) old.saves.items rest x last h));
}

-- one element less
pub one-fewer : {X : Type 0} (xs rest left : List X) (x : X) (n : ℕ) → xs ≡ rest ++ x ∷ [] → left ≡ rest → length xs ≤ n → length left ≤ n
one-fewer xs rest left x n last kept most =
    let long : length xs ≡ length rest + 1 = ap length last ∙ length-append rest (x ∷ []) in
    let same : length left ≡ length rest = ap length kept in
    omega arith

-- where a group is open, something is saved
pub saved-where-open : (naming : Naming) (cats : Cats) (cells : Cells) (saves : List Save) → 0 < open_groups (map_of naming cats cells ∷ below naming cats cells (reverse saves)) → 0 < length saves
saved-where-open naming cats cells [] opened = absurd (omega arith)
saved-where-open naming cats cells (x ∷ saves) opened = omega arith

-- The map depends on the cells by what each number means.
name-means : (naming : Naming) (n : ℕ) (cells : Cells) → KeepsApart naming → or_undefined naming (lookup (λ k. bytes_eq (naming n) (naming k)) cells) ≡ meaning_in naming (meaning_by cells n)
name-means naming n cells apart = ap (or_undefined naming) (lookup-by-name naming cells n apart) ∙ of-option (lookup (nat_eq n) cells)
  where
    of-option : (o : Option Meaning) → or_undefined naming o ≡ meaning_in naming (before_of o)
    of-option None = refl
    of-option (Some x) = refl

found-name : (naming : Naming) (text : List ℕ) (cells : Cells) (m : Meaning) → lookup (λ k. bytes_eq text (naming k)) cells ≡ Some m → (n : ℕ) × (text ≡ naming n)
found-name naming text [] m e = cc
found-name naming text (cell ∷ cells) m e = by-test (found-name naming text cells m) (bytes_eq text (naming cell.0)) refl e
  where
    by-test : (lookup (λ k. bytes_eq text (naming k)) cells ≡ Some m → (n : ℕ) × (text ≡ naming n)) → (t : Bool) → bytes_eq text (naming cell.0) ≡ t → cond t (Some cell.1) (lookup (λ k. bytes_eq text (naming k)) cells) ≡ Some m → (n : ℕ) × (text ≡ naming n)
    by-test rest true is e = (cell.0, same_text text (naming cell.0) (sym is))
    by-test rest false is e = rest e

pub map-by-meanings : (naming : Naming) (cats : Cats) (a b : Cells) → KeepsApart naming → meaning_by a ≡ meaning_by b → map_of naming cats a ≡ map_of naming cats b
map-by-meanings naming cats a b apart same = fun_ext at-address
  where
    at-number : (n : ℕ) (text : List ℕ) → text ≡ naming n → map_of naming cats a (OfName text) ≡ map_of naming cats b (OfName text)
    at-number n text is =
        subst (λ t. map_of naming cats a (OfName t) ≡ map_of naming cats b (OfName t)) (sym is)
        (name-means naming n a apart ∙ ap (λ means. meaning_in naming (means n)) same ∙ sym (name-means naming n b apart))

    by-found : (text : List ℕ) (o p : Option Meaning) → lookup (λ k. bytes_eq text (naming k)) a ≡ o → lookup (λ k. bytes_eq text (naming k)) b ≡ p → map_of naming cats a (OfName text) ≡ map_of naming cats b (OfName text)
    by-found text None None d e = ap (or_undefined naming) (d ∙ sym e)
    by-found text (Some m) p d e = let at = found-name naming text a m d in at-number at.0 text at.1
    by-found text None (Some m) d e = let at = found-name naming text b m e in at-number at.0 text at.1

    at-address : (a' : Address) → map_of naming cats a a' ≡ map_of naming cats b a'
    at-address (OfName text) = by-found text (lookup (λ k. bytes_eq text (naming k)) a) (lookup (λ k. bytes_eq text (naming k)) b) refl refl
    at-address (OfActive b) = refl
    at-address (OfCategory b) = refl
    at-address (OfParameter p) = refl

-- the outermost map stays where a group ends, and is the only one where none is open
pub outermost-ended : (map : Map) (maps after : Environment) (ended : Bool) → 0 < open_groups maps → ending_group maps ≡ if_ended ended after → outermost map after ≡ outermost map maps
outermost-ended map [] after ended opened e = absurd (omega arith)
outermost-ended map (m ∷ []) after ended opened e = absurd (omega arith)
outermost-ended map (m ∷ n ∷ maps) after true opened e =
    let same : n ∷ maps ≡ after = cc in
    ap (outermost map) (sym same)
outermost-ended map (m ∷ n ∷ maps) after false opened e = cc

pub outermost-alone : (map m : Map) (maps : Environment) → open_groups (m ∷ maps) ≡ 0 → outermost map (m ∷ maps) ≡ m
outermost-alone map m [] none = refl
outermost-alone map m (n ∷ maps) none =
    let no : ⊥ = omega arith in
    absurd no

-- What clones of cells say.
abbrev AreClones : Cells → Cells → Type 0
AreClones cells copy = AllZip (λ p q. (q.0 ≡ p.0) × IsSameMeaning p.1 q.1) cells copy

pub map-cloned : (naming : Naming) (cats : Cats) (cells copy : Cells) → AreClones cells copy → map_of naming cats copy ≡ map_of naming cats cells
map-cloned naming cats cells copy clones = fun_ext at-address
  where
    found : List ℕ → Cells → Option Meaning
    found text es = lookup (λ k. bytes_eq text (naming k)) es

    by-test : (s t : Bool) (m n : Meaning) (o p : Option Meaning) → t ≡ s → IsSameMeaning m n → or_undefined naming p ≡ or_undefined naming o → or_undefined naming (cond t (Some n) p) ≡ or_undefined naming (cond s (Some m) o)
    by-test s true m n o p e same rest = subst (λ b. meaning_in naming n ≡ or_undefined naming (cond b (Some m) o)) e (same.same naming)
    by-test s false m n o p e same rest = subst (λ b. or_undefined naming p ≡ or_undefined naming (cond b (Some m) o)) e rest

    at-name : (text : List ℕ) (es fs : Cells) → AreClones es fs → or_undefined naming (found text fs) ≡ or_undefined naming (found text es)
    at-name text [] [] zip = refl
    at-name text [] (y ∷ ys) zip = absurd zip
    at-name text (x ∷ xs) [] zip = absurd zip
    at-name text (x ∷ xs) (y ∷ ys) zip =
        by-test (bytes_eq text (naming x.0)) (bytes_eq text (naming y.0)) x.1 y.1 (found text xs) (found text ys) (ap (λ k. bytes_eq text (naming k)) zip.0.0) zip.0.1 (at-name text xs ys zip.1)

    at-address : (a : Address) → map_of naming cats copy a ≡ map_of naming cats cells a
    at-address (OfName text) = at-name text cells copy clones
    at-address (OfActive b) = refl
    at-address (OfCategory b) = refl
    at-address (OfParameter p) = refl

pub knows-cloned : (names : Names) (cells copy : Cells) → AreClones cells copy → (n : ℕ) → KnowsMeaning names (meaning_by cells n) → KnowsMeaning names (meaning_by copy n)
knows-cloned names [] [] zip n knows = knows
knows-cloned names [] (y ∷ ys) zip n knows = absurd zip
knows-cloned names (x ∷ xs) [] zip n knows = absurd zip
knows-cloned names (x ∷ xs) (y ∷ ys) zip n knows = by-test (knows-cloned names xs ys zip.1 n) (nat_eq n x.0) (nat_eq n y.0) (ap (nat_eq n) zip.0.0) knows
  where
    by-test : (KnowsMeaning names (meaning_by xs n) → KnowsMeaning names (meaning_by ys n)) → (s t : Bool) → t ≡ s → KnowsMeaning names (before_of (cond s (Some x.1) (lookup (nat_eq n) xs))) → KnowsMeaning names (before_of (cond t (Some y.1) (lookup (nat_eq n) ys)))
    by-test rest true true e k = zip.0.1.knows names k
    by-test rest false false e k = rest k
    by-test rest true false e k = cc
    by-test rest false true e k = cc
