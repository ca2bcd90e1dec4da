-- Cells by numbers, and the maps of names that they stand for.
use Rattle.std.proofs.Common.{◌≡◌, ◌≢◌, ℕ, suc, ◌+◌, ◌-◌, Bool, true, false, cond, ◌≤◌, List, [], ◌∷◌, ◌++◌, length, drop, reverse, Option, None, Some, refl, sym, ◌∙◌, ap, subst, nat_eq, arith}
use mathlib.Core.Path.{fun_ext}
use Rattle.std.specs.List.{AllByRecursion}
use Rattle.std.specs.Map.{lookup}
use Rattle.std.specs.Str.{bytes_eq}
use Rattle.std.specs.Cmp.Lexicographic.{same_text, other_text}
use Rattle.std.proofs.lemmas.Bool.Decides.{nat_tests}
use Rattle.std.proofs.lemmas.List.{reverse-append}
use Rattle.std.proofs.Math.ListN.{drop_of_length-le}
use Rattle.indexmap.specs.IndexMap.{insert_entry}
use Rattle.tx_model.specs.Environment.{Map, Environment, Address, OfName, OfActive, OfCategory, OfParameter, with_name, open_groups}
use Rattle.tx_model.specs.Environment as environment
use Rattle.tx_names.specs.Names.{Naming, KeepsApart}
use Rattle.tx_scan.specs.declared.cats.Cats.{Cats}
use Rattle.tx_gullet.specs.declared.meaning.Meaning.{Meaning}
use Rattle.tx_gullet.specs.declared.equivalents.Save.{Save}
use Rattle.tx_gullet.specs.declared.equivalents.Save.TheVariants as save
use Rattle.tx_gullet.specs.declared.equivalents.Equivalents.{Equivalents}
use Rattle.tx_gullet.specs.Meanings.{meaning_in}
use Rattle.tx_gullet.specs.Levels.{Cells, or_undefined, map_of, with_cell, below, levels, marks, before_of}

-- a name stands at the numbers at which its number stands
numbers-test : (naming : Naming) (n m : ℕ) → KeepsApart naming → bytes_eq (naming n) (naming m) ≡ nat_eq n m
numbers-test naming n m apart = by-cases (bytes_eq (naming n) (naming m)) refl
  where
    by-cases : (t : Bool) → bytes_eq (naming n) (naming m) ≡ t → bytes_eq (naming n) (naming m) ≡ nat_eq n m
    by-cases true e =
        let same : n ≡ m = apart n m (same_text (naming n) (naming m) (sym e)) in
        let there : nat_eq n m ≡ true = grind (arith, nat_tests) in
        e ∙ sym there
    by-cases false e =
        let other : n ≢ m = λ s. other_text (naming n) (naming m) (sym e) (ap naming s) in
        let there : nat_eq n m ≡ false = grind (arith, nat_tests) in
        e ∙ sym there

pub lookup-by-name : (naming : Naming) (cells : Cells) (n : ℕ) → KeepsApart naming → lookup (λ m. bytes_eq (naming n) (naming m)) cells ≡ lookup (nat_eq n) cells
lookup-by-name naming cells n apart = ap (λ test. lookup test cells) (fun_ext (λ m. numbers-test naming n m apart))

-- what a text finds in cells after one was written
lookup-written : (naming : Naming) (text : List ℕ) (n : ℕ) (m : Meaning) (cells : Cells) → KeepsApart naming → lookup (λ k. bytes_eq text (naming k)) (with_cell cells n m) ≡ cond (bytes_eq text (naming n)) (Some m) (lookup (λ k. bytes_eq text (naming k)) cells)
lookup-written naming text n m [] apart = refl
lookup-written naming text n m (cell ∷ cells) apart = by-number (lookup-written naming text n m cells apart) (nat_eq n cell.0) refl
  where
    found : Cells → Option Meaning
    found es = lookup (λ k. bytes_eq text (naming k)) es

    by-both : (s t : Bool) → bytes_eq text (naming n) ≡ s → bytes_eq text (naming cell.0) ≡ t → n ≢ cell.0 → cond t (Some cell.1) (cond s (Some m) (found cells)) ≡ cond s (Some m) (cond t (Some cell.1) (found cells))
    by-both true true d e other = absurd (other (apart n cell.0 (sym (same_text text (naming n) (sym d)) ∙ same_text text (naming cell.0) (sym e))))
    by-both true false d e other = refl
    by-both false true d e other = refl
    by-both false false d e other = refl

    by-same : (s : Bool) → cond s (Some m) (found cells) ≡ cond s (Some m) (cond s (Some cell.1) (found cells))
    by-same true = refl
    by-same false = refl

    by-number : found (with_cell cells n m) ≡ cond (bytes_eq text (naming n)) (Some m) (found cells) → (t : Bool) → nat_eq n cell.0 ≡ t → found (cond t ((cell.0, m) ∷ cells) (cell ∷ insert_entry nat_eq cells n m)) ≡ cond (bytes_eq text (naming n)) (Some m) (found (cell ∷ cells))
    by-number rest true e =
        let same : n ≡ cell.0 = grind (arith, nat_tests) in
        subst (λ k. cond (bytes_eq text (naming cell.0)) (Some m) (found cells) ≡ cond (bytes_eq text (naming k)) (Some m) (found (cell ∷ cells))) (sym same) (by-same (bytes_eq text (naming cell.0)))
    by-number rest false e =
        let other : n ≢ cell.0 = grind (arith, nat_tests) in
        ap (λ o. cond (bytes_eq text (naming cell.0)) (Some cell.1) o) rest
        ∙ by-both (bytes_eq text (naming n)) (bytes_eq text (naming cell.0)) refl refl other

-- writing a cell gives its name the meaning
pub map-written : (naming : Naming) (cats : Cats) (cells : Cells) (n : ℕ) (m : Meaning) → KeepsApart naming → map_of naming cats (with_cell cells n m) ≡ with_name (naming n) (meaning_in naming m) (map_of naming cats cells)
map-written naming cats cells n m apart = fun_ext at-address
  where
    either : (t : Bool) (o : Option Meaning) → or_undefined naming (cond t (Some m) o) ≡ cond t (meaning_in naming m) (or_undefined naming o)
    either true o = refl
    either false o = refl

    at-address : (a : Address) → map_of naming cats (with_cell cells n m) a ≡ with_name (naming n) (meaning_in naming m) (map_of naming cats cells) a
    at-address (OfName text) =
        ap (or_undefined naming) (lookup-written naming text n m cells apart) ∙ either (bytes_eq text (naming n)) (lookup (λ k. bytes_eq text (naming k)) cells)
    at-address (OfActive b) = refl
    at-address (OfCategory b) = refl
    at-address (OfParameter p) = refl

-- the levels around depend on the cells by their map alone
below-by-map : (naming : Naming) (cats : Cats) (a b : Cells) (saves : List Save) → KeepsApart naming → map_of naming cats a ≡ map_of naming cats b → below naming cats a saves ≡ below naming cats b saves
below-by-map naming cats a b [] apart same = refl
below-by-map naming cats a b (save.Group ∷ saves) apart same =
    ap (λ map. map ∷ below naming cats a saves) same ∙ ap (λ maps. map_of naming cats b ∷ maps) (below-by-map naming cats a b saves apart same)
below-by-map naming cats a b (save.Name n m ∷ saves) apart same =
    below-by-map naming cats (with_cell a n m) (with_cell b n m) saves apart
    (map-written naming cats a n m apart ∙ ap (with_name (naming n) (meaning_in naming m)) same ∙ sym (map-written naming cats b n m apart))

-- what a name meant in a map where it is given that meaning again
again-in : (map : Map) (text : List ℕ) (meaning before : environment.Meaning) → map (OfName text) ≡ before → with_name text before (with_name text meaning map) ≡ map
again-in map text meaning before was = fun_ext at-address
  where
    by-test : (name : List ℕ) (t : Bool) → bytes_eq name text ≡ t → cond t before (cond t meaning (map (OfName name))) ≡ map (OfName name)
    by-test name true e = sym was ∙ ap (λ x. map (OfName x)) (sym (same_text name text (sym e)))
    by-test name false e = refl

    at-address : (a : Address) → with_name text before (with_name text meaning map) a ≡ map a
    at-address (OfName name) = by-test name (bytes_eq name text) refl
    at-address (OfActive b) = refl
    at-address (OfCategory b) = refl
    at-address (OfParameter p) = refl

-- the levels around stay where what a cell had is saved
pub below-saved : (naming : Naming) (cats : Cats) (cells : Cells) (n : ℕ) (m before : Meaning) (saves : List Save) → KeepsApart naming → before ≡ before_of (lookup (nat_eq n) cells) → below naming cats (with_cell cells n m) (save.Name n before ∷ saves) ≡ below naming cats cells saves
below-saved naming cats cells n m before saves apart was =
    below-by-map naming cats (with_cell (with_cell cells n m) n before) cells saves apart
    (map-written naming cats (with_cell cells n m) n before apart ∙ ap (with_name (naming n) (meaning_in naming before)) (map-written naming cats cells n m apart) ∙ again-in (map_of naming cats cells) (naming n) (meaning_in naming m) (meaning_in naming before) had)
  where
    of-option : (o : Option Meaning) → or_undefined naming o ≡ meaning_in naming (before_of o)
    of-option None = refl
    of-option (Some x) = refl

    had : map_of naming cats cells (OfName (naming n)) ≡ meaning_in naming before
    had = ap (or_undefined naming) (lookup-by-name naming cells n apart) ∙ of-option (lookup (nat_eq n) cells) ∙ ap (meaning_in naming) (sym was)

-- a list with an element more, the last one first
pub reverse-last : {A : Type 0} (xs : List A) (x : A) → reverse (xs ++ x ∷ []) ≡ x ∷ reverse xs
reverse-last xs x = reverse-append xs (x ∷ [])

-- as many levels are around as groups were begun
pub length-below : (naming : Naming) (cats : Cats) (cells : Cells) (saves : List Save) → length (below naming cats cells saves) ≡ marks saves
length-below naming cats cells [] = refl
length-below naming cats cells (save.Group ∷ saves) =
    let e : suc (marks saves) ≡ marks saves + 1 = omega arith in
    ap suc (length-below naming cats cells saves) ∙ e
length-below naming cats cells (save.Name n m ∷ saves) = length-below naming cats (with_cell cells n m) saves

marks-append : (xs ys : List Save) → marks (xs ++ ys) ≡ marks xs + marks ys
marks-append [] ys =
    let e : marks ys ≡ 0 + marks ys = omega arith in
    e
marks-append (save.Group ∷ xs) ys =
    let e : marks xs + marks ys + 1 ≡ marks xs + 1 + marks ys = omega arith in
    ap (λ k. k + 1) (marks-append xs ys) ∙ e
marks-append (save.Name n m ∷ xs) ys = marks-append xs ys

pub marks-reverse : (xs : List Save) → marks (reverse xs) ≡ marks xs
marks-reverse [] = refl
marks-reverse (x ∷ xs) =
    ap marks (reverse-append (x ∷ []) xs) ∙ marks-append (reverse xs) (x ∷ []) ∙ ap (λ k. k + marks (x ∷ [])) (marks-reverse xs) ∙ by-first x
  where
    by-first : (y : Save) → marks xs + marks (y ∷ []) ≡ marks (y ∷ xs)
    by-first save.Group =
        let e : marks xs + (0 + 1) ≡ marks xs + 1 = omega arith in
        e
    by-first (save.Name n m) =
        let e : marks xs + 0 ≡ marks xs = omega arith in
        e

-- What holds of each element.
pub all-append : {X : Type 0} (P : X → Type 0) (xs ys : List X) → AllByRecursion P xs → AllByRecursion P ys → AllByRecursion P (xs ++ ys)
all-append P [] ys left right = right
all-append P (x ∷ xs) ys left right = (left.0, all-append P xs ys left.1 right)

pub all-first : {X : Type 0} (P : X → Type 0) (xs ys : List X) → AllByRecursion P (xs ++ ys) → AllByRecursion P xs
all-first P [] ys all = tt
all-first P (x ∷ xs) ys all = (all.0, all-first P xs ys all.1)

pub all-second : {X : Type 0} (P : X → Type 0) (xs ys : List X) → AllByRecursion P (xs ++ ys) → AllByRecursion P ys
all-second P [] ys all = all
all-second P (x ∷ xs) ys all = all-second P xs ys all.1

pub all-more : {X : Type 0} (P Q : X → Type 0) (xs : List X) → ((x : X) → P x → Q x) → AllByRecursion P xs → AllByRecursion Q xs
all-more P Q [] more all = tt
all-more P Q (x ∷ xs) more all = (more x all.0, all-more P Q xs more all.1)

-- The last of what was saved is taken.
pub name-taken : (naming : Naming) (cats : Cats) (cells : Cells) (saves rest : List Save) (n : ℕ) (m : Meaning) → saves ≡ rest ++ save.Name n m ∷ [] → below naming cats cells (reverse saves) ≡ below naming cats (with_cell cells n m) (reverse rest)
name-taken naming cats cells saves rest n m e = ap (λ s. below naming cats cells (reverse s)) e ∙ ap (below naming cats cells) (reverse-last rest (save.Name n m))

pub all-before-last : {X : Type 0} (P : X → Type 0) (xs rest : List X) (x : X) → xs ≡ rest ++ x ∷ [] → AllByRecursion P xs → AllByRecursion P rest
all-before-last P xs rest x e all = all-first P rest (x ∷ []) (subst (AllByRecursion P) e all)

pub all-last : {X : Type 0} (P : X → Type 0) (xs rest : List X) (x : X) → xs ≡ rest ++ x ∷ [] → AllByRecursion P xs → P x
all-last P xs rest x e all = (all-second P rest (x ∷ []) (subst (AllByRecursion P) e all)).0

pub all-before-none : {X : Type 0} (P : X → Type 0) (xs rest : List X) → xs ≡ rest ++ [] → AllByRecursion P xs → AllByRecursion P rest
all-before-none P xs rest e all = all-first P rest [] (subst (AllByRecursion P) e all)

-- a definition, where what the name meant is saved
pub defined-here : (naming : Naming) (cats now : Cats) (cells new : Cells) (saves more : List Save) (n : ℕ) (m before : Meaning) → KeepsApart naming → now ≡ cats → new ≡ with_cell cells n m → more ≡ saves ++ save.Name n before ∷ [] → before ≡ before_of (lookup (nat_eq n) cells) → map_of naming now new ∷ below naming now new (reverse more) ≡ with_name (naming n) (meaning_in naming m) (map_of naming cats cells) ∷ below naming cats cells (reverse saves)
defined-here naming cats now cells new saves more n m before apart same e f was =
    ap (λ c. map_of naming c new ∷ below naming c new (reverse more)) same
    ∙ ap (λ cs. map_of naming cats cs ∷ below naming cats cs (reverse more)) e
    ∙ ap (λ s. map_of naming cats (with_cell cells n m) ∷ below naming cats (with_cell cells n m) s) (ap reverse f ∙ reverse-last saves (save.Name n before))
    ∙ ap (λ maps. map_of naming cats (with_cell cells n m) ∷ maps) (below-saved naming cats cells n m before (reverse saves) apart was)
    ∙ ap (λ map. map ∷ below naming cats cells (reverse saves)) (map-written naming cats cells n m apart)

-- a saved meaning is given back
pub restored : (naming : Naming) (cats now : Cats) (cells new : Cells) (saves rest left : List Save) (x : Save) (n : ℕ) (m : Meaning) → now ≡ cats → new ≡ with_cell cells n m → left ≡ rest → saves ≡ rest ++ x ∷ [] → x ≡ save.Name n m → below naming now new (reverse left) ≡ below naming cats cells (reverse saves)
restored naming cats now cells new saves rest left x n m same written kept last is =
    ap (λ c. below naming c new (reverse left)) same
    ∙ ap (λ cs. below naming cats cs (reverse left)) written
    ∙ ap (λ s. below naming cats (with_cell cells n m) (reverse s)) kept
    ∙ sym (name-taken naming cats cells saves rest n m (last ∙ ap (λ y. rest ++ y ∷ []) is))

-- the number of groups is that of the levels around
pub groups-counted : (naming : Naming) (e : Equivalents) (groups at : ℕ) (items : List Save) → items ≡ e.saves.items → groups + marks (drop at items) ≡ marks e.saves.items → length items ≤ at → groups ≡ open_groups (levels naming e)
groups-counted naming e groups at items is counted past =
    let none : marks (drop at items) ≡ 0 = ap marks (drop_of_length-le items past) in
    let all : groups ≡ marks e.saves.items = omega arith in
    all ∙ sym (marks-reverse e.saves.items) ∙ sym (length-below naming e.cats e.names.entries (reverse e.saves.items)) ∙ one-less (length (below naming e.cats e.names.entries (reverse e.saves.items)))
  where
    one-less : (n : ℕ) → n ≡ suc n - 1
    one-less n = omega arith
