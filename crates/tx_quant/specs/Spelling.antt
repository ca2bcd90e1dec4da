-- Keywords (TeX: The Program, section 407).
use Rattle.std.specs.Prelude.{ℕ, ◌+◌, ◌==◌, if◌then◌else◌, List, [], ◌∷◌, Option, Some, None}
use Rattle.std.specs.Char.{to_ascii_lowercase}
use Rattle.tx_tok.specs.declared.tok.Tok.TheVariants as tok
use Rattle.tx_num.specs.declared.quantities.Want.TheVariants.{Expanded}
use Rattle.tx_quant.specs.Items.{Item, Token, Move, Asks, Reading, is_space}

-- the letter of a character, without case; a name or an active byte has none
abbrev pub letter : Item → Option ℕ
letter (Token (tok.Char cat c)) = Some (to_ascii_lowercase c)
letter _ = None

-- words, each by its letters that are still due
abbrev pub Words : Type 0 → Type 0
Words W = List (W × List ℕ)

-- those of the words that go on with this letter, without it
abbrev pub going_on : {W : Type 0} → ℕ → Words W → Words W
going_on c [] = []
going_on c ((w, []) ∷ words) = going_on c words
going_on c ((w, d ∷ due) ∷ words) = if c == d then (w, due) ∷ going_on c words else going_on c words

abbrev pub going_on_with : {W : Type 0} → Option ℕ → Words W → Words W
going_on_with None words = []
going_on_with (Some c) words = going_on c words

-- after an item with which these words go on: a word was found, or none is left, or more letters are due
abbrev pub spelled : {W V : Type 0} → (W → Reading V) → (ℕ → Reading V) → Words W → ℕ → List Item → Move V → Move V
spelled found missing [] taken items more = missing taken items
spelled found missing ((w, []) ∷ words) taken items more = found w items
spelled found missing ((w, d ∷ due) ∷ words) taken items more = more

-- One of these words is looked for, of whose letters so many were taken. What comes after the word is
-- read by `found`. Where none of them stands here, `missing` reads on, with the number of the tokens
-- that were taken.
abbrev pub spell : {W V : Type 0} → (W → Reading V) → (ℕ → Reading V) → Words W → ℕ → Reading V
spell found missing words taken [] = Asks Expanded 0
spell found missing words taken (item ∷ items) =
    let more = going_on_with (letter item) words in
    spelled found missing more (taken + 1) items (spell found missing more (taken + 1) items)

-- spaces are skipped, and used, before what is read by `then`
abbrev pub nonblank : {V : Type 0} → Move V → Reading V → Reading V
nonblank start next [] = start
nonblank start next (item ∷ items) = if is_space item then nonblank start next items else next (item ∷ items)
