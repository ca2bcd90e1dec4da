use Rattle.std.proofs.Common.{◌≡◌, ℕ, ◌+◌, List, [], ◌∷◌, drop}
use Rattle.std.proofs.Math.Seq.{drop-cons}
use Rattle.tx_quant.specs.declared.word.Word.{Word}
use Rattle.tx_quant.specs.declared.part.Part.{Part}
use Rattle.tx_quant.specs.WordTexts.{text_of}
use Rattle.tx_quant.specs.Items.{Item, Reading}
use Rattle.tx_quant.specs.Spelling.{Words, letter, going_on_with, spell}
use Rattle.tx_quant.specs.Keywords.{due_of}

-- the look for words goes on with the one whose letters are still due
spell_one : {V : Type 0} (found : Word → Reading V) (missing : ℕ → Reading V) (words : Words Word) (n : ℕ) (item : Item) (w : Word) (l : List ℕ) (x : ℕ) (due : List ℕ) (m : ℕ) (items : List Item) → going_on_with (letter item) words ≡ (w, l) ∷ [] → l ≡ x ∷ due → m ≡ n + 1 → spell found missing words n (item ∷ items) ≡ spell found missing ((w, l) ∷ []) m items
spell_one found missing words n item w l x due m items g e t = rw (t, g, e)

pub spell_more : {V : Type 0} (found : Word → Reading V) (missing : ℕ → Reading V) (words : Words Word) (n : ℕ) (item : Item) (more : Part) (items : List Item) → going_on_with (letter item) words ≡ due_of more → more.taken ≡ n + 1 → spell found missing words n (item ∷ items) ≡ spell found missing (due_of more) more.taken items
spell_more found missing words n item more items g t =
    spell_one found missing words n item more.word (drop more.taken (text_of more.word)) _ _ more.taken items g (drop-cons (text_of more.word) more.taken 0 more.open) t
