-- The sets of keywords.
use Rattle.std.specs.Prelude.{◌≡◌, ℕ, ◌+◌, List, [], ◌∷◌, drop, Option, Some, None}
use Rattle.tx_num.specs.declared.quantities.Want.TheVariants.{Expanded}
use Rattle.tx_quant.specs.declared.word.Word.{Word}
use Rattle.tx_quant.specs.declared.word.Word.TheVariants as word
use Rattle.tx_quant.specs.declared.keyword.KeySet.{KeySet}
use Rattle.tx_quant.specs.declared.keyword.KeySet.TheVariants as set
use Rattle.tx_quant.specs.declared.part.Part.{Part}
use Rattle.tx_quant.specs.declared.step.Step.{Step}
use Rattle.tx_quant.specs.declared.step.Step.TheVariants as step
use Rattle.tx_quant.specs.declared.keyword.Keyword.{Keyword}
use Rattle.tx_quant.specs.declared.looking.Looking.{Looking}
use Rattle.tx_quant.specs.declared.looking.Looking.TheVariants.{Blank, Within}
use Rattle.tx_quant.specs.declared.looking.Looked.{Looked}
use Rattle.tx_quant.specs.declared.looking.Looked.TheVariants as looked
use Rattle.tx_quant.specs.WordTexts.{text_of, place_of}
use Rattle.tx_quant.specs.Items.{Item, Asks, Gives, Reading}
use Rattle.tx_quant.specs.Spelling.{Words, going_on_with, spell, nonblank}

-- a word of which all letters are due
abbrev pub whole : Word → Word × List ℕ
whole w = (w, text_of w)

-- the words of a set
abbrev pub words_of : KeySet → Words Word
words_of set.By = whole word.By ∷ []
words_of set.Spec = whole word.To ∷ whole word.Spread ∷ []
words_of set.At = whole word.At ∷ whole word.Scaled ∷ []
words_of set.Plus = whole word.Plus ∷ []
words_of set.Minus = whole word.Minus ∷ []
words_of set.Rule = whole word.Width ∷ whole word.Height ∷ whole word.Depth ∷ []

-- a word's place is the value
abbrev pub found : Word → Reading ℕ
found w items = Gives (place_of w) 0

-- 255 stands for no word: what was taken after the spaces is put back
abbrev pub missing : ℕ → Reading ℕ
missing taken items = Gives 255 taken

-- a word of the set is looked for
abbrev pub keyword : KeySet → Reading ℕ
keyword set items = nonblank (Asks Expanded 0) (spell found missing (words_of set) 0) items

-- a word of which letters were taken
abbrev pub due_of : Part → Words Word
due_of part = (part.word, drop part.taken (text_of part.word)) ∷ []

-- the look for a word of a set goes on, behind which `found` or `missing` reads on
abbrev pub looking : {V : Type 0} → (Word → Reading V) → (ℕ → Reading V) → KeySet → Looking → Reading V
looking found missing set Blank items = nonblank (Asks Expanded 0) (spell found missing (words_of set) 0) items
looking found missing set (Within part) items = spell found missing (due_of part) part.taken items

-- what an item makes of that look
abbrev pub Looks : (V : Type 0) → Looked → KeySet → Looking → Item → Type 0
Looks V (looked.On next) set look item =
    (found : Word → Reading V) (missing : ℕ → Reading V) (items : List Item) →
    looking found missing set look (item ∷ items) ≡ looking found missing set next items
Looks V (looked.Found word) set look item =
    (found : Word → Reading V) (missing : ℕ → Reading V) (items : List Item) →
    looking found missing set look (item ∷ items) ≡ found word items
Looks V (looked.Missing taken) set look item =
    (found : Word → Reading V) (missing : ℕ → Reading V) (items : List Item) →
    looking found missing set look (item ∷ items) ≡ missing taken items

abbrev pub keyword_says : Keyword → Reading ℕ
keyword_says k items = looking found missing k.words k.stage items

-- the one word that is begun, if there is one
abbrev pub begun : Option Word → Words Word
begun None = []
begun (Some w) = (w, drop 1 (text_of w)) ∷ []

-- what is left of a word after a letter more
abbrev pub Goes : Step → Part → Option ℕ → Type 0
Goes step.Found part c = going_on_with c (due_of part) ≡ (part.word, []) ∷ []
Goes (step.Due more) part c =
    (going_on_with c (due_of part) ≡ due_of more) × (more.taken ≡ part.taken + 1)
Goes (step.Missing taken) part c = (going_on_with c (due_of part) ≡ []) × (taken ≡ part.taken + 1)
