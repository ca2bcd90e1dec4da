-- The words that readings look for.
use Rattle.std.specs.Prelude.{ℕ, List, codes}
use Rattle.tx_quant.specs.declared.word.Word.{Word}
use Rattle.tx_quant.specs.declared.word.Word.TheVariants as word

-- its letters
abbrev pub text_of : Word → List ℕ
text_of word.By = codes "by"
text_of word.To = codes "to"
text_of word.Spread = codes "spread"
text_of word.At = codes "at"
text_of word.Scaled = codes "scaled"
text_of word.Plus = codes "plus"
text_of word.Minus = codes "minus"
text_of word.Width = codes "width"
text_of word.Height = codes "height"
text_of word.Depth = codes "depth"

-- its place in its set
abbrev pub place_of : Word → ℕ
place_of word.By = 0
place_of word.To = 0
place_of word.Spread = 1
place_of word.At = 0
place_of word.Scaled = 1
place_of word.Plus = 0
place_of word.Minus = 0
place_of word.Width = 0
place_of word.Height = 1
place_of word.Depth = 2
