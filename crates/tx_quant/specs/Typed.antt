-- Texts as a reading is given them.
use Rattle.std.specs.Prelude.{ℕ, ◌==◌, if◌then◌else◌, List, map}
use Rattle.std.specs.Char.{is_ascii_alphabetic}
use Rattle.tx_model.specs.declared.category.Cat.{Cat}
use Rattle.tx_model.specs.declared.category.Cat.TheVariants as cat
use Rattle.tx_tok.specs.declared.tok.Tok.TheVariants as tok
use Rattle.tx_quant.specs.Items.{Item, Token}

-- letters are of category 11, the blank is of 10, and the others are of 12
abbrev pub plain_category : ℕ → Cat
plain_category c = if is_ascii_alphabetic c then cat.Letter else if c == 32 then cat.Space else cat.Other

-- the characters of a text
abbrev pub typed : List ℕ → List Item
typed text = map (λ c. Token (tok.Char (plain_category c) c)) text
