-- What a reading is given, and what it does next. The TeXbook, chapter 24.
use Rattle.std.specs.Prelude.{◌≡◌, ℕ, Bool, true, false, List, [], ◌∷◌, Option}
use Rattle.tx_model.specs.declared.category.Cat.TheVariants as cat
use Rattle.tx_tok.specs.declared.tok.Tok.{Tok}
use Rattle.tx_tok.specs.declared.tok.Tok.TheVariants as tok
use Rattle.tx_num.specs.declared.quantities.Quant.{Quant}
use Rattle.tx_num.specs.declared.quantities.Want.{Want}
use Rattle.tx_num.specs.declared.quantities.ErrorNo.{ErrorNo}
use Rattle.tx_num.specs.declared.quantities.Feed.{Feed}
use Rattle.tx_num.specs.declared.quantities.Feed.TheVariants as feed

-- what a reading is given
pub data Item : Type 0 where
  -- a token
  Token : Tok → Item
  -- an internal quantity, with all of its tokens
  Quantity : Quant → Item
  -- the code of the token after a backquote, where it has one
  Letter : Option ℕ → Item

-- what a reading does that was given some items
pub data Move (V : Type 0) : Type 0 where
  -- it asks for an item more, taken so, after so many of the last tokens are put back
  Asks : Want → ℕ → Move V
  -- it ends with a value, and so many of the last tokens are put back
  Gives : V → ℕ → Move V
  -- it ends with an error
  Fails : ErrorNo → Move V

-- a reading says what it does, for each list of items
abbrev pub Reading : Type 0 → Type 0
Reading V = List Item → Move V

-- its outcome is open
abbrev pub IsOpen : {V : Type 0} → Move V → Type 0
IsOpen (Asks want back) = Unit {0}
IsOpen (Gives v back) = ⊥
IsOpen (Fails error) = ⊥

-- the same, but so many tokens are put back before
abbrev pub putting_back : {V : Type 0} → ℕ → Move V → Move V
putting_back back (Asks want n) = Asks want back
putting_back back (Gives v n) = Gives v back
putting_back back (Fails error) = Fails error

-- The reading `old` goes on as `new` after this item, and so many of the last tokens are put back: `new`
-- says of all later items what `old` says of them after this one.
pub record GoesOn {V : Type 0} (old : Reading V) (item : Item) (new : Reading V) (back : ℕ) : Type 0 where
  pub is_open : IsOpen (new [])
  pub asks : old (item ∷ []) ≡ putting_back back (new [])
  pub later : (next : Item) (items : List Item) → old (item ∷ next ∷ items) ≡ new (next ∷ items)

-- An answer to an item is what the reading `old` says of it, whatever comes later. Where it goes on, it
-- does so as `new`.
abbrev pub Answers : {V : Type 0} → Feed V → Reading V → Item → Reading V → Type 0
Answers (feed.More back) old item new = GoesOn old item new back
Answers (feed.Done v back) old item new = (items : List Item) → old (item ∷ items) ≡ Gives v back
Answers (feed.Bad error) old item new = (items : List Item) → old (item ∷ items) ≡ Fails error
Answers feed.Memory old item new = ⊥

-- a space
abbrev pub is_space : Item → Bool
is_space (Token (tok.Char cat.Space c)) = true
is_space _ = false
