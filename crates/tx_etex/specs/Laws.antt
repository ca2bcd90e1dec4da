-- What is proved of the definitions.
use Rattle.std.specs.Prelude.{◌≡◌, ℕ, ℤ, List, [], ◌∷◌, ◌++◌, map, Some, pos, ◌+ℤ◌, ◌*ℤ◌, neg_ℤ}
use Rattle.std.specs.List.{flat_map}
use Rattle.tx_model.specs.declared.category.Cat.{Cat}
use Rattle.tx_model.specs.Shown.{shown_name, blank_after, shown_in_list}
use Rattle.tx_tok.specs.declared.tok.Tok.{Tok}
use Rattle.tx_tok.specs.declared.tok.Tok.TheVariants as tok
use Rattle.tx_tok.specs.Tokens.{tokens_in}
use Rattle.tx_num.specs.declared.quantities.QuantKind.{QuantKind}
use Rattle.tx_num.specs.declared.quantities.QuantKind.TheVariants as quant_kind
use Rattle.tx_etex.specs.declared.amount.Amount.{Amount}
use Rattle.tx_etex.specs.Expressions.{amount_of, Tree, Quantity, Inner, Sum, Difference, Product, Quotient, rigid, exact, value}
use Rattle.tx_etex.specs.Readings.{kind_of}
use Rattle.tx_etex.specs.Texts.{text_token, detokenized}

-- a token's text, if it is a name, by the present categories and escape character
abbrev pub IsTextOf : (ℕ → Cat) → ℤ → (ℕ → List ℕ) → Tok → List ℕ → Type 0
IsTextOf cats escape naming (tok.Name n) text = text ≡ shown_name escape (naming n) ++ blank_after cats (naming n)
IsTextOf cats escape naming _ text = Unit {0}

-- one text per token
abbrev pub AreTextsOf : (ℕ → Cat) → ℤ → (ℕ → List ℕ) → List Tok → List (List ℕ) → Type 0
AreTextsOf cats escape naming [] [] = Unit {0}
AreTextsOf cats escape naming (token ∷ tokens) (text ∷ texts) =
    IsTextOf cats escape naming token text × AreTextsOf cats escape naming tokens texts
AreTextsOf cats escape naming _ _ = ⊥

-- the bytes that TeX prints of the list
abbrev pub DetokenizedIsShown : Type 0
DetokenizedIsShown =
    (cats : ℕ → Cat) (escape : ℤ) (naming : ℕ → List ℕ) (tokens : List Tok) (texts : List (List ℕ)) →
    AreTextsOf cats escape naming tokens texts →
    detokenized tokens texts ≡ map text_token (flat_map (shown_in_list cats escape) (tokens_in naming tokens))

-- a tree is made of quantities, sums, differences and products
abbrev pub HasNoQuotient : Tree → Type 0
HasNoQuotient (Quantity q) = Unit {0}
HasNoQuotient (Inner t) = HasNoQuotient t
HasNoQuotient (Sum a b) = HasNoQuotient a × HasNoQuotient b
HasNoQuotient (Difference a b) = HasNoQuotient a × HasNoQuotient b
HasNoQuotient (Product a b) = HasNoQuotient a × HasNoQuotient b
HasNoQuotient (Quotient a b) = ⊥

-- what such a tree gives in ordinary arithmetic
abbrev pub arithmetic : Tree → ℤ
arithmetic (Quantity q) = (amount_of q).width
arithmetic (Inner t) = arithmetic t
arithmetic (Sum a b) = arithmetic a +ℤ arithmetic b
arithmetic (Difference a b) = arithmetic a +ℤ neg_ℤ (arithmetic b)
arithmetic (Product a b) = arithmetic a *ℤ arithmetic b
arithmetic (Quotient a b) = pos 0

-- an expression without quotients is ordinary arithmetic, where nothing overflows
abbrev pub ValueIsArithmetic : Type 0
ValueIsArithmetic =
    (kind : QuantKind) (t : Tree) (a : Amount) → HasNoQuotient t → value kind t ≡ Some a → a.width ≡ arithmetic t

-- the tree's quantities are of the kind of the whole, but what is multiplied with or divided by is an integer
abbrev pub IsOfKind : QuantKind → Tree → Type 0
IsOfKind kind (Quantity q) = kind_of q ≡ kind
IsOfKind kind (Inner t) = IsOfKind kind t
IsOfKind kind (Sum a b) = IsOfKind kind a × IsOfKind kind b
IsOfKind kind (Difference a b) = IsOfKind kind a × IsOfKind kind b
IsOfKind kind (Product a b) = IsOfKind kind a × IsOfKind quant_kind.Int b
IsOfKind kind (Quotient a b) = IsOfKind kind a × IsOfKind quant_kind.Int b

-- an expression of integers never stretches or shrinks
abbrev pub IntegersAreRigid : Type 0
IntegersAreRigid =
    (t : Tree) (a : Amount) → IsOfKind quant_kind.Int t → exact quant_kind.Int t ≡ Some a → a ≡ rigid a.width
