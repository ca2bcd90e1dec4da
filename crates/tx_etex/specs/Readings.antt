-- How the tokens of an expression are read as a tree (e-TeX manual). A factor is an expression in
-- parentheses or a quantity; factors stand between * and /, and terms between + and -. Spaces between them
-- are skipped.
use Rattle.std.specs.Prelude.{ℕ, ◌==◌, Bool, true, false, if◌then◌else◌, List, [], ◌∷◌, Option, Some, None, pos}
use Rattle.tx_model.specs.declared.category.Cat.TheVariants as cat
use Rattle.tx_tok.specs.declared.tok.Tok.{Tok}
use Rattle.tx_tok.specs.declared.tok.Tok.TheVariants as tok
use Rattle.tx_num.specs.declared.quantities.Quant.{Quant}
use Rattle.tx_num.specs.declared.quantities.Quant.TheVariants as quant
use Rattle.tx_num.specs.declared.quantities.QuantKind.{QuantKind}
use Rattle.tx_num.specs.declared.quantities.QuantKind.TheVariants as quant_kind
use Rattle.tx_num.specs.declared.quantities.Want.{Want}
use Rattle.tx_num.specs.declared.quantities.Want.TheVariants as want
use Rattle.tx_num.specs.declared.quantities.ErrorNo.{ErrorNo}
use Rattle.tx_num.specs.declared.glue.GlueSpec.{GlueSpec}
use Rattle.tx_etex.specs.declared.amount.Amount.{Amount}
use Rattle.tx_etex.specs.Expressions.{Tree, Quantity, Inner, Sum, Difference, Product, Quotient, value}

-- what an expression is given: a token, or a quantity with all of its tokens
pub data Item : Type 0 where
  Token : Tok → Item
  Factor : Quant → Item

-- what it does then: it asks for the next item, ends with a value after so many of the last tokens are put
-- back, or ends with an error
pub data Move : Type 0 where
  Asks : Want → Move
  Gives : Quant → ℕ → Move
  Fails : ErrorNo → Move

abbrev pub missing_parenthesis : ErrorNo
missing_parenthesis = record { no = 7; case = 0; value = pos 0 }

abbrev pub overflow : ErrorNo
overflow = record { no = 14; case = 0; value = pos 0 }

abbrev pub glue_of : Amount → GlueSpec
glue_of a = record {
  width = a.width;
  stretch = a.stretch.size;
  stretch_order = a.stretch.order;
  shrink = a.shrink.size;
  shrink_order = a.shrink.order;
}

abbrev pub quant_of : QuantKind → Amount → Quant
quant_of quant_kind.Int a = quant.Int a.width
quant_of quant_kind.Dim a = quant.Dim a.width
quant_of quant_kind.Glue a = quant.Glue (glue_of a)
quant_of quant_kind.Mu a = quant.Mu (glue_of a)

abbrev pub kind_of : Quant → QuantKind
kind_of (quant.Int n) = quant_kind.Int
kind_of (quant.Dim d) = quant_kind.Dim
kind_of (quant.Glue g) = quant_kind.Glue
kind_of (quant.Mu g) = quant_kind.Mu

abbrev pub is_space : Tok → Bool
is_space (tok.Char cat.Space b) = true
is_space _ = false

-- this byte, which counts with category 12 alone
abbrev pub is_other : ℕ → Tok → Bool
is_other byte (tok.Char cat.Other b) = b == byte
is_other byte _ = false

-- An expression, or one in parentheses, up to where a factor is due: its kind, the kind of the factor,
-- what the term that stands there is added to or taken from, and what the factor is multiplied with or
-- divided from.
pub record Level : Type 0 where
  pub kind : QuantKind
  pub due : QuantKind
  pub sum : Tree → Tree
  pub term : Tree → Tree

abbrev pub level_begun : QuantKind → Level
level_begun kind = record { kind = kind; due = kind; sum = λ t. t; term = λ t. t }

-- the expression, where it ends with this factor
abbrev pub whole : Level → Tree → Tree
whole level f = level.sum (level.term f)

-- a sign, and the next term is due
abbrev pub next_term : Level → (Tree → Tree) → Level
next_term level sum = record { kind = level.kind; due = level.kind; sum = sum; term = λ t. t }

-- a * or /, and the next factor is due, which is an integer
abbrev pub next_factor : Level → (Tree → Tree) → Level
next_factor level term = record { kind = level.kind; due = quant_kind.Int; sum = level.sum; term = term }

-- the operator that a token is behind a factor, and up to where it leads
abbrev pub behind_operator : Level → Tree → Tok → Option Level
behind_operator level f t =
    if is_other 43 t then Some (next_term level (λ x. Sum (whole level f) x))
    else if is_other 45 t then Some (next_term level (λ x. Difference (whole level f) x))
    else if is_other 42 t then Some (next_factor level (λ x. Product (level.term f) x))
    else if is_other 47 t then Some (next_factor level (λ x. Quotient (level.term f) x))
    else None

-- the outcome, once the whole expression is read
abbrev pub outcome : QuantKind → Option Amount → Move
outcome kind None = Fails overflow
outcome kind (Some a) = Gives (quant_of kind a) 1

-- An expression within those outside, where a factor is due, or where it was given and an operator is due
-- or the end.
abbrev pub reads : Level → List Level → Option Tree → List Item → Move
reads level outer None [] = Asks (want.Factor level.due)
reads level outer (Some f) [] = Asks want.Expanded
reads level outer None (Factor q ∷ items) = reads level outer (Some (Quantity q)) items
reads level outer (Some f) (Factor q ∷ items) = reads level outer (Some f) items
reads level outer None (Token t ∷ items) =
    if is_other 40 t then reads (level_begun level.due) (level ∷ outer) None items else reads level outer None items
reads level outer (Some f) (Token t ∷ items) =
    if is_space t then reads level outer (Some f) items
    else elim (behind_operator level f t) [
      | Some next ↦ reads next outer None items
      | None ↦ elim outer [
        | [] ↦ outcome level.kind (value level.kind (whole level f))
        | o ∷ others ↦ if is_other 41 t then reads o others (Some (Inner (whole level f))) items else Fails missing_parenthesis
      ]
    ]

-- an expression of this kind
abbrev pub expression : QuantKind → List Item → Move
expression kind items = reads (level_begun kind) [] None items
