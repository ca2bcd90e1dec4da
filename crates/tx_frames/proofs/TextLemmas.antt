-- Texts with tokens more.
use Rattle.std.proofs.Common.{◌≡◌, ℕ, suc, ◌+◌, true, false, cond, List, [], ◌∷◌, ◌++◌, refl, sym, ◌∙◌, ap}
use Rattle.tx_model.specs.Tokens.{Token, is_left_brace, is_right_brace}
use Rattle.tx_private.specs.World.{World}
use Rattle.tx_private.specs.Readings.{Item, Move}
use Rattle.tx_private.specs.Lists.{balanced, bounded, closed_in}
use Rattle.tx_tok.specs.declared.tok.Tok.{Tok}
use Rattle.tx_views.specs.Views.{View, viewed, all_viewed}
use Rattle.tx_frames.specs.declared.frame.Text.{Text}
use Rattle.tx_frames.specs.declared.reading.TextKind.{TextKind}
use Rattle.tx_frames.specs.Kinds.{wished}
use Rattle.tx_frames.specs.Frames.{is_body, text_wish}
use Rattle.tx_frames.specs.Texts.{goes_on, adding_on, closing_on}

-- lists one behind the other, as the definitions have them
pub viewed-append : (view : View) (tokens more : List Tok) → all_viewed view (tokens ++ more) ≡ all_viewed view tokens ++ all_viewed view more
viewed-append view [] more = refl
viewed-append view (t ∷ tokens) more = ap (λ ts. viewed view t ∷ ts) (viewed-append view tokens more)

-- how a text goes on with these tokens as the definitions have them
abbrev pub further : View → TextKind → List Item → World → ℕ → List Token → Move
further view k items v = bounded v (λ n more. balanced (is_body k) (wished view (text_wish k)) n more items v)

-- with more tokens behind the others
pub goes-append : (view : View) (k : TextKind) (groups : ℕ) (tokens more : List Tok) (items : List Item) (v : World) → further view k items v groups (all_viewed view tokens ++ all_viewed view more) ≡ goes_on view k v groups (tokens ++ more) items v
goes-append view k groups tokens more items v = ap (λ ts. further view k items v groups ts) (sym (viewed-append view tokens more))

-- a left brace, another token that is no brace, a right brace
pub adds-left : (view : View) (x : Text) (t : Tok) (items : List Item) (v : World) → is_left_brace (viewed view t) ≡ true → adding_on view x t items v ≡ goes_on view x.kind v (x.groups + 1) (x.tokens ++ t ∷ []) items v
adds-left view x t items v left =
    ap (λ b. cond b (further view x.kind items v (x.groups + 1) (all_viewed view x.tokens ++ viewed view t ∷ [])) (cond (is_right_brace (viewed view t)) (closed_in x.groups (all_viewed view x.tokens) (viewed view t) v (further view x.kind items v)) (further view x.kind items v x.groups (all_viewed view x.tokens ++ viewed view t ∷ [])))) left
    ∙ goes-append view x.kind (x.groups + 1) x.tokens (t ∷ []) items v

pub adds-right : (view : View) (x : Text) (t : Tok) (items : List Item) (v : World) → is_left_brace (viewed view t) ≡ false → is_right_brace (viewed view t) ≡ true → adding_on view x t items v ≡ closing_on view x t items v
adds-right view x t items v left right =
    ap (λ b. cond b (further view x.kind items v (x.groups + 1) (all_viewed view x.tokens ++ viewed view t ∷ [])) (cond (is_right_brace (viewed view t)) (closed_in x.groups (all_viewed view x.tokens) (viewed view t) v (further view x.kind items v)) (further view x.kind items v x.groups (all_viewed view x.tokens ++ viewed view t ∷ [])))) left
    ∙ ap (λ b. cond b (closed_in x.groups (all_viewed view x.tokens) (viewed view t) v (further view x.kind items v)) (further view x.kind items v x.groups (all_viewed view x.tokens ++ viewed view t ∷ []))) right

pub adds-other : (view : View) (x : Text) (t : Tok) (items : List Item) (v : World) → is_left_brace (viewed view t) ≡ false → is_right_brace (viewed view t) ≡ false → adding_on view x t items v ≡ goes_on view x.kind v x.groups (x.tokens ++ t ∷ []) items v
adds-other view x t items v left right =
    ap (λ b. cond b (further view x.kind items v (x.groups + 1) (all_viewed view x.tokens ++ viewed view t ∷ [])) (cond (is_right_brace (viewed view t)) (closed_in x.groups (all_viewed view x.tokens) (viewed view t) v (further view x.kind items v)) (further view x.kind items v x.groups (all_viewed view x.tokens ++ viewed view t ∷ [])))) left
    ∙ ap (λ b. cond b (closed_in x.groups (all_viewed view x.tokens) (viewed view t) v (further view x.kind items v)) (further view x.kind items v x.groups (all_viewed view x.tokens ++ viewed view t ∷ []))) right
    ∙ goes-append view x.kind x.groups x.tokens (t ∷ []) items v

-- a right brace that ends a group in the text
pub closes-group : (view : View) (x : Text) (t : Tok) (n : ℕ) (items : List Item) (v : World) → x.groups ≡ suc n → closing_on view x t items v ≡ goes_on view x.kind v n (x.tokens ++ t ∷ []) items v
closes-group view x t n items v e =
    ap (λ g. closed_in g (all_viewed view x.tokens) (viewed view t) v (further view x.kind items v)) e ∙ goes-append view x.kind n x.tokens (t ∷ []) items v
