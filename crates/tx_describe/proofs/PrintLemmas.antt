-- A piece more of a description's text.
use Rattle.std.proofs.Common.{◌≡◌, List, ℕ, ◌++◌, sym, ◌∙◌, ap, append_assoc}
use Rattle.tx_scan.specs.declared.cats.Cats.{Cats}
use Rattle.tx_views.specs.Views.{View}
use Rattle.tx_describe.specs.declared.description.Description.{Description}
use Rattle.tx_describe.specs.Rests.{behind}
use Rattle.tx_describe.specs.Descriptions.{rest_text, text_in}

-- a piece is printed, and the text is the same
pub print-text : (view : View) (cats : Cats) (old new : Description) (piece : List ℕ) → new ≡ record { printed = old.printed ++ piece; escape = old.escape; rest = behind old.rest } → rest_text view cats old.escape old.rest ≡ piece ++ rest_text view cats old.escape (behind old.rest) → text_in view cats new ≡ text_in view cats old
print-text view cats old new piece e begins =
    ap (text_in view cats) e
    ∙ append_assoc old.printed piece (rest_text view cats old.escape (behind old.rest))
    ∙ ap (λ text. old.printed ++ text) (sym begins)
