use Rattle.std.proofs.Common.{◌≡◌, ◌⊎◌, ℕ, ℤ, [], sym, ap, ◌∙◌, refl, inl, inr}
use Rattle.tx_model.specs.declared.category.Cat.{Cat}
use Rattle.tx_model.specs.declared.category.LineState.{LineState}
use Rattle.tx_model.specs.declared.category.LineState.TheVariants.{NewLine}
use Rattle.tx_model.specs.Scanner.{Rest, Used, scanned}
use Rattle.tx_scan.specs.Scans.{category_by}
use Rattle.tx_input.specs.declared.text.Reading.{Reading}
use Rattle.tx_input.specs.declared.text.Reading.TheVariants as reading
use Rattle.tx_input.specs.Texts.{as_read}
use Rattle.tx_input.proofs.text.Text.next.Goals as goal

-- nothing stands in a text without bytes
nothing-left : (cats : ℕ → Cat) (end : ℤ) (number : ℕ) (state : LineState) → scanned cats end (record { unread = []; later = []; number = number; state = state }) ≡ Used (record { unread = []; later = []; number = number; state = NewLine })
unfolding scanned
nothing-left cats end number state = refl

nothing-read : (cats : ℕ → Cat) (end : ℤ) (r : Reading) (rest now : Rest) → ((r ≡ reading.Dropped) ⊎ (r ≡ reading.Used)) → as_read r rest ≡ now → scanned cats end now ≡ Used (record { unread = []; later = []; number = rest.number; state = NewLine })
nothing-read cats end r rest now (inl is) now_is =
    ap (scanned cats end) (sym now_is ∙ ap (λ x. as_read x rest) is) ∙ nothing-left cats end rest.number rest.state
nothing-read cats end r rest now (inr is) now_is =
    ap (scanned cats end) (sym now_is ∙ ap (λ x. as_read x rest) is) ∙ nothing-left cats end rest.number NewLine

pub returns-in-Dropped : goal.returns-in-Dropped
returns-in-Dropped c =
    nothing-read (category_by c.args.cats.now) c.args.end c.self.inside.reading c.self.inside.scanner c.args.self.now c.in-Dropped.is c.self.view_is
