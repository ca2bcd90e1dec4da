use Rattle.std.proofs.Common.{◌≡◌, ◌++◌, w32, sym, ◌∙◌, ap, subst, ℤ, rules}
use Rattle.std.proofs.lemmas.Result.{on_ok_weaker}
use Rattle.std.proofs.lemmas.Int.{to_z-of_z}
use mir.Val.{SFits}
use Rattle.tx_views.specs.Views.{View, IsView}
use Rattle.tx_scan.specs.declared.cats.Cats.{Cats}
use Rattle.tx_describe.specs.Rests.{behind}
use Rattle.tx_describe.specs.Descriptions.{rest_text}
use Rattle.tx_describe.proofs.PrintLemmas.{print-text}
use Rattle.tx_describe.proofs.description.Description.print_piece.Goals as goal

pub returns-clause-text : goal.returns-clause-text
returns-clause-text c =
    let fits : SFits w32 c.args.self.now.escape = search rules in
    let begins : ℤ → Type 0 = λ escape. (view : View) (cats : Cats) → IsView view → rest_text view cats escape c.args.self.now.rest ≡ c.in_ok-piece.piece.items ++ rest_text view cats escape (behind c.args.self.now.rest) in
    let k = subst begins (to_z-of_z w32 c.args.self.now.escape fits) c.in_ok-piece.ensures in
    on_ok_weaker c.print.result
    (λ printed view cats is_view.
    print-text view cats c.args.self.now c.print.new.self c.as_slice.result.now printed
    (k view cats is_view ∙ ap (λ piece. piece ++ rest_text view cats c.args.self.now.escape (behind c.args.self.now.rest)) (sym c.as_slice.ensures.value)))
    c.print.ensures.ok
