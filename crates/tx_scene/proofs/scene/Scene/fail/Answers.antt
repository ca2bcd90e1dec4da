use Rattle.std.proofs.Common.{List, [], ℕ, ◌≡◌, ◌++◌, codes, w32, to_z, of_z, FitsSigned, rules, ap, ◌∙◌}
use Rattle.std.proofs.Math.Facts.{to_z-of_z}
use Rattle.std.specs.Fmt.{decimal}
use Rattle.tx_model.specs.declared.reply.Status.TheVariants as status
use Rattle.tx_model.specs.Log.{log_line}
use Rattle.tx_model.specs.Pending.{line_number}
use Rattle.tx_private.specs.Errors.{Error, error_text}
use Rattle.tx_private.specs.Region.{Outcome}
use Rattle.tx_input.specs.Worlds.{pending_in}
use Rattle.tx_environment.proofs.StepLemmas.{on_ok_map}
use Rattle.tx_scene.specs.Scenes.{Ground, IsGround}
use Rattle.tx_scene.proofs.ErrorLemmas.{lines-joined}
use Rattle.tx_scene.proofs.scene.Scene.fail.Goals as goal

pub returns-clause-fails : goal.returns-clause-fails
returns-clause-fails c =
    let old = c.args.self.now in
    let error : Error = record { number = c.args.number; shown = c.args.shown.now } in
    let fits : FitsSigned w32 c.integer-newline.result = search rules in
    on_ok_map c.line-3.result
    (λ (h : c.line-3.new.self ≡ c.line-2.new.self ++ log_line (to_z w32 (of_z w32 c.integer-newline.result)) c.as_slice-2.result.now) (g : Ground) (depth : ℕ) (is : IsGround g old).
    let line = line_number (pending_in g.view old.input) in
    let outcome : List ℕ → Outcome = λ log. record { status = status.Fail; steps = old.input.steps.spent; pages = 0; dvi = []; log = log } in
    ap outcome
    (lines-joined log_line old.log c.line-2.new.self c.line-3.new.self (to_z w32 (of_z w32 c.integer-newline.result)) _ c.as_slice.result.now c.as_slice-2.result.now (codes "! " ++ error_text error) (codes "l." ++ decimal line)
    c.in_ok-line.ensures.ok
    h
    (c.as_slice.ensures.value ∙ c.in_ok-first.ensures)
    (c.as_slice-2.ensures.value ∙ c.in_ok-second.ensures ∙ ap (λ (n : ℕ). codes "l." ++ decimal n) (c.line.ensures g.view))
    (to_z-of_z fits ∙ c.integer-newline.ensures g.view is.view)))
    c.line-3.ensures.ok
