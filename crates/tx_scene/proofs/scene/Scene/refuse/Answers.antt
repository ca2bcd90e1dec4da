use Rattle.std.proofs.Common.{List, ℕ, OnOk, ap, sym, subst, ◌∙◌}
use Rattle.tx_eqtb.specs.Meanings.{meanings}
use Rattle.tx_private.specs.Errors.{Error}
use Rattle.tx_assign.specs.Refusals.{shown_limit}
use Rattle.tx_scene.specs.Changes.{FailsBy}
use Rattle.tx_scene.proofs.scene.Scene.refuse.Goals as goal

pub returns-in_ok-shown-in-Some-clause-fails : goal.returns-in_ok-shown-in-Some-clause-fails
returns-in_ok-shown-in-Some-clause-fails c =
    let error : List ℕ → Error = λ shown. record { number = c.args.error.number; shown = shown } in
    subst (λ e. OnOk c.fail.result (FailsBy (meanings c.args.frozen.now) e c.args.self.now c.fail.new.self))
    (ap error (c.as_bytes.ensures.value ∙ c.in_ok-shown-in-Some.ensures.ok ∙ ap shown_limit (sym c.in-Some.is)))
    c.fail.ensures.fails

pub returns-in-None-clause-fails : goal.returns-in-None-clause-fails
returns-in-None-clause-fails c =
    let error : List ℕ → Error = λ shown. record { number = c.args.error.number; shown = shown } in
    subst (λ e. OnOk c.fail-in-None.result (FailsBy (meanings c.args.frozen.now) e c.args.self.now c.fail-in-None.new.self))
    (ap error (ap shown_limit (sym c.in-None.is)))
    c.fail-in-None.ensures.fails
