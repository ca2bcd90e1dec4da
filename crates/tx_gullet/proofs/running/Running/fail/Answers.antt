use Rattle.std.proofs.Common.{[], ◌++◌, negsuc, sym, ◌∙◌, ap}
use Rattle.tx_model.specs.declared.reply.Status.TheVariants as status
use Rattle.tx_model.specs.Errors.{error_lines}
use Rattle.tx_gullet.proofs.RunLemmas.{line-of-text}
use Rattle.tx_gullet.proofs.running.Running.fail.Goals as goal

pub returns-clause-fails : goal.returns-clause-fails
returns-clause-fails c naming =
    ap (λ o. record { status = status.Fail; steps = o.steps; pages = o.pages; dvi = o.dvi; log = o.log }) c.output.ensures.made
    ∙ ap (λ l. record { status = status.Fail; steps = c.args.self.now.scene.steps.spent; pages = 0; dvi = []; log = l })
    (c.in_ok-log_error.ensures ∙ ap (λ n. c.args.self.now.scene.log ++ error_lines (negsuc 0) c.args.error n) (c.line-line.ensures ∙ sym (line-of-text naming c.args.self.now.scene.lists c.args.self.now.scene.scanner)))
