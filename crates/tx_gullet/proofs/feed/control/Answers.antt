use Rattle.std.proofs.Common.{sym, subst}
use Rattle.tx_gullet.specs.declared.frame.Frame.TheVariants as frame
use Rattle.tx_gullet.specs.Frames.{Answers}
use Rattle.tx_gullet.proofs.feed.control.Goals as goal

pub returns-in-Expanded-clause-answers : goal.returns-in-Expanded-clause-answers
returns-in-Expanded-clause-answers c =
    subst (λ i. Answers frame.Control i c.args.scene.now c.command.result c.command.new.scene) (sym c.in-Expanded.is) (c.command.ensures.answers c.in-Expanded._token)
