use Rattle.std.proofs.Common.{sym, subst}
use Rattle.tx_gullet.specs.Frames.{AnswersValue}
use Rattle.tx_gullet.proofs.feed.give.Goals as goal

pub returns-in-Message-clause-answers : goal.returns-in-Message-clause-answers
returns-in-Message-clause-answers c =
    subst (λ x. AnswersValue x c.args.tokens c.args.scene.now c.message_given.result c.message_given.new.scene) (sym c.in-Message.is) c.message_given.ensures.answers

pub returns-in-Definition-clause-answers : goal.returns-in-Definition-clause-answers
returns-in-Definition-clause-answers c =
    subst (λ x. AnswersValue x c.args.tokens c.args.scene.now c.definition_given.result c.definition_given.new.scene) (sym c.in-Definition.is) c.definition_given.ensures.answers
