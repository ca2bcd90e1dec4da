use Rattle.tx_run.specs.declared.doing.Doing.TheVariants as doing
use Rattle.tx_run.proofs.KnowledgeLemmas.{in-place, tokens-described, known-tokens}
use Rattle.tx_run.specs.Knowledge.{known_in}
use Rattle.std.proofs.Common.{sym}
use Rattle.tx_run.proofs.TextLemmas.{told-content}
use Rattle.tx_run.proofs.WishLemmas.{printed-content, read-list}
use Rattle.tx_run.proofs.run.Run.read.Goals as goal

-- the list is copied
pub returns-in-Reads-clause-answers : goal.returns-in-Reads-clause-answers
returns-in-Reads-clause-answers c = λ g n asks ground content.
    (read-list g c.args.self.now c.in-Reads.begun c.in-Reads.how c.in-Reads.field-2 c.args.tokens n (sym c.in-Reads.ensures.value) asks content, ground)

-- the text that is printed goes on
pub returns-in-Prints-clause-answers : goal.returns-in-Prints-clause-answers
returns-in-Prints-clause-answers c = λ g n asks ground content.
    (printed-content g c.args.self.now c.in-Prints.begun c.in-Prints.description c.content.new.self c.args.tokens n (sym c.in-Prints.ensures.value) c.content.ensures.text asks content, ground)

-- the text that is told goes on
pub returns-in-Tells-clause-answers : goal.returns-in-Tells-clause-answers
returns-in-Tells-clause-answers c = λ g n asks ground content.
    (told-content g c.args.self.now c.in-Tells.told c.in-Tells.description c.content-in-Tells.new.self c.args.tokens n _ (sym c.in-Tells.ensures.value) c.content-in-Tells.ensures.text asks content, ground)

pub returns-in-Prints-clause-knows : goal.returns-in-Prints-clause-knows
returns-in-Prints-clause-knows c names tokens knows =
    let run = c.args.self.now in
    let known = known_in names run.scene (doing.Prints c.in-Prints.begun c.in-Prints.description) in
    in-place names run (doing.Prints c.in-Prints.begun c.in-Prints.description) (doing.Prints c.in-Prints.begun c.content.new.self) c.saturating_sub-self.result (sym c.in-Prints.ensures.value) knows
    (λ h. (h.0, c.content.ensures.knows names known.list (tokens-described known c.args.tokens (known-tokens known c.args.tokens tokens)))) (λ h. h)

pub returns-in-Tells-clause-knows : goal.returns-in-Tells-clause-knows
returns-in-Tells-clause-knows c names tokens knows =
    let run = c.args.self.now in
    let known = known_in names run.scene (doing.Tells c.in-Tells.told c.in-Tells.description) in
    in-place names run (doing.Tells c.in-Tells.told c.in-Tells.description) (doing.Tells c.in-Tells.told c.content-in-Tells.new.self) c.saturating_sub-self.result (sym c.in-Tells.ensures.value) knows
    (λ h. c.content-in-Tells.ensures.knows names known.list (tokens-described known c.args.tokens (known-tokens known c.args.tokens tokens))) (λ h. h)
