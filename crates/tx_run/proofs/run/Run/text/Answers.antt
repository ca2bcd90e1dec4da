use Rattle.tx_run.specs.declared.doing.Doing.TheVariants as doing
use Rattle.tx_run.proofs.KnowledgeLemmas.{in-place}
use Rattle.tx_run.specs.Knowledge.{known_in}
use Rattle.std.proofs.Common.{sym}
use Rattle.tx_run.proofs.TextLemmas.{told-text}
use Rattle.tx_run.proofs.WishLemmas.{printed-text}
use Rattle.tx_run.proofs.run.Run.text.Goals as goal

-- the text that is printed goes on
pub returns-in-Ok-clause-answers : goal.returns-in-Ok-clause-answers
returns-in-Ok-clause-answers c = λ g n asks ground named.
    (printed-text g c.args.self.now c.in-Prints.begun c.in-Prints.description c.text.new.self c.cats.result.now c.args.text.now n (sym c.in-Prints.ensures.value) c.cats.ensures.same c.in-Ok.ensures.text asks named, ground)

-- the text that is told goes on
pub returns-in-Ok-text-clause-answers : goal.returns-in-Ok-text-clause-answers
returns-in-Ok-text-clause-answers c = λ g n asks ground named.
    (told-text g c.args.self.now c.in-Tells.told c.in-Tells.description c.text-in-Tells.new.self c.cats-in-Tells.result.now c.args.text.now n _ (sym c.in-Tells.ensures.value) c.cats-in-Tells.ensures.same c.in-Ok-text.ensures.text asks named, ground)

pub returns-in-Ok-clause-knows : goal.returns-in-Ok-clause-knows
returns-in-Ok-clause-knows c names knows =
    let run = c.args.self.now in
    in-place names run (doing.Prints c.in-Prints.begun c.in-Prints.description) (doing.Prints c.in-Prints.begun c.text.new.self) c.saturating_sub-self.result (sym c.in-Prints.ensures.value) knows
    (λ h. (h.0, c.text.ensures.knows names (known_in names run.scene (doing.Prints c.in-Prints.begun c.in-Prints.description)).list h.1)) (λ h. h)

pub returns-in-Ok-text-clause-knows : goal.returns-in-Ok-text-clause-knows
returns-in-Ok-text-clause-knows c names knows =
    let run = c.args.self.now in
    in-place names run (doing.Tells c.in-Tells.told c.in-Tells.description) (doing.Tells c.in-Tells.told c.text-in-Tells.new.self) c.saturating_sub-self.result (sym c.in-Tells.ensures.value) knows
    (λ h. c.text-in-Tells.ensures.knows names (known_in names run.scene (doing.Tells c.in-Tells.told c.in-Tells.description)).list h) (λ h. h)
