-- proofs/scan/Scan/letter/Answers.antt
use Rattle.std.proofs.Common.{[], sym, ◌∙◌, ap, subst}
use Rattle.std.specs.Option.{option_to_list}
use Rattle.tx_quant.specs.Items.{Letter, Answers}
use Rattle.tx_private.specs.Scans.{may_start}
use Rattle.tx_amounts.specs.Automata.{reading, begins, wish_at}
use Rattle.tx_amounts.specs.Backs.{given}
use Rattle.tx_amounts.specs.Names.{begun_tokens, tokens_back}
use Rattle.tx_amounts.specs.Scanning.{plain_item}
use Rattle.tx_amounts.proofs.TellLemmas.{tells, plain-none, plain-letter, plain-token, starts-no_plain}
use Rattle.tx_amounts.proofs.NameLemmas.{within-scan}
use Rattle.tx_amounts.proofs.scan.Scan.letter.Goals as goal

pub returns-clause-says : goal.returns-clause-says
returns-clause-says c view meaning e =
    let old = c.args.self.now in
    let none = plain-none old.begun (wish_at (reading old.automaton [])) c.requires in
    tells view c.answered.result c.letter-answer.result old _ (plain_item view meaning c.args.token) c.args.token none none c.letter-answer.ensures.same
    (plain-token view meaning c.args.token)
    (starts-no_plain view meaning c.args.token (begins old.automaton) (may_start (reading old.automaton [])))
    (subst (λ item. Answers c.letter-answer.result (reading old.automaton) item (reading c.letter-answer.new.self))
    (ap Letter e ∙ sym (plain-letter view meaning c.args.token)) c.letter-answer.ensures.answer)
    c.answered.ensures.answer c.answered.ensures.noted

pub returns-clause-names : goal.returns-clause-names
returns-clause-names c =
    within-scan (begun_tokens c.args.self.now.begun) (given c.args.self.now.taken.items) (given c.answered.new.taken.items) (tokens_back c.answered.result) (option_to_list c.args.token) c.answered.ensures.names
