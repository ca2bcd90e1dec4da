-- proofs/scan/Scan/end/Answers.antt
use Rattle.std.proofs.Common.{[], None, refl}
use Rattle.tx_private.specs.Readings.{Given, TextEnd}
use Rattle.tx_private.specs.Scans.{may_start}
use Rattle.tx_amounts.specs.Automata.{reading, begins, wish_at}
use Rattle.tx_amounts.specs.Backs.{given}
use Rattle.tx_amounts.specs.Names.{begun_tokens, tokens_back}
use Rattle.tx_amounts.proofs.TellLemmas.{tells, expanded-none, starts-no_end}
use Rattle.tx_amounts.proofs.NameLemmas.{within-scan}
use Rattle.tx_amounts.proofs.scan.Scan.end.Goals as goal

pub returns-clause-says : goal.returns-clause-says
returns-clause-says c view =
    let old = c.args.self.now in
    let none = expanded-none old.begun (wish_at (reading old.automaton [])) c.requires in
    tells view c.answered.result c.token-answer.result old _ (Given TextEnd) None none none c.token-answer.ensures.same refl
    (starts-no_end (begins old.automaton) (may_start (reading old.automaton []))) c.token-answer.ensures.answer c.answered.ensures.answer c.answered.ensures.noted

pub returns-clause-names : goal.returns-clause-names
returns-clause-names c =
    within-scan (begun_tokens c.args.self.now.begun) (given c.args.self.now.taken.items) (given c.answered.new.taken.items) (tokens_back c.answered.result) [] c.answered.ensures.names
