-- proofs/scan/Scan/token/Answers.antt
use Rattle.std.proofs.Common.{[], ◌∷◌, Some, refl, sym, ◌∙◌, subst}
use Rattle.tx_quant.specs.Items.{Token, Answers}
use Rattle.tx_private.specs.Scans.{may_start}
use Rattle.tx_amounts.specs.Automata.{reading, begins, wish_at}
use Rattle.tx_amounts.specs.Backs.{given}
use Rattle.tx_amounts.specs.Names.{begun_tokens, tokens_back}
use Rattle.tx_amounts.specs.Scanning.{token_item, command_of}
use Rattle.tx_amounts.proofs.TellLemmas.{tells, expanded-none, starts-none}
use Rattle.tx_amounts.proofs.NameLemmas.{within-scan}
use Rattle.tx_amounts.proofs.scan.Scan.token.Goals as goal

pub invariant_of-self : goal.invariant_of-self
invariant_of-self c = record { ready = c.begins_with.ensures.may c.if-begins_with.true }

pub returns-clause-says : goal.returns-clause-says
returns-clause-says c view =
    let old = c.args.self.now in
    let t = c.args.token in
    let sense = c.args.sense in
    let none = expanded-none old.begun (wish_at (reading old.automaton [])) c.requires in
    tells view c.answered.result c.token-answer.result old _ (token_item view t sense) (Some t) none none c.token-answer.ensures.same refl
    (starts-none (begins old.automaton) (may_start (reading old.automaton [])) (command_of view t sense) (sym (c.begins_with.ensures.begins view) ∙ c.if-begins_with.false))
    (subst (λ u. Answers c.token-answer.result (reading old.automaton) (Token u) (reading c.token-answer.new.self)) (c.scanned.ensures view) c.token-answer.ensures.answer)
    c.answered.ensures.answer c.answered.ensures.noted

pub returns-clause-names : goal.returns-clause-names
returns-clause-names c =
    within-scan (begun_tokens c.args.self.now.begun) (given c.args.self.now.taken.items) (given c.answered.new.taken.items) (tokens_back c.answered.result) (c.args.token ∷ []) c.answered.ensures.names
