use Rattle.tx_run.specs.Runs.{asked_after}
use Rattle.tx_run.proofs.LawLemmas.{is-share, shares-not, for-share}
use Rattle.tx_environment.specs.Holding.{pooled_of}
use Rattle.tx_run.proofs.KnowledgeLemmas.{falls-as}
use Rattle.tx_run.specs.Knowledge.{in_hand, counts_as}
use Rattle.std.proofs.lemmas.Bool.{false≢true}
use Rattle.std.proofs.Common.{sym, ◌≡◌, arith, ap, ◌∙◌, Some, refl}
use Rattle.tx_run.proofs.TextLemmas.{shared-list}
use Rattle.tx_run.proofs.run.Run.shared.Goals as goal

-- the list is assigned
pub returns-in-Shares-clause-answers : goal.returns-in-Shares-clause-answers
returns-in-Shares-clause-answers c = λ g tokens shares ground content.
    (shared-list g c.args.self.now c.in-Shares.prefixes c.in-Shares.place c.in-Shares.stored c.in-Shares._tokens tokens c.args.list c.stored_meaning.result (sym c.in-Shares.ensures.value) c.stored_meaning.ensures.means shares content, ground)

pub returns-in-Shares-clause-holds : goal.returns-in-Shares-clause-holds
returns-in-Shares-clause-holds c id =
    let m = c.stored_meaning.result in
    let none : in_hand id c.args.self.now.doing ≡ 0 = ap (in_hand id) (sym c.in-Shares.ensures.value) in
    omega (arith, falls-as id (Some m) (pooled_of m) refl, ap (counts_as id) c.stored_meaning.ensures.pooled, none)

-- nothing else asks for that
pub returns-in_default : goal.returns-in_default
returns-in_default c =
    let run = c.args.self.now in
    absurd (false≢true (sym (shares-not run.fallen c.replace.result c.in_default.not-Shares) ∙ ap (λ d. is-share (asked_after run.fallen d)) c.replace.ensures.value ∙ ap is-share c.requires.asked ∙ for-share))
