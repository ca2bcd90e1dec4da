use Rattle.tx_run.specs.Runs.{asked, asked_after}
use Rattle.tx_run.proofs.LawLemmas.{is-take, takes-not, for-take}
use Rattle.std.proofs.lemmas.Bool.{false≢true}
use Rattle.std.proofs.Common.{ap, sym, ◌∙◌}
use Rattle.tx_run.proofs.run.Run.took_list.Goals as goal

-- nothing else asks for that
pub returns-in_default : goal.returns-in_default
returns-in_default c =
    let run = c.args.self.now in
    absurd (false≢true (sym (takes-not run.fallen c.replace.result c.in_default.not-Takes) ∙ ap (λ d. is-take (asked_after run.fallen d)) c.replace.ensures.value ∙ for-take (asked run) c.requires.asked))
