use Rattle.std.proofs.Common.{List, refl, sym, ◌∙◌, subst}
use Rattle.std.proofs.Math.Facts.{to_z-of_z}
use Rattle.tx_tok.specs.declared.tok.Tok.{Tok}
use Rattle.tx_input.specs.Worlds.{input_in}
use Rattle.tx_input.specs.Takings.{TakesBy}
use Rattle.tx_input.proofs.TakingLemmas.{list-takes}
use Rattle.tx_input.proofs.input.Input.take.Goals as goal

pub returns-in-Some-clause-taking : goal.returns-in-Some-clause-taking
returns-in-Some-clause-taking c view formats base by_cats by_end =
    list-takes view formats base c.args.self.now c.step.new.self c.next.new.self c.in-Some.token c.step.result c.in-Some.ensures.some c.step.ensures.step

pub returns-in-None-clause-taking : goal.returns-in-None-clause-taking
returns-in-None-clause-taking c view formats base by_cats by_end =
    let none = c.in-None.ensures.none refl in
    subst (λ (lists : List Tok). TakesBy view (input_in view formats base (record c.args.self.now { lists = lists })) c.scan.result c.scan.new.self.wanted (input_in view formats base c.scan.new.self)) (none.1 ∙ sym none.0)
    (c.scan.ensures.taking view formats base by_cats (by_end ∙ sym (to_z-of_z c.ranges.end)))

pub returns-in-None-clause-known : goal.returns-in-None-clause-known
returns-in-None-clause-known c known knows = c.scan.ensures.known known
