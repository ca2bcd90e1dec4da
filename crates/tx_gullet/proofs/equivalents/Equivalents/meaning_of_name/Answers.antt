use Rattle.std.proofs.Common.{sym, ◌∙◌, ap, subst}
use Rattle.tx_gullet.specs.Meanings.{KnowsMeaning}
use Rattle.tx_gullet.specs.Levels.{or_undefined, before_of}
use Rattle.tx_gullet.proofs.LevelLemmas.{lookup-by-name}
use Rattle.tx_gullet.proofs.equivalents.Equivalents.meaning_of_name.Goals as goal

pub returns-in_ok-clone-in-Some-clause-meaning : goal.returns-in_ok-clone-in-Some-clause-meaning
returns-in_ok-clone-in-Some-clause-meaning c naming apart =
    c.in_ok-clone-in-Some.ensures.cases.same naming
    ∙ sym (ap (or_undefined naming) (lookup-by-name naming c.args.self.now.names.entries c.args.number apart ∙ sym c.in-Some.ensures.value))

pub returns-in_ok-clone-in-Some-clause-knows : goal.returns-in_ok-clone-in-Some-clause-knows
returns-in_ok-clone-in-Some-clause-knows c names all =
    c.in_ok-clone-in-Some.ensures.cases.knows names (subst (λ o. KnowsMeaning names (before_of o)) (sym c.in-Some.ensures.value) (all.cells c.args.number))
