use Rattle.std.proofs.Common.{[], ◌∷◌, sym, ◌∙◌, ap, subst}
use Rattle.tx_names.specs.Names.{Agrees}
use Rattle.tx_gullet.specs.Levels.{KnowsEquivalents}
use Rattle.tx_gullet.specs.States.{IsFormat}
use Rattle.tx_gullet.proofs.StateLemmas.{levels-unsaved}
use Rattle.tx_gullet.proofs.format.Format.state.Goals as goal

pub returns-clause-rest : goal.returns-clause-rest
returns-clause-rest c = record {
  knows = c.in_ok-equivalents.ensures.knows c.in_ok-names.names (subst (λ t. KnowsEquivalents t c.self.inside.equivalents) (sym c.in_ok-names.ensures.cases) c.self.invariant.knows);
  unsaved = c.in_ok-equivalents.ensures.saves;
}

pub returns-clause-stands : goal.returns-clause-stands
returns-clause-stands c map stands naming apart agrees =
    let here = subst (λ s. IsFormat s map) (sym c.self.view_is) stands in
    levels-unsaved naming c.in_ok-equivalents.equivalents c.in_ok-equivalents.ensures.saves
    ∙ ap (λ m. m ∷ []) (c.in_ok-equivalents.ensures.map naming)
    ∙ sym (levels-unsaved naming c.self.inside.equivalents c.self.invariant.unsaved)
    ∙ here naming apart (subst (Agrees naming) c.in_ok-names.ensures.cases agrees)
