-- proofs/scan/Scan/dimension/Answers.antt
use Rattle.std.proofs.Common.{[], sym, ◌∙◌, ap}
use Rattle.tx_num.specs.declared.quantities.Want.TheVariants as want
use Rattle.tx_amounts.specs.declared.automaton.Automaton.TheVariants as automaton
use Rattle.tx_amounts.specs.Automata.{reading, valued, dimension_amount}
use Rattle.tx_amounts.proofs.MakerLemmas.{fresh-dimension, fresh-says, fresh-wish}
use Rattle.tx_amounts.proofs.scan.Scan.dimension.Goals as goal

pub returns-clause-says : goal.returns-clause-says
returns-clause-says c view items w =
    fresh-says view c.begin.result (automaton.Dimension c.new.result) items w c.begin.ensures.automaton c.begin.ensures.taken c.begin.ensures.begun ∙
    fresh-dimension c.args.mu c.new.result c.new.ensures items w

pub returns-clause-wish : goal.returns-clause-wish
returns-clause-wish c view w =
    sym (returns-clause-says c view [] w) ∙
    fresh-wish view c.begin.result want.Start w c.begin.ensures.begun
    (ap (λ a. reading a []) c.begin.ensures.automaton ∙ ap (valued dimension_amount) (c.new.ensures []))
