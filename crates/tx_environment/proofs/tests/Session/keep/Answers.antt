use Rattle.tx_eqtb.specs.Meanings.{meanings}
use Rattle.tx_environment.proofs.tests.Session.keep.Goals as goal

pub invariant_of-self : goal.invariant_of-self
invariant_of-self c =
    let frozen = meanings c.self.inside.frozen in
    c.begin_region.ensures.sound frozen (c.keep_all.ensures.present frozen c.self.invariant.present)
