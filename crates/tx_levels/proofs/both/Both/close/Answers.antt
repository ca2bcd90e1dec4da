use Rattle.std.proofs.Common.{[], ap, length, arith}
use Rattle.tx_eqtb.specs.Meanings.{meanings}
use Rattle.tx_levels.proofs.AgreementLemmas.{agrees-closed, one-outside}
use Rattle.tx_levels.proofs.both.Both.close.Goals as goal

pub invariant_of-result-in-Some : goal.invariant_of-result-in-Some
invariant_of-result-in-Some c = (
  c.end_group.ensures.fits,
  agrees-closed c.self.inside.over c.end_group.new.over c.self.inside.groups c.end_group.new.groups c.self.inside.levels c.in-Some.levels c.end_group.ensures.before c.end_group.ensures.maps c.in-Some.ensures.some.0 c.in-Some.ensures.some.1 c.self.invariant.1,
  omega (arith, c.end_group.ensures.level, c.self.invariant.2, ap length c.in-Some.ensures.some.0),
)

pub unreachable-requires : goal.unreachable-requires
unreachable-requires c =
    one-outside c.self.inside.over c.end_group.new.over c.self.inside.groups c.end_group.new.groups c.self.inside.levels c.end_group.ensures.maps c.self.invariant.1 c.in-None.ensures.none (meanings [])
