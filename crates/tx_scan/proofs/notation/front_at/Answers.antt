use Rattle.std.proofs.Common.{◌∙◌, arith}
use Rattle.tx_scan.specs.Scans.{category_by, from_front}
use Rattle.tx_scan.proofs.Scanning.{fronted-noted}
use Rattle.tx_scan.proofs.notation.front_at.Goals as goal

pub notations-preserved : goal.notations-preserved
notations-preserved c = record {
  above = omega (arith, c.in-Some.ensures.goes_on.0);
  within = c.in-Some.ensures.goes_on.1;
  same =
      c.notations.invariant.same
      ∙ fronted-noted (category_by c.args.cats.now) (from_front c.args.line.now c.notations.front) (from_front c.args.line.now c.in-Some.stands) c.in-Some.ensures.stands;
}
