use Rattle.std.proofs.Common.{◌≡◌, true, false, drop, ◌∙◌, arith}
use Rattle.tx_model.specs.Scanner.{gives_nothing}
use Rattle.tx_scan.specs.Scans.{category_by}
use Rattle.tx_scan.proofs.Scanning.{found-none, found-behind, found-there}
use Rattle.tx_scan.proofs.line.giving.Goals as goal

pub returns-then-not-gives_nothing-clause-given : goal.returns-then-not-gives_nothing-clause-given
returns-then-not-gives_nothing-clause-given c =
    let gives : gives_nothing c.args.state (category_by c.args.cats.now c.in-Some.first.byte) ≡ false = cc in
    c.bytes.invariant.same
    ∙ found-there (category_by c.args.cats.now) c.args.state (drop c.bytes.at c.args.line.now) c.in-Some.first.byte (drop c.in-Some.first.behind c.args.line.now) c.in-Some.ensures.begins gives

pub bytes-preserved : goal.bytes-preserved
bytes-preserved c =
    let none : gives_nothing c.args.state (category_by c.args.cats.now c.in-Some.first.byte) ≡ true = cc in
    record {
      above = omega (arith, c.in-Some.ensures.goes_on.0);
      within = c.in-Some.ensures.goes_on.1;
      same =
          c.bytes.invariant.same
          ∙ found-behind (category_by c.args.cats.now) c.args.state (drop c.bytes.at c.args.line.now) c.in-Some.first.byte (drop c.in-Some.first.behind c.args.line.now) c.in-Some.ensures.begins none;
    }

pub returns-clause-given : goal.returns-clause-given
returns-clause-given c =
    c.bytes.invariant.same ∙ found-none (category_by c.args.cats.now) c.args.state (drop c.bytes.at c.args.line.now) c.in_default.ensures.begins
