use Rattle.std.proofs.Common.{◌≡◌, true, false, drop, ◌∙◌, sym, ap, arith}
use Rattle.std.proofs.Math.Seq.{drop-length}
use Rattle.tx_model.specs.Scanner.{Run, is_letter}
use Rattle.tx_scan.specs.Scans.{category_by}
use Rattle.tx_scan.proofs.Scanning.{letters-none, letters-more, letters-end, name-ends, name-grows}
use Rattle.tx_scan.proofs.line.letters.Goals as goal

pub returns-then-not-is_letter : goal.returns-then-not-is_letter
returns-then-not-is_letter c =
    let other : is_letter (category_by c.args.cats.now c.in-Some.next.byte) ≡ false = cc in
    let run = letters-end (category_by c.args.cats.now) (drop c.letters.at c.args.line.now) c.in-Some.next.byte (drop c.in-Some.next.behind c.args.line.now) c.in-Some.ensures.begins other in
    rw c.before-then-not-is_letter.ensures (name-ends _ _ _ (ap (λ (r : Run). r.letters) run) c.letters.invariant.letters, (omega (arith, c.in-Some.ensures.goes_on.0), c.in-Some.ensures.goes_on.1), sym (c.letters.invariant.behind ∙ ap (λ (r : Run). r.behind) run))

pub letters-preserved : goal.letters-preserved
letters-preserved c =
    let letter : is_letter (category_by c.args.cats.now c.in-Some.next.byte) ≡ true = cc in
    let run = letters-more (category_by c.args.cats.now) (drop c.letters.at c.args.line.now) c.in-Some.next.byte (drop c.in-Some.next.behind c.args.line.now) c.in-Some.ensures.begins letter in
    record {
      within = c.in-Some.ensures.goes_on.1;
      letters = name-grows _ _ _ _ _ _ (ap (λ (r : Run). r.letters) run) c.in_ok-push-2.ensures.items c.letters.invariant.letters;
      behind = c.letters.invariant.behind ∙ ap (λ (r : Run). r.behind) run;
    }

pub returns : goal.returns
returns c =
    let run = letters-none (category_by c.args.cats.now) (drop c.letters.at c.args.line.now) c.in_default.ensures.begins in
    rw c.at.ensures (
      name-ends _ _ _ (ap (λ (r : Run). r.letters) run) c.letters.invariant.letters,
      (omega arith, omega arith),
      drop-length c.args.line.now ∙ sym (c.letters.invariant.behind ∙ ap (λ (r : Run). r.behind) run),
    )
