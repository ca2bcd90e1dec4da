use Rattle.std.proofs.Common.{◌≡◌, ℕ, ◌≢◌, ◌<◌, ◌≤◌, ◌+◌, length, get_or, arith, sym, ap, ◌∙◌, if◌then◌else◌, get_or-set_other, get_or-set_same, below_more}
use Rattle.tx_scan.specs.declared.cats.Cats.{Cats}
use Rattle.tx_scan.specs.Scans.{category_by}
use Rattle.tx_environment.specs.Changes.{IsGiven, is_category_of}
use Rattle.tx_environment.proofs.CategoryLemmas.{pairwise-from}
use Rattle.tx_environment.proofs.LevelLemmas.{present-is}
use Rattle.tx_environment.proofs.categories.give_all.Invariants.{none}
use Rattle.tx_environment.proofs.categories.give_all.Goals as goal

pub loop-cats-preserved : goal.loop-cats-preserved
loop-cats-preserved c =
    let lt : c.loop-cats.cats-index < length c.loop-cats.tables = omega (arith, c.loop-cats.auto.tables, c.loop-cats-test.true) in
    record {
      done =
          below_more _ _
          (λ k h. let ne : k ≢ c.loop-cats.cats-index = omega arith in rw get_or-set_other (c.loop-cats.invariant.done k h))
          (rw get_or-set_same (λ b. c.give.ensures b ∙ ap (λ t. if is_category_of c.args.place b then c.args.category else category_by t b) (c.loop-cats.invariant.left c.loop-cats.cats-index (omega arith))));
      left = λ k h. let ne : k ≢ c.loop-cats.cats-index = omega arith in rw get_or-set_other (c.loop-cats.invariant.left k (omega arith));
    }

pub returns : goal.returns
returns c = pairwise-from (IsGiven c.args.place c.args.category) none none c.args.tables.now c.loop-cats.tables (sym c.loop-cats.auto.tables) (λ k lt. c.loop-cats.invariant.done k (omega (arith, lt, c.loop-cats-test.false)))
