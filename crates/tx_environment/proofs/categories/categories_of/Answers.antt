use Rattle.std.proofs.Common.{◌≡◌, ℕ, ◌≢◌, ◌<◌, ◌≤◌, true, false, length, arith, refl, sym, ap, ltb, get_or-set_other, get_or-set_same, below_more, ◌∙◌, nat_lt, if◌then◌else◌}
use Rattle.std.proofs.Math.ListN.{get_or-eq_default}
use Rattle.std.proofs.lemmas.List.{length-set}
use Rattle.std.proofs.lemmas.Bool.Decides.{nat_tests}
use Rattle.tx_model.specs.declared.category.Cat.TheVariants.{Other}
use Rattle.tx_scan.specs.Scans.{category_by}
use Rattle.tx_eqtb.specs.declared.addr.AddrKind.TheVariants as kind
use Rattle.tx_eqtb.specs.Meanings.{meanings}
use Rattle.tx_views.specs.Places.{numbered}
use Rattle.tx_environment.specs.Soundness.{category_given, category_in}
use Rattle.tx_environment.proofs.categories.categories_of.Goals as goal

pub loop-byte-preserved : goal.loop-byte-preserved
loop-byte-preserved c = record {
  len = length-set _ _ _ ∙ c.loop-byte.invariant.len;
  each =
      below_more _ _
      (λ k h. let ne : k ≢ c.loop-byte.byte = omega arith in rw get_or-set_other (c.loop-byte.invariant.each k h))
      (let lt : c.loop-byte.byte < length c.loop-byte.cats = omega arith in rw get_or-set_same (c.category_of.ensures ∙ ap category_given (c.get.ensures ∙ ap (meanings c.args.frozen.now) c.addr.ensures)));
}

pub returns : goal.returns
returns c b =
    let m = meanings c.args.frozen.now in
    elim (nat_lt b 256) as (λ t. nat_lt b 256 ≡ t → category_by (record { 0 = c.loop-byte.cats }) b ≡ (if t then category_given (m (numbered kind.CatCode b)) else Other)) [
      | true ↦ λ t. c.loop-byte.invariant.each b (grind (arith, nat_tests))
      | false ↦ λ t. let far : 256 ≤ b = grind (arith, nat_tests) in get_or-eq_default c.loop-byte.cats Other (omega arith)
    ] refl
