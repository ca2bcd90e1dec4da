use Rattle.std.proofs.Common.{◌≡◌, ℕ, ◌≢◌, ◌<◌, ◌≤◌, true, false, length, arith, refl, ltb, get_or-set_other, get_or-set_same, below_more, ◌∙◌, sym}
use Rattle.std.proofs.Math.ListN.{get_or-eq_default}
use Rattle.std.proofs.lemmas.List.{length-set}
use Rattle.std.proofs.lemmas.Bool.Decides.{nat_tests}
use Rattle.tx_model.specs.declared.category.Cat.TheVariants.{Other}
use Rattle.tx_model.specs.Bare.{bare_category}
use Rattle.tx_scan.specs.Scans.{category_by}
use Rattle.tx_scan.proofs.cats.Cats.bare.Goals as goal

pub loop-byte-preserved : goal.loop-byte-preserved
loop-byte-preserved c = record {
  len = length-set _ _ _ ∙ c.loop-byte.invariant.len;
  each =
      below_more _ _
      (λ k h. let ne : k ≢ c.loop-byte.byte = omega arith in rw get_or-set_other (c.loop-byte.invariant.each k h))
      (let lt : c.loop-byte.byte < length c.loop-byte.cats = omega arith in rw get_or-set_same c.bare.ensures);
}

-- no byte is beyond 255
bare-beyond : (b : ℕ) → 256 ≤ b → bare_category b ≡ Other
bare-beyond b h = grind (arith, nat_tests)

pub returns : goal.returns
returns c b = elim (ltb b 256) as (λ t. ltb b 256 ≡ t → category_by (record { 0 = c.loop-byte.cats }) b ≡ bare_category b) [
  | true ↦ λ t. c.loop-byte.invariant.each b (grind (arith, nat_tests))
  | false ↦ λ t. let far : 256 ≤ b = grind (arith, nat_tests) in get_or-eq_default c.loop-byte.cats Other (omega arith) ∙ sym (bare-beyond b far)
] refl
