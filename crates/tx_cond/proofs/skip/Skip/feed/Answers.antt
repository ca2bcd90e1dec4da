use Rattle.std.proofs.Common.{◌≡◌, refl, sym, ap, ◌∙◌, ◌-◌, arith}
use Rattle.tx_cond.specs.Skips.{wanted_word}
use Rattle.tx_cond.proofs.SkipLemmas.{passes}
use Rattle.tx_cond.proofs.skip.Skip.feed.Goals as goal
use Rattle.tx_cond.proofs.skip.Skip.feed.Goals.{then-self-eq0+in_default, else-self-eq0}

pub returns-in-Fi : goal.returns-in-Fi
returns-in-Fi c =
    let nested : c.self.inside.nested ≡ c.args.self.now.nested = ap (λ s. s.nested) c.self.view_is in (
      refl,
      λ later. passes c.args.self.now
          (record { wanted = record { or = c.self.inside.or; els = c.self.inside.els }; nested = c.self.inside.nested - 1 })
          c.args.kind later (sym (ap (λ s. s.wanted) c.self.view_is))
          (elim c.if-self-eq0.branch [
            | then-self-eq0+in_default w ↦ λ z. ap (λ s. wanted_word s.wanted c.args.kind) (sym c.self.view_is) ∙ sym w.wanted_end.ensures ∙ w.in_default.is
            | else-self-eq0 w ↦ λ z. absurd (omega arith)
          ])
          (elim c.if-self-eq0.branch [
            | then-self-eq0+in_default w ↦ grind arith
            | else-self-eq0 w ↦ rw c.in-Fi.is (omega arith)
          ]),
    )

pub returns-in-Plain : goal.returns-in-Plain
returns-in-Plain c =
    let nested : c.self.inside.nested ≡ c.args.self.now.nested = ap (λ s. s.nested) c.self.view_is in (
      refl,
      λ later. passes c.args.self.now c.args.self.now c.args.kind later refl
          (elim c.if-self-eq0.branch [
            | then-self-eq0+in_default w ↦ λ z. ap (λ s. wanted_word s.wanted c.args.kind) (sym c.self.view_is) ∙ sym w.wanted_end.ensures ∙ w.in_default.is
            | else-self-eq0 w ↦ λ z. absurd (omega arith)
          ])
          (grind arith),
    )
