use Rattle.std.proofs.Common.{◌<◌, length, sym, ◌∙◌, ap, subst}
use Rattle.tx_gullet.specs.Meanings.{IsKnown, AreKnown}
use Rattle.tx_gullet.proofs.LevelLemmas.{all-before-last, all-before-none, all-last}
use Rattle.tx_gullet.proofs.PieceLemmas.{list-taken, at-place}
use Rattle.tx_gullet.proofs.input.Lists.next.Goals as goal

pub returns-in_err-list-clause-knows : goal.returns-in_err-list-clause-knows
returns-in_err-list-clause-knows c names knows =
    let now = c.used.invariant.1 names knows in
    record { list = now.list; later = all-before-none (λ l. AreKnown names l.list.value.items) c.used.self.later.items c.pop.new.self.items (c.in_err-list.ensures.items) now.later }

pub used-preserved : goal.used-preserved
used-preserved c = (
  λ naming behind. list-taken naming c.used.self c.pop.new.self.items c.in_ok-list.field-0 behind (c.in_ok-list.ensures.items) (length c.as_slice.result.now) (ap length (c.as_slice.ensures.value ∙ ap (λ v. v.items) c.as_ref.ensures)) c.used-test.true ∙ c.used.invariant.0 naming behind,
  λ names knows.
      let now = c.used.invariant.1 names knows in
      record {
        list = all-last (λ l. AreKnown names l.list.value.items) c.used.self.later.items c.pop.new.self.items c.in_ok-list.field-0 (c.in_ok-list.ensures.items) now.later;
        later = all-before-last (λ l. AreKnown names l.list.value.items) c.used.self.later.items c.pop.new.self.items c.in_ok-list.field-0 (c.in_ok-list.ensures.items) now.later;
      },
)

pub returns-clause-knows : goal.returns-clause-knows
returns-clause-knows c names knows =
    let now = c.used.invariant.1 names knows in
    record { list = now.list; later = now.later }

pub returns-clause-known : goal.returns-clause-known
returns-clause-known c names knows =
    let now = c.used.invariant.1 names knows in
    at-place (IsKnown names) c.as_slice-2.result.now c.used.self.read _ (subst (AreKnown names) (sym (c.as_slice-2.ensures.value ∙ ap (λ v. v.items) c.as_ref-2.ensures)) now.list)
    (subst (λ xs. c.used.self.read < length xs) (c.as_slice.ensures.value ∙ ap (λ v. v.items) c.as_ref.ensures ∙ sym (c.as_slice-2.ensures.value ∙ ap (λ v. v.items) c.as_ref-2.ensures)) c.used-test.false)
