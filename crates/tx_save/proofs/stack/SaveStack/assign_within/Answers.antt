use Rattle.std.proofs.Common.{◌≡◌, ◌≢◌, sym, ap, subst, ◌∙◌, reverse}
use Rattle.tx_eqtb.specs.declared.addr.Addr.{Addr}
use Rattle.tx_eqtb.specs.Addresses.{update}
use Rattle.tx_save.specs.Levels.{level_at}
use Rattle.tx_save.specs.Saves.{Fits}
use Rattle.tx_save.proofs.SaveLemmas.{leveled-saved}
use Rattle.tx_save.proofs.StackLemmas.{outside-within, fits-within, held-within}
use Rattle.tx_save.proofs.stack.SaveStack.assign_within.Goals as goal

pub invariant_of-self-2 : goal.invariant_of-self-2
invariant_of-self-2 g c =
    let ne : c.self.inside.level ≢ 1 = λ e. c.requires.open (sym (ap (λ s. s.level) c.self.view_is) ∙ e) in
    let is = c.level_of-level.ensures ∙ ap (λ l. level_at l c.args.at) c.reserve-2.ensures.entries in
    let levels : (q : Addr) → level_at c.write_level.new.levels.entries q ≡ update (level_at c.self.inside.levels.entries) c.args.at c.self.inside.level q = λ q. c.write_level.ensures q ∙ ap (λ l. update (level_at l) c.args.at c.self.inside.level q) c.reserve-2.ensures.entries in
    leveled-saved c.self.inside.level (level_at c.self.inside.levels.entries) (level_at c.write_level.new.levels.entries) c.args.at c.in_ok-old.old c.level_of-level.result (reverse c.self.inside.saves.items) (reverse c.reserve.new.self.items) (reverse c.push_save.new.saves.items) c.self.invariant ne is levels (ap reverse c.reserve.ensures.items) c.push_save.ensures

pub returns-clause-outside : goal.returns-clause-outside
returns-clause-outside g c =
    let ne : c.self.inside.level ≢ 1 = λ e. c.requires.open (sym (ap (λ s. s.level) c.self.view_is) ∙ e) in
    let is = c.level_of-level.ensures ∙ ap (λ l. level_at l c.args.at) c.reserve-2.ensures.entries in
    let levels : (q : Addr) → level_at c.write_level.new.levels.entries q ≡ update (level_at c.self.inside.levels.entries) c.args.at c.self.inside.level q = λ q. c.write_level.ensures q ∙ ap (λ l. update (level_at l) c.args.at c.self.inside.level q) c.reserve-2.ensures.entries in
    rw (← c.self.view_is) (outside-within c.args.over.now c.set.new.self c.args.at c.args.m c.in_ok-old.old c.self.inside.level c.level_of-level.result (level_at c.self.inside.levels.entries) (level_at c.write_level.new.levels.entries) (reverse c.self.inside.saves.items) (reverse c.reserve.new.self.items) (reverse c.push_save.new.saves.items) ne is levels (ap reverse c.reserve.ensures.items) c.push_save.ensures c.in_ok-old.ensures.goes_back c.in_ok-old.ensures.now c.in_ok-old.ensures.before)

pub returns-clause-fits : goal.returns-clause-fits
returns-clause-fits g c =
    let ne : c.self.inside.level ≢ 1 = λ e. c.requires.open (sym (ap (λ s. s.level) c.self.view_is) ∙ e) in
    let is = c.level_of-level.ensures ∙ ap (λ l. level_at l c.args.at) c.reserve-2.ensures.entries in
    let levels : (q : Addr) → level_at c.write_level.new.levels.entries q ≡ update (level_at c.self.inside.levels.entries) c.args.at c.self.inside.level q = λ q. c.write_level.ensures q ∙ ap (λ l. update (level_at l) c.args.at c.self.inside.level q) c.reserve-2.ensures.entries in
    fits-within c.args.over.now c.set.new.self c.args.at c.args.m c.in_ok-old.old c.self.inside.level c.level_of-level.result (level_at c.self.inside.levels.entries) (level_at c.write_level.new.levels.entries) (reverse c.self.inside.saves.items) (reverse c.reserve.new.self.items) (reverse c.push_save.new.saves.items) ne is levels (ap reverse c.reserve.ensures.items) c.push_save.ensures c.in_ok-old.ensures.goes_back c.in_ok-old.ensures.journal (subst (Fits c.args.over.now) (sym c.self.view_is) c.requires.fits)

pub returns-clause-held : goal.returns-clause-held
returns-clause-held g c =
    let ne : c.self.inside.level ≢ 1 = λ e. c.requires.open (sym (ap (λ s. s.level) c.self.view_is) ∙ e) in
    let is = c.level_of-level.ensures ∙ ap (λ l. level_at l c.args.at) c.reserve-2.ensures.entries in
    let levels : (q : Addr) → level_at c.write_level.new.levels.entries q ≡ update (level_at c.self.inside.levels.entries) c.args.at c.self.inside.level q = λ q. c.write_level.ensures q ∙ ap (λ l. update (level_at l) c.args.at c.self.inside.level q) c.reserve-2.ensures.entries in
    rw (← c.self.view_is) (held-within c.args.over.now c.set.new.self c.args.at c.args.m c.in_ok-old.old c.self.inside.level c.level_of-level.result (level_at c.self.inside.levels.entries) (level_at c.write_level.new.levels.entries) (reverse c.self.inside.saves.items) (reverse c.reserve.new.self.items) (reverse c.push_save.new.saves.items) ne is levels (ap reverse c.reserve.ensures.items) c.push_save.ensures c.in_ok-old.ensures.goes_back c.in_ok-old.ensures.held)
