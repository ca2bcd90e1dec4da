use Rattle.tx_gullet.proofs.UndoLemmas.{map-cloned, knows-cloned}
use Rattle.tx_gullet.proofs.StateLemmas.{knows-unsaved}
use Rattle.tx_gullet.proofs.equivalents.Equivalents.unsaved.Goals as goal

pub returns-clause-map : goal.returns-clause-map
returns-clause-map c naming = map-cloned naming c.args.self.now.cats c.args.self.now.names.entries c.in_ok-names.names.entries c.in_ok-names.ensures.cases

pub returns-clause-knows : goal.returns-clause-knows
returns-clause-knows c names knows =
    knows-unsaved names (record { cats = c.args.self.now.cats; names = c.in_ok-names.names; saves = c.new.result }) c.new.ensures.items
    (λ n. knows-cloned names c.args.self.now.names.entries c.in_ok-names.names.entries c.in_ok-names.ensures.cases n (knows.cells n))
