use Rattle.std.proofs.Common.{◌-◌, length, sym, subst}
use Rattle.tx_input.specs.Owned.{Own, AreCounted}
use Rattle.tx_input.proofs.NameLemmas.{counted-drop}
use Rattle.tx_input.proofs.input.Input.give_back.Goals as goal

pub returns-clause-view : goal.returns-clause-view
returns-clause-view c formats view h = record {
  format = h.format;
  counted = subst (λ (own : Own). AreCounted view.naming own) (sym c.truncate.ensures) (counted-drop view.naming (length c.args.self.now.names - c.args.known) c.args.self.now.names h.counted);
}
