use Rattle.std.proofs.Common.{◌∙◌, ap}
use Rattle.tx_input.specs.Owned.{bytes_of}
use Rattle.tx_input.proofs.OwnedLemmas.{bytes-last}
use Rattle.tx_input.proofs.owned.OwnNames.bytes.Goals as goal

pub returns-in-Some : goal.returns-in-Some
returns-in-Some c =
    bytes-last c.self.inside.ends.entries (c.in-Some.field-0-0.now, c.in-Some.end.now) c.in-Some.ensures.entry ∙ ap bytes_of c.self.view_is
