use Rattle.std.proofs.Common.{[]}
use Rattle.tx_amounts.specs.Scanning.{quantity_item}
use Rattle.std.proofs.Common.{None}
use Rattle.tx_amounts.specs.Names.{tokens_back}
use Rattle.tx_frames.proofs.KnowledgeLemmas.{tokens-after, begun-same}
use Rattle.tx_frames.proofs.scan.with_quantity.Goals as goal

pub returns-clause-becomes : goal.returns-clause-becomes
returns-clause-becomes c view w = c.answered.ensures.becomes view c.args.scan (quantity_item c.args.quantity) w (c.quantity-scanned.ensures.says view)

pub returns-clause-knows : goal.returns-clause-knows
returns-clause-knows c known r s =
    let now = tokens-after known c.args.scan c.quantity-scanned.new.self [] (tokens_back c.quantity-scanned.result) c.quantity-scanned.ensures.names tt s.0 in
    c.answered.ensures.knows known r (now.0, begun-same known None c.quantity-scanned.new.self.begun c.quantity-scanned.ensures.begun tt) now.1
