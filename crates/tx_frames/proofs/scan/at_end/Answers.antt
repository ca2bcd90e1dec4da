use Rattle.std.proofs.Common.{[]}
use Rattle.tx_private.specs.Readings.{Given}
use Rattle.tx_frames.proofs.ScanLemmas.{tells-same}
use Rattle.tx_amounts.specs.Names.{tokens_back}
use Rattle.tx_frames.proofs.KnowledgeLemmas.{tokens-after, begun-same}
use Rattle.tx_frames.proofs.scan.at_end.Goals as goal

pub returns-clause-becomes : goal.returns-clause-becomes
returns-clause-becomes c view value w none =
    c.answered.ensures.becomes view c.args.scan (Given value) w (tells-same view c.end-scanned.result c.args.scan value c.end-scanned.new.self c.requires none (c.end-scanned.ensures.says view))

pub returns-clause-knows : goal.returns-clause-knows
returns-clause-knows c known r s =
    let now = tokens-after known c.args.scan c.end-scanned.new.self [] (tokens_back c.end-scanned.result) c.end-scanned.ensures.names tt s.0 in
    c.answered.ensures.knows known r (now.0, begun-same known c.args.scan.begun c.end-scanned.new.self.begun c.end-scanned.ensures.begun s.1) now.1
