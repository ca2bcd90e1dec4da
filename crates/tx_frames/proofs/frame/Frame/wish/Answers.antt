use Rattle.std.proofs.Common.{sym, subst}
use Rattle.tx_amounts.specs.Backs.{given}
use Rattle.tx_amounts.specs.Scanning.{wish_of}
use Rattle.tx_frames.specs.Knowledge.{KnowsFrame, KnowsWish}
use Rattle.tx_frames.proofs.KnowledgeLemmas.{knows-scan_wish}
use Rattle.tx_frames.proofs.frame.Frame.wish.Goals as goal

pub returns-in-Scan-clause-knows : goal.returns-in-Scan-clause-knows
returns-in-Scan-clause-knows c known k =
    let s = (subst (λ f. KnowsFrame known f) c.in-Scan.is k).1 in
    subst (λ x. KnowsWish known x) (sym c.scan_wish.ensures)
    (knows-scan_wish known c.in-Scan.scan.begun (wish_of c.in-Scan.scan) (given c.in-Scan.scan.taken.items) s.0 s.1)
