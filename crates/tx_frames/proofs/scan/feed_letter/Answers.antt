use Rattle.tx_amounts.specs.Scanning.{plain_item}
use Rattle.std.specs.Option.{option_to_list}
use Rattle.tx_amounts.specs.Names.{tokens_back}
use Rattle.tx_frames.proofs.KnowledgeLemmas.{tokens-after, begun-same, knows-some}
use Rattle.tx_frames.proofs.scan.feed_letter.Goals as goal

pub returns-clause-becomes : goal.returns-clause-becomes
returns-clause-becomes c view meaning w code = c.answered.ensures.becomes view c.args.scan (plain_item view meaning c.args.token) w (c.letter-scanned.ensures.says view meaning code)

pub returns-clause-knows : goal.returns-clause-knows
returns-clause-knows c known f t =
    let r = f.0 in
    let s = f.1 in
    let now = tokens-after known c.args.scan c.letter-scanned.new.self (option_to_list c.args.token) (tokens_back c.letter-scanned.result) c.letter-scanned.ensures.names (knows-some known c.args.token t) s.0 in
    c.answered.ensures.knows known r (now.0, begun-same known c.args.scan.begun c.letter-scanned.new.self.begun c.letter-scanned.ensures.begun s.1) now.1
