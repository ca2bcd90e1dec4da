use Rattle.std.proofs.Common.{◌∷◌, []}
use Rattle.tx_amounts.specs.Scanning.{token_item}
use Rattle.tx_amounts.specs.Names.{tokens_back}
use Rattle.tx_frames.proofs.KnowledgeLemmas.{tokens-after, begun-token}
use Rattle.tx_frames.proofs.scan.with_token.Goals as goal

pub returns-clause-becomes : goal.returns-clause-becomes
returns-clause-becomes c view w = c.answered.ensures.becomes view c.args.scan (token_item view c.args.token c.args.sense) w (c.token-scanned.ensures.says view)

pub returns-clause-knows : goal.returns-clause-knows
returns-clause-knows c known r s t m =
    let now = tokens-after known c.args.scan c.token-scanned.new.self (c.args.token ∷ []) (tokens_back c.token-scanned.result) c.token-scanned.ensures.names (t, tt) s.0 in
    c.answered.ensures.knows known r (now.0, begun-token known c.args.scan.begun c.token-scanned.new.self.begun c.args.token c.args.sense c.token-scanned.ensures.begun s.1 m) now.1
