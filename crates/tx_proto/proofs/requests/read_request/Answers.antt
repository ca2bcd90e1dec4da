use Rattle.tx_proto.proofs.LineLemmas.{body-read}
use Rattle.tx_proto.proofs.requests.read_request.Goals as goal

pub returns-in-Header-clause-read : goal.returns-in-Header-clause-read
returns-in-Header-clause-read g c = body-read _ _ _ c.args.at c.in-Header.header c.read_body.result c.in-Header.ensures.line c.read_line.ensures.grows c.read_body.ensures.body
