-- What is known of the places of names.
use Rattle.std.proofs.Common.{IfSome}
use Rattle.tx_tok.specs.declared.tok.Tok.{Tok}
use Rattle.tx_tok.specs.declared.tok.Tok.TheVariants as tok
use Rattle.tx_assign.specs.Assigned.{place_of}
use Rattle.tx_frames.specs.Knowledge.{Known, KnowsToken, KnowsPlace}

-- where a token is known, its place is
pub KnowsPlace-place_of : (known : Known) (t : Tok) → KnowsToken known t → IfSome (place_of t) (KnowsPlace known)
KnowsPlace-place_of known (tok.Name n) h = h
KnowsPlace-place_of known (tok.Active b) h = tt
KnowsPlace-place_of known _ h = tt
