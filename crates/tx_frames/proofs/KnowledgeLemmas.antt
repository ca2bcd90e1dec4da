-- What is known of tokens that are put together, and of scans.
use Rattle.std.proofs.Common.{◌≡◌, true, List, [], ◌∷◌, ◌++◌, ◌⊎◌, inl, inr, Option, None, Some, IfSome, sym, subst}
use Rattle.std.specs.Option.{option_to_list}
use Rattle.tx_tok.specs.declared.tok.Tok.{Tok}
use Rattle.tx_views.specs.declared.sense.Sense.{Sense}
use Rattle.tx_amounts.specs.declared.begun.Begun.{Begun}
use Rattle.tx_amounts.specs.declared.scan.Scan.{Scan}
use Rattle.tx_amounts.specs.declared.amount.ScanWish.{ScanWish}
use Rattle.tx_amounts.specs.declared.amount.ScanWish.TheVariants as how
use Rattle.tx_amounts.specs.Backs.{given}
use Rattle.tx_amounts.specs.Names.{IsWithin, begun_tokens, scan_tokens}
use Rattle.tx_amounts.proofs.NameLemmas.{known-within, known-after}
use Rattle.tx_frames.specs.Frames.{scan_wish}
use Rattle.tx_frames.specs.Knowledge.{Known, KnowsToken, KnowsTokens, KnowsSense, KnowsBegun, KnowsScan, KnowsWish}

-- no tokens
pub knows-none : (known : Known) (tokens : List Tok) → tokens ≡ [] → KnowsTokens known tokens
knows-none known tokens e = subst (λ ts. KnowsTokens known ts) (sym e) tt

-- tokens behind others
pub knows-append : (known : Known) (tokens more : List Tok) → KnowsTokens known tokens → KnowsTokens known more → KnowsTokens known (tokens ++ more)
knows-append known [] more h k = k
knows-append known (t ∷ tokens) more h k = (h.0, knows-append known tokens more h.1 k)

-- tokens whose numbers stand in others
pub knows-within : (known : Known) (tokens others : List Tok) → IsWithin tokens others → KnowsTokens known others → KnowsTokens known tokens
knows-within known tokens others within k = known-within (λ n. known.name n ≡ true) tokens others within k

-- the tokens of a scan that took these tokens, and those that it puts back
pub tokens-after : (known : Known) (old new : Scan) (tokens back : List Tok) → IsWithin (scan_tokens new ++ back) (tokens ++ scan_tokens old) → KnowsTokens known tokens → KnowsTokens known (scan_tokens old) → KnowsTokens known (scan_tokens new) × KnowsTokens known back
tokens-after known old new tokens back within k h = known-after (λ n. known.name n ≡ true) old new tokens back within k h

-- the meaning with which a quantity began: as before, or that of a token
pub begun-same : (known : Known) (old new : Option Begun) → new ≡ old → KnowsBegun known old → KnowsBegun known new
begun-same known old new e k = subst (λ b. KnowsBegun known b) (sym e) k

pub begun-token : (known : Known) (old new : Option Begun) (t : Tok) (s : Sense) → (new ≡ old) ⊎ (new ≡ Some (record { token = t; sense = s })) → KnowsBegun known old → KnowsSense known s → KnowsBegun known new
begun-token known old new t s (inl e) k h = subst (λ b. KnowsBegun known b) (sym e) k
begun-token known old new t s (inr e) k h = subst (λ b. KnowsBegun known b) (sym e) h

-- a scan of which nothing was taken
begun-fresh : (known : Known) (b : Option Begun) (tokens : List Tok) → begun_tokens b ++ tokens ≡ [] → KnowsBegun known b
begun-fresh known None tokens e = tt
begun-fresh known (Some b) tokens e = cc

pub scan-fresh : (known : Known) (s : Scan) → scan_tokens s ≡ [] → KnowsScan known s
scan-fresh known s e = (knows-none known (scan_tokens s) e, begun-fresh known s.begun (given s.taken.items) e)

-- how a scan takes its next item
pub knows-scan_wish : (known : Known) (b : Option Begun) (h : ScanWish) (tokens : List Tok) → KnowsTokens known (begun_tokens b ++ tokens) → KnowsBegun known b → KnowsWish known (scan_wish b h)
knows-scan_wish known None how.Plain tokens k s = tt
knows-scan_wish known None how.Expanded tokens k s = tt
knows-scan_wish known None how.Quantity tokens k s = tt
knows-scan_wish known (Some b) h tokens k s = (k.0, s)

-- a token, where there is one
pub knows-some : (known : Known) (t : Option Tok) → IfSome t (KnowsToken known) → KnowsTokens known (option_to_list t)
knows-some known None k = tt
knows-some known (Some t) k = (k, tt)
