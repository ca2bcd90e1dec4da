-- the tokens of the bytes so far
use Rattle.std.proofs.Common.{◌≡◌, take}
use Rattle.tx_private.specs.Texts.{tokens_of}
use Rattle.tx_views.specs.Views.{View, all_viewed}
use Rattle.tx_describe.proofs.tokens.text_tokens.Given as goal

abbrev pub invariant-loop-byte : goal.invariant-loop-byte
invariant-loop-byte l = (view : View) → all_viewed view l.tokens.items ≡ tokens_of (take l.byte-index l.text)
