-- What the definitions compute for a text and a budget, as the bytes of the reply.
use Rattle.std.specs.Prelude.{ℕ, List, ◌≡◌, Some}
use Rattle.std.specs.Option.{option_map}
use Rattle.tx_model.specs.Bare.{bare_map}
use Rattle.tx_model.specs.Region.{outcome_in}
use Rattle.tx_model.specs.Replies.{reply_bytes, Answer}

-- a hundred moves one after another are enough for the reply with these bytes
abbrev pub Comes : (text : List ℕ) (budget : ℕ) (reply : List ℕ) → Type 0
Comes text budget reply = option_map (λ o. reply_bytes (Answer o)) (outcome_in 100 bare_map text budget) ≡ Some reply
