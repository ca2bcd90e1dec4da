-- What the automaton of a scan says of the items to come.
use Rattle.std.specs.Prelude.{ℕ, ℤ, Bool, true, false, [], Option, Some, None}
use Rattle.tx_num.specs.declared.glue.GlueSpec.{GlueSpec}
use Rattle.tx_num.specs.declared.quantities.Quant.TheVariants as quant
use Rattle.tx_num.specs.declared.quantities.Want.TheVariants as want
use Rattle.tx_num.specs.declared.quantities.Feed.{Feed}
use Rattle.tx_num.specs.declared.quantities.Feed.TheVariants as feed
use Rattle.tx_quant.specs.Items.{Move, Asks, Gives, Fails, Reading}
use Rattle.tx_quant.specs.NumberStates.{number_says}
use Rattle.tx_quant.specs.DimensionStates.{dimension_says}
use Rattle.tx_quant.specs.GlueStates.{glue_says}
use Rattle.tx_quant.specs.Keywords.{keyword_says}
use Rattle.tx_private.specs.Meanings.{Meaning}
use Rattle.tx_private.specs.Readings.{Value, Amount as AmountOf, Word as WordOf}
use Rattle.tx_private.specs.Quantities.{begins_quantity}
use Rattle.tx_private.specs.Scans.{may_start}
use Rattle.tx_private.specs.Moves.{none}
use Rattle.tx_amounts.specs.declared.amount.Amount.{Amount}
use Rattle.tx_amounts.specs.declared.amount.Amount.TheVariants as amount
use Rattle.tx_amounts.specs.declared.amount.ScanWish.{ScanWish}
use Rattle.tx_amounts.specs.declared.amount.ScanWish.TheVariants as wish
use Rattle.tx_amounts.specs.declared.begun.Begun.{Begun}
use Rattle.tx_amounts.specs.declared.automaton.Automaton.{Automaton}
use Rattle.tx_amounts.specs.declared.automaton.Automaton.TheVariants as automaton

-- the value of a scan, as the definitions have it
abbrev pub amount_in : Amount → Value
amount_in (amount.Quantity q) = AmountOf q
amount_in (amount.Word k) = WordOf k

-- the values of the automata as those of scans
abbrev pub number_amount : ℤ → Amount
number_amount v = amount.Quantity (quant.Int v)

abbrev pub dimension_amount : ℤ → Amount
dimension_amount v = amount.Quantity (quant.Dim v)

abbrev pub glue_amount : Bool → GlueSpec → Amount
glue_amount true g = amount.Quantity (quant.Mu g)
glue_amount false g = amount.Quantity (quant.Glue g)

abbrev pub word_amount : ℕ → Amount
word_amount k = amount.Word k

-- a move with another value
abbrev pub valued : {V W : Type 0} → (V → W) → Move V → Move W
valued f (Asks how back) = Asks how back
valued f (Gives v back) = Gives (f v) back
valued f (Fails error) = Fails error

-- an answer with another value
abbrev pub fed : {V W : Type 0} → (V → W) → Feed V → Feed W
fed f (feed.More back) = feed.More back
fed f (feed.Done v back) = feed.Done (f v) back
fed f (feed.Bad error) = feed.Bad error
fed f feed.Memory = feed.Memory

-- what an automaton says
abbrev pub reading : Automaton → Reading Amount
reading (automaton.Number n) items = valued number_amount (number_says n items)
reading (automaton.Dimension d) items = valued dimension_amount (dimension_says d items)
reading (automaton.Glue mu g) items = valued (glue_amount mu) (glue_says g items)
reading (automaton.Keyword k) items = valued word_amount (keyword_says k items)

-- with which meanings a quantity may begin
abbrev pub begins : Automaton → Meaning → Bool
begins (automaton.Keyword k) meaning = none meaning
begins _ meaning = begins_quantity meaning

-- how a token is to be taken
abbrev pub wish_at : {V : Type 0} → Move V → ScanWish
wish_at (Asks want.Plain back) = wish.Plain
wish_at _ = wish.Expanded

-- a quantity has begun only where one may
abbrev pub is_ready : Option Begun → Automaton → Bool
is_ready None a = true
is_ready (Some begun) a = may_start (reading a [])
