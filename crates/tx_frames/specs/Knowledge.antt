-- What is known of numbers: whoever asks for the text of a name or the content of a list may ask for these.
use Rattle.std.specs.Prelude.{◌≡◌, ℕ, Bool, true, List, Option, Some, None}
use Rattle.std.specs.List.{AllByRecursion}
use Rattle.tx_tok.specs.declared.tok.Tok.{Tok}
use Rattle.tx_tok.specs.declared.tok.Tok.TheVariants as tok
use Rattle.tx_tok.specs.declared.tok.ListRef.{ListRef}
use Rattle.tx_tok.specs.declared.tok.ListRef.TheVariants as list
use Rattle.tx_views.specs.declared.sense.Sense.{Sense}
use Rattle.tx_views.specs.declared.sense.Sense.TheVariants as sense
use Rattle.tx_views.specs.declared.place.Place.{Place}
use Rattle.tx_views.specs.declared.place.Place.TheVariants as place
use Rattle.tx_amounts.specs.declared.begun.Begun.{Begun}
use Rattle.tx_amounts.specs.declared.scan.Scan.{Scan}
use Rattle.tx_amounts.specs.Names.{scan_tokens}
use Rattle.tx_frames.specs.declared.reading.Reading.{Reading}
use Rattle.tx_frames.specs.declared.reading.Reading.TheVariants as reading
use Rattle.tx_frames.specs.declared.frame.Wish.{Wish}
use Rattle.tx_frames.specs.declared.frame.Wish.TheVariants as wish
use Rattle.tx_frames.specs.declared.frame.Stage.{Stage}
use Rattle.tx_frames.specs.declared.frame.Stage.TheVariants as stage
use Rattle.tx_frames.specs.declared.frame.Frame.{Frame}
use Rattle.tx_frames.specs.declared.frame.Frame.TheVariants as frame
use Rattle.tx_frames.specs.declared.list_place.ListPlace.{ListPlace}
use Rattle.tx_frames.specs.declared.list_place.ListPlace.TheVariants as list_place
use Rattle.tx_frames.specs.declared.value.Value.{Value}
use Rattle.tx_frames.specs.declared.value.Value.TheVariants as value
use Rattle.tx_frames.specs.declared.value.Item.{Item}
use Rattle.tx_frames.specs.declared.value.Item.TheVariants as item
use Rattle.tx_frames.specs.declared.answer.Print.{Print}
use Rattle.tx_frames.specs.declared.answer.Print.TheVariants as print
use Rattle.tx_frames.specs.declared.answer.Work.{Work}
use Rattle.tx_frames.specs.declared.answer.Work.TheVariants as work
use Rattle.tx_frames.specs.declared.answer.Answer.{Answer}
use Rattle.tx_frames.specs.declared.answer.Answer.TheVariants as answer

-- the numbers of names that have a text, and the lists that are held
pub record Known : Type 0 where
  pub name : ℕ → Bool
  pub list : ListRef → Bool

-- a token's number is known, if it is a name
abbrev pub KnowsToken : Known → Tok → Type 0
KnowsToken known (tok.Name n) = known.name n ≡ true
KnowsToken known _ = Unit {0}

abbrev pub KnowsTokens : Known → List Tok → Type 0
KnowsTokens known tokens = AllByRecursion (KnowsToken known) tokens

-- a list is held, unless it is the empty one
abbrev pub KnowsList : Known → ListRef → Type 0
KnowsList known list.Empty = Unit {0}
KnowsList known reference = known.list reference ≡ true

-- the list that a meaning has is held
abbrev pub KnowsSense : Known → Sense → Type 0
KnowsSense known (sense.Macro long protected list) = KnowsList known list
KnowsSense known (sense.List list) = KnowsList known list
KnowsSense known _ = Unit {0}

-- a token with what it means
abbrev pub KnowsCommand : Known → Tok → Sense → Type 0
KnowsCommand known t s = KnowsToken known t × KnowsSense known s

-- a place is known, if it is that of a name
abbrev pub KnowsPlace : Known → Place → Type 0
KnowsPlace known (place.Name n) = known.name n ≡ true
KnowsPlace known _ = Unit {0}

abbrev pub KnowsListPlace : Known → ListPlace → Type 0
KnowsListPlace known (list_place.At p) = KnowsPlace known p
KnowsListPlace known _ = Unit {0}

-- what the readings have is known
abbrev pub KnowsReading : Known → Reading → Type 0
KnowsReading known (reading.Quantity t s) = KnowsCommand known t s
KnowsReading known _ = Unit {0}

abbrev pub KnowsWish : Known → Wish → Type 0
KnowsWish known (wish.Within r) = KnowsReading known r
KnowsWish known _ = Unit {0}

abbrev pub KnowsBegun : Known → Option Begun → Type 0
KnowsBegun known None = Unit {0}
KnowsBegun known (Some begun) = KnowsSense known begun.sense

abbrev pub KnowsScan : Known → Scan → Type 0
KnowsScan known s = KnowsTokens known (scan_tokens s) × KnowsBegun known s.begun

abbrev pub KnowsStage : Known → Stage → Type 0
KnowsStage known (stage.TheQuantity t s) = KnowsCommand known t s
KnowsStage known _ = Unit {0}

abbrev pub KnowsFrame : Known → Frame → Type 0
KnowsFrame known frame.LeftBrace = Unit {0}
KnowsFrame known frame.Equals = Unit {0}
KnowsFrame known (frame.Scan r s) = KnowsReading known r × KnowsScan known s
KnowsFrame known (frame.Quantity t a) = KnowsToken known t
KnowsFrame known (frame.Text x) = KnowsTokens known x.tokens
KnowsFrame known (frame.List s) = Unit {0}
KnowsFrame known (frame.Expansion text s) = KnowsStage known s

-- what they are given
abbrev pub KnowsValue : Known → Value → Type 0
KnowsValue known (value.Command t s) = KnowsCommand known t s
KnowsValue known (value.Tokens tokens) = KnowsTokens known tokens
KnowsValue known _ = Unit {0}

abbrev pub KnowsItem : Known → Item → Type 0
KnowsItem known (item.Token t s) = KnowsCommand known t s
KnowsItem known item.End = Unit {0}
KnowsItem known (item.Given v) = KnowsValue known v

-- and what they answer
abbrev pub KnowsPrint : Known → Print → Type 0
KnowsPrint known (print.Token t) = KnowsToken known t
KnowsPrint known (print.Meaning s) = KnowsSense known s
KnowsPrint known _ = Unit {0}

abbrev pub KnowsWork : Known → Work → Type 0
KnowsWork known (work.Amount p) = KnowsPlace known p
KnowsWork known (work.ListAt p) = KnowsPlace known p
KnowsWork known (work.TheList text p) = KnowsPlace known p
KnowsWork known (work.TheAmount text q) = Unit {0}
KnowsWork known (work.Body list) = KnowsList known list
KnowsWork known (work.Print p) = KnowsPrint known p
KnowsWork known (work.Store tokens) = KnowsTokens known tokens
KnowsWork known (work.NoQuantity s) = KnowsSense known s

abbrev pub KnowsAnswer : Known → Answer → Type 0
KnowsAnswer known (answer.Goes f back) = KnowsFrame known f × KnowsTokens known back
KnowsAnswer known (answer.Again back) = KnowsTokens known back
KnowsAnswer known (answer.Done v back) = KnowsValue known v × KnowsTokens known back
KnowsAnswer known (answer.Wrong e) = Unit {0}
KnowsAnswer known (answer.Works x) = KnowsWork known x
KnowsAnswer known answer.Memory = Unit {0}
