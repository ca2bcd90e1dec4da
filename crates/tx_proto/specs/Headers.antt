-- Headers, read byte by byte.
use Rattle.std.specs.Prelude.{◌≡◌, ℕ, ◌≤◌, ◌<◌, List, [], ◌∷◌, ◌++◌, length, take}
use Rattle.std.specs.Fmt.{decimal}
use lib.Chars.{codes}
use Rattle.tx_bytes.specs.Tells.{Tells, HasRisen, ReadsNext}
use Rattle.tx_model.specs.Bytes.{newline, blank}
use Rattle.tx_model.specs.Frames.{bye}
use Rattle.tx_proto.specs.Parts.{BeginsNone}
use Rattle.tx_proto.specs.Requests.{IsAtEnd, ReadsToBreak, ReadsProperPart}
use Rattle.tx_proto.specs.declared.header.HeaderState.{HeaderState}
use Rattle.tx_proto.specs.declared.header.HeaderState.TheVariants as state
use Rattle.tx_proto.specs.declared.header.Next.{Next}
use Rattle.tx_proto.specs.declared.header.Next.TheVariants as next
use Rattle.tx_proto.specs.declared.line.Header.{Header}
use Rattle.tx_proto.specs.declared.line.Line.{Line}
use Rattle.tx_proto.specs.declared.line.Line.TheVariants as line
use Rattle.tx_proto.specs.declared.line.One.{One}
use Rattle.tx_proto.specs.declared.line.One.TheVariants as one

-- a budget that a frame may have
abbrev pub IsBudget : ℕ → Type 0
IsBudget budget = (1 ≤ budget) × (budget ≤ 10000000)

-- a length that a text may have
abbrev pub IsLength : ℕ → Type 0
IsLength len = len ≤ 1048576

-- the word REGION and its blank
abbrev pub region : List ℕ
region = codes "REGION "

-- the bytes of a frame before its text
abbrev pub header : ℕ → ℕ → List ℕ
header budget len = region ++ decimal budget ++ blank ∷ [] ++ decimal len ++ newline ∷ []

-- the bytes for which a state stands
abbrev pub front : HeaderState → List ℕ
front (state.Region n) = take n region
front (state.Bye n) = take n bye
front state.BeforeBudget = region
front (state.Budget budget) = region ++ decimal budget
front (state.BeforeLength budget) = region ++ decimal budget ++ blank ∷ []
front (state.Length budget len) = region ++ decimal budget ++ blank ∷ [] ++ decimal len

-- the state has no more bytes of a word, and no greater numbers, than it may
abbrev pub IsSound : HeaderState → Type 0
IsSound (state.Region n) = n < 7
IsSound (state.Bye n) = (1 ≤ n) × (n < 4)
IsSound state.BeforeBudget = Unit
IsSound (state.Budget budget) = IsBudget budget
IsSound (state.BeforeLength budget) = IsBudget budget
IsSound (state.Length budget len) = IsBudget budget × IsLength len

-- What these bytes are, by the answer to the last one of them.
abbrev pub AfterByte : List ℕ → Next → Type 0
-- a first part of a header or of BYE, for which the state stands
AfterByte bytes (next.On s) = IsSound s × (front s ≡ bytes)
AfterByte bytes (next.Header budget len) = IsBudget budget × IsLength len × (header budget len ≡ bytes)
AfterByte bytes next.Bye = bye ≡ bytes
AfterByte bytes next.Broken = BeginsNone bytes

-- a header of a frame
pub record IsHeader (h : Header) : Type 0 where
  pub budget : IsBudget h.budget
  pub len : IsLength h.length
  pub size : h.size ≡ length (header h.budget h.length)
  pub short : h.size ≤ 24

-- After a line was read.
abbrev pub AfterLine : Tells → Line → Tells → Type 0
AfterLine old (line.Header h) new = IsHeader h × ReadsNext old (header h.budget h.length) new
AfterLine old line.Bye new = ReadsNext old bye new
AfterLine old line.End new = ReadsNext old [] new × IsAtEnd new
AfterLine old (line.Bad place) new = (place < 24) × ReadsToBreak old place new
AfterLine old line.ReadFault new = HasRisen old.faults new.faults × ReadsProperPart old new

-- After one byte was read.
abbrev pub AfterOne : Tells → One → Tells → Type 0
AfterOne old (one.Byte byte) new = ReadsNext old (byte ∷ []) new
AfterOne old one.End new = ReadsNext old [] new × IsAtEnd new
AfterOne old one.ReadFault new = HasRisen old.faults new.faults × ReadsNext old [] new
