-- What is read of an input for the next request.
use Rattle.std.specs.Prelude.{◌≡◌, ℕ, ◌+◌, ◌⊎◌, List, [], ◌++◌, length, IfSome}
use Rattle.std.specs.List.{flat_map}
use Rattle.tx_bytes.specs.Tells.{Tells, HasRisen, ReadsNext}
use Rattle.tx_model.specs.Frames.{Request as ModelRequest, IsLawful, frame, bye, ByBytes, ByBye, IsInput, BreaksAt}
use Rattle.tx_proto.specs.Parts.{IsPart, IsProperPart}
use Rattle.tx_proto.specs.declared.requests.Request.{Request}
use Rattle.tx_proto.specs.declared.requests.EndBy.TheVariants as end
use Rattle.tx_proto.specs.declared.requests.Got.{Got}
use Rattle.tx_proto.specs.declared.requests.Got.TheVariants as got

-- the request, as the definitions have it
abbrev pub request_in : Request → ModelRequest
request_in r = record { budget = r.budget; text = r.text }

-- where the input tells its bytes, none are left
abbrev pub IsAtEnd : Tells → Type 0
IsAtEnd input = IfSome input.left (λ left. left ≡ [])

-- The input was read up to and with the place at which it breaks the grammar, or to its end, if it
-- breaks it there.
pub record ReadsToBreak (old : Tells) (place : ℕ) (new : Tells) : Type 0 where
  pub bytes : List ℕ
  pub next : ReadsNext old bytes new
  pub breaks : BreaksAt bytes place
  pub to : (length bytes ≡ place + 1) ⊎ ((length bytes ≡ place) × IsAtEnd new)

-- a first part of a frame or of BYE was read, and not the whole
abbrev pub ReadsProperPart : Tells → Tells → Type 0
ReadsProperPart old new = (bytes : List ℕ) × ReadsNext old bytes new × IsProperPart bytes

-- a first part of a frame or of BYE was read, perhaps the whole
abbrev pub ReadsPart : Tells → Tells → Type 0
ReadsPart old new = (bytes : List ℕ) × ReadsNext old bytes new × IsPart bytes

-- After the next request was read of an input of which so many bytes were read before.
abbrev pub AfterRequest : Tells → ℕ → Got → Tells → Type 0
-- just its frame was read
AfterRequest old at (got.Request r) new = IsLawful (request_in r) × ReadsNext old (frame (request_in r)) new
AfterRequest old at (got.End end.Bye) new = ReadsNext old bye new
AfterRequest old at (got.End end.Bytes) new = ReadsNext old [] new × IsAtEnd new
AfterRequest old at (got.Bad n) new = (place : ℕ) × (n ≡ at + place) × ReadsToBreak old place new
AfterRequest old at got.ReadFault new = HasRisen old.faults new.faults × ReadsProperPart old new
AfterRequest old at got.Memory new = ReadsPart old new

-- an input begins with the frames of these requests
abbrev pub BeginsWith : List ℕ → List ModelRequest → Type 0
BeginsWith input requests = (rest : List ℕ) × (input ≡ flat_map frame requests ++ rest)

-- What an input is of which these requests were read, and then this was got.
abbrev pub ReadsAs : List ℕ → List ModelRequest → Got → Type 0
ReadsAs input requests (got.Request r) = (rest : List ℕ) × (input ≡ flat_map frame requests ++ (frame (request_in r) ++ rest))
ReadsAs input requests (got.End end.Bye) = IsInput input requests ByBye
ReadsAs input requests (got.End end.Bytes) = IsInput input requests ByBytes
ReadsAs input requests (got.Bad n) = BreaksAt input n
ReadsAs input requests got.ReadFault = BeginsWith input requests
ReadsAs input requests got.Memory = BeginsWith input requests
