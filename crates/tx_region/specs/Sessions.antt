-- What one session reads, and what is due to it.
use Rattle.std.specs.Prelude.{◌≡◌, ℕ, ◌+◌, ◌≤◌, ◌⊎◌, List, [], ◌∷◌, ◌++◌, length}
use Rattle.std.specs.List.{flat_map, AllByRecursion}
use Rattle.tx_bytes.specs.Tells.{Tells, HasRisen, ReadsNext, Writes}
use Rattle.tx_model.specs.Environment.{Map}
use Rattle.tx_model.specs.Frames.{Request, IsLawful, frame, bye, BreaksAt}
use Rattle.tx_model.specs.Replies.{Reply, Full, BadFrame, Answers, reply_bytes}
use Rattle.tx_proto.specs.Parts.{IsProperPart}
use Rattle.tx_proto.specs.Requests.{IsAtEnd}
use Rattle.tx_region.specs.declared.once.Run.{Run}
use Rattle.tx_region.specs.declared.once.Run.TheVariants as run

-- so many regions a session may have
abbrev pub most_regions : ℕ
most_regions = 65536

-- what was read behind the frames that were answered
pub data Tail : Type 0 where
  Nothing : Tail
  ByeLine : Tail
  -- a whole frame that finds the session full
  Unanswered : Request → Tail
  -- bytes with which the input breaks the grammar, at this place among all that the session reads
  Broken : List ℕ → ℕ → Tail
  -- bytes that get no reply, since a call of the input failed or memory was wanting
  Silent : List ℕ → Tail

abbrev pub tail_bytes : Tail → List ℕ
tail_bytes Nothing = []
tail_bytes ByeLine = bye
tail_bytes (Unanswered r) = frame r
tail_bytes (Broken bytes place) = bytes
tail_bytes (Silent bytes) = bytes

-- what is due for it
abbrev pub tail_replies : Tail → List Reply
tail_replies (Unanswered r) = Full ∷ []
tail_replies (Broken bytes place) = BadFrame place ∷ []
tail_replies _ = []

-- the bytes that are due: those of the replies, and of what is due for the rest
abbrev pub due : List Reply → Tail → List ℕ
due replies tail = flat_map reply_bytes (replies ++ tail_replies tail)

-- the bytes that were read: the frames, and the rest
abbrev pub read_of : List Request → Tail → List ℕ
read_of requests tail = flat_map frame requests ++ tail_bytes tail

-- Bytes break the grammar at this place of the session, where so many were read before. They were read up to
-- and with it, or to the input's end.
pub record BreaksSession (before : ℕ) (bytes : List ℕ) (place : ℕ) (input : Tells) : Type 0 where
  pub within : ℕ
  pub at : place ≡ before + within
  pub breaks : BreaksAt bytes within
  pub to : (length bytes ≡ within + 1) ⊎ ((length bytes ≡ within) × IsAtEnd input)

-- the cause of what is due for the rest, where so many regions and bytes came before
abbrev pub HasCause : ℕ → ℕ → List Request → Tail → Tells → Type 0
HasCause had before requests (Unanswered r) input = IsLawful r × (had + length requests ≡ most_regions)
HasCause had before requests (Broken bytes place) input = BreaksSession before (read_of requests (Broken bytes place)) place input
HasCause had before requests _ input = Unit {0}

-- A session that had so many regions, and read so many bytes for them, goes on in the state of this map: the
-- frames of these requests were read, and then this; these replies answer the requests one by one.
pub record Session (had before : ℕ) (map : Map) (requests : List Request) (replies : List Reply) (tail : Tail) (old new : Tells) : Type 0 where
  pub lawful : AllByRecursion IsLawful requests
  pub few : had + length requests ≤ most_regions
  pub after : Map
  pub answers : Answers map requests replies after
  pub reads : ReadsNext old (read_of requests tail) new
  pub cause : HasCause had before requests tail new

-- how an input ends that was read to its end, to BYE or to the frame that finds the session full
abbrev pub IsEnd : Tail → Tells → Type 0
IsEnd Nothing new = IsAtEnd new
IsEnd ByeLine new = Unit {0}
IsEnd (Unanswered r) new = Unit {0}
IsEnd _ new = ⊥

-- a call of the input failed inside a frame
abbrev pub IsCut : Tail → Type 0
IsCut (Silent bytes) = IsProperPart bytes
IsCut _ = ⊥

abbrev pub IsSilent : Tail → Type 0
IsSilent (Silent bytes) = Unit {0}
IsSilent _ = ⊥

abbrev pub IsBroken : ℕ → Tail → Type 0
IsBroken n (Broken bytes place) = place ≡ n
IsBroken n _ = ⊥

-- what the end of a session says of the rest, and what was written of all that is due
abbrev pub Writing : Run → Tail → Tells → List ℕ → Tells → Tells → Type 0
-- the input was read to its end, and all is written
Writing run.Done tail input bytes old new = IsEnd tail input × Writes old bytes new
-- the input breaks the grammar at this place, and all is written
Writing (run.Bad n) tail input bytes old new = IsBroken n tail × Writes old bytes new
-- a call of the input failed, and all replies to whole frames are written
Writing run.ReadFault tail input bytes old new = IsCut tail × Writes old bytes new
-- memory was wanting outside the regions, and the replies to some first frames are written
Writing run.Memory tail input bytes old new = IsSilent tail × Writes old bytes new
-- a call of the output failed, and a prefix is written
Writing run.WriteFault tail input bytes old new = (front back : List ℕ) × (bytes ≡ front ++ back) × Writes old front new

-- the count of faults rose that this end speaks of
abbrev pub HasFault : Run → Tells → Tells → Tells → Tells → Type 0
HasFault run.ReadFault input_old input_new old new = HasRisen input_old.faults input_new.faults
HasFault run.WriteFault input_old input_new old new = HasRisen old.faults new.faults
HasFault _ input_old input_new old new = Unit {0}

-- How a session goes on and ends, from the state of this map, where it had so many regions and read so many
-- bytes before: what it reads of its input, and what it writes.
pub record GoesOn (had before : ℕ) (map : Map) (input_old input_new old : Tells) (r : Run) (new : Tells) : Type 0 where
  pub requests : List Request
  pub replies : List Reply
  pub tail : Tail
  pub session : Session had before map requests replies tail input_old input_new
  pub writing : Writing r tail input_new (due replies tail) old new
  pub fault : HasFault r input_old input_new old new

-- After a session in the state of this map that ended so.
abbrev pub AfterSession : Map → Tells → Tells → Tells → Run → Tells → Type 0
AfterSession map input_old input_new old r new = GoesOn 0 0 map input_old input_new old r new
