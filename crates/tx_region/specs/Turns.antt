-- What one frame of a session comes to.
use Rattle.std.specs.Prelude.{◌≡◌, ℕ, ◌+◌, ◌<◌, ◌≤◌, List, length}
use Rattle.tx_bytes.specs.Tells.{Tells, Grows, ReadsNext, Writes}
use Rattle.tx_model.specs.Environment.{Map}
use Rattle.tx_model.specs.Frames.{Request, IsLawful, frame}
use Rattle.tx_model.specs.Replies.{Reply, Replies, reply_bytes}
use Rattle.tx_gullet.specs.States.{State, StandsFor}
use Rattle.tx_proto.specs.declared.replies.Sent.{Sent}
use Rattle.tx_proto.specs.declared.replies.Sent.TheVariants as sent
use Rattle.tx_proto.specs.Written.{AfterReply}
use Rattle.tx_region.specs.declared.once.Run.{Run}
use Rattle.tx_region.specs.declared.once.Run.TheVariants as run
use Rattle.tx_region.specs.declared.once.Turn.{Turn}
use Rattle.tx_region.specs.declared.once.Turn.TheVariants as turn
use Rattle.tx_region.specs.Sessions.{most_regions, GoesOn}

-- how a session ends after a reply, if it ends so where all of the reply is written
abbrev pub run_after : Run → Sent → Run
run_after all sent.All = all
run_after all sent.WriteFault = run.WriteFault
run_after all sent.Memory = run.Memory

-- a frame of so many bytes was read and answered
pub record Serves (had : ℕ) (map : Map) (input_old input_new old : Tells) (len : ℕ) (engine : State) (new : Tells) : Type 0 where
  pub request : Request
  pub lawful : IsLawful request
  pub reply : Reply
  pub after : Map
  pub replies : Replies map request reply after
  pub stands : StandsFor engine after
  pub input_grows : Grows input_old.faults input_new.faults
  pub output_grows : Grows old.faults new.faults
  pub reads : ReadsNext input_old (frame request) input_new
  pub writes : Writes old (reply_bytes reply) new
  pub long : len ≡ length (frame request)
  pub few : had < most_regions

-- after a turn in the state of this map, where so many regions and bytes came before
abbrev pub AfterTurn : ℕ → ℕ → Map → Tells → Tells → Tells → Turn → State → Tells → Type 0
AfterTurn had before map input_old input_new old (turn.Served len) engine new = Serves had map input_old input_new old len engine new
AfterTurn had before map input_old input_new old (turn.Ended r) engine new = GoesOn had before map input_old input_new old r new

-- no frame is longer than this, and none is answered where the session is full
abbrev pub IsWithin : ℕ → Turn → Type 0
IsWithin had (turn.Served len) = (len ≤ 1048600) × (had < most_regions)
IsWithin had (turn.Ended r) = Unit {0}

-- After the last reply of a session, which ends so where all of it is written.
abbrev pub AfterClosing : Reply → Tells → Run → Run → Tells → Type 0
AfterClosing reply old all r new = (s : Sent) × AfterReply (reply_bytes reply) old s new × (r ≡ run_after all s)

-- however the session goes on from here, so it does from its beginning
abbrev pub Continues : ℕ → ℕ → Map → Tells → Tells → ℕ → ℕ → Map → Tells → Tells → Type 0
Continues had before map input output had' before' map' input' output' =
    (input_end : Tells) (r : Run) (output_end : Tells) → GoesOn had' before' map' input' input_end output' r output_end → GoesOn had before map input input_end output r output_end
