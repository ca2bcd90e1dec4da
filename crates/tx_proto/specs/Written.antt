-- Replies and their writing.
use Rattle.std.specs.Prelude.{◌≡◌, ℕ, List, ◌++◌}
use Rattle.tx_bytes.specs.Tells.{Tells, HasRisen, Writes, Stays}
use Rattle.tx_model.specs.declared.reply.Status.{Status}
use Rattle.tx_model.specs.declared.reply.Status.TheVariants as status
use Rattle.tx_model.specs.Region.{Outcome}
use Rattle.tx_model.specs.Replies.{Reply as ModelReply, Answer, BadFrame, Memory, Full}
use Rattle.tx_proto.specs.declared.replies.Body.{Body}
use Rattle.tx_proto.specs.declared.replies.Reply.{Reply}
use Rattle.tx_proto.specs.declared.replies.Reply.TheVariants as reply
use Rattle.tx_proto.specs.declared.replies.Sent.{Sent}
use Rattle.tx_proto.specs.declared.replies.Sent.TheVariants as sent

-- the outcome with this status
abbrev pub outcome_with : Status → Body → Outcome
outcome_with s body = record { status = s; steps = body.steps; pages = body.pages; dvi = body.dvi; log = body.log }

-- the reply, as the definitions have it
abbrev pub reply_in : Reply → ModelReply
reply_in (reply.Done body) = Answer (outcome_with status.Done body)
reply_in (reply.Fail body) = Answer (outcome_with status.Fail body)
reply_in (reply.Spent body) = Answer (outcome_with status.Spent body)
reply_in reply.Memory = Memory
reply_in reply.Full = Full
reply_in (reply.Bad place) = BadFrame place

-- After a write of these bytes that ended so.
abbrev pub AfterReply : List ℕ → Tells → Sent → Tells → Type 0
AfterReply bytes old sent.All new = Writes old bytes new
-- a call failed, and a prefix was written
AfterReply bytes old sent.WriteFault new =
    HasRisen old.faults new.faults × ((front back : List ℕ) × (bytes ≡ front ++ back) × Writes old front new)
-- memory was wanting, and nothing was written
AfterReply bytes old sent.Memory new = Stays old new
