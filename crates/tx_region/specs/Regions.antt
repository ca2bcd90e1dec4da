-- What running one region does to the session's state.
use Rattle.tx_model.specs.Environment.{Map}
use Rattle.tx_model.specs.Replies.{Replies}
use Rattle.tx_proto.specs.declared.requests.Request.{Request}
use Rattle.tx_proto.specs.declared.replies.Reply.{Reply}
use Rattle.tx_proto.specs.declared.replies.Reply.TheVariants as reply
use Rattle.tx_proto.specs.Requests.{request_in}
use Rattle.tx_proto.specs.Written.{reply_in}
use Rattle.tx_gullet.specs.States.{State, StandsFor}

-- from the state before, the reply is the private TeX's, which leaves the state after
abbrev pub Answered : Request → Map → State → Reply → Type 0
Answered request map engine answer = (after : Map) × Replies map (request_in request) (reply_in answer) after × StandsFor engine after

abbrev pub IsDone : Reply → Type 0
IsDone (reply.Done body) = Unit {0}
IsDone _ = ⊥
