-- the bytes so far are those for which the state stands
use Rattle.std.proofs.Common.{◌≡◌, ℕ, ◌-◌, ◌≤◌, length}
use Rattle.tx_bytes.specs.Tells.{Tells, ReadsNext}
use Rattle.tx_proto.specs.Headers.{front, IsSound}
use Rattle.tx_proto.specs.declared.header.HeaderState.{HeaderState}
use Rattle.tx_proto.proofs.line.read_line.Given as goal

pub record SoFar (old : Tells) (state : HeaderState) (place : ℕ) (new : Tells) : Type 0 where
  pub sound : IsSound state
  pub next : ReadsNext old (front state) new
  pub at : place ≡ length (front state)
  pub grows : old.faults ≤ new.faults

abbrev pub invariant-bytes : goal.invariant-bytes
invariant-bytes g l =
    let tells = g.L.Told.tells in
    SoFar (tells l.initial.from) l.state l.place (tells l.from)

abbrev pub decreases-bytes : goal.decreases-bytes
decreases-bytes g l = 24 - l.place
