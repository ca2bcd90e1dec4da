-- the bytes so far
use Rattle.std.proofs.Common.{◌≡◌, ℕ, ◌-◌, ◌≤◌, List, length, take}
use Rattle.tx_bytes.specs.Tells.{Tells, ReadsNext}
use Rattle.tx_proto.proofs.text.read_text.Given as goal

pub record SoFar (old : Tells) (bytes : List ℕ) (count len : ℕ) (new : Tells) : Type 0 where
  pub within : count ≤ len
  pub long : length bytes ≡ len
  pub next : ReadsNext old (take count bytes) new
  pub grows : old.faults ≤ new.faults

abbrev pub invariant-reads : goal.invariant-reads
invariant-reads g l =
    let tells = g.L.Told.tells in
    SoFar (tells l.initial.from) l.bytes.items l.count l.length (tells l.from)

abbrev pub decreases-reads : goal.decreases-reads
decreases-reads g l = l.length - l.count
