use Rattle.std.proofs.Common.{◌-◌, ◌≤◌, vec_len}
use Rattle.std.specs.Io.KnownBytes.{Consumes}
use Rattle.tx_bytes.proofs.real.shelf.read_whole.Given as goal

-- what was read so far is in the buffer, and fits
abbrev pub invariant-reads : goal.invariant-reads
invariant-reads g l =
    (vec_len l.out ≤ l.limit) × Consumes (g.R.Read.remaining l.fn.reader) (g.R.Read.remaining l.reader) l.out.items

abbrev pub decreases-reads : goal.decreases-reads
decreases-reads g l = l.limit - vec_len l.out
