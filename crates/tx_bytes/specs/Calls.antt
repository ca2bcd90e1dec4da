-- What each call of the outside does, by its answer.
use Rattle.std.specs.Prelude.{◌≡◌, ℕ, ◌≤◌, List, [], ◌++◌, length, take, IfSome}
use Rattle.tx_bytes.specs.declared.outside.Took.{Took}
use Rattle.tx_bytes.specs.declared.outside.Took.TheVariants as took
use Rattle.tx_bytes.specs.declared.outside.Put.{Put}
use Rattle.tx_bytes.specs.declared.outside.Put.TheVariants as put
use Rattle.tx_bytes.specs.Tells.{Tells, Grows, HasRisen, ReadsNext, Writes, Stays}

-- After a read into a buffer that then holds these bytes.
abbrev pub AfterRead : Tells → List ℕ → Took → Tells → Type 0
-- the next bytes, at least one, are in the buffer's front
AfterRead old buffer (took.Bytes n) new =
    (1 ≤ n) × (n ≤ length buffer) × Grows old.faults new.faults × ReadsNext old (take n buffer) new
-- nothing is left
AfterRead old buffer took.End new = Grows old.faults new.faults × Stays old new × IfSome old.left (λ left. left ≡ [])
-- the call failed, and took nothing
AfterRead old buffer took.Failed new = HasRisen old.faults new.faults × Stays old new

-- After a write of these bytes.
abbrev pub AfterWrite : Tells → List ℕ → Put → Tells → Type 0
AfterWrite old bytes put.All new = Grows old.faults new.faults × Writes old bytes new
-- the call failed, and a prefix was written
AfterWrite old bytes put.Failed new =
    HasRisen old.faults new.faults × ((front back : List ℕ) × (bytes ≡ front ++ back) × Writes old front new)
-- memory was wanting, and nothing was written
AfterWrite old bytes put.Memory new = Grows old.faults new.faults × Stays old new
