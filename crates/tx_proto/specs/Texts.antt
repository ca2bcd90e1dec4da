-- The text of a frame, read into memory.
use Rattle.std.specs.Prelude.{◌≡◌, ℕ, ◌+◌, ◌<◌, List, length}
use Rattle.tx_bytes.specs.Tells.{Tells, HasRisen, ReadsNext, Stays}
use Rattle.tx_proto.specs.Requests.{IsAtEnd}
use Rattle.tx_proto.specs.declared.line.Header.{Header}
use Rattle.tx_proto.specs.declared.requests.Got.{Got}
use Rattle.tx_proto.specs.declared.requests.Got.TheVariants as got
use Rattle.tx_proto.specs.declared.text.Text.{Text}
use Rattle.tx_proto.specs.declared.text.Text.TheVariants as text

-- fewer bytes than these were read
abbrev pub ReadsFewer : ℕ → Tells → Tells → Type 0
ReadsFewer len old new = (bytes : List ℕ) × (length bytes < len) × ReadsNext old bytes new

-- After a read of so many bytes.
abbrev pub AfterText : ℕ → Tells → Text → Tells → Type 0
AfterText len old (text.All bytes) new = (length bytes ≡ len) × ReadsNext old bytes new
-- the input ended after so many bytes
AfterText len old (text.Short count) new =
    (count < len) × ((bytes : List ℕ) × (length bytes ≡ count) × ReadsNext old bytes new) × IsAtEnd new
AfterText len old text.ReadFault new = HasRisen old.faults new.faults × ReadsFewer len old new
-- nothing was read
AfterText len old text.Memory new = Stays old new

-- After the text behind this header was read, where so many bytes were read before the header.
abbrev pub AfterBody : Tells → ℕ → Header → Got → Tells → Type 0
AfterBody old at h (got.Request r) new = (r.budget ≡ h.budget) × (length r.text ≡ h.length) × ReadsNext old r.text new
AfterBody old at h (got.Bad n) new =
    (count : ℕ) × (n ≡ at + h.size + count) × (count < h.length) × ((bytes : List ℕ) × (length bytes ≡ count) × ReadsNext old bytes new) × IsAtEnd new
AfterBody old at h got.ReadFault new = HasRisen old.faults new.faults × ReadsFewer h.length old new
AfterBody old at h got.Memory new = Stays old new
AfterBody old at h (got.End e) new = ⊥
