-- Objects of the outside over std's readers and writers.
use Rattle.std.specs.Prelude.{◌≡◌, ℕ, ◌<◌, ◌≤◌, List, [], ◌++◌, length, take, Option, None, IfSome}
use Rattle.std.specs.Io.KnownBytes.{Keeps, Appends, Consumes, IsAtEnd}
use Rattle.tx_bytes.specs.Tells.{Tells}
use Rattle.tx_bytes.specs.Shelves.{ShelfTells}
use Rattle.tx_bytes.specs.Memory.{counted}
use Rattle.tx_bytes.specs.declared.outside.Look.{Look}
use Rattle.tx_bytes.specs.declared.outside.Look.TheVariants as look
use Rattle.tx_bytes.specs.declared.outside.Took.{Took}
use Rattle.tx_bytes.specs.declared.outside.Took.TheVariants as took
use Rattle.tx_bytes.specs.declared.outside.Put.{Put}
use Rattle.tx_bytes.specs.declared.outside.Put.TheVariants as put

-- How many calls failed, and the bytes that the reader will give or that the writer took, where it
-- tells them. A file, a socket or a terminal tells none.
pub record Real : Type 0 where
  pub faults : ℕ
  pub bytes : Option (List ℕ)

-- to the program each tells its count of faults alone
abbrev pub real_tells_of : Real → Tells
real_tells_of real = record { faults = real.faults; was_read = None; left = None; got = None }

-- After a read into a buffer that then holds these bytes: those that the reader gave.
abbrev pub RealReads : Real → List ℕ → Took → Real → Type 0
RealReads old buffer (took.Bytes n) new = (new.faults ≡ old.faults) × Consumes old.bytes new.bytes (take n buffer)
RealReads old buffer took.End new = (new.faults ≡ old.faults) × Keeps old.bytes new.bytes × IsAtEnd new.bytes
RealReads old buffer took.Failed new = (new.faults ≡ counted old.faults) × Keeps old.bytes new.bytes

-- the writer took a prefix of these bytes
abbrev pub AppendsSome : Option (List ℕ) → Option (List ℕ) → List ℕ → Type 0
AppendsSome old new bytes = (front back : List ℕ) × (bytes ≡ front ++ back) × Appends old new front

-- After a write of these bytes.
abbrev pub RealWrites : Real → List ℕ → Put → Real → Type 0
RealWrites old bytes put.All new = (new.faults ≡ old.faults) × Appends old.bytes new.bytes bytes
RealWrites old bytes put.Failed new = (new.faults ≡ counted old.faults) × AppendsSome old.bytes new.bytes bytes
RealWrites old bytes put.Memory new = ⊥

-- to the program a shelf over files tells its count of faults alone
abbrev pub shelf_faults_of : ℕ → ShelfTells
shelf_faults_of faults = record { faults = faults; files = None }

-- the count of faults after a look with this answer
abbrev pub faults_after_look : Look → ℕ → ℕ
faults_after_look look.Found faults = faults
faults_after_look look.Absent faults = faults
faults_after_look look.Long faults = faults
faults_after_look look.Failed faults = counted faults
faults_after_look look.Memory faults = faults

-- a file has at most so many bytes, and after every other answer there are none
abbrev pub IsLook : ℕ → Look → List ℕ → Type 0
IsLook limit look.Found out = length out ≤ limit
IsLook limit look.Absent out = out ≡ []
IsLook limit look.Long out = out ≡ []
IsLook limit look.Failed out = out ≡ []
IsLook limit look.Memory out = out ≡ []

-- After a read to the end, unless more than so many bytes come: these are all the bytes that the reader
-- gives, or it gives more.
abbrev pub ReadsWhole : Option (List ℕ) → ℕ → Look → List ℕ → Type 0
ReadsWhole bytes limit look.Found out = (length out ≤ limit) × IfSome bytes (λ all. all ≡ out)
ReadsWhole bytes limit look.Absent out = ⊥
ReadsWhole bytes limit look.Long out = IfSome bytes (λ all. limit < length all)
ReadsWhole bytes limit look.Failed out = Unit {0}
ReadsWhole bytes limit look.Memory out = Unit {0}
