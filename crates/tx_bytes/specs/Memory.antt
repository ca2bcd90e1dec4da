-- Objects of the outside that lie in memory: what they hold, and which of their calls fail.
use Rattle.std.specs.Prelude.{◌≡◌, ℕ, ◌<◌, ◌+◌, ◌-◌, ◌/◌, ◌^◌, ◌≤◌, ◌==◌, ◌⊎◌, min, nat_lt, Bool, true, false, List, [], ◌∷◌, ◌++◌, length, take, drop, map, Some, if◌then◌else◌}
use Rattle.std.specs.Option.{IsSomeAnd}
use Rattle.std.specs.List.{list_any, slice_get}
use Rattle.tx_bytes.specs.Tells.{Tells}
use Rattle.tx_bytes.specs.Shelves.{Named, ShelfTells}
use Rattle.tx_bytes.specs.Ports.{PortTells}
use Rattle.tx_bytes.specs.declared.outside.Took.{Took}
use Rattle.tx_bytes.specs.declared.outside.Took.TheVariants as took
use Rattle.tx_bytes.specs.declared.outside.Put.{Put}
use Rattle.tx_bytes.specs.declared.outside.Put.TheVariants as put
use Rattle.tx_bytes.specs.declared.outside.Look.{Look}
use Rattle.tx_bytes.specs.declared.outside.Look.TheVariants as look
use Rattle.tx_bytes.specs.declared.outside.Bound.{Bound}
use Rattle.tx_bytes.specs.declared.outside.Bound.TheVariants as bound
use Rattle.tx_bytes.specs.declared.outside.Knock.{Knock}
use Rattle.tx_bytes.specs.declared.outside.Knock.TheVariants as knock

-- The numbers of the calls that fail, how many calls there were, and how many of them failed. A
-- call's number is the count of the calls before it.
pub record Plan : Type 0 where
  pub failing : List ℕ
  pub calls : ℕ
  pub faults : ℕ

-- one more; a count stays at its last value, 2 ^ 64 - 1
abbrev pub counted : ℕ → ℕ
counted n = if nat_lt n (2 ^ 64 - 1) then n + 1 else n

-- whether the next call fails
abbrev pub is_failing : Plan → Bool
is_failing plan = list_any (λ n. n == plan.calls) plan.failing

-- the plan after one call
abbrev pub after_call : Plan → Plan
after_call plan = record {
  failing = plan.failing;
  calls = counted plan.calls;
  faults = if is_failing plan then counted plan.faults else plan.faults;
}

-- nothing was called yet, and the calls with these numbers will fail
pub record IsNewPlan (numbers : List ℕ) (plan : Plan) : Type 0 where
  pub failing : plan.failing ≡ numbers
  pub calls : plan.calls ≡ 0
  pub faults : plan.faults ≡ 0

-- what a source, a sink or a link in memory holds
pub record Held : Type 0 where
  pub plan : Plan
  pub was_read : List ℕ
  pub left : List ℕ
  pub got : List ℕ

-- they tell all of it
abbrev pub tells_of : Held → Tells
tells_of held = record { faults = held.plan.faults; was_read = Some held.was_read; left = Some held.left; got = Some held.got }

-- these bytes are left to read, nothing was read or got, and the calls with these numbers will fail
pub record IsNew (bytes numbers : List ℕ) (held : Held) : Type 0 where
  pub plan : IsNewPlan numbers held.plan
  pub was_read : held.was_read ≡ []
  pub left : held.left ≡ bytes
  pub got : held.got ≡ []

-- one call was counted, and no byte moved
abbrev pub idle : Held → Held
idle held = record { plan = after_call held.plan; was_read = held.was_read; left = held.left; got = held.got }

-- one call was counted, and so many of the bytes that are left were read
abbrev pub after_reading : Held → ℕ → Held
after_reading held n = record {
  plan = after_call held.plan;
  was_read = held.was_read ++ take n held.left;
  left = drop n held.left;
  got = held.got;
}

-- one call was counted, and these bytes were got
abbrev pub after_getting : Held → List ℕ → Held
after_getting held bytes = record { plan = after_call held.plan; was_read = held.was_read; left = held.left; got = held.got ++ bytes }

-- After a read into a buffer, which kept what no byte was read into.
abbrev pub Reads : Held → List ℕ → Took → List ℕ → Held → Type 0
-- as many bytes as fit and are left were read
Reads old buffer (took.Bytes n) filled new =
    (1 ≤ n) × (n ≡ min (length buffer) (length old.left)) × (filled ≡ take n old.left ++ drop n buffer) × (new ≡ after_reading old n)
Reads old buffer took.End filled new = (old.left ≡ []) × (filled ≡ buffer) × (new ≡ idle old)
Reads old buffer took.Failed filled new = (filled ≡ buffer) × (new ≡ idle old)

-- After a write of these bytes.
abbrev pub Gets : Held → List ℕ → Put → Held → Type 0
Gets old bytes put.All new = new ≡ after_getting old bytes
-- half of the bytes were written, rounded down, or none where memory was wanting for them
Gets old bytes put.Failed new = (new ≡ after_getting old (take (length bytes / 2) bytes)) ⊎ (new ≡ idle old)
Gets old bytes put.Memory new = new ≡ idle old

-- what a shelf in memory holds
pub record HeldFiles : Type 0 where
  pub plan : Plan
  pub files : List Named

-- it tells all of it
abbrev pub shelf_tells_of : HeldFiles → ShelfTells
shelf_tells_of held = record { faults = held.plan.faults; files = Some held.files }

-- nothing was called yet, and the calls with these numbers will fail
pub record IsNewShelf (entries : List Named) (numbers : List ℕ) (held : HeldFiles) : Type 0 where
  pub plan : IsNewPlan numbers held.plan
  pub files : held.files ≡ entries

-- one call was counted, and the files are as they were
abbrev pub after_look : HeldFiles → HeldFiles
after_look held = record { plan = after_call held.plan; files = held.files }

-- After a copy of these bytes, if they are at most so many, into an empty buffer.
abbrev pub AfterCopy : List ℕ → ℕ → Look → List ℕ → Type 0
AfterCopy content limit look.Found out = (out ≡ content) × (length content ≤ limit)
AfterCopy content limit look.Absent out = ⊥
AfterCopy content limit look.Long out = (out ≡ []) × (limit < length content)
AfterCopy content limit look.Failed out = ⊥
AfterCopy content limit look.Memory out = out ≡ []

-- a link to come: the bytes that will be left to read of it, and the numbers of its calls that fail
pub record LinkToCome : Type 0 where
  pub bytes : List ℕ
  pub failing : List ℕ

-- what a port in memory holds
pub record HeldPort : Type 0 where
  pub plan : Plan
  pub links : List LinkToCome
  pub handed : ℕ
  pub is_bound : Bool
  pub is_closed : Bool
  pub back : List Held

-- it tells all of it but for the numbers of calls
abbrev pub port_tells_of : HeldPort → PortTells
port_tells_of held = record {
  faults = held.plan.faults;
  handed = held.handed;
  is_bound = held.is_bound;
  is_closed = held.is_closed;
  back = map tells_of held.back;
  links = Some (map (λ link. link.bytes) held.links);
}

-- nothing was called yet, these links are to come, and the calls with these numbers will fail
pub record IsNewPort (coming : List LinkToCome) (numbers : List ℕ) (held : HeldPort) : Type 0 where
  pub plan : IsNewPlan numbers held.plan
  pub links : held.links ≡ coming
  pub handed : held.handed ≡ 0
  pub is_bound : held.is_bound ≡ false
  pub is_closed : held.is_closed ≡ false
  pub back : held.back ≡ []

-- No more links are handed out than there are, no more came back than were handed out, there is room
-- for all of these, and the port closes after its last link.
pub record KeepsRoom (links handed back capacity : ℕ) (is_closed : Bool) : Type 0 where
  pub out : handed ≤ links
  pub returned : back ≤ handed
  pub room : handed ≤ capacity
  pub closed : is_closed ≡ true → links ≤ handed

-- one call was counted, and nothing else happened
abbrev pub idle_port : HeldPort → HeldPort
idle_port held = record held { plan = after_call held.plan }

-- the port after a binding with this answer
abbrev pub after_bind : HeldPort → Bound → HeldPort
after_bind held bound.Ready = record held { plan = after_call held.plan; is_bound = true }
after_bind held bound.Failed = idle_port held

-- After a wait for the next link.
abbrev pub Accepts : HeldPort → Knock Held → HeldPort → Type 0
-- it is the first of those not handed out yet, as new
Accepts old (knock.Link link) new =
    (old.is_closed ≡ false) × IsSomeAnd (slice_get old.links old.handed) (λ coming. IsNew coming.bytes coming.failing link)
    × (new ≡ record old { plan = after_call old.plan; handed = old.handed + 1 })
-- all were handed out
Accepts old knock.Closed new =
    (length old.links ≤ old.handed) × (new ≡ record old { plan = after_call old.plan; is_closed = true })
Accepts old knock.Failed new = new ≡ idle_port old
Accepts old knock.Memory new = new ≡ idle_port old

-- the port after this link came back
abbrev pub after_done : HeldPort → Held → HeldPort
after_done held link = record held { back = held.back ++ link ∷ [] }
