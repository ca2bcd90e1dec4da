-- What the calls of objects in memory do is what their traits say.
use Rattle.std.proofs.Common.{◌≡◌, ℕ, ◌+◌, ◌-◌, ◌/◌, ◌<◌, ◌≤◌, ◌↔◌, min, Bool, true, false, cond, IsTrue, List, [], ◌++◌, length, take, drop, Some, refl, sym, ap, subst, arith, inl, inr, ◌∙◌, append-nil}
use Rattle.std.proofs.lemmas.Bool.Decides.{nat_tests}
use Rattle.std.proofs.lemmas.Grind.{common_steps}
use Rattle.std.proofs.Math.Seq.{take-add}
use Rattle.std.proofs.lemmas.List.{take-append-drop, drop-drop, length-drop}
use Rattle.tx_bytes.specs.Tells.{Grows, HasRisen, ReadsNext, Writes, Stays}
use Rattle.tx_bytes.specs.Calls.{AfterRead, AfterWrite}
use Rattle.tx_bytes.specs.Memory.{Plan, Held, counted, is_failing, after_call, tells_of, idle, after_reading, after_getting, Reads, Gets}
use Rattle.tx_bytes.specs.declared.outside.Took.{Took}
use Rattle.tx_bytes.specs.declared.outside.Took.TheVariants as took
use Rattle.tx_bytes.specs.declared.outside.Put.{Put}
use Rattle.tx_bytes.specs.declared.outside.Put.TheVariants as put

le_counted : (n : ℕ) → n ≤ counted n
le_counted n = grind (arith, nat_tests)

risen_counted : (n : ℕ) → HasRisen n (counted n)
risen_counted n = (le_counted n, grind (arith, nat_tests))

grows-cond : (b : Bool) (n : ℕ) → n ≤ cond b (counted n) n
grows-cond true n = le_counted n
grows-cond false n = omega arith

-- no call lowers the count of faults
pub grows : (plan : Plan) → Grows plan.faults (after_call plan).faults
grows plan = grows-cond (is_failing plan) plan.faults

-- a call that fails raises it
pub risen : (plan : Plan) → IsTrue (is_failing plan) → HasRisen plan.faults (after_call plan).faults
risen plan fails = rw fails (risen_counted plan.faults)

pub told-idle : (old : Held) → Stays (tells_of old) (tells_of (idle old))
told-idle old = record { was_read = refl; left = refl; got = refl }

taken : (n : ℕ) (left rest : List ℕ) → n ≤ length left → take n (take n left ++ rest) ≡ take n left
taken n left rest fits = grind (arith, common_steps)

told-reading : (old : Held) (n : ℕ) (bytes : List ℕ) → bytes ≡ take n old.left → ReadsNext (tells_of old) bytes (tells_of (after_reading old n))
told-reading old n bytes e = record {
  was_read = ap (λ b. Some (old.was_read ++ b)) (sym e);
  left = (drop n old.left, rw e (sym (take-append-drop n old.left)), refl);
  got = refl;
}

pub told-read : (old new : Held) (buffer filled : List ℕ) (answer : Took) → 0 < length buffer → Reads old buffer answer filled new → ((answer ≡ took.Failed) ↔ IsTrue (is_failing old.plan)) → AfterRead (tells_of old) filled answer (tells_of new)
told-read old new buffer filled (took.Bytes n) some reads fails =
    let fits : n ≤ length old.left = omega (arith, reads.1) in
    let filled-front : take n filled ≡ take n old.left = rw reads.2 (taken n old.left (drop n buffer) fits) in
    let room : n ≤ length filled = grind (arith, common_steps) in
    subst (λ after. (1 ≤ n) × (n ≤ length filled) × Grows old.plan.faults after.plan.faults × ReadsNext (tells_of old) (take n filled) (tells_of after)) (sym reads.3)
    (reads.0, room, grows old.plan, told-reading old n (take n filled) filled-front)
told-read old new buffer filled took.End some reads fails =
    subst (λ after. Grows old.plan.faults after.plan.faults × Stays (tells_of old) (tells_of after) × (old.left ≡ [])) (sym reads.2)
    (grows old.plan, told-idle old, reads.0)
told-read old new buffer filled took.Failed some reads fails =
    subst (λ after. HasRisen old.plan.faults after.plan.faults × Stays (tells_of old) (tells_of after)) (sym reads.1)
    (risen old.plan (fails.0 refl), told-idle old)

told-getting : (old : Held) (bytes : List ℕ) → Writes (tells_of old) bytes (tells_of (after_getting old bytes))
told-getting old bytes = record { was_read = refl; left = refl; got = refl }

-- a failed write of a prefix
torn : (old new : Held) (bytes front back : List ℕ) → IsTrue (is_failing old.plan) → bytes ≡ front ++ back → new ≡ after_getting old front → AfterWrite (tells_of old) bytes put.Failed (tells_of new)
torn old new bytes front back fails parts e =
    subst (λ after. HasRisen old.plan.faults after.plan.faults × ((front back : List ℕ) × (bytes ≡ front ++ back) × Writes (tells_of old) front (tells_of after))) (sym e)
    (risen old.plan fails, (front, back, parts, told-getting old front))

idle-getting : (old : Held) → idle old ≡ after_getting old []
idle-getting old = ap (λ got. record old { plan = after_call old.plan; got = got }) (sym (append-nil old.got))

pub told-write : (old new : Held) (bytes : List ℕ) (answer : Put) → Gets old bytes answer new → ((answer ≡ put.Failed) ↔ IsTrue (is_failing old.plan)) → AfterWrite (tells_of old) bytes answer (tells_of new)
told-write old new bytes put.All gets fails =
    subst (λ after. Grows old.plan.faults after.plan.faults × Writes (tells_of old) bytes (tells_of after)) (sym gets)
    (grows old.plan, told-getting old bytes)
told-write old new bytes put.Failed gets fails =
    elim gets [
      | inl e ↦ torn old new bytes (take (length bytes / 2) bytes) (drop (length bytes / 2) bytes) (fails.0 refl) (sym (take-append-drop (length bytes / 2) bytes)) e
      | inr e ↦ torn old new bytes [] bytes (fails.0 refl) refl (e ∙ idle-getting old)
    ]
told-write old new bytes put.Memory gets fails =
    subst (λ after. Grows old.plan.faults after.plan.faults × Stays (tells_of old) (tells_of after)) (sym gets)
    (grows old.plan, told-idle old)

-- a link that was read up to a place
abbrev pub held_at : Plan → List ℕ → ℕ → List ℕ → Held
held_at plan bytes place got = record { plan = plan; was_read = take place bytes; left = drop place bytes; got = got }

read-further : (plan : Plan) (bytes got : List ℕ) (place n : ℕ) → held_at (after_call plan) bytes (place + n) got ≡ after_reading (held_at plan bytes place got) n
read-further plan bytes got place n =
    ap (λ was_read. record { plan = after_call plan; was_read = was_read; left = drop (place + n) bytes; got = got }) (take-add place n bytes)
    ∙ ap (λ left. record { plan = after_call plan; was_read = take place bytes ++ take n (drop place bytes); left = left; got = got }) (sym (drop-drop n place bytes))

read-at : (plan : Plan) (bytes got buffer filled : List ℕ) (place n : ℕ) → place ≤ length bytes → (place ≡ length bytes → ⊥) → 0 < length buffer → n ≡ min (length buffer) (length bytes - place) → filled ≡ take n (drop place bytes) ++ drop n buffer → Reads (held_at plan bytes place got) buffer (took.Bytes n) filled (held_at (after_call plan) bytes (place + n) got)
read-at plan bytes got buffer filled place n below more some count e =
    (omega (arith, count), rw length-drop count, e, read-further plan bytes got place n)

-- a read from the place that a link was read up to goes on there
pub reads-at : (old : Held) (plan plan' : Plan) (bytes got buffer filled : List ℕ) (place n : ℕ) → held_at plan bytes place got ≡ old → plan' ≡ after_call plan → place ≤ length bytes → (place ≡ length bytes → ⊥) → 0 < length buffer → n ≡ min (length buffer) (length bytes - place) → filled ≡ take n (drop place bytes) ++ drop n buffer → Reads old buffer (took.Bytes n) filled (held_at plan' bytes (place + n) got)
reads-at old plan plan' bytes got buffer filled place n is next below more some count e =
    subst (λ p. Reads old buffer (took.Bytes n) filled (held_at p bytes (place + n) got)) (sym next)
    (subst (λ o. Reads o buffer (took.Bytes n) filled (held_at (after_call plan) bytes (place + n) got)) is
    (read-at plan bytes got buffer filled place n below more some count e))
