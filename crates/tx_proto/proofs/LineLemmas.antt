-- What a line, and the text behind it, come to.
use Rattle.std.proofs.Common.{◌≡◌, ◌≢◌, ℕ, ◌+◌, ◌-◌, ◌<◌, ◌≤◌, inl, inr, List, [], ◌∷◌, ◌++◌, IfSome, length, length-append, take, sym, ap, subst, ◌∙◌, arith}
use Rattle.std.proofs.lemmas.List.{take-take, take-append-le, length-take-le}
use Rattle.tx_bytes.specs.Tells.{Tells, HasRisen, ReadsNext, Stays}
use Rattle.tx_model.specs.Frames.{frame, BreaksAt}
use Rattle.tx_proto.specs.declared.header.HeaderState.{HeaderState}
use Rattle.tx_proto.specs.declared.line.Header.{Header}
use Rattle.tx_proto.specs.declared.requests.Got.{Got}
use Rattle.tx_proto.specs.declared.requests.Got.TheVariants as got
use Rattle.tx_proto.specs.Parts.{BeginsNone}
use Rattle.tx_proto.specs.Requests.{AfterRequest, ReadsToBreak, ReadsProperPart, IsAtEnd}
use Rattle.tx_proto.specs.Headers.{header, front, IsSound, IsBudget, IsLength, IsHeader}
use Rattle.tx_proto.specs.Texts.{AfterBody}
use Rattle.tx_proto.proofs.ReadLemmas.{reads-append, reads-no-more, reads-stays, rises-later}
use Rattle.tx_proto.proofs.FrameLemmas.{proper-is-part}
use Rattle.tx_proto.proofs.PartLemmas.{front-is-proper, length-front, header-is-part, short-is-proper}
use Rattle.tx_proto.proofs.BreakLemmas.{breaks-at-byte, breaks-at-end, take-past}

-- the last byte completes a header
pub header-read : (s : HeaderState) (byte place budget len : ℕ) (old mid new : Tells) → IsSound s → place ≡ length (front s) → ReadsNext old (front s) mid → ReadsNext mid (byte ∷ []) new → IsBudget budget × IsLength len × (header budget len ≡ front s ++ byte ∷ []) →
    IsHeader (record { budget = budget; length = len; size = place + 1 }) × ReadsNext old (header budget len) new
header-read s byte place budget len old mid new sound at next one is =
    let short = length-front s sound in
    let long : length (header budget len) ≡ length (front s) + 1 = ap length is.2 ∙ length-append (front s) (byte ∷ []) in (
      record { budget = is.0; len = is.1; size = omega (arith, at, long); short = omega (arith, at, short) },
      subst (λ bytes. ReadsNext old bytes new) (sym is.2) (reads-append old mid new (front s) (byte ∷ []) next one),
    )

-- nothing begins with the last byte
pub broken-read : (s : HeaderState) (byte place : ℕ) (old mid new : Tells) → IsSound s → place ≡ length (front s) → ReadsNext old (front s) mid → ReadsNext mid (byte ∷ []) new → BeginsNone (front s ++ byte ∷ []) → (place < 24) × ReadsToBreak old place new
broken-read s byte place old mid new sound at next one none = (
  omega (arith, at, length-front s sound),
  record {
    bytes = front s ++ byte ∷ [];
    next = reads-append old mid new (front s) (byte ∷ []) next one;
    breaks = subst (λ n. BreaksAt (front s ++ byte ∷ []) n) (sym at) (breaks-at-byte (front s) byte (proper-is-part (front s) (front-is-proper s sound)) none);
    to = inl (omega (arith, at, length-append (front s) (byte ∷ [])));
  },
)

-- the input ends inside the header
pub ended-read : (s : HeaderState) (place : ℕ) (old mid new : Tells) → IsSound s → place ≡ length (front s) → place ≢ 0 → ReadsNext old (front s) mid → ReadsNext mid [] new × IsAtEnd new → (place < 24) × ReadsToBreak old place new
ended-read s place old mid new sound at some next end = (
  omega (arith, at, length-front s sound),
  record {
    bytes = front s;
    next = reads-no-more old mid new (front s) next end.0;
    breaks = subst (λ n. BreaksAt (front s) n) (sym at) (breaks-at-end (front s) (omega (arith, at, some)) (front-is-proper s sound));
    to = inr (sym at, end.1);
  },
)

-- a call fails inside the header
pub failed-read : (s : HeaderState) (old mid new : Tells) → IsSound s → old.faults ≤ mid.faults → ReadsNext old (front s) mid → HasRisen mid.faults new.faults × ReadsNext mid [] new → HasRisen old.faults new.faults × ReadsProperPart old new
failed-read s old mid new sound grows next failed =
    (rises-later old mid new grows failed.0, (front s, reads-no-more old mid new (front s) next failed.1, front-is-proper s sound))

-- a header, and what came of the text behind it
pub body-read : (old mid new : Tells) (at : ℕ) (h : Header) (result : Got) → IsHeader h × ReadsNext old (header h.budget h.length) mid → old.faults ≤ mid.faults → AfterBody mid at h result new → AfterRequest old at result new
body-read old mid new at h (got.Request r) before grows after =
    let whole : header h.budget h.length ++ r.text ≡ frame (record { budget = r.budget; text = r.text }) =
    ap (λ b. header b h.length ++ r.text) (sym after.0) ∙ ap (λ n. header r.budget n ++ r.text) (sym after.1)
    in (
      record { some_steps = omega (arith, before.0.budget.0, after.0); few_steps = omega (arith, before.0.budget.1, after.0); short = omega (arith, before.0.len, after.1) },
      subst (λ bytes. ReadsNext old bytes new) whole (reads-append old mid new (header h.budget h.length) r.text before.1 after.2),
    )
body-read old mid new at h (got.End e) before grows after = absurd after
body-read old mid new at h (got.Bad n) before grows (count, is, fewer, (bytes, long, next), end) =
    let size : length (header h.budget h.length ++ bytes) ≡ h.size + count = omega (arith, length-append (header h.budget h.length) bytes, before.0.size, long) in
    let proper = short-is-proper h.budget h.length bytes before.0.budget before.0.len (omega (arith, long, fewer)) in
    let some : 1 ≤ h.size = omega (arith, before.0.size) in (
      h.size + count,
      omega (arith, is),
      record {
        bytes = header h.budget h.length ++ bytes;
        next = reads-append old mid new (header h.budget h.length) bytes before.1 next;
        breaks = subst (λ n. BreaksAt (header h.budget h.length ++ bytes) n) size (breaks-at-end (header h.budget h.length ++ bytes) (omega (arith, size, some)) proper);
        to = inr (size, end);
      },
    )
body-read old mid new at h got.ReadFault before grows (rises, (bytes, fewer, next)) = (
  rises-later old mid new grows rises,
  (header h.budget h.length ++ bytes, reads-append old mid new (header h.budget h.length) bytes before.1 next, short-is-proper h.budget h.length bytes before.0.budget before.0.len fewer),
)
body-read old mid new at h got.Memory before grows stays =
    (header h.budget h.length, reads-stays old mid new (header h.budget h.length) before.1 stays, header-is-part h.budget h.length before.0.budget before.0.len)

-- the front of a buffer after a read into the rest of it
filled : (items now buffer back rest : List ℕ) (len count more : ℕ) → now ≡ items → length items ≡ len → count ≤ len → more ≤ length buffer → length buffer ≡ len - count →
    take (count + more) (take len ((take count now ++ (buffer ++ back)) ++ rest)) ≡ take count items ++ take more buffer
filled items now buffer back rest len count more same long within some room =
    let front : length (take count now) ≡ count = length-take-le count now (omega (arith, ap length same, long)) in
    take-take (count + more) len ((take count now ++ (buffer ++ back)) ++ rest) (omega (arith, room))
    ∙ take-append-le (count + more) (take count now ++ (buffer ++ back)) rest (omega (arith, front, length-append (take count now) (buffer ++ back), length-append buffer back))
    ∙ ap (λ n. take (n + more) (take count now ++ (buffer ++ back))) (sym front)
    ∙ take-past (take count now) (buffer ++ back) more
    ∙ ap (λ xs. take count now ++ xs) (take-append-le more buffer back some)
    ∙ ap (λ xs. take count xs ++ take more buffer) same

pub length-filled : (now buffer back rest : List ℕ) (len count : ℕ) → length now ≡ len → count ≤ len → length buffer ≡ len - count → length (take len ((take count now ++ (buffer ++ back)) ++ rest)) ≡ len
length-filled now buffer back rest len count long within room =
    let front : length (take count now) ≡ count = length-take-le count now (omega (arith, long)) in
    length-take-le len ((take count now ++ (buffer ++ back)) ++ rest)
    (omega (arith, front, room, length-append (take count now ++ (buffer ++ back)) rest, length-append (take count now) (buffer ++ back), length-append buffer back))

-- and what it holds was read
pub reads-filled : (items now buffer back rest : List ℕ) (len count more : ℕ) (old mid new : Tells) → now ≡ items → length items ≡ len → count ≤ len → more ≤ length buffer → length buffer ≡ len - count → ReadsNext old (take count items) mid → ReadsNext mid (take more buffer) new →
    ReadsNext old (take (count + more) (take len ((take count now ++ (buffer ++ back)) ++ rest))) new
reads-filled items now buffer back rest len count more old mid new same long within some room first second =
    subst (λ bytes. ReadsNext old bytes new) (sym (filled items now buffer back rest len count more same long within some room))
    (reads-append old mid new (take count items) (take more buffer) first second)

-- an end stays one
pub end-stays : (old new : Tells) → Stays old new → IsAtEnd old → IsAtEnd new
end-stays old new stays end = subst (λ left. IfSome left (λ bytes. bytes ≡ [])) (sym stays.left) end
