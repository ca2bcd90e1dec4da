-- How long a frame is.
use Rattle.std.proofs.Common.{◌≡◌, ℕ, ◌+◌, ◌<◌, ◌≤◌, ◌^◌, List, [], ◌∷◌, ◌++◌, length, length-append, arith}
use Rattle.std.specs.Fmt.{decimal}
use Rattle.std.proofs.lemmas.Fmt.{length-decimal-le}
use Rattle.tx_model.specs.Frames.{Request, IsLawful, frame}

-- a lawful frame has at most 1048600 bytes
pub length-frame : (r : Request) → IsLawful r → length (frame r) ≤ 1048600
length-frame r h =
    let budget : length (decimal r.budget) ≤ 8 = length-decimal-le 8 r.budget (omega arith) (omega (arith, h.few_steps)) (omega (arith, h.few_steps)) in
    let long : length (decimal (length r.text)) ≤ 7 = length-decimal-le 7 (length r.text) (omega arith) (omega (arith, h.short)) (omega (arith, h.short)) in
    simp length-append (omega (arith, h.short))
