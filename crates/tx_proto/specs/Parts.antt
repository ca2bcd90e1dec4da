-- First parts of frames, and of the line that ends a session.
use Rattle.std.specs.Prelude.{◌≡◌, ℕ, ◌⊎◌, List, ◌∷◌, ◌++◌}
use Rattle.tx_model.specs.Frames.{Request, IsLawful, frame, bye}

-- the frame of a lawful request, or the line BYE
abbrev pub IsFrameOrBye : List ℕ → Type 0
IsFrameOrBye whole = ((r : Request) × IsLawful r × (whole ≡ frame r)) ⊎ (whole ≡ bye)

-- a first part of a frame or of BYE, perhaps the whole
abbrev pub IsPart : List ℕ → Type 0
IsPart bytes = (more : List ℕ) × IsFrameOrBye (bytes ++ more)

-- a first part of a frame or of BYE, perhaps without bytes, after which a byte follows
abbrev pub IsProperPart : List ℕ → Type 0
IsProperPart bytes = (next : ℕ) × (more : List ℕ) × IsFrameOrBye (bytes ++ next ∷ more)

-- nothing that begins with these bytes begins with a frame or with BYE
abbrev pub BeginsNone : List ℕ → Type 0
BeginsNone bytes = (more whole rest : List ℕ) → IsFrameOrBye whole → bytes ++ more ≡ whole ++ rest → ⊥
