-- A shelf of named files, and what a look at it does.
use Rattle.std.specs.Prelude.{◌≡◌, ℕ, ◌<◌, ◌≤◌, List, [], ◌∷◌, length, Option, None, Some, IfSome, if◌then◌else◌}
use Rattle.std.specs.Option.{IsSomeAnd}
use Rattle.std.specs.Str.{bytes_eq}
use Rattle.tx_bytes.specs.declared.outside.Look.{Look}
use Rattle.tx_bytes.specs.declared.outside.Look.TheVariants as look
use Rattle.tx_bytes.specs.Tells.{Grows, HasRisen}

-- a file by its name and its bytes
pub record Named : Type 0 where
  pub name : List ℕ
  pub content : List ℕ

-- What a shelf tells of itself: how many of its calls failed, and, where it tells them, its files.
pub record ShelfTells : Type 0 where
  pub faults : ℕ
  pub files : Option (List Named)

-- the bytes of the first file of this name
abbrev pub content_of : List ℕ → List Named → Option (List ℕ)
content_of name [] = None
content_of name (file ∷ files) = if bytes_eq name file.name then Some file.content else content_of name files

-- After a look for a file of this name and at most this many bytes, which left these bytes in the
-- buffer. The files stay as they were.
abbrev pub AfterLook : ShelfTells → List ℕ → ℕ → Look → List ℕ → ShelfTells → Type 0
AfterLook old name limit look.Found out new =
    Grows old.faults new.faults × (new.files ≡ old.files) × (length out ≤ limit)
    × IfSome old.files (λ files. content_of name files ≡ Some out)
AfterLook old name limit look.Absent out new =
    Grows old.faults new.faults × (new.files ≡ old.files) × (out ≡ [])
    × IfSome old.files (λ files. content_of name files ≡ None)
AfterLook old name limit look.Long out new =
    Grows old.faults new.faults × (new.files ≡ old.files) × (out ≡ [])
    × IfSome old.files (λ files. IsSomeAnd (content_of name files) (λ content. limit < length content))
AfterLook old name limit look.Failed out new =
    HasRisen old.faults new.faults × (new.files ≡ old.files) × (out ≡ [])
AfterLook old name limit look.Memory out new =
    Grows old.faults new.faults × (new.files ≡ old.files) × (out ≡ [])
