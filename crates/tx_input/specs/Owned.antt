-- The names that a session has beside the format's.
use Rattle.std.specs.Prelude.{◌≡◌, ℕ, ◌+◌, ◌==◌, nat_le, nat_lt, pos, Bool, List, [], ◌∷◌, length, map, Option, None, Some, if◌then◌else◌}
use Rattle.std.specs.List.{list_any}
use Rattle.tx_private.specs.Errors.{Error, numbered as error_numbered}
use Rattle.tx_private.specs.World.{total_length}
use Rattle.tx_input.specs.declared.owned.NameLimit.{NameLimit}
use Rattle.tx_input.specs.declared.owned.NameLimit.TheVariants as limit

-- each name by its number, with how many bytes the names up to it have; the latest name comes first
abbrev pub Own : Type 0
Own = List (ℕ × ℕ)

-- their texts
abbrev pub texts_of : (ℕ → List ℕ) → Own → List (List ℕ)
texts_of naming own = map (λ o. naming o.0) own

-- whether one of them has this number
abbrev pub has_number : ℕ → Own → Bool
has_number n own = list_any (λ o. n == o.0) own

-- how many bytes they have
abbrev pub bytes_of : Own → ℕ
bytes_of [] = 0
bytes_of (o ∷ own) = o.1

-- the bytes are counted as these texts have them
abbrev pub AreCounted : (ℕ → List ℕ) → Own → Type 0
AreCounted naming [] = Unit {0}
AreCounted naming (o ∷ own) = (o.1 ≡ total_length (texts_of naming (o ∷ own))) × AreCounted naming own

-- the first limit that one more name, of so many bytes, is beyond
abbrev pub limit_for : ℕ → Own → Option NameLimit
limit_for len own =
    if nat_le 65536 (length own) then Some limit.Number
    else if nat_lt 4194304 (bytes_of own + len) then Some limit.Bytes
    else if nat_lt 1024 len then Some limit.Length
    else None

-- the error that tells of a limit
abbrev pub error_of : NameLimit → Error
error_of limit.Number = error_numbered 57 0 (pos 0)
error_of limit.Bytes = error_numbered 57 1 (pos 0)
error_of limit.Length = error_numbered 57 2 (pos 0)
