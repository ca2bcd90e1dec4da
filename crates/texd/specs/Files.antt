-- The files that the words of the command line name.
use Rattle.std.specs.Prelude.{◌≡◌, ℕ, ◌+◌, ◌<◌, ◌≤◌, List, [], ◌∷◌, get_or, length, take, Option, None, Some, IfSome, Result, Ok, Err}
use Rattle.std.specs.Option.{IsSomeAnd}
use Rattle.tx_bytes.specs.Tells.{HasRisen}
use Rattle.tx_bytes.specs.Shelves.{Named, ShelfTells, content_of}
use Rattle.tx_bytes.specs.declared.values.Files.{Files}
use Rattle.texd.specs.declared.files.Fetched.{Fetched}
use Rattle.texd.specs.declared.files.Fetched.TheVariants as fetched
use Rattle.texd.specs.declared.files.Unread.{Unread}
use Rattle.texd.specs.declared.files.Unread.TheVariants as unread

-- how many files there may be, and how many bytes one of them, and all of them, may have
abbrev pub most_files : ℕ
most_files = 256

abbrev pub most_of_one : ℕ
most_of_one = 16777216

abbrev pub most_of_all : ℕ
most_of_all = 268435456

-- a shelf, where it tells its files, has this one under this name
abbrev pub Shelves : Option (List Named) → List ℕ → List ℕ → Type 0
Shelves told name content = IfSome told (λ files. content_of name files ≡ Some content)

-- the shelf handed in this file for this name
pub record IsHanded (told : Option (List Named)) (name : List ℕ) (file : Named) : Type 0 where
  pub name_is : file.name ≡ name
  pub short : length file.content ≤ most_of_one
  pub content_is : Shelves told name file.content

-- the shelf handed in these files for these names, one for each
abbrev pub AreHanded : Option (List Named) → List (List ℕ) → List Named → Type 0
AreHanded told [] [] = Unit {0}
AreHanded told (name ∷ names) (file ∷ files) = IsHanded told name file × AreHanded told names files
AreHanded told _ _ = ⊥

-- the number of bytes of files together
abbrev pub total : List Named → ℕ
total [] = 0
total (file ∷ files) = total files + length file.content

-- the shelf, where it tells its files, has none of this name
abbrev pub IsAbsent : Option (List Named) → List ℕ → Type 0
IsAbsent told name = IfSome told (λ files. content_of name files ≡ None)

-- the shelf, where it tells its files, has one of this name that is too long
abbrev pub IsLong : Option (List Named) → List ℕ → Type 0
IsLong told name = IfSome told (λ files. IsSomeAnd (content_of name files) (λ content. most_of_one < length content))

-- the files before that name are there
abbrev pub StopsAt : Option (List Named) → List (List ℕ) → ℕ → Type 0
StopsAt told names k = (k < length names) × ((files : List Named) × AreHanded told (take k names) files)

-- After the file of this name was read of a shelf.
abbrev pub AfterFile : ShelfTells → List ℕ → Fetched → ShelfTells → Type 0
AfterFile old name (fetched.File file) new = IsHanded old.files name file
AfterFile old name fetched.Absent new = IsAbsent old.files name
AfterFile old name fetched.Long new = IsLong old.files name
AfterFile old name fetched.Failed new = HasRisen old.faults new.faults
AfterFile old name fetched.Memory new = Unit {0}

-- After the files of these names were read of a shelf, of whatever length together.
abbrev pub AfterAll : ShelfTells → List (List ℕ) → Result Files Unread → ShelfTells → Type 0
AfterAll old names (Ok files) new = AreHanded old.files names files
AfterAll old names (Err (unread.Absent k)) new = StopsAt old.files names k × IsAbsent old.files (get_or names k [])
AfterAll old names (Err (unread.Long k)) new = StopsAt old.files names k × IsLong old.files (get_or names k [])
AfterAll old names (Err unread.LongTogether) new = ⊥
AfterAll old names (Err unread.Failed) new = HasRisen old.faults new.faults
AfterAll old names (Err unread.Memory) new = Unit {0}

-- After the files of these names were read of a shelf.
abbrev pub AfterFiles : ShelfTells → List (List ℕ) → Result Files Unread → ShelfTells → Type 0
AfterFiles old names (Ok files) new = AreHanded old.files names files × (total files ≤ most_of_all)
AfterFiles old names (Err unread.LongTogether) new = (files : List Named) × AreHanded old.files names files × (most_of_all < total files)
AfterFiles old names result new = AfterAll old names result new

-- the place of a name that can't be read is one of the names
abbrev pub IsPlace : List (List ℕ) → Unread → Type 0
IsPlace names (unread.Absent k) = k < length names
IsPlace names (unread.Long k) = k < length names
IsPlace names _ = Unit {0}
