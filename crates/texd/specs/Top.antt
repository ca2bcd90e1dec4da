-- What the program does, by its exit status.
use Rattle.std.specs.Prelude.{◌≡◌, ◌<◌, ◌≤◌, ◌⊎◌, ℕ, List, [], ◌∷◌, ◌++◌, length}
use Rattle.std.specs.Fmt.{decimal}
use lib.Chars.{codes}
use Rattle.tx_bytes.specs.Tells.{Tells, HasRisen, Writes, Stays}
use Rattle.tx_bytes.specs.Shelves.{Named, ShelfTells}
use Rattle.tx_model.specs.Bytes.{newline, blank}
use Rattle.tx_model.specs.declared.reply.Status.{Status}
use Rattle.tx_model.specs.declared.reply.Status.TheVariants as how
use Rattle.tx_model.specs.Environment.{Map}
use Rattle.tx_model.specs.Replies.{status_word}
use Rattle.tx_region.specs.declared.once.Run.{Run}
use Rattle.tx_region.specs.declared.once.Run.TheVariants as run
use Rattle.tx_region.specs.Sessions.{AfterSession}
use Rattle.tx_region.specs.Formats.{FormatOf, EndsPreamble}
use Rattle.texd.specs.declared.top.ExitStatus.{ExitStatus}
use Rattle.texd.specs.declared.top.ExitStatus.TheVariants as status
use Rattle.texd.specs.Files.{most_files, most_of_all, total, AreHanded, IsAbsent, IsLong}

-- the number that the program ends with
abbrev pub code_of : ExitStatus → ℕ
code_of status.Done = 0
code_of status.Refused = 2
code_of status.Preamble = 3
code_of status.Absent = 4
code_of status.ReadFault = 5
code_of status.WriteFault = 6
code_of status.Bad = 7
code_of status.Memory = 8
code_of status.Long = 10

-- the words are once and the names of files
pub record IsOnce (words names : List (List ℕ)) : Type 0 where
  pub are : words ≡ codes "once" ∷ names
  pub few : length names ≤ most_files

-- what ends the program before a frame is read
pub data Early : Type 0 where
  -- there is no file of this name
  AbsentFile : List ℕ → Early
  -- the file of this name is too long
  LongFile : List ℕ → Early
  -- the files are too long together
  LongFiles : Early
  -- the preamble ends with this status, this log and these steps
  BadPreamble : Status → List ℕ → ℕ → Early

-- the status that the program ends with then
abbrev pub early_status : Early → ExitStatus
early_status (AbsentFile name) = status.Absent
early_status (LongFile name) = status.Long
early_status LongFiles = status.Long
early_status (BadPreamble s log steps) = status.Preamble

-- and what it writes
abbrev pub early_line : Early → List ℕ
early_line (AbsentFile name) = codes "ABSENT " ++ name ++ newline ∷ []
early_line (LongFile name) = codes "LONG file " ++ name ++ newline ∷ []
early_line LongFiles = codes "LONG files" ++ newline ∷ []
early_line (BadPreamble s log steps) =
    codes "PREAMBLE " ++ status_word s ++ (blank ∷ decimal steps) ++ (blank ∷ decimal (length log)) ++ (newline ∷ log)

-- the files in front of this name are there
abbrev pub IsFirst : ShelfTells → List (List ℕ) → List ℕ → Type 0
IsFirst shelf names name =
    (front : List (List ℕ)) × ((back : List (List ℕ)) × (names ≡ front ++ name ∷ back) × ((files : List Named) × AreHanded shelf.files front files))

-- the files are there, and no more bytes than they may be
pub record AreReady (shelf : ShelfTells) (names : List (List ℕ)) (files : List Named) : Type 0 where
  pub handed : AreHanded shelf.files names files
  pub short : total files ≤ most_of_all

-- the preamble, which is the first file, is no format
abbrev pub BreaksOff : List Named → Status → List ℕ → ℕ → Type 0
BreaksOff [] s log steps = ⊥
BreaksOff (file ∷ files) s log steps = EndsPreamble file.content s log steps

-- the cause of an early end
abbrev pub HasCause : ShelfTells → List (List ℕ) → Early → Type 0
HasCause shelf names (AbsentFile name) = IsFirst shelf names name × IsAbsent shelf.files name
HasCause shelf names (LongFile name) = IsFirst shelf names name × IsLong shelf.files name
HasCause shelf names LongFiles = (files : List Named) × AreHanded shelf.files names files × (most_of_all < total files)
HasCause shelf names (BadPreamble s log steps) =
    ((s ≡ how.Fail) ⊎ (s ≡ how.Spent)) × ((files : List Named) × AreReady shelf names files × BreaksOff files s log steps)

-- the program ends early, with this status, and its line is written
abbrev pub EndsEarly : ShelfTells → List (List ℕ) → Tells → ExitStatus → Tells → Type 0
EndsEarly shelf names old s new = (early : Early) × HasCause shelf names early × (early_status early ≡ s) × Writes old (early_line early) new

-- a session was served from the state that the preamble leaves, and ended so
abbrev pub Serves : ShelfTells → List (List ℕ) → Tells → Tells → Tells → Run → Tells → Type 0
Serves shelf names input_old input_new old r new =
    (files : List Named) × ((map : Map) × AreReady shelf names files × FormatOf files map × AfterSession map input_old input_new old r new)

-- After the command once that ended so.
abbrev pub AfterOnce : ShelfTells → ShelfTells → List (List ℕ) → Tells → Tells → Tells → ExitStatus → Tells → Type 0
AfterOnce shelf_old shelf_new names input_old input_new old status.Done new = Serves shelf_old names input_old input_new old run.Done new
AfterOnce shelf_old shelf_new names input_old input_new old status.Refused new = ⊥
AfterOnce shelf_old shelf_new names input_old input_new old status.Preamble new = EndsEarly shelf_old names old status.Preamble new × (input_new ≡ input_old)
AfterOnce shelf_old shelf_new names input_old input_new old status.Absent new = EndsEarly shelf_old names old status.Absent new × (input_new ≡ input_old)
AfterOnce shelf_old shelf_new names input_old input_new old status.Long new = EndsEarly shelf_old names old status.Long new × (input_new ≡ input_old)
-- a call of the shelf failed, and nothing was read or written; or one of the input
AfterOnce shelf_old shelf_new names input_old input_new old status.ReadFault new =
    (HasRisen shelf_old.faults shelf_new.faults × (input_new ≡ input_old) × (new ≡ old)) ⊎ Serves shelf_old names input_old input_new old run.ReadFault new
-- a prefix of the early line was written; or of what is due to the session
AfterOnce shelf_old shelf_new names input_old input_new old status.WriteFault new =
    (HasRisen old.faults new.faults × (input_new ≡ input_old)
    × ((early : Early) × HasCause shelf_old names early × ((front back : List ℕ) × (early_line early ≡ front ++ back) × Writes old front new)))
    ⊎ Serves shelf_old names input_old input_new old run.WriteFault new
AfterOnce shelf_old shelf_new names input_old input_new old status.Bad new =
    (place : ℕ) × Serves shelf_old names input_old input_new old (run.Bad place) new
-- memory was wanting before the session, and nothing was read or written; or outside its regions
AfterOnce shelf_old shelf_new names input_old input_new old status.Memory new =
    ((input_new ≡ input_old) × Stays old new) ⊎ Serves shelf_old names input_old input_new old run.Memory new

-- After a run of the program with these words that ended so.
abbrev pub Ends : List (List ℕ) → ShelfTells → ShelfTells → Tells → Tells → Tells → ExitStatus → Tells → Type 0
-- the words are refused, and nothing is read or written
Ends words shelf_old shelf_new input_old input_new old status.Refused new =
    ((names : List (List ℕ)) → IsOnce words names → ⊥) × (shelf_new ≡ shelf_old) × (input_new ≡ input_old) × (new ≡ old)
Ends words shelf_old shelf_new input_old input_new old s new =
    (names : List (List ℕ)) × IsOnce words names × AfterOnce shelf_old shelf_new names input_old input_new old s new

-- After a line was written with which the program is to end so: it ends so, or a call of the output failed
-- and a prefix was written, or memory was wanting.
abbrev pub AfterLine : List ℕ → Tells → ExitStatus → ExitStatus → Tells → Type 0
AfterLine bytes old s result new =
    ((result ≡ s) × Writes old bytes new)
    ⊎ ((result ≡ status.WriteFault) × HasRisen old.faults new.faults × ((front back : List ℕ) × (bytes ≡ front ++ back) × Writes old front new))
    ⊎ ((result ≡ status.Memory) × Stays old new)

-- the status after a session that ended so
abbrev pub status_after : Run → ExitStatus
status_after run.Done = status.Done
status_after (run.Bad place) = status.Bad
status_after run.ReadFault = status.ReadFault
status_after run.WriteFault = status.WriteFault
status_after run.Memory = status.Memory
