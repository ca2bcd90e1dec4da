-- The ends before a frame is read.
use Rattle.std.proofs.Common.{◌≡◌, ℕ, zero, suc, ◌+◌, ◌<◌, ◌≤◌, ◌⊎◌, inl, inr, List, [], ◌∷◌, ◌++◌, length, get_or, take, drop, refl, sym, ap, subst, ◌∙◌, arith, Result, Ok, Err}
use Rattle.tx_bytes.specs.Tells.{Tells, HasRisen, Writes, Stays}
use Rattle.tx_bytes.specs.Shelves.{Named, ShelfTells}
use Rattle.tx_model.specs.declared.reply.Status.{Status}
use Rattle.tx_model.specs.declared.reply.Status.TheVariants as how
use Rattle.tx_model.specs.Environment.{Map}
use Rattle.tx_gullet.specs.declared.format.Format.{Format}
use Rattle.tx_gullet.specs.States.{IsFormat}
use Rattle.tx_region.specs.declared.once.Run.{Run}
use Rattle.tx_region.specs.declared.once.Run.TheVariants as run
use Rattle.tx_region.specs.declared.frozen.PreFault.{PreFault}
use Rattle.tx_region.specs.declared.frozen.PreFault.TheVariants as fault
use Rattle.tx_region.specs.Formats.{FormatOf, AfterPreamble}
use Rattle.tx_region.specs.Sessions.{AfterSession}
use Rattle.texd.specs.declared.top.ExitStatus.{ExitStatus}
use Rattle.texd.specs.declared.top.ExitStatus.TheVariants as status
use Rattle.texd.specs.Files.{AreHanded, StopsAt, IsAbsent, IsLong}
use Rattle.texd.specs.Top.{Early, AbsentFile, LongFile, LongFiles, BadPreamble, early_status, early_line, HasCause, IsFirst, BreaksOff, AreReady, AfterOnce, AfterLine, status_after}

-- where all of the line is written
whole-line : (shelf_old shelf_new : ShelfTells) (names : List (List ℕ)) (input old new : Tells) (early : Early) → HasCause shelf_old names early → Writes old (early_line early) new → AfterOnce shelf_old shelf_new names input input old (early_status early) new
whole-line shelf_old shelf_new names input old new (AbsentFile name) cause writes = ((AbsentFile name, cause, refl, writes), refl)
whole-line shelf_old shelf_new names input old new (LongFile name) cause writes = ((LongFile name, cause, refl, writes), refl)
whole-line shelf_old shelf_new names input old new LongFiles cause writes = ((LongFiles, cause, refl, writes), refl)
whole-line shelf_old shelf_new names input old new (BadPreamble s log steps) cause writes = ((BadPreamble s log steps, cause, refl, writes), refl)

-- what ends the program early, and its line
pub early-ends : (shelf_old shelf_new : ShelfTells) (names : List (List ℕ)) (input old new : Tells) (early : Early) (s : ExitStatus) → HasCause shelf_old names early → AfterLine (early_line early) old (early_status early) s new → AfterOnce shelf_old shelf_new names input input old s new
early-ends shelf_old shelf_new names input old new early s cause (inl whole) =
    subst (λ x. AfterOnce shelf_old shelf_new names input input old x new) (sym whole.0) (whole-line shelf_old shelf_new names input old new early cause whole.1)
early-ends shelf_old shelf_new names input old new early s cause (inr (inl part)) =
    subst (λ x. AfterOnce shelf_old shelf_new names input input old x new) (sym part.0) (inl (part.1, refl, (early, cause, part.2)))
early-ends shelf_old shelf_new names input old new early s cause (inr (inr none)) =
    subst (λ x. AfterOnce shelf_old shelf_new names input input old x new) (sym none.0) (inl (refl, none.1))

-- a list around one of its places
around : (names : List (List ℕ)) (k : ℕ) → k < length names → names ≡ take k names ++ get_or names k [] ∷ drop (suc k) names
around [] k h = absurd (omega arith)
around (name ∷ names) zero h = refl
around (name ∷ names) (suc k) h = ap (λ xs. name ∷ xs) (around names k (omega arith))

-- the files in front of the name that can't be read
pub first-of : (shelf : ShelfTells) (names : List (List ℕ)) (k : ℕ) → StopsAt shelf.files names k → IsFirst shelf names (get_or names k [])
first-of shelf names k stops = (take k names, (drop (suc k) names, around names k stops.0, (stops.1.0, stops.1.1)))

-- a session that was served
pub session-ends : (shelf_old shelf_new : ShelfTells) (names : List (List ℕ)) (files : List Named) (map : Map) (input_old input_new old new : Tells) (r : Run) → AreReady shelf_old names files → FormatOf files map → AfterSession map input_old input_new old r new → AfterOnce shelf_old shelf_new names input_old input_new old (status_after r) new
session-ends shelf_old shelf_new names files map input_old input_new old new run.Done ready format after = (files, (map, ready, format, after))
session-ends shelf_old shelf_new names files map input_old input_new old new (run.Bad place) ready format after = (place, (files, (map, ready, format, after)))
session-ends shelf_old shelf_new names files map input_old input_new old new run.ReadFault ready format after = inr (files, (map, ready, format, after))
session-ends shelf_old shelf_new names files map input_old input_new old new run.WriteFault ready format after = inr (files, (map, ready, format, after))
session-ends shelf_old shelf_new names files map input_old input_new old new run.Memory ready format after = inr (files, (map, ready, format, after))

-- the state that a format of files stands for
pub format-of : (files : List Named) (format : Format) → AfterPreamble files (Ok format) → (map : Map) × FormatOf files map × IsFormat format map
format-of [] format after = after
format-of (file ∷ files) format after = after

-- a preamble that is no format
pub fails-off : (files : List Named) (log : List ℕ) (steps : ℕ) (f : PreFault) → f ≡ fault.Fail log steps → AfterPreamble files (Err f) → BreaksOff files how.Fail log steps
fails-off [] log steps f is after = subst (λ x. AfterPreamble [] (Err x)) is after
fails-off (file ∷ files) log steps f is after = subst (λ x. AfterPreamble (file ∷ files) (Err x)) is after

pub spends-off : (files : List Named) (log : List ℕ) (steps : ℕ) (f : PreFault) → f ≡ fault.Spent log steps → AfterPreamble files (Err f) → BreaksOff files how.Spent log steps
spends-off [] log steps f is after = subst (λ x. AfterPreamble [] (Err x)) is after
spends-off (file ∷ files) log steps f is after = subst (λ x. AfterPreamble (file ∷ files) (Err x)) is after

-- the name at a place of the names
pub name-at : (names : List (List ℕ)) (k : ℕ) (name : List ℕ) → k < length names → name ≡ get_or names k name → name ≡ get_or names k []
name-at [] k name h is = absurd (omega arith)
name-at (first ∷ names) zero name h is = is
name-at (first ∷ names) (suc k) name h is = name-at names k name (omega arith) is

-- the causes that a name can't be read
pub absent-cause : (shelf : ShelfTells) (names : List (List ℕ)) (k : ℕ) (name : List ℕ) → name ≡ get_or names k [] → StopsAt shelf.files names k × IsAbsent shelf.files (get_or names k []) → HasCause shelf names (AbsentFile name)
absent-cause shelf names k name is cause = subst (λ n. HasCause shelf names (AbsentFile n)) (sym is) (first-of shelf names k cause.0, cause.1)

pub long-cause : (shelf : ShelfTells) (names : List (List ℕ)) (k : ℕ) (name : List ℕ) → name ≡ get_or names k [] → StopsAt shelf.files names k × IsLong shelf.files (get_or names k []) → HasCause shelf names (LongFile name)
long-cause shelf names k name is cause = subst (λ n. HasCause shelf names (LongFile n)) (sym is) (first-of shelf names k cause.0, cause.1)
