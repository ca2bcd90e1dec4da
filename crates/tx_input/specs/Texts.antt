-- The text of a region, and what was dropped of it.
use Rattle.std.specs.Prelude.{◌≡◌, ℤ, List, [], ◌∷◌, Option, None, Some, IsSomeAnd}
use Rattle.tx_model.specs.declared.category.LineState.TheVariants.{NewLine}
use Rattle.tx_model.specs.Scanner.{Rest, scanned}
use Rattle.tx_model.specs.Pending.{Member, Text}
use Rattle.tx_scan.specs.declared.cats.Cats.{Cats}
use Rattle.tx_scan.specs.declared.line.Scan.{Scan}
use Rattle.tx_scan.specs.declared.line.Scan.TheVariants as scan
use Rattle.tx_scan.specs.Scans.{category_by, AfterNext}
use Rattle.tx_input.specs.declared.text.Reading.{Reading}
use Rattle.tx_input.specs.declared.text.Reading.TheVariants.{Whole, Dropped, Used}

-- a text of which nothing is left to read; the number of its line stays
abbrev pub without_bytes : Rest → Rest
without_bytes rest = record rest { unread = []; later = [] }

-- what a scanner's text stands for: itself, the same without what is left of it, or that once its end was seen
abbrev pub as_read : Reading → Rest → Rest
as_read Whole rest = rest
as_read Dropped rest = without_bytes rest
as_read Used rest = record (without_bytes rest) { state = NewLine }

-- a text, where there is one, among what is pending
abbrev pub text_members : Option Rest → List Member
text_members None = []
text_members (Some rest) = Text rest ∷ []

-- after what stands next in a text was asked for, where there is one
abbrev pub AfterScan : Cats → ℤ → Option Rest → Scan → Option Rest → Type 0
AfterScan cats end None what new = (what ≡ scan.End) × (new ≡ None)
AfterScan cats end (Some old) what new = IsSomeAnd new (λ rest. AfterNext (scanned (category_by cats) end old) old what rest)

-- nothing is left to read of a text, where there is one
abbrev pub dropped : Option Rest → Option Rest
dropped None = None
dropped (Some rest) = Some (without_bytes rest)
