use Rattle.std.proofs.Common.{drop, refl}
use Rattle.std.specs.Option.{option_to_list}
use Rattle.tx_model.specs.Lines.{lines_of}
use Rattle.tx_model.specs.Scanner.{scanned_from, LineUsed}
use Rattle.tx_scan.specs.Scans.{category_by}
use Rattle.tx_scan.proofs.LineLemmas.{in-later-lines, told-after, slice-from}
use Rattle.tx_scan.proofs.scanner.Scanner.next_line.Goals as goal

pub returns-in-Found : goal.returns-in-Found
returns-in-Found c =
    rw (← c.self.view_is)
    (told-after _ _ c.in-Found.what _
    (in-later-lines
    (scanned_from (category_by c.args.cats.now) (option_to_list c.args.ending) c.self.inside.number LineUsed (lines_of (drop c.self.inside.later c.self.inside.text)))
    c.self.inside.text c.self.inside.later c.in-Found.what c.in-Found.begun (drop c.self.inside.later c.self.inside.text) refl
    (rw (slice-from _ c.self.inside.text c.self.inside.later c.as_slice.ensures) at c.in-Found.ensures)))
