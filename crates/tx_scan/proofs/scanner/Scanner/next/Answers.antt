use Rattle.std.proofs.Common.{◌≡◌, ◌∙◌, ap, drop, refl}
use Rattle.std.proofs.lemmas.Int.{to_z-of_z}
use Rattle.std.specs.Option.{option_to_list}
use Rattle.std.specs.Int.{w32}
use Rattle.tx_model.specs.Lines.{lines_of, line_end}
use Rattle.tx_model.specs.Scanner.{scanned, scanned_from, found_in, LineUsed}
use Rattle.tx_scan.specs.Scans.{category_by}
use Rattle.tx_scan.proofs.LineLemmas.{in-this-line, told-after}
use Rattle.tx_scan.proofs.scanner.Scanner.next.Goals as goal

pub returns-in-Found : goal.returns-in-Found
unfolding scanned
returns-in-Found c =
    rw (← c.self.view_is)
    (told-after _ _ c.in-Found.what _
    (in-this-line (category_by c.args.cats.now) (line_end c.args.end) _ c.self.inside.line (lines_of (drop c.self.inside.later c.self.inside.text)) c.self.inside.read
    c.self.inside.number c.self.inside.state c.in-Found.state c.in-Found.what c.in-Found.left _ c.as_slice.ensures c.in-Found.ensures c.leave-self-inside.ensures.rest))

pub returns-in-Used : goal.returns-in-Used
unfolding scanned
returns-in-Used c =
    let ending : option_to_list c.ending_byte.result ≡ line_end c.args.end = c.ending_byte.ensures ∙ ap line_end (to_z-of_z w32 c.args.end c.ranges.end) in
    let used : found_in (category_by c.args.cats.now) c.self.inside.state (drop c.self.inside.read c.self.inside.line) ≡ LineUsed =
    rw c.as_slice.ensures at c.in-Used.ensures
    in
    let same : scanned (category_by c.args.cats.now) c.args.end c.args.self.now ≡ scanned_from (category_by c.args.cats.now) (option_to_list c.ending_byte.result) c.args.self.now.number LineUsed c.args.self.now.later =
    rw (← c.self.view_is, used, ending) refl
    in
    rw same c.next_line.ensures
