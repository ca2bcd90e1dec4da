use Rattle.std.proofs.Common.{arith}
use Rattle.tx_model.specs.declared.category.LineState.TheVariants.{NewLine}
use Rattle.std.specs.Option.{option_to_list}
use Rattle.tx_model.specs.Scanner.{found_in}
use Rattle.tx_scan.proofs.LineLemmas.{next-line, rest-of}
use Rattle.tx_scan.specs.Scans.{category_by, rest_of, LooksInto}
use Rattle.tx_scan.specs.declared.line.InLine.TheVariants.{Found}
use Rattle.tx_scan.proofs.later.in_lines.Goals as goal

pub returns-in-Found : goal.returns-in-Found
returns-in-Found c =
    let told : LooksInto (found_in (category_by c.args.cats.now) NewLine c.in-Ok.line) c.in-Ok.line (Found c.in-Found.what c.in-Found.state c.in-Found.left) =
    rw c.as_slice.ensures at c.in-Found.ensures
    in (
      omega arith,
      c.leave-read.ensures.within,
      c.next_number-number.ensures.within,
      rw (c.next_number-number.ensures.next, c.leave-read.ensures.rest)
          (next-line (category_by c.args.cats.now) (option_to_list c.args.ending) c.args.later.now c.args.number c.lines.number c.lines.at c.first_line-first.result.len
          c.first_line-first.result.used _ c.in-Ok.line (rest_of c.in-Ok.line c.in-Found.left) c.in-Found.what c.in-Found.state (rest-of c.args.later.now c.lines.at) c.lines.invariant.same
          c.first_line-first.ensures.lines c.in-Ok.ensures told.1),
    )
