use Rattle.std.proofs.Common.{◌∙◌, Err, subst}
use Rattle.texd.specs.Files.{AfterFiles}
use Rattle.texd.specs.Top.{AbsentFile, LongFile, LongFiles}
use Rattle.texd.proofs.EarlyLemmas.{early-ends, name-at, absent-cause, long-cause}
use Rattle.texd.proofs.top.stop.Goals as goal

pub returns-in-Absent : goal.returns-in-Absent
returns-in-Absent g c shelf_old shelf_new input after =
    let cause = subst (λ u. AfterFiles shelf_old c.args.names.now (Err u) shelf_new) c.in-Absent.is after in
    let is = c.as_str.ensures ∙ name-at c.args.names.now c.in-Absent.k c.index-names-k.result cause.0.0 c.index-names-k.is in
    early-ends shelf_old shelf_new c.args.names.now input (g.O.Told.tells c.args.output.now) (g.O.Told.tells c.end.new.output) (AbsentFile c.as_str.result.now) c.end.result
    (absent-cause shelf_old c.args.names.now c.in-Absent.k c.as_str.result.now is cause) (c.end.ensures _ c.absent_line-line.ensures)

pub returns-in-Long : goal.returns-in-Long
returns-in-Long g c shelf_old shelf_new input after =
    let cause = subst (λ u. AfterFiles shelf_old c.args.names.now (Err u) shelf_new) c.in-Long.is after in
    let is = c.as_str-in-Long.ensures ∙ name-at c.args.names.now c.in-Long.k c.index-names-k-in-Long.result cause.0.0 c.index-names-k-in-Long.is in
    early-ends shelf_old shelf_new c.args.names.now input (g.O.Told.tells c.args.output.now) (g.O.Told.tells c.end-in-Long.new.output) (LongFile c.as_str-in-Long.result.now) c.end-in-Long.result
    (long-cause shelf_old c.args.names.now c.in-Long.k c.as_str-in-Long.result.now is cause) (c.end-in-Long.ensures _ c.long_line-line.ensures)

pub returns-in-LongTogether : goal.returns-in-LongTogether
returns-in-LongTogether g c shelf_old shelf_new input after =
    let cause = subst (λ u. AfterFiles shelf_old c.args.names.now (Err u) shelf_new) c.in-LongTogether.is after in
    early-ends shelf_old shelf_new c.args.names.now input (g.O.Told.tells c.args.output.now) (g.O.Told.tells c.end-in-LongTogether.new.output) LongFiles c.end-in-LongTogether.result cause (c.end-in-LongTogether.ensures _ c.long_together_line-line.ensures)
