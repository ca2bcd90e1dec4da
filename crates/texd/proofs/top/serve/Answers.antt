use Rattle.std.proofs.Common.{subst, sym, refl, inl, inr}
use Rattle.tx_model.specs.declared.reply.Status.TheVariants as how
use Rattle.texd.specs.Top.{AfterOnce, BadPreamble}
use Rattle.texd.proofs.EarlyLemmas.{format-of, session-ends, early-ends, fails-off, spends-off}
use Rattle.texd.proofs.top.serve.Goals as goal

pub returns-in-Ok : goal.returns-in-Ok
returns-in-Ok g c shelf_old shelf_new names ready =
    let f = format-of c.args.files.now c.in-Ok.format c.in-Ok.ensures in
    subst (λ s. AfterOnce shelf_old shelf_new names (g.I.Told.tells c.args.input.now) (g.I.Told.tells c.run_once.new.input) (g.O.Told.tells c.args.output.now) s (g.O.Told.tells c.run_once.new.output)) (sym c.status_of.ensures)
    (session-ends shelf_old shelf_new names c.args.files.now f.0 (g.I.Told.tells c.args.input.now) (g.I.Told.tells c.run_once.new.input) (g.O.Told.tells c.args.output.now) (g.O.Told.tells c.run_once.new.output) c.run_once.result ready f.1 (c.run_once.ensures f.0 f.2))

pub returns-in-Err-Fail : goal.returns-in-Err-Fail
returns-in-Err-Fail g c shelf_old shelf_new names ready =
    early-ends shelf_old shelf_new names (g.I.Told.tells c.args.input.now) (g.O.Told.tells c.args.output.now) (g.O.Told.tells c.end.new.output) (BadPreamble how.Fail c.in-Err-Fail.log c.in-Err-Fail.steps) c.end.result
    (inl refl, (c.args.files.now, ready, fails-off c.args.files.now c.in-Err-Fail.log c.in-Err-Fail.steps c.in-Err-Fail.field-0 c.in-Err-Fail.field-0-is c.in-Err-Fail.ensures)) (c.end.ensures _ c.preamble_line-line.ensures)

pub returns-in-Err-Spent : goal.returns-in-Err-Spent
returns-in-Err-Spent g c shelf_old shelf_new names ready =
    early-ends shelf_old shelf_new names (g.I.Told.tells c.args.input.now) (g.O.Told.tells c.args.output.now) (g.O.Told.tells c.end-in-Err-Spent.new.output) (BadPreamble how.Spent c.in-Err-Spent.log c.in-Err-Spent.steps) c.end-in-Err-Spent.result
    (inr refl, (c.args.files.now, ready, spends-off c.args.files.now c.in-Err-Spent.log c.in-Err-Spent.steps c.in-Err-Spent.field-0 c.in-Err-Spent.field-0-is c.in-Err-Spent.ensures)) (c.end-in-Err-Spent.ensures _ c.preamble_line-line-in-Err-Spent.ensures)
