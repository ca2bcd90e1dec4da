use Rattle.std.proofs.Common.{ℤ, Option, w32, refl, subst}
use mir.Val.{SFits, of_z, to_z}
use Rattle.std.proofs.Math.Facts.{to_z-of_z}
use Rattle.tx_model.specs.Scanner.{Rest}
use Rattle.tx_scan.specs.declared.cats.Cats.{Cats}
use Rattle.tx_scan.specs.declared.line.Scan.{Scan}
use Rattle.tx_input.specs.Texts.{AfterScan}
use Rattle.tx_tok.specs.declared.tok.Tok.TheVariants as tok
use Rattle.tx_scan.specs.Scans.{par}
use Rattle.tx_input.proofs.TakingLemmas.{gave-char, gave-active, gave-name, gave-par, char-takes, name-takes, none-taken, text-halts}
use Rattle.tx_input.proofs.input.Input.scan.Goals as goal

-- the argument that is passed on is the same
passed : (cats : Cats) (end : ℤ) (old : Option Rest) (what : Scan) (new : Option Rest) → SFits w32 end → AfterScan cats (to_z w32 (of_z w32 end)) old what new → AfterScan cats end old what new
passed cats end old what new fits h = subst (λ e. AfterScan cats e old what new) (to_z-of_z fits) h

pub returns-in-Char-clause-taking : goal.returns-in-Char-clause-taking
returns-in-Char-clause-taking c view formats base by_cats by_end =
    let gave = gave-char c.args.cats.now c.args.end c.args.self.now.text c.scan.new.text c.in-Char.cat c.in-Char.byte (passed _ _ _ _ _ c.ranges.end c.in-Char.ensures) in
    char-takes view formats base c.args.cats.now c.args.end by_cats by_end c.args.self.now c.step.new.self c.scan.new.text (tok.Char c.in-Char.cat c.in-Char.byte) c.step.result gave refl c.requires c.step.ensures.step

pub returns-in-Active-clause-taking : goal.returns-in-Active-clause-taking
returns-in-Active-clause-taking c view formats base by_cats by_end =
    let gave = gave-active c.args.cats.now c.args.end c.args.self.now.text c.scan.new.text c.in-Active.byte (passed _ _ _ _ _ c.ranges.end c.in-Active.ensures) in
    char-takes view formats base c.args.cats.now c.args.end by_cats by_end c.args.self.now c.step-in-Active.new.self c.scan.new.text (tok.Active c.in-Active.byte) c.step-in-Active.result gave refl c.requires c.step-in-Active.ensures.step

pub returns-in-NameText-clause-taking : goal.returns-in-NameText-clause-taking
returns-in-NameText-clause-taking c view formats base by_cats by_end =
    let gave = gave-name c.args.cats.now c.args.end c.args.self.now.text c.scan.new.text c.in-NameText.name (passed _ _ _ _ _ c.ranges.end c.in-NameText.ensures) in
    name-takes view formats base c.args.cats.now c.args.end by_cats by_end c.args.self.now c.step_name.new.self c.scan.new.text c.in-NameText.name c.step_name.result gave c.requires c.step_name.ensures.name

pub returns-in-Par-clause-taking : goal.returns-in-Par-clause-taking
returns-in-Par-clause-taking c view formats base by_cats by_end =
    let gave = gave-par c.args.cats.now c.args.end c.args.self.now.text c.scan.new.text (passed _ _ _ _ _ c.ranges.end c.in-Par.ensures) in
    name-takes view formats base c.args.cats.now c.args.end by_cats by_end c.args.self.now c.step_par.new.self c.scan.new.text par c.step_par.result gave c.requires c.step_par.ensures.name

pub returns-in-End-clause-taking : goal.returns-in-End-clause-taking
returns-in-End-clause-taking c view formats base by_cats by_end =
    none-taken view formats base c.args.cats.now c.args.end by_cats by_end c.args.self.now c.scan.new.text c.requires (passed _ _ _ _ _ c.ranges.end c.in-End.ensures)

pub returns-in-Invalid-clause-taking : goal.returns-in-Invalid-clause-taking
returns-in-Invalid-clause-taking c view formats base by_cats by_end =
    text-halts view formats base c.args.cats.now c.args.end by_cats by_end c.args.self.now c.scan.new.text c.requires (passed _ _ _ _ _ c.ranges.end c.in-Invalid.ensures)
