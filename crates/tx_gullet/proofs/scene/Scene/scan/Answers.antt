use Rattle.std.proofs.Common.{subst}
use Rattle.tx_tok.specs.declared.tok.Tok.TheVariants as tok
use Rattle.tx_scan.specs.Scans.{par}
use Rattle.tx_gullet.specs.Scenes.{AfterName}
use Rattle.tx_gullet.proofs.SceneLemmas.{step-of-text, name-of-text, text-used, text-halts, sound-stepped, agrees-stepped}
use Rattle.tx_gullet.proofs.scene.Scene.scan.Goals as goal

pub returns-in-Char-clause-taking : goal.returns-in-Char-clause-taking
returns-in-Char-clause-taking c naming apart agrees = (
  agrees-stepped naming (record c.args.self.now { scanner = c.next.new.self }) c.step.new.self (tok.Char c.in-Char.cat c.in-Char.byte) c.step.result c.step.ensures.step agrees,
  step-of-text naming c.args.self.now c.step.new.self c.args.self.now.names c.next.new.self (tok.Char c.in-Char.cat c.in-Char.byte) c.step.result c.in-Char.ensures c.step.ensures.step,
)

pub returns-in-NameText-clause-taking : goal.returns-in-NameText-clause-taking
returns-in-NameText-clause-taking c naming apart agrees =
    name-of-text naming c.args.self.now c.step_name.new.self c.next.new.self c.in-NameText.name c.step_name.result c.in-NameText.ensures (subst (λ text. AfterName (record c.args.self.now { scanner = c.next.new.self }) text c.step_name.result c.step_name.new.self) c.as_slice.ensures c.step_name.ensures.name) agrees

pub returns-in-Active-clause-sound : goal.returns-in-Active-clause-sound
returns-in-Active-clause-sound c =
    sound-stepped (record c.args.self.now { scanner = c.next.new.self }) c.step-in-Active.new.self (tok.Active c.in-Active.byte) c.step-in-Active.result c.step-in-Active.ensures.step (record { equivalents = c.requires.sound.equivalents; lists = c.requires.sound.lists })

pub returns-in-Active-clause-taking : goal.returns-in-Active-clause-taking
returns-in-Active-clause-taking c naming apart agrees = (
  agrees-stepped naming (record c.args.self.now { scanner = c.next.new.self }) c.step-in-Active.new.self (tok.Active c.in-Active.byte) c.step-in-Active.result c.step-in-Active.ensures.step agrees,
  step-of-text naming c.args.self.now c.step-in-Active.new.self c.args.self.now.names c.next.new.self (tok.Active c.in-Active.byte) c.step-in-Active.result c.in-Active.ensures c.step-in-Active.ensures.step,
)

pub returns-in-Par-clause-taking : goal.returns-in-Par-clause-taking
returns-in-Par-clause-taking c naming apart agrees =
    name-of-text naming c.args.self.now c.step_name-in-Par.new.self c.next.new.self par c.step_name-in-Par.result c.in-Par.ensures c.step_name-in-Par.ensures.name agrees

pub returns-in-End-clause-taking : goal.returns-in-End-clause-taking
returns-in-End-clause-taking c naming apart agrees = (agrees, text-used naming c.args.self.now c.next.new.self c.in-End.ensures)

pub returns-in-Invalid-clause-taking : goal.returns-in-Invalid-clause-taking
returns-in-Invalid-clause-taking c naming apart agrees = (agrees, text-halts naming c.args.self.now c.next.new.self c.in-Invalid.ensures)
