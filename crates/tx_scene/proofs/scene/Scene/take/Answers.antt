use Rattle.std.proofs.Common.{w32, FitsSigned, rules, sym, ◌∙◌}
use Rattle.std.proofs.Math.Facts.{to_z-of_z}
use Rattle.tx_eqtb.specs.Meanings.{meanings}
use Rattle.tx_scene.specs.Scenes.{base}
use Rattle.tx_scene.proofs.scene.Scene.take.Goals as goal

pub returns-clause-takes : goal.returns-clause-takes
returns-clause-takes c g depth is =
    let frozen = meanings c.args.frozen.now in
    let fits : FitsSigned w32 c.integer-end.result = search rules in
    c.take.ensures.taking g.view g.formats (base g frozen depth c.args.self.now) (sym (c.cats.ensures.categories g.view frozen c.requires.sound)) (sym (c.integer-end.ensures g.view is.view) ∙ sym (to_z-of_z fits))

pub returns-clause-known : goal.returns-clause-known
returns-clause-known c known knows = c.take.ensures.known known knows.input

pub returns-clause-knows : goal.returns-clause-knows
returns-clause-knows c known knows = record { input = c.take.ensures.knows known knows.input; kept = knows.kept; groups = knows.groups }
