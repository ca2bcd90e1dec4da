use Rattle.std.proofs.Common.{◌∙◌, ap}
use Rattle.tx_model.specs.Environment.{defining, Primitive'}
use Rattle.tx_gullet.specs.Levels.{levels}
use Rattle.tx_gullet.proofs.start.name_primitive.Goals as goal

pub returns-clause-named : goal.returns-clause-named
returns-clause-named c naming apart agrees =
    let made = c.in_ok-number.ensures.agrees naming agrees in
    (made.1, c.in_ok-define.ensures.levels naming apart ∙ ap (λ text. defining text (Primitive' c.args.primitive) (levels naming c.args.equivalents.now)) made.0)

pub returns-clause-knows : goal.returns-clause-knows
returns-clause-knows c table knows = c.in_ok-define.ensures.knows table knows tt
