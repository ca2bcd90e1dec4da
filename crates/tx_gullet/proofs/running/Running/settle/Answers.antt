use Rattle.std.proofs.Common.{◌-◌, [], ◌++◌, take, sym, ◌∙◌, ap, subst}
use Rattle.tx_model.specs.Moves.{Control, Given}
use Rattle.tx_model.specs.Reads.{Gave}
use Rattle.tx_model.specs.Opens.{Then}
use Rattle.tx_model.specs.Opens as opens
use Rattle.tx_names.specs.Names.{Agrees}
use Rattle.tx_gullet.specs.Scenes.{world_of}
use Rattle.tx_gullet.specs.Frames.{awaits, open_of, outer_of, value_in}
use Rattle.tx_gullet.specs.Runs.{EndsBy, outer}
use Rattle.tx_model.proofs.Opens.{gave-tell}
use Rattle.tx_gullet.proofs.UndoLemmas.{keeps-through}
use Rattle.tx_gullet.proofs.RunLemmas.{answered, outer-pushed}
use Rattle.tx_gullet.proofs.running.Running.settle.Goals as goal

pub returns-in-Goes-clause-settles : goal.returns-in-Goes-clause-settles
returns-in-Goes-clause-settles c naming apart agrees r e =
    c.settling.invariant.4 naming apart agrees r (subst (λ a. EndsBy naming a (outer naming c.settling.self) (world_of naming c.settling.self.scene) r) (sym c.in-Goes.is) e)

pub returns-in-Ok-clause-settles : goal.returns-in-Ok-clause-settles
returns-in-Ok-clause-settles c naming apart agrees r e =
    c.settling.invariant.4 naming apart agrees r (subst (λ a. EndsBy naming a (outer naming c.settling.self) (world_of naming c.settling.self.scene) r) (sym c.in-Within.is)
    (subst (λ around. opens.Comes (open_of naming c.in-Within.frame) around (world_of naming c.settling.self.scene) r) (outer-pushed naming c.settling.self.waiting.items c.push.new.self.items c.in-Within.waiting c.in-Ok.ensures.items) e))

pub returns-in-Again-clause-settles : goal.returns-in-Again-clause-settles
returns-in-Again-clause-settles c naming apart agrees r e =
    c.settling.invariant.4 naming apart agrees r (subst (λ a. EndsBy naming a (outer naming c.settling.self) (world_of naming c.settling.self.scene) r) (sym c.in-Again.is) e)

pub settling-preserved : goal.settling-preserved
settling-preserved c = (
  c.give-answer.ensures.sound,
  c.give-answer.ensures.known c.give-answer.new.scene.names,
  c.give-answer.ensures.names ∙ c.settling.invariant.2,
  c.give-answer.ensures.steps ∙ c.settling.invariant.3,
  λ naming apart agrees r e.
      let now = subst (Agrees naming) (sym c.settling.invariant.2) agrees in
      c.settling.invariant.4 naming apart agrees r (subst (λ a. EndsBy naming a (outer naming c.settling.self) (world_of naming c.settling.self.scene) r) (sym c.in-Done.is)
      (subst (λ around. Then around (Gave (value_in naming c.in-Done.tokens) (world_of naming c.settling.self.scene)) r) (sym (outer-pushed naming c.pop.new.self.items c.settling.self.waiting.items c.in-Some.waiting c.in-Some.ensures.items))
      (answered naming Control (awaits naming c.in-Some.waiting) (Given (value_in naming c.in-Done.tokens)) (world_of naming c.settling.self.scene) (world_of naming c.give-answer.new.scene) c.give-answer.result (outer_of naming c.pop.new.self.items) r (c.give-answer.ensures.answers naming apart now) e))),
  keeps-through _ c.settling.self.scene.equivalents c.give-answer.new.scene.equivalents c.settling.invariant.5 c.give-answer.ensures.kept,
)

pub returns-in-None-clause-settles : goal.returns-in-None-clause-settles
returns-in-None-clause-settles c naming apart agrees r e =
    c.settling.invariant.4 naming apart agrees r (subst (λ a. EndsBy naming a (outer naming c.settling.self) (world_of naming c.settling.self.scene) r) (sym c.in-Done.is)
    (subst (λ around. Then around (Gave (value_in naming c.in-Done.tokens) (world_of naming c.settling.self.scene)) r) (sym (ap (outer_of naming) (c.in-None.ensures.items ∙ ap (λ xs. xs ++ []) (c.in-None.ensures.rest ∙ ap (λ n. take (n - 1) c.settling.self.waiting.items) c.in-None.ensures.cases.0))))
    (gave-tell e.0 (value_in naming c.in-Done.tokens) (world_of naming c.settling.self.scene) r e.1)))

pub returns-in-Wrong-clause-settles : goal.returns-in-Wrong-clause-settles
returns-in-Wrong-clause-settles c naming apart agrees r e =
    c.settling.invariant.4 naming apart agrees r (subst (λ a. EndsBy naming a (outer naming c.settling.self) (world_of naming c.settling.self.scene) r) (sym c.in-Wrong.is) e)
