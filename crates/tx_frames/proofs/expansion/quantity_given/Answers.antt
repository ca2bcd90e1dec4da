use Rattle.std.proofs.Common.{◌∷◌, [], sym, ◌∙◌, ap, subst}
use Rattle.tx_views.specs.Meanings.{sense_in}
use Rattle.tx_opens.specs.Opens.{given}
use Rattle.tx_frames.specs.declared.frame.Frame.TheVariants as frame
use Rattle.tx_frames.specs.declared.frame.Stage.TheVariants as stage
use Rattle.tx_frames.specs.Values.{command_in, item_in}
use Rattle.tx_frames.specs.Frames.{open_of}
use Rattle.tx_frames.specs.ListPlaces.{the_by}
use Rattle.tx_frames.specs.Answers.{Becomes}
use Rattle.tx_frames.specs.Knowledge.{KnowsListPlace}
use Rattle.tx_frames.proofs.expansion.quantity_given.Goals as goal

pub returns-in-Numbered-clause-becomes : goal.returns-in-Numbered-clause-becomes
returns-in-Numbered-clause-becomes c view w =
    let command = command_in view c.args.token c.args.sense in
    let o = given (open_of view (frame.Expansion c.args.text (stage.TheQuantity c.args.token c.args.sense))) (item_in view c.args.item) in
    subst (λ m. Becomes view o m w c.register_given.result) (sym (c.list_place.ensures.the view c.args.text command (item_in view c.args.item ∷ []) w ∙ ap (λ p. the_by view p c.args.text command (sense_in view c.args.sense) (item_in view c.args.item ∷ []) w) c.in-Numbered.is))
    (c.register_given.ensures.becomes view o w)

pub returns-in-Nowhere-clause-becomes : goal.returns-in-Nowhere-clause-becomes
returns-in-Nowhere-clause-becomes c view w =
    let command = command_in view c.args.token c.args.sense in
    let o = given (open_of view (frame.Expansion c.args.text (stage.TheQuantity c.args.token c.args.sense))) (item_in view c.args.item) in
    subst (λ m. Becomes view o m w c.amount_given.result) (sym (c.list_place.ensures.the view c.args.text command (item_in view c.args.item ∷ []) w ∙ ap (λ p. the_by view p c.args.text command (sense_in view c.args.sense) (item_in view c.args.item ∷ []) w) c.in-Nowhere.is))
    (c.amount_given.ensures.becomes view o w)

pub returns-in-At-clause-knows : goal.returns-in-At-clause-knows
returns-in-At-clause-knows c known = subst (λ x. KnowsListPlace known x) c.in-At.is (c.list_place.ensures.knows known)

pub returns-in-Numbered-clause-knows : goal.returns-in-Numbered-clause-knows
returns-in-Numbered-clause-knows c known = c.register_given.ensures.knows known

pub returns-in-Nowhere-clause-knows : goal.returns-in-Nowhere-clause-knows
returns-in-Nowhere-clause-knows c known = c.amount_given.ensures.knows known
