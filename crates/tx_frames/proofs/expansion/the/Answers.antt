use Rattle.std.proofs.Common.{[], refl, ◌∙◌, ap, subst}
use Rattle.tx_views.specs.Meanings.{sense_in}
use Rattle.tx_frames.specs.Values.{command_in}
use Rattle.tx_frames.specs.ListPlaces.{the_by}
use Rattle.tx_frames.specs.Opened.{the_before}
use Rattle.tx_frames.proofs.FrameLemmas.{becomes-same}
use Rattle.tx_frames.specs.Knowledge.{KnowsListPlace}
use Rattle.tx_frames.proofs.expansion.the.Goals as goal

pub returns-in-Nowhere-clause-becomes : goal.returns-in-Nowhere-clause-becomes
returns-in-Nowhere-clause-becomes c view w =
    let command = command_in view c.args.token c.args.sense in
    let m = sense_in view c.args.sense in
    becomes-same view (the_before view c.args.text c.args.token c.args.sense) (the_before view c.args.text c.args.token c.args.sense) _ _ w c.the_quantity.result (record { kind = refl; says = λ item later v. refl })
    (c.list_place.ensures.the view c.args.text command [] w ∙ ap (λ p. the_by view p c.args.text command m [] w) c.in-Nowhere.is)
    (c.the_quantity.ensures.goes view (the_before view c.args.text c.args.token c.args.sense) w (record { kind = refl; says = λ item later v. refl }))

pub returns-in-At-clause-knows : goal.returns-in-At-clause-knows
returns-in-At-clause-knows c known t s = subst (λ x. KnowsListPlace known x) c.in-At.is (c.list_place.ensures.knows known)

pub returns-in-Nowhere-clause-knows : goal.returns-in-Nowhere-clause-knows
returns-in-Nowhere-clause-knows c known t s = c.the_quantity.ensures.knows known t s
