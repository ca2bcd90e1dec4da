use Rattle.std.proofs.Common.{◌∷◌, [], refl, ◌∙◌, ap, subst}
use Rattle.tx_views.specs.Meanings.{sense_in}
use Rattle.tx_frames.specs.ListPlaces.{list_by}
use Rattle.tx_frames.specs.Opened.{behind_sense, braced_sense}
use Rattle.tx_frames.proofs.FrameLemmas.{becomes-same}
use Rattle.tx_frames.specs.Knowledge.{KnowsListPlace}
use Rattle.tx_frames.proofs.list.behind.Goals as goal

pub returns-in-Nowhere-clause-becomes : goal.returns-in-Nowhere-clause-becomes
returns-in-Nowhere-clause-becomes c view w =
    let m = sense_in view c.args.sense in
    becomes-same view (behind_sense view c.args.sense) (braced_sense view c.args.sense) _ _ w c.braced.result
    (record { kind = refl; says = λ item later v. c.list_place.ensures.list view (item ∷ later) v ∙ ap (λ p. list_by view p m (item ∷ later) v) c.in-Nowhere.is })
    (c.list_place.ensures.list view [] w ∙ ap (λ p. list_by view p m [] w) c.in-Nowhere.is)
    (c.braced.ensures.becomes view w)

pub returns-in-At-clause-knows : goal.returns-in-At-clause-knows
returns-in-At-clause-knows c known = subst (λ x. KnowsListPlace known x) c.in-At.is (c.list_place.ensures.knows known)

pub returns-in-Nowhere-clause-knows : goal.returns-in-Nowhere-clause-knows
returns-in-Nowhere-clause-knows c known = c.braced.ensures.knows known
