use Rattle.std.proofs.Common.{◌≡◌, ◌∷◌, [], cond, false, refl, sym, ◌∙◌, ap}
use Rattle.tx_private.specs.Lists.{list_value, list_from, is_skipped}
use Rattle.tx_opens.specs.Opens.{given}
use Rattle.tx_views.specs.Meanings.{sense_in}
use Rattle.tx_frames.specs.declared.frame.Frame.TheVariants as frame
use Rattle.tx_frames.specs.declared.frame.ListStage.TheVariants as list
use Rattle.tx_frames.specs.declared.value.Item.TheVariants as item
use Rattle.tx_frames.specs.declared.value.Value.TheVariants as value
use Rattle.tx_frames.specs.Values.{item_in}
use Rattle.tx_frames.specs.Frames.{open_of}
use Rattle.tx_frames.specs.Opened.{behind_sense}
use Rattle.tx_frames.proofs.FrameLemmas.{becomes-same}
use Rattle.tx_frames.proofs.list.first.Goals as goal

pub returns-clause-becomes : goal.returns-clause-becomes
returns-clause-becomes c view w =
    let m = sense_in view c.args.sense in
    let none : is_skipped m ≡ false = sym (c.is_skipped.ensures view) ∙ c.if-is_skipped.false in
    becomes-same view (given (open_of view (frame.List list.Start)) (item_in view (item.Given (value.Command c.args.token c.args.sense)))) (behind_sense view c.args.sense) _ _ w c.behind.result
    (record { kind = refl; says = λ i later v. ap (λ t. cond t (list_value (i ∷ later) v) (list_from m (i ∷ later) v)) none })
    (ap (λ t. cond t (list_value [] w) (list_from m [] w)) none)
    (c.behind.ensures.becomes view w)

pub returns-clause-knows : goal.returns-clause-knows
returns-clause-knows c known = c.behind.ensures.knows known
