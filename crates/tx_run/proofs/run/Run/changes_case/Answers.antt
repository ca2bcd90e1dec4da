use Rattle.tx_run.proofs.KnowledgeLemmas.{known-tokens, tokens-known}
use Rattle.tx_run.specs.Knowledge.{known_by}
use Rattle.std.proofs.Common.{◌≡◌, sym, ap, subst, ◌∙◌, map}
use Rattle.tx_private.specs.Readings as private
use Rattle.tx_private.specs.World.{put_in_front}
use Rattle.tx_private.specs.Controls.{recoded}
use Rattle.tx_views.specs.Views.{all_viewed}
use Rattle.tx_views.specs.Places.{table_in}
use Rattle.tx_scene.specs.Scenes.{world}
use Rattle.tx_eqtb.specs.Meanings.{meanings}
use Rattle.tx_commands.specs.Outcomes.{move_of}
use Rattle.tx_commands.specs.declared.effect.Effect.TheVariants as effect
use Rattle.tx_run.proofs.CommandLemmas.{leads-moves}
use Rattle.tx_run.proofs.run.Run.changes_case.Goals as goal

-- the tokens have other letters
pub returns-in-Ok-clause-leads : goal.returns-in-Ok-clause-leads
returns-in-Ok-clause-leads c = λ g is.
    let old = c.args.self.now.scene in
    let frozen = meanings c.args.format.now.frozen in
    let w = world g frozen 0 old in
    let coded = subst (λ f. all_viewed g.view c.in-Ok.tokens ≡ map (recoded (table_in c.table_of.result) (world g (meanings f) 0 old)) (all_viewed g.view c.args.tokens)) c.frozen.ensures (c.in-Ok.ensures.recodes g 0 is.ground) in
    leads-moves g frozen (move_of g.view (effect.ChangeCase c.args.letters c.args.tokens)) (λ v. private.Again (put_in_front (all_viewed g.view c.in-Ok.tokens) v)) old old c.restarts_behind.result c.restarts_behind.new.self
    (ap (λ ts. private.Again (put_in_front ts w)) (sym (coded ∙ ap (λ t. map (recoded t w) (all_viewed g.view c.args.tokens)) c.table_of.ensures)))
    (c.restarts_behind.ensures.leads frozen g is.ground)

pub returns-in-Ok-clause-knows : goal.returns-in-Ok-clause-knows
returns-in-Ok-clause-knows c names scene tokens =
    let known = known_by names c.args.self.now.scene in
    c.restarts_behind.ensures.knows names scene (known-tokens known c.in-Ok.tokens (c.in-Ok.ensures.knows names (tokens-known known c.args.tokens tokens)))
