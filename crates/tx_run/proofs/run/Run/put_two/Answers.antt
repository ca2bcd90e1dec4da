use Rattle.tx_input.specs.Worlds.{AllKnown}
use Rattle.tx_run.proofs.KnowledgeLemmas.{token-known}
use Rattle.tx_run.specs.Knowledge.{known_by}
use Rattle.std.proofs.Common.{◌≡◌, ap, subst, ◌∙◌, List, [], ◌∷◌, ◌++◌, sym}
use Rattle.std.specs.Result.{OnOk}
use Rattle.tx_tok.specs.declared.tok.Tok.{Tok}
use Rattle.tx_private.specs.World.{put_in_front}
use Rattle.tx_views.specs.Views.{all_viewed}
use Rattle.tx_scene.specs.Changes.{Changes}
use Rattle.tx_run.proofs.run.Run.put_two.Goals as goal

-- they are put in front
pub returns-clause-in_front : goal.returns-clause-in_front
returns-clause-in_front c =
    let first : c.push.new.self.items ≡ c.args.first ∷ [] = c.in_ok-push.ensures.items ∙ ap (λ xs. xs ++ c.args.first ∷ []) c.new-tokens.ensures.items in
    let both : c.push-2.new.self.items ≡ c.args.first ∷ c.args.second ∷ [] = c.in_ok-push-2.ensures.items ∙ ap (λ xs. xs ++ c.args.second ∷ []) first in
    subst (λ (tokens : List Tok). OnOk c.put.result (Changes (λ g w. put_in_front (all_viewed g.view tokens) w) c.args.self.now.scene c.put.new.self)) both c.put.ensures.in_front

pub returns-clause-knows : goal.returns-clause-knows
returns-clause-knows c names scene known also =
    let first : c.push.new.self.items ≡ c.args.first ∷ [] = c.in_ok-push.ensures.items ∙ ap (λ xs. xs ++ c.args.first ∷ []) c.new-tokens.ensures.items in
    let both : c.push-2.new.self.items ≡ c.args.first ∷ c.args.second ∷ [] = c.in_ok-push-2.ensures.items ∙ ap (λ xs. xs ++ c.args.second ∷ []) first in
    let by = known_by names c.args.self.now.scene in
    c.put.ensures.knows names (subst (λ (tokens : List Tok). AllKnown names tokens) (sym both) (token-known by c.args.first known, (token-known by c.args.second also, tt))) scene
