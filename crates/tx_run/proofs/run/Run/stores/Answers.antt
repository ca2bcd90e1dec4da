use Rattle.tx_frames.specs.declared.value.Value.TheVariants as value
use Rattle.tx_run.specs.declared.doing.Doing.TheVariants as doing
use Rattle.tx_run.specs.declared.run.Run.{Run}
use Rattle.tx_run.proofs.KnowledgeLemmas.{known-on}
use Rattle.std.proofs.Common.{ap, sym, subst, pos}
use Rattle.tx_eqtb.specs.Meanings.{meanings}
use Rattle.tx_private.specs.Errors.{numbered}
use Rattle.tx_private.specs.Lists.{storing, most_stored}
use Rattle.tx_private.specs.Readings as private
use Rattle.tx_private.specs.World.{World}
use Rattle.tx_opens.specs.Opens.{Comes}
use Rattle.tx_views.specs.Views.{all_viewed}
use Rattle.tx_scene.specs.declared.scene.Scene.{Scene}
use Rattle.tx_run.specs.Runs.{opens}
use Rattle.tx_run.proofs.CommandLemmas.{ground-same, ground-after, stores-not, stores-more, leads-stored, leads-bad}
use Rattle.tx_run.proofs.run.Run.stores.Goals as goal

-- the list is too much
pub returns-then-not-store-clause-leads : goal.returns-then-not-store-clause-leads
returns-then-not-store-clause-leads c = λ g is.
    let old = c.args.self.now.scene in
    let new = c.store.new.self in
    let frozen = meanings c.args.format.now.frozen in
    let tokens = c.args.tokens in
    let further = λ (v : World). private.Done (private.Tokens (all_viewed g.view tokens)) v in
    leads-bad g frozen (λ w. storing (all_viewed g.view tokens) w further) (numbered 57 5 (pos (most_stored old.preamble))) (opens g.view c.args.self.now) old c.too_much_stored.result c.too_much_stored.new.self
    (λ depth. stores-not tokens c.store.result old new g frozen depth further c.if-not-store.true c.store.ensures.stores)
    (leads-stored g frozen old new c.too_much_stored.result c.too_much_stored.new.self c.store.ensures.becomes
    (c.too_much_stored.ensures.leads g (ground-after c.args.format.now g old new (ground-same old new (ap (λ (s : Scene). s.input) c.store.ensures.becomes)) is)))

-- or it is stored
pub returns-clause-leads : goal.returns-clause-leads
returns-clause-leads c = λ g is r after o depth.
    let old = c.args.self.now.scene in
    let new = c.store.new.self in
    let frozen = meanings c.args.format.now.frozen in
    let tokens = c.args.tokens in
    let further = λ (v : World). private.Done (private.Tokens (all_viewed g.view tokens)) v in
    subst (λ m. Comes o (opens g.view c.args.self.now) m r)
    (sym (stores-more tokens c.store.result old new g frozen depth further c.if-not-store.false c.store.ensures.stores)) (after o depth)

pub returns-clause-knows : goal.returns-clause-knows
returns-clause-knows c names scene behind tokens =
    let old = c.args.self.now in
    let new : Run = record old { scene = c.store.new.self; doing = doing.Gives (value.Tokens c.args.tokens) } in
    known-on names old.scene new (ap (λ (s : Scene). s.environment) c.store.ensures.becomes) (c.store.ensures.knows names scene) tokens behind
