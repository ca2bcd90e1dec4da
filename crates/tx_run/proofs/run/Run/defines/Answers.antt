use Rattle.std.proofs.Common.{ap, pos}
use Rattle.tx_private.specs.World.{World}
use Rattle.tx_private.specs.Errors.{numbered}
use Rattle.tx_scene.specs.declared.scene.Scene.{Scene}
use Rattle.tx_eqtb.specs.Meanings.{meanings}
use Rattle.tx_commands.specs.Outcomes.{move_of}
use Rattle.tx_commands.specs.declared.effect.Effect.TheVariants as effect
use Rattle.tx_run.proofs.CommandLemmas.{ground-same, ground-after, leads-moves, leads-fails, stores-not, stores-more, leads-stored}
use Rattle.tx_run.proofs.run.Run.defines.Goals as goal
use Rattle.tx_private.specs.Meanings as meaning
use Rattle.tx_private.specs.Assignments.{assigns}
use Rattle.tx_private.specs.Lists.{most_stored}
use Rattle.tx_assign.specs.Assigned.{prefixes_in}
use Rattle.tx_views.specs.Views.{all_viewed}
use Rattle.tx_views.specs.Places.{address_in}

-- the body is too much
pub returns-then-not-store-clause-leads : goal.returns-then-not-store-clause-leads
returns-then-not-store-clause-leads c = λ g is.
    let old = c.args.self.now.scene in
    let new = c.store.new.self in
    let frozen = meanings c.args.format.now.frozen in
    let body = c.args.body in
    let p = c.args.prefixes in
    let further = λ (v : World). assigns (prefixes_in p) (address_in g.view c.args.place) (meaning.Macro' (record { long = p.long; protected = p.protected; body = all_viewed g.view body })) v in
    leads-fails g frozen (move_of g.view (effect.Define p c.args.place body)) (numbered 57 5 (pos (most_stored old.preamble))) old old c.too_much_stored.result c.too_much_stored.new.self
    (stores-not body c.store.result old new g frozen 0 further c.if-not-store.true c.store.ensures.stores)
    (leads-stored g frozen old new c.too_much_stored.result c.too_much_stored.new.self c.store.ensures.becomes
    (c.too_much_stored.ensures.leads g (ground-after c.args.format.now g old new (ground-same old new (ap (λ (s : Scene). s.input) c.store.ensures.becomes)) is)))

-- or it is stored
pub returns-clause-leads : goal.returns-clause-leads
returns-clause-leads c = λ g is.
    let old = c.args.self.now.scene in
    let new = c.store.new.self in
    let frozen = meanings c.args.format.now.frozen in
    let body = c.args.body in
    let p = c.args.prefixes in
    let further = λ (v : World). assigns (prefixes_in p) (address_in g.view c.args.place) (meaning.Macro' (record { long = p.long; protected = p.protected; body = all_viewed g.view body })) v in
    leads-moves g frozen (move_of g.view (effect.Define p c.args.place body)) further old new c.shares.result c.shares.new.self
    (stores-more body c.store.result old new g frozen 0 further c.if-not-store.false c.store.ensures.stores)
    (c.shares.ensures.leads frozen g (ground-same old new (ap (λ (s : Scene). s.input) c.store.ensures.becomes) g is.ground))
