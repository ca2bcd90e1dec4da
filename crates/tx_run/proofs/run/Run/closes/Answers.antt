use Rattle.tx_run.proofs.KnowledgeLemmas.{falls-as, known-tokens}
use Rattle.tx_run.specs.Knowledge.{known_by, counts_as}
use Rattle.std.proofs.Common.{sym, ap, subst, [], arith, ◌≡◌}
use Rattle.tx_private.specs.Readings as private
use Rattle.tx_scene.specs.declared.scene.Scene.{Scene}
use Rattle.tx_scene.specs.Changes.{closing}
use Rattle.tx_opens.specs.Opens.{Comes}
use Rattle.tx_run.proofs.GroupLemmas.{stays-open}
use Rattle.tx_run.proofs.CommandLemmas.{ground-same, leads-moves}
use Rattle.tx_run.proofs.run.Run.closes.Goals as goal
use Rattle.tx_private.specs.World.{put_in_front}
use Rattle.tx_views.specs.Views.{all_viewed}

-- the group goes on ending
pub returns-in-Dropped-clause-leads : goal.returns-in-Dropped-clause-leads
returns-in-Dropped-clause-leads c = λ frozen g is r p o k.
    subst (λ m. Comes o [] m r) (sym (c.in-Dropped.ensures.closes g frozen 0)) (p o k)

pub returns-in-Dropped-clause-sound : goal.returns-in-Dropped-clause-sound
returns-in-Dropped-clause-sound c = λ frozen is.
    ((c.in-Dropped.ensures.leaves frozen is, stays-open frozen c.args.self.now.scene c.close.new.self c.in-Dropped.ensures.closes c.requires.open), c.requires.empty)

-- or it has ended, and leaves tokens
pub returns-in-End-clause-leads : goal.returns-in-End-clause-leads
returns-in-End-clause-leads c = λ frozen g is.
    let old = c.args.self.now.scene in
    let new = c.close.new.self in
    leads-moves g frozen closing (λ w. private.Again (put_in_front (all_viewed g.view c.in-End.after) w)) old new c.restarts_behind.result c.restarts_behind.new.self
    (c.in-End.ensures.closes g frozen 0)
    (c.restarts_behind.ensures.leads frozen g (ground-same old new (ap (λ (s : Scene). s.input) c.close.ensures.becomes) g is))

pub returns-in-Dropped-clause-knows : goal.returns-in-Dropped-clause-knows
returns-in-Dropped-clause-knows c names scene = record { scene = c.close.ensures.knows names scene; doing = tt; behind = tt }

pub returns-in-Dropped-clause-holds : goal.returns-in-Dropped-clause-holds
returns-in-Dropped-clause-holds c empty id =
    omega (arith, c.in-Dropped.ensures.references id, falls-as id c.in-Dropped.out c.fallen-self.result c.fallen-self.ensures)

pub returns-in-End-clause-knows : goal.returns-in-End-clause-knows
returns-in-End-clause-knows c names scene =
    c.restarts_behind.ensures.knows names (c.close.ensures.knows names scene) (known-tokens (known_by names c.close.new.self) c.in-End.after (c.in-End.ensures.known names scene))

pub returns-in-End-clause-holds : goal.returns-in-End-clause-holds
returns-in-End-clause-holds c empty id =
    let none : counts_as id c.args.self.now.fallen ≡ 0 = ap (counts_as id) empty.fallen in
    omega (arith, c.restarts_behind.ensures.holds empty.doing id, c.in-End.ensures.references id, none)
