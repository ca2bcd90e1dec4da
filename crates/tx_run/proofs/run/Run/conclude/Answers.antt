use Rattle.std.proofs.Common.{refl, subst}
use Rattle.tx_private.specs.Readings as private
use Rattle.tx_private.specs.World.{World, put_in_front}
use Rattle.tx_scene.specs.Scenes.{world}
use Rattle.tx_eqtb.specs.Meanings.{meanings}
use Rattle.tx_commands.specs.Outcomes.{move_of, Becomes}
use Rattle.tx_commands.specs.declared.outcome.Outcome.{Outcome}
use Rattle.tx_run.proofs.CommandLemmas.{leads-fails, command-wishes, leads-open}
use Rattle.tx_run.proofs.run.Run.conclude.Goals as goal
use Rattle.tx_views.specs.Views.{all_viewed}
use Rattle.tx_assign.specs.Refusals.{refused_in}

-- the command goes on
pub returns-in-Goes-clause-concludes : goal.returns-in-Goes-clause-concludes
returns-in-Goes-clause-concludes c = λ g is o m k b.
    let s = c.args.self.now.scene in
    let frozen = meanings c.args.format.now.frozen in
    let becomes = subst (λ (x : Outcome). Becomes g.view o m (world g frozen 0 s) x) c.in-Goes.is b in
    λ r p. command-wishes g frozen s c.args.self.now.frames c.in-Goes.command o m r c.requires.empty becomes.0 becomes.1 p

pub returns-in-Relaxes-clause-concludes : goal.returns-in-Relaxes-clause-concludes
returns-in-Relaxes-clause-concludes c = λ g is o m k b.
    c.relaxes.ensures.concludes g is o m k (subst (λ (x : Outcome). Becomes g.view o m (world g (meanings c.args.format.now.frozen) 0 c.args.self.now.scene) x) c.in-Relaxes.is b)

-- main control begins again
pub returns-in-Again-clause-concludes : goal.returns-in-Again-clause-concludes
returns-in-Again-clause-concludes c = λ g is o m k b.
    let s = c.args.self.now.scene in
    let frozen = meanings c.args.format.now.frozen in
    leads-open g frozen (λ w. private.Again (put_in_front (all_viewed g.view c.in-Again.back) w)) s o m c.restarts_behind.result c.restarts_behind.new.self k
    (subst (λ (x : Outcome). Becomes g.view o m (world g frozen 0 s) x) c.in-Again.is b)
    (c.restarts_behind.ensures.leads frozen g is.ground)

-- what the command does at last
pub returns-in-Does-clause-concludes : goal.returns-in-Does-clause-concludes
returns-in-Does-clause-concludes c = λ g is o m k b.
    let s = c.args.self.now.scene in
    let frozen = meanings c.args.format.now.frozen in
    leads-open g frozen (move_of g.view c.in-Does.effect) s o m c.does.result c.does.new.self k
    (subst (λ (x : Outcome). Becomes g.view o m (world g frozen 0 s) x) c.in-Does.is b)
    (c.does.ensures.leads g is)

-- an error
pub returns-in-Wrong-clause-concludes : goal.returns-in-Wrong-clause-concludes
returns-in-Wrong-clause-concludes c = λ g is o m k b.
    let s = c.args.self.now.scene in
    let frozen = meanings c.args.format.now.frozen in
    let move = λ (w : World). private.Bad (refused_in c.in-Wrong.error) w in
    leads-open g frozen move s o m c.refuse.result c.refuse.new.self k
    (subst (λ (x : Outcome). Becomes g.view o m (world g frozen 0 s) x) c.in-Wrong.is b)
    (leads-fails g frozen move (refused_in c.in-Wrong.error) s s c.refuse.result c.refuse.new.self refl (c.refuse.ensures.leads g is))
