use Rattle.std.proofs.Common.{ℕ, subst}
use Rattle.tx_eqtb.specs.Meanings.{meanings}
use Rattle.tx_private.specs.World.{put_in_front}
use Rattle.tx_private.specs.Readings as private
use Rattle.tx_assign.specs.Refusals.{refused_in}
use Rattle.tx_opens.specs.Opens.{Open, Comes}
use Rattle.tx_views.specs.Views.{all_viewed}
use Rattle.tx_frames.specs.declared.answer.Answer.{Answer}
use Rattle.tx_frames.specs.Answers.{Becomes, move_of}
use Rattle.tx_frames.specs.Frames.{open_of, wish_of}
use Rattle.tx_frames.specs.Kinds.{wished}
use Rattle.tx_frames.specs.Values.{value_in}
use Rattle.tx_scene.specs.Scenes.{world}
use Rattle.tx_run.specs.Readings.{kind_of, start_of}
use Rattle.tx_run.specs.Runs.{opens, world_in, AnyComes, FailsNow}
use Rattle.tx_run.proofs.ReadingLemmas.{carry-goes, carry-moves, carry-ends, carry-wrong, leads-any}
use Rattle.tx_run.proofs.run.Run.carry.Goals as goal

-- the reading goes on
pub returns-in-Goes-clause-carries : goal.returns-in-Goes-clause-carries
returns-in-Goes-clause-carries c = λ g is o m k b.
    let run = c.args.self.now in
    let frozen = meanings c.args.format.now.frozen in
    let w = world_in g frozen (kind_of g.view c.args.begun) (opens g.view run) run in
    let becomes = subst (λ (x : Answer). Becomes g.view o m w x) c.in-Goes.is b in
    carry-goes g frozen c.args.begun c.in-Goes.frame (all_viewed g.view c.in-Goes.back) run o m c.goes.result c.goes.new.self k becomes.0 becomes.1 (c.goes.ensures.goes frozen g is.ground)

pub returns-in-Goes-clause-fails : goal.returns-in-Goes-clause-fails
returns-in-Goes-clause-fails c = λ g is.
    let run = c.args.self.now in
    let frozen = meanings c.args.format.now.frozen in
    let f = c.in-Goes.frame in
    leads-any (Comes (open_of g.view f) (opens g.view run) (wished g.view (wish_of f) (put_in_front (all_viewed g.view c.in-Goes.back) (world_in g frozen (kind_of g.view (start_of f)) (opens g.view run) run)))) g frozen c.goes.result c.goes.new.self (c.goes.ensures.goes frozen g is.ground)

-- it begins again
pub returns-in-Again-clause-carries : goal.returns-in-Again-clause-carries
returns-in-Again-clause-carries c = λ g is o m k b.
    let run = c.args.self.now in
    let frozen = meanings c.args.format.now.frozen in
    let kind = kind_of g.view c.args.begun in
    carry-moves g frozen kind (λ w. private.Again (put_in_front (all_viewed g.view c.in-Again.back) w)) run o m c.again.result c.again.new.self k
    (subst (λ (x : Answer). Becomes g.view o m (world_in g frozen kind (opens g.view run) run) x) c.in-Again.is b)
    (c.again.ensures.again frozen g is.ground)

pub returns-in-Again-clause-fails : goal.returns-in-Again-clause-fails
returns-in-Again-clause-fails c = λ g is.
    let run = c.args.self.now in
    let frozen = meanings c.args.format.now.frozen in
    leads-any (AnyComes g frozen (kind_of g.view c.args.begun) (opens g.view run) (λ w. private.Again (put_in_front (all_viewed g.view c.in-Again.back) w)) run) g frozen c.again.result c.again.new.self (c.again.ensures.again frozen g is.ground)

-- it ends
pub returns-in-Done-clause-carries : goal.returns-in-Done-clause-carries
returns-in-Done-clause-carries c = λ g is o m k b.
    let run = c.args.self.now in
    let frozen = meanings c.args.format.now.frozen in
    let kind = kind_of g.view c.args.begun in
    carry-ends g frozen kind (λ w. private.Done (value_in g.view c.in-Done.value) (put_in_front (all_viewed g.view c.in-Done.back) w)) run o m c.ends.result c.ends.new.self
    (subst (λ (x : Answer). Becomes g.view o m (world_in g frozen kind (opens g.view run) run) x) c.in-Done.is b)
    (c.ends.ensures.ends frozen g is.ground)

pub returns-in-Done-clause-fails : goal.returns-in-Done-clause-fails
returns-in-Done-clause-fails c = λ g is.
    let run = c.args.self.now in
    let frozen = meanings c.args.format.now.frozen in
    leads-any (λ r. (o : Open) (depth : ℕ) → Comes o (opens g.view run) (private.Done (value_in g.view c.in-Done.value) (put_in_front (all_viewed g.view c.in-Done.back) (world g frozen depth run.scene))) r) g frozen c.ends.result c.ends.new.self (c.ends.ensures.ends frozen g is.ground)

-- it is an error
pub returns-in-Wrong-clause-carries : goal.returns-in-Wrong-clause-carries
returns-in-Wrong-clause-carries c = λ g is o m k b.
    let run = c.args.self.now in
    let frozen = meanings c.args.format.now.frozen in
    let kind = kind_of g.view c.args.begun in
    carry-wrong g frozen kind (refused_in c.in-Wrong.error) run o m c.refuse.result c.refuse.new.self
    (subst (λ (x : Answer). Becomes g.view o m (world_in g frozen kind (opens g.view run) run) x) c.in-Wrong.is b)
    (c.refuse.ensures.leads g is)

pub returns-in-Wrong-clause-fails : goal.returns-in-Wrong-clause-fails
returns-in-Wrong-clause-fails c = λ g is.
    leads-any (FailsNow (meanings c.args.format.now.frozen) (refused_in c.in-Wrong.error) g c.args.self.now.scene) g (meanings c.args.format.now.frozen) c.refuse.result c.refuse.new.self (c.refuse.ensures.leads g is)

-- it does its last thing
pub returns-in-Works-clause-carries : goal.returns-in-Works-clause-carries
returns-in-Works-clause-carries c = λ g is o m k b.
    let run = c.args.self.now in
    let frozen = meanings c.args.format.now.frozen in
    let kind = kind_of g.view c.args.begun in
    carry-moves g frozen kind (move_of g.view c.in-Works.work) run o m c.works.result c.works.new.self k
    (subst (λ (x : Answer). Becomes g.view o m (world_in g frozen kind (opens g.view run) run) x) c.in-Works.is b)
    (c.works.ensures.leads g is)

pub returns-in-Works-clause-fails : goal.returns-in-Works-clause-fails
returns-in-Works-clause-fails c = λ g is.
    let run = c.args.self.now in
    let frozen = meanings c.args.format.now.frozen in
    leads-any (AnyComes g frozen (kind_of g.view c.args.begun) (opens g.view run) (move_of g.view c.in-Works.work) run) g frozen c.works.result c.works.new.self (c.works.ensures.leads g is)
