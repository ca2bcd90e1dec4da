use Rattle.tx_frames.specs.Knowledge.{KnowsWish}
use Rattle.tx_run.specs.Knowledge.{known_by}
use Rattle.std.proofs.Common.{pos, sym, ◌∙◌, subst}
use Rattle.tx_eqtb.specs.Meanings.{meanings}
use Rattle.tx_private.specs.Errors.{numbered}
use Rattle.tx_opens.specs.Opens.{depth_of}
use Rattle.tx_frames.specs.declared.frame.Wish.TheVariants as wish
use Rattle.tx_run.specs.declared.doing.Doing.TheVariants as doing
use Rattle.tx_run.specs.Readings.{WaitsBy}
use Rattle.tx_run.specs.Runs.{opens, FailsNow, Does}
use Rattle.tx_run.proofs.RunLemmas.{leads-map}
use Rattle.tx_run.proofs.WishLemmas.{wish-overfull, wishes-as, all-wait, takes-plain}
use Rattle.tx_run.proofs.run.Run.wishes.Goals as goal

-- more tokens are pending than may be
pub returns-then-is_overfull-clause-leads : goal.returns-then-is_overfull-clause-leads
returns-then-is_overfull-clause-leads c = λ g is.
    let run = c.args.self.now in
    let frozen = meanings c.args.format.now.frozen in
    leads-map (FailsNow frozen (numbered 57 4 (pos 0)) g run.scene) (Does g frozen doing.Wishes run) g frozen c.overfull.result c.overfull.new.self
    (λ r p. wish-overfull g frozen run r (sym (c.is_overfull.ensures g frozen (depth_of (opens g.view run))) ∙ c.if-is_overfull.true) p)
    (c.overfull.ensures.leads g is)

-- a token as it stands
pub returns-in-Plain-clause-leads : goal.returns-in-Plain-clause-leads
returns-in-Plain-clause-leads c = λ g is.
    wishes-as g (meanings c.args.format.now.frozen) c.args.self.now wish.Plain c.take.result c.take.new.self (sym c.wish.ensures.wishes ∙ c.in-Plain.is) (c.take.ensures.leads g is)

pub take-requires-clause-plain : goal.take-requires-clause-plain
take-requires-clause-plain c = takes-plain c.args.self.now.frames c.args.self.now.command (sym c.wish.ensures.wishes ∙ c.in-Plain.is)

pub take-requires-clause-room : goal.take-requires-clause-room
take-requires-clause-room c = λ g frozen depth. sym (c.is_overfull.ensures g frozen depth) ∙ c.if-is_overfull.false

-- an expanded one
pub returns-in-Expanded-clause-leads : goal.returns-in-Expanded-clause-leads
returns-in-Expanded-clause-leads c = λ g is.
    wishes-as g (meanings c.args.format.now.frozen) c.args.self.now (wish.Expanded c.in-Expanded.text) c.expands.result c.expands.new.self (sym c.wish.ensures.wishes ∙ c.in-Expanded.is) (c.expands.ensures.leads g is)

pub expands-requires-clause-waits : goal.expands-requires-clause-waits
expands-requires-clause-waits c =
    all-wait c.args.self.now.frames c.args.self.now.command (subst (λ how. WaitsBy how) (sym (sym c.wish.ensures.wishes ∙ c.in-Expanded.is)) tt) c.requires.waits

pub expands-requires-clause-room : goal.expands-requires-clause-room
expands-requires-clause-room c = λ g frozen depth. sym (c.is_overfull.ensures g frozen depth) ∙ c.if-is_overfull.false

-- a reading's value
pub returns-in-Within-clause-leads : goal.returns-in-Within-clause-leads
returns-in-Within-clause-leads c = λ g is.
    wishes-as g (meanings c.args.format.now.frozen) c.args.self.now (wish.Within c.in-Within.reading) c.within.result c.within.new.self (sym c.wish.ensures.wishes ∙ c.in-Within.is) (c.within.ensures.leads g is)

pub within-requires-clause-waits : goal.within-requires-clause-waits
within-requires-clause-waits c =
    all-wait c.args.self.now.frames c.args.self.now.command (subst (λ how. WaitsBy how) (sym (sym c.wish.ensures.wishes ∙ c.in-Within.is)) tt) c.requires.waits

pub within-requires-clause-room : goal.within-requires-clause-room
within-requires-clause-room c = λ g frozen depth. sym (c.is_overfull.ensures g frozen depth) ∙ c.if-is_overfull.false

pub returns-in-Within-clause-knows : goal.returns-in-Within-clause-knows
returns-in-Within-clause-knows c names format scene behind =
    let known = known_by names c.args.self.now.scene in
    c.within.ensures.knows names format scene behind (subst (λ how. KnowsWish known how) c.in-Within.is (c.wish.ensures.knows known behind))
