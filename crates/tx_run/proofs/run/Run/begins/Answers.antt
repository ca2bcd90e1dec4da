use Rattle.tx_run.specs.Knowledge.{known_by, KnowsStart}
use Rattle.std.proofs.Common.{pos, [], ◌∷◌, sym, ◌∙◌, subst}
use Rattle.tx_eqtb.specs.Meanings.{meanings}
use Rattle.tx_private.specs.Errors.{numbered}
use Rattle.tx_private.specs.Readings as private
use Rattle.tx_private.specs.Moves.{move_in}
use Rattle.tx_opens.specs.Opens.{begun, depth_of, Comes}
use Rattle.tx_frames.specs.Kinds.{expanded_kind, kind_in}
use Rattle.tx_run.specs.declared.doing.Start.{Start}
use Rattle.tx_run.specs.Readings.{kind_of}
use Rattle.tx_run.specs.Runs.{opens, world_now, world_in, AnyComes, FailsNow, Leads}
use Rattle.tx_run.proofs.RunLemmas.{leads-map}
use Rattle.tx_run.proofs.WishLemmas.{begin-overfull, begins, begins-expanded}
use Rattle.tx_run.proofs.run.Run.begins.Goals as goal

-- more tokens are pending than may be
pub returns-then-is_overfull-clause-leads : goal.returns-then-is_overfull-clause-leads
returns-then-is_overfull-clause-leads c = λ g is.
    let run = c.args.self.now in
    let frozen = meanings c.args.format.now.frozen in
    let k = kind_of g.view c.args.begun in
    let around = opens g.view run in
    leads-map (FailsNow frozen (numbered 57 4 (pos 0)) g run.scene) (AnyComes g frozen k around private.Again run) g frozen c.overfull.result c.overfull.new.self
    (λ r p. begin-overfull g frozen k around run r (sym (c.is_overfull.ensures g frozen (depth_of (begun k ∷ around))) ∙ c.if-is_overfull.true) p)
    (c.overfull.ensures.leads g is)

-- an expanded token
pub returns-in-Expanded-clause-leads : goal.returns-in-Expanded-clause-leads
returns-in-Expanded-clause-leads c = λ g is.
    let run = c.args.self.now in
    let frozen = meanings c.args.format.now.frozen in
    let k = expanded_kind c.in-Expanded.text in
    let around = opens g.view run in
    subst (λ (s : Start). Leads (AnyComes g frozen (kind_of g.view s) around private.Again run) g frozen c.take.result c.take.new.self) (sym c.in-Expanded.is)
    (leads-map (Comes (begun k) around (private.Take (world_now g frozen run))) (AnyComes g frozen k around private.Again run) g frozen c.take.result c.take.new.self
    (λ r p. begins-expanded g frozen c.in-Expanded.text run r (sym (c.is_overfull.ensures g frozen (depth_of (begun k ∷ around))) ∙ c.if-is_overfull.false) p)
    (c.take.ensures.leads g is))

pub take-requires-clause-room : goal.take-requires-clause-room
take-requires-clause-room c = λ g frozen depth. sym (c.is_overfull.ensures g frozen depth) ∙ c.if-is_overfull.false

-- another reading
pub returns-in-Within-clause-leads : goal.returns-in-Within-clause-leads
returns-in-Within-clause-leads c = λ g is.
    let run = c.args.self.now in
    let frozen = meanings c.args.format.now.frozen in
    let k = kind_in g.view c.in-Within.reading in
    let around = opens g.view run in
    subst (λ (s : Start). Leads (AnyComes g frozen (kind_of g.view s) around private.Again run) g frozen c.open.result c.open.new.self) (sym c.in-Within.is)
    (leads-map (Comes (begun k) around (move_in k [] (world_in g frozen k around run))) (AnyComes g frozen k around private.Again run) g frozen c.open.result c.open.new.self
    (λ r p. begins g frozen k around run r (sym (c.is_overfull.ensures g frozen (depth_of (begun k ∷ around))) ∙ c.if-is_overfull.false) p)
    (c.open.ensures.leads g is))

pub returns-in-Within-clause-knows : goal.returns-in-Within-clause-knows
returns-in-Within-clause-knows c names format scene behind start =
    c.open.ensures.knows names format scene behind (subst (λ s. KnowsStart (known_by names c.args.self.now.scene) s) c.in-Within.is start)
