use Rattle.std.proofs.Common.{◌<◌, ◌-◌, ◌^◌, inl, inr, refl, ap, sym, subst}
use Rattle.tx_eqtb.specs.Tables.{before}
use Rattle.tx_scene.specs.declared.scene.Scene.{Scene}
use Rattle.tx_scene.specs.Scenes.{IsGround}
use Rattle.tx_engine.specs.Agreement.{known_names}
use Rattle.tx_engine.specs.Standing.{frozen_of, KnowsIn}
use Rattle.tx_engine.proofs.TickLemmas.{serves-on, runs-of, stands-of, runs-on, IsForReference, reference-by-doing, may-ask}
use Rattle.tx_engine.proofs.engine.Engine.asks.Goals as goal
use Rattle.tx_engine.proofs.engine.Engine.asks.Goals.{in_default-via-in-Share+else-self-ge-MOST_REFERENCES, in_default-via-in_default}

-- there is no room for a reference
pub returns-in-Share-clause-serves : goal.returns-in-Share-clause-serves
returns-in-Share-clause-serves c session serves =
    let old = c.args.self.now in
    let run = c.no_memory.new.self in
    let asked = reference-by-doing c.args.operation old.run c.requires.due c.in-Share.is in
    let known = c.no_memory.ensures.knows (known_names session) (subst (λ p. KnowsIn (known_names session) p old.run) c.requires.phase serves.knows) in
    serves-on session old (record old { run = run }) serves refl
    (λ g is. subst (IsGround g) (sym c.no_memory.ensures.scene) is)
    (c.no_memory.ensures.holds asked)
    (subst (λ p. KnowsIn (known_names session) p run) (sym c.requires.phase) known)

pub returns-in-Share-clause-stands : goal.returns-in-Share-clause-stands
returns-in-Share-clause-stands c session s preamble text budget serves stands =
    let old = c.args.self.now in
    let run = c.no_memory.new.self in
    let same = c.no_memory.ensures.scene in
    let runs = runs-of session old s preamble text budget c.requires.phase stands in
    stands-of session (record old { run = run }) s preamble text budget c.requires.phase
    (runs-on session old s preamble text budget serves runs run
    (λ g is r means. (c.no_memory.ensures.answers g is.ground).0 (frozen_of session) r means)
    (λ frozen at. ap (λ (x : Scene). before frozen x.environment.table at) same)
    (ap (λ (x : Scene). x.input.names) same))

-- or the operation is asked for
pub returns-in_default-clause-ticks : goal.returns-in_default-clause-ticks
returns-in_default-clause-ticks c =
    let e = c.args.self.now in
    let o = c.args.operation in
    let room : IsForReference o → e.references < 2 ^ 28 - 1 =
    elim c.in_default.branch [
      | in_default-via-in-Share+else-self-ge-MOST_REFERENCES w ↦ λ reference. w.if-self-ge-MOST_REFERENCES.false
      | in_default-via-in_default w ↦ λ reference. absurd (elim reference [ inl share ↦ w.in_default.not-Share share | inr take ↦ w.in_default.not-Take take.0 take.1 ])
    ] in (
      c.requires.phase,
      c.requires.due,
      λ session serves.
          may-ask session e o serves
          (c.knows_asked.ensures (known_names session) o (subst (λ p. KnowsIn (known_names session) p e.run) c.requires.phase serves.knows) c.requires.due)
          room,
    )
