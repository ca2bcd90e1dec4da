use Rattle.std.proofs.Common.{refl, sym, subst, ◌∙◌}
use Rattle.tx_input.specs.Worlds.{IsOfFormat}
use Rattle.tx_scene.specs.Knowledge.{KnowsScene}
use Rattle.tx_scene.specs.Scenes.{IsGround}
use Rattle.tx_engine.specs.Agreement.{known_names}
use Rattle.tx_engine.proofs.TickLemmas.{serves-new}
use Rattle.tx_engine.proofs.engine.Engine.made.Goals as goal

pub returns-clause-serves : goal.returns-clause-serves
returns-clause-serves c session new knows =
    serves-new session c.args.format.now _ new knows
    (λ id. c.new.ensures.holds id ∙ c.new-scene.ensures.references id)
    refl
    (subst (KnowsScene (known_names session)) (sym c.new.ensures.scene) (c.new-scene.ensures.knows (known_names session)))
    (λ g view named.
    subst (IsGround g) (sym c.new.ensures.scene)
    (c.new-scene.ensures.state g view (subst (λ n. IsOfFormat g.formats g.view n) (sym c.names_len.ensures) named)).0)
