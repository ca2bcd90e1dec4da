-- What a step of the end of the innermost group makes of what is left to do.
use Rattle.std.proofs.Common.{◌≡◌, ◌<◌, List, [], ◌∷◌, length, arith, refl, sym, ap, ◌∙◌}
use Rattle.tx_node.specs.declared.BoxNode.{BoxNode}
use Rattle.tx_eqtb.specs.Meanings.{Map}
use Rattle.tx_eqtb.specs.Tables.{now}
use Rattle.tx_save.specs.declared.group.Closed.{Closed}
use Rattle.tx_save.specs.declared.group.Closed.TheVariants as closed
use Rattle.tx_save.specs.Saves.{groups, outside}
use Rattle.tx_private.specs.Meanings as private
use Rattle.tx_private.specs.Environment.{Level, Environment}
use Rattle.tx_private.specs.World.{World, with_environment}
use Rattle.tx_views.specs.Views.{View}
use Rattle.tx_environment.specs.States.{State, environment}
use Rattle.tx_environment.specs.Steps as step
use Rattle.tx_environment.specs.Steps.{IsOpen, around, present_map, with_present}
use Rattle.tx_environment.proofs.LevelLemmas.{length-groups}
use Rattle.tx_environment.proofs.StepLemmas.{length-outside}
use Rattle.tx_scene.specs.declared.scene.Scene.{Scene}
use Rattle.tx_scene.specs.Scenes.{world}
use Rattle.tx_scene.specs.Changes.{closing, Closes}

-- the definitions have as many open groups
groups-open : (view : View) (frozen : Map BoxNode) (e : State) → IsOpen e → 0 < length (environment view frozen e).groups
groups-open view frozen e is =
    omega (arith, is, length-groups view (now frozen e.table) (outside frozen e.table e.saves) (groups e.saves) (length-outside frozen e.table e.saves))

-- the innermost map falls away, so that it may be another one
around-closing : (m : private.Map) (levels : List Level) (outer : private.Map) (w : World) → 0 < length levels → closing (with_environment (record { groups = levels; outside = outer }) w) ≡ closing (with_environment (around m levels outer) w)
around-closing m [] outer w open_is = absurd (omega (arith, open_is))
around-closing m (level ∷ levels) outer w open_is = refl

-- the environment becomes another one, and nothing else changes
abbrev with_state : State → Scene → Scene
with_state e s = record s { environment = e }

pub closes-is : (result : Closed BoxNode) (old : Scene) (e : State) → IsOpen old.environment → ((view : View) (frozen : Map BoxNode) → step.Closes view frozen old.environment result e) → Closes result old (with_state e old)
closes-is (closed.Dropped m) old e is h = λ g frozen depth.
    let w = world g frozen depth old in
    let was = environment g.view frozen old.environment in
    around-closing (present_map g.view frozen e) was.groups was.outside w (groups-open g.view frozen old.environment is)
    ∙ ap (λ (now_is : Environment). closing (with_environment now_is w)) (sym (h g.view frozen))
closes-is (closed.End kind after) old e is h = λ g frozen depth.
    ap (λ (now_is : Environment). closing (with_environment now_is (world g frozen depth old))) (h g.view frozen)
