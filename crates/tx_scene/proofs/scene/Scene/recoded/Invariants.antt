use Rattle.std.proofs.Common.{◌≡◌, ℕ, Bool, map, take}
use Rattle.tx_eqtb.specs.Meanings.{meanings}
use Rattle.tx_private.specs.Controls.{recoded}
use Rattle.tx_views.specs.Views.{all_viewed}
use Rattle.tx_views.specs.Places.{table_in}
use Rattle.tx_input.specs.Worlds.{AllKnown}
use Rattle.tx_scene.specs.Scenes.{Ground, IsGround, world}
use Rattle.tx_scene.proofs.scene.Scene.recoded.Given as goal

abbrev pub invariant-tokens : goal.invariant-tokens
invariant-tokens l =
    ((g : Ground) (depth : ℕ) → IsGround g l.self → all_viewed g.view l.out.items ≡ map (recoded (table_in l.table) (world g (meanings l.frozen) depth l.self)) (all_viewed g.view (take l.token-index l.token-items)))
    × ((known : ℕ → Bool) → AllKnown known (take l.token-index l.token-items) → AllKnown known l.out.items)
