-- The environment that maps and open groups stand for.
use Rattle.std.specs.Prelude.{List, [], ◌∷◌}
use Rattle.tx_eqtb.specs.Meanings.{Map}
use Rattle.tx_eqtb.specs.Tables.{Table, now}
use Rattle.tx_save.specs.declared.group.Group.{Group}
use Rattle.tx_save.specs.Saves.{Saves, outside, groups}
use Rattle.tx_private.specs.Environment.{Level, Environment}
use Rattle.tx_private.specs.Meanings as private
use Rattle.tx_views.specs.Views.{View, all_viewed}
use Rattle.tx_views.specs.Meanings.{map_in}

module _ {B : Type 0} where
  -- an open group with its map
  abbrev pub level_in : View → Map B → Group → Level
  level_in view m g = record { map = map_in view m; kind = g.kind; after = all_viewed view g.after }

  -- the innermost map, those outside of it, and the open groups, the innermost first
  abbrev pub environment_of : View → Map B → List (Map B) → List Group → Environment
  environment_of view m [] groups = record { groups = []; outside = map_in view m }
  environment_of view m (outer ∷ maps) [] = record { groups = []; outside = map_in view m }
  environment_of view m (outer ∷ maps) (g ∷ groups) =
      let around = environment_of view outer maps groups in
      record { groups = level_in view m g ∷ around.groups; outside = around.outside }

  -- the environment that a table with its save stack stands for, over the frozen map
  abbrev pub environment_in : View → Map B → Table B → Saves B → Environment
  environment_in view frozen table saves = environment_of view (now frozen table) (outside frozen table saves) (groups saves)
