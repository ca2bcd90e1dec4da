-- The world that a scene stands for.
use Rattle.std.specs.Prelude.{ℕ, List, [], false}
use Rattle.std.specs.List.{list_any}
use Rattle.std.specs.Str.{bytes_eq}
use Rattle.std.specs.Option.{option_map}
use Rattle.tx_node.specs.declared.BoxNode.{BoxNode}
use Rattle.tx_eqtb.specs.Meanings.{Map}
use Rattle.tx_eqtb.specs.Tables.{now}
use Rattle.tx_private.specs.World.{World}
use Rattle.tx_private.specs.Region.{State}
use Rattle.tx_views.specs.Views.{View, IsView, viewed}
use Rattle.tx_environment.specs.States.{environment}
use Rattle.tx_views.specs.Meanings.{map_in}
use Rattle.tx_input.specs.Worlds.{input_in, IsOf}
use Rattle.tx_input.specs.Owned.{texts_of}
use Rattle.tx_scene.specs.declared.scene.Scene.{Scene}

-- how numbers are read, and the texts of the format's names
pub record Ground : Type 0 where
  pub view : View
  pub formats : List (List ℕ)

-- it is one for this scene
pub record IsGround (g : Ground) (s : Scene) : Type 0 where
  pub view : IsView g.view
  pub formats : IsOf g.formats g.view s.input

-- what of the world is not in the input, where so many readings that count are open
abbrev pub base : Ground → Map BoxNode → ℕ → Scene → World
base g frozen depth s = record {
  pending = [];
  environment = environment g.view frozen s.environment;
  budget = 0;
  kept = option_map (viewed g.view) s.kept;
  preamble = s.preamble;
  depth = depth;
  stored = s.stored;
  frozen = λ text. false;
  names = [];
  output = record { steps = 0; pages = 0; dvi = []; log = s.log };
}

-- the world, over the frozen map
abbrev pub world : Ground → Map BoxNode → ℕ → Scene → World
world g frozen depth s = input_in g.view g.formats (base g frozen depth s) s.input

-- the state of the session that a scene stands for outside of all groups, over the frozen map
abbrev pub state_in : Ground → Map BoxNode → Scene → State
state_in g frozen s = record {
  map = map_in g.view (now frozen s.environment.table);
  frozen = λ text. list_any (bytes_eq text) g.formats;
  names = texts_of g.view.naming s.input.names;
}
