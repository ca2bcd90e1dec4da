-- What is known of the names that a scene has, and by how many references it holds a list.
use Rattle.std.specs.Prelude.{◌≡◌, ℕ, Bool, true, List, [], ◌∷◌, Option, Some, None}
use Rattle.std.specs.List.{AllByRecursion}
use Rattle.std.specs.Option.{option_to_list}
use Rattle.tx_tok.specs.declared.tok.Tok.{Tok}
use Rattle.tx_node.specs.declared.BoxNode.{BoxNode}
use Rattle.tx_eqtb.specs.declared.meaning.Meaning.{Meaning}
use Rattle.tx_save.specs.declared.group.Group.{Group}
use Rattle.tx_save.specs.declared.group.Closed.{Closed}
use Rattle.tx_save.specs.declared.group.Closed.TheVariants as closed
use Rattle.tx_save.specs.Saves.{groups, dropped}
use Rattle.tx_environment.specs.Holding.{counted}
use Rattle.tx_environment.specs.Steps.{held}
use Rattle.tx_input.specs.Worlds.{IsKnown, AllKnown, KnowsInput}
use Rattle.tx_scene.specs.declared.scene.Scene.{Scene}

-- what open groups leave for their ends, and what is kept for the end of an assignment
abbrev pub KnowsGroups : (ℕ → Bool) → List Group → Type 0
KnowsGroups known groups = AllByRecursion (λ g. AllKnown known g.after) groups

abbrev pub KnowsKept : (ℕ → Bool) → Option Tok → Type 0
KnowsKept known None = Unit {0}
KnowsKept known (Some t) = IsKnown known t

-- each number of a name that a scene has is known
pub record KnowsScene (known : ℕ → Bool) (s : Scene) : Type 0 where
  pub input : KnowsInput known s.input
  pub kept : KnowsKept known s.kept
  pub groups : KnowsGroups known (groups s.environment.saves)

-- so is each that a group leaves
abbrev pub KnowsClosed : (ℕ → Bool) → Closed BoxNode → Type 0
KnowsClosed known (closed.Dropped m) = Unit {0}
KnowsClosed known (closed.End kind after) = AllKnown known after

-- by how many references a scene holds the pooled list with this number, and by how many a meaning that falls away
abbrev pub references : ℕ → Scene → ℕ
references id s = counted id (held s.environment)

abbrev pub count_of : ℕ → Meaning BoxNode → ℕ
count_of id m = counted id (m ∷ [])

abbrev pub falling : ℕ → Option (Meaning BoxNode) → ℕ
falling id out = counted id (option_to_list out)

abbrev pub ending : ℕ → Closed BoxNode → ℕ
ending id step = counted id (dropped step)
