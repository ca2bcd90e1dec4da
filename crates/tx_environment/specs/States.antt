-- The environment of a session.
use Rattle.std.specs.Prelude.{◌≡◌, ◌+◌, List, length}
use Rattle.tx_scan.specs.declared.cats.Cats.{Cats}
use Rattle.tx_node.specs.declared.BoxNode.{BoxNode}
use Rattle.tx_eqtb.specs.Meanings.{Map}
use Rattle.tx_eqtb.specs.Tables.{Table}
use Rattle.tx_save.specs.Saves.{Saves, groups}
use Rattle.tx_private.specs.Environment.{Environment}
use Rattle.tx_views.specs.Views.{View}
use Rattle.tx_views.specs.Environments.{environment_in}

-- the table and its save stack, with the categories now, those around each open group, innermost first, and
-- those before the region
pub record State : Type 0 where
  pub table : Table BoxNode
  pub saves : Saves BoxNode
  pub cats : Cats
  pub outer : List Cats
  pub first : Cats

-- the environment of the definitions that it stands for, over the frozen map
abbrev pub environment : View → Map BoxNode → State → Environment
environment view frozen e = environment_in view frozen e.table e.saves

-- the level counts the open groups, and each has the categories around it
pub record IsCounted (e : State) : Type 0 where
  pub level : e.saves.level ≡ length (groups e.saves) + 1
  pub outer : length e.outer ≡ length (groups e.saves)
