-- What the calls do to the environment.
use Rattle.std.specs.Prelude.{◌≡◌, ℕ, ◌+◌, ◌<◌, List, [], ◌∷◌, ◌++◌, length, Option}
use Rattle.std.specs.Option.{option_map}
use Rattle.std.specs.List.{slice_get}
use Rattle.tx_model.specs.Tokens.{Token}
use Rattle.tx_tok.specs.declared.tok.Tok.{Tok}
use Rattle.tx_node.specs.declared.BoxNode.{BoxNode}
use Rattle.tx_eqtb.specs.declared.meaning.Meaning.{Meaning}
use Rattle.tx_eqtb.specs.Meanings.{Map}
use Rattle.tx_eqtb.specs.Tables.{now}
use Rattle.tx_save.specs.declared.group.Group.{Group}
use Rattle.tx_save.specs.declared.group.GroupKind.{GroupKind}
use Rattle.tx_save.specs.declared.group.Closed.{Closed}
use Rattle.tx_save.specs.declared.group.Closed.TheVariants as closed
use Rattle.tx_save.specs.Saves.{groups, all_held}
use Rattle.tx_private.specs.Meanings as private
use Rattle.tx_private.specs.Environment.{Level, Environment}
use Rattle.tx_private.specs.Controls.{keep_for_end}
use Rattle.tx_views.specs.Views.{View, all_viewed}
use Rattle.tx_views.specs.Meanings.{map_in}
use Rattle.tx_environment.specs.States.{State, environment}
use Rattle.tx_environment.specs.Soundness.{IsSound, IsClosing}

-- a group is open, or none is
abbrev pub IsOpen : State → Type 0
IsOpen e = 0 < length (groups e.saves)

abbrev pub IsOutermost : State → Type 0
IsOutermost e = groups e.saves ≡ []

-- the kind of the innermost open group, where one is open
abbrev pub innermost : Environment → Option GroupKind
innermost e = option_map (λ level. level.kind) (slice_get e.groups 0)

-- the innermost of the groups has the token more for its end
abbrev pub leaving : Tok → List Group → List Group
leaving t [] = []
leaving t (g ∷ groups) = record g { after = g.after ++ t ∷ [] } ∷ groups

-- the groups after a step of a group's end: as they were, or without the innermost one, which had this kind and these tokens
abbrev pub Ends : List Group → Closed BoxNode → List Group → Type 0
Ends old (closed.Dropped m) new = new ≡ old
Ends old (closed.End kind after) new = old ≡ record { kind = kind; after = after } ∷ new

-- the environment outside of all groups, with this map
abbrev pub alone : private.Map → Environment
alone m = record { groups = []; outside = m }

-- the environment whose innermost group has the token more for its end
abbrev pub keeping_for_end : Token → Environment → Environment
keeping_for_end t e = record e { groups = keep_for_end t e.groups }

-- the environment with this innermost map, in which all around it stays
abbrev pub around : private.Map → List Level → private.Map → Environment
around m [] outside = alone m
around m (level ∷ levels) outside = record { groups = record level { map = m } ∷ levels; outside = outside }

abbrev pub with_present : private.Map → Environment → Environment
with_present m e = around m e.groups e.outside

-- the environment with one more open group
abbrev pub within : Level → Environment → Environment
within level e = record e { groups = level ∷ e.groups }

-- the map now, as the definitions have it
abbrev pub present_map : View → Map BoxNode → State → private.Map
present_map view frozen e = map_in view (now frozen e.table)

-- What a step of a group's end does: all around the innermost map stays; or the innermost group leaves, which
-- had this kind and these tokens.
abbrev pub Closes : View → Map BoxNode → State → Closed BoxNode → State → Type 0
Closes view frozen old (closed.Dropped m) new = environment view frozen new ≡ with_present (present_map view frozen new) (environment view frozen old)
Closes view frozen old (closed.End kind after) new =
    environment view frozen old ≡ within (record { map = present_map view frozen old; kind = kind; after = all_viewed view after }) (environment view frozen new)

-- what it leaves: the group goes on ending, or it has ended
abbrev pub Leaves : Map BoxNode → Closed BoxNode → State → Type 0
Leaves frozen (closed.Dropped m) e = IsClosing frozen e
Leaves frozen (closed.End kind after) e = IsSound frozen e

-- how many saved entries are left
abbrev pub entries_saved : State → ℕ
entries_saved e = length e.saves.stack

-- a step takes one saved entry away, or one group
abbrev pub IsFewer : State → Closed BoxNode → State → Type 0
IsFewer old (closed.Dropped m) new = (entries_saved old ≡ entries_saved new + 1) × (groups new.saves ≡ groups old.saves)
IsFewer old (closed.End kind after) new = length (groups old.saves) ≡ length (groups new.saves) + 1

-- all the meanings that are held
abbrev pub held : State → List (Meaning BoxNode)
held e = all_held e.table e.saves
