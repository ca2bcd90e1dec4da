-- Assignments, as the definitions have them.
use Rattle.std.specs.Prelude.{Bool, true, false, ◌||◌, List, Option, Some, None}
use Rattle.tx_tok.specs.declared.tok.Tok.{Tok}
use Rattle.tx_tok.specs.declared.tok.Tok.TheVariants as tok
use Rattle.tx_eqtb.specs.declared.meaning.RegKind.{RegKind}
use Rattle.tx_private.specs.Errors.{plain}
use Rattle.tx_private.specs.Meanings.{Register, CodeTable, Code, Register'}
use Rattle.tx_private.specs.World.{World}
use Rattle.tx_private.specs.Readings.{Item, Move, Bad}
use Rattle.tx_private.specs.Assignments as private
use Rattle.tx_private.specs.Assignments.{named, defined, let_to, future_let, stands_for, byte_or, math_character}
use Rattle.tx_private.specs.Arithmetic.{arithmetic}
use Rattle.tx_views.specs.declared.place.CodeTable as tables
use Rattle.tx_views.specs.declared.place.Place.{Place}
use Rattle.tx_views.specs.declared.place.Place.TheVariants as place
use Rattle.tx_views.specs.Places.{register_in, table_in}
use Rattle.tx_assign.specs.Operations.{operation_in}
use Rattle.tx_assign.specs.declared.prefixes.Prefixes.{Prefixes}
use Rattle.tx_assign.specs.declared.names.Defined.{Defined}
use Rattle.tx_assign.specs.declared.names.Defined.TheVariants as does

-- the prefixes as the definitions have them
abbrev pub prefixes_in : Prefixes → private.Prefixes
prefixes_in p = record { global = p.global; long = p.long; protected = p.protected }

-- the prefixes of a definition, which may be global by itself
abbrev pub made_global : Bool → private.Prefixes → private.Prefixes
made_global global p = record p { global = global || p.global }

-- the place of a name or of an active character
abbrev pub place_of : Tok → Option Place
place_of (tok.Name number) = Some (place.Name number)
place_of (tok.Active byte) = Some (place.Active byte)
place_of _ = None

-- a name that stands for a character's code, or for a math code
abbrev pub stands_for_code : private.Prefixes → Bool → List Item → World → Move
stands_for_code p true items w = named (stands_for p 32768 math_character (Code true)) items w
stands_for_code p false items w = named (stands_for p 256 (byte_or 16) (Code false)) items w

-- what a command on names, or for arithmetic, does
abbrev pub names_by : private.Prefixes → Option Defined → List Item → World → Move
names_by p None items w = Bad (plain 63) w
names_by p (Some (does.Def expands global)) items w = named (defined (made_global global p) expands) items w
names_by p (Some does.Let) items w = named (let_to p) items w
names_by p (Some does.FutureLet) items w = named (future_let p) items w
names_by p (Some (does.Code math)) items w = stands_for_code p math items w
names_by p (Some (does.Register kind)) items w = named (stands_for p 256 (byte_or 15) (Register' (register_in kind))) items w
names_by p (Some (does.Arithmetic o)) items w = arithmetic p (operation_in o) items w

-- a kind of register leads on, where there is one
abbrev pub if_register : Option RegKind → (Register → Move) → Move → Move
if_register None at other = other
if_register (Some kind) at other = at (register_in kind)

-- and so does a table of codes
abbrev pub if_codes : Option tables.CodeTable → (CodeTable → Move) → Move → Move
if_codes None at other = other
if_codes (Some table) at other = at (table_in table)
