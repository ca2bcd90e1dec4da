-- What commands stand for.
use Rattle.std.specs.Prelude.{ℕ, ℤ, Bool, true, false, List, ◌∷◌}
use Rattle.tx_model.specs.Tokens.{Token}
use Rattle.tx_private.specs.World.{World, logged}
use Rattle.tx_private.specs.Meanings as meaning
use Rattle.tx_private.specs.Readings as private
use Rattle.tx_private.specs.Quantities.{byte_first}
use Rattle.tx_private.specs.Assignments as definitions
use Rattle.tx_private.specs.Assignments.{assign_at, defined, let_to, let_behind_equals, let_last, future_let, stands_for, byte_or, math_character}
use Rattle.tx_private.specs.Arithmetic.{Operation, arithmetic, register_numbered, computes}
use Rattle.tx_private.specs.Errors.{showing}
use Rattle.tx_private.specs.Controls.{control, behind_prefix, after_group, after_assignment, message, text_of_list, change_case, ignore_spaces}
use Rattle.tx_opens.specs.Opens.{Open}
use Rattle.tx_views.specs.Views.{View}
use Rattle.tx_views.specs.Places.{register_in, table_in, address_in}
use Rattle.tx_assign.specs.Assigned.{prefixes_in}
use Rattle.tx_assign.specs.Operations.{operation_in}
use Rattle.tx_frames.specs.Values.{command_in}
use Rattle.tx_commands.specs.declared.command.Assign.{Assign}
use Rattle.tx_commands.specs.declared.command.Assign.TheVariants as assign
use Rattle.tx_commands.specs.declared.command.Standing.{Standing}
use Rattle.tx_commands.specs.declared.command.Standing.TheVariants as standing
use Rattle.tx_commands.specs.declared.command.Naming.{Naming}
use Rattle.tx_commands.specs.declared.command.Naming.TheVariants as naming
use Rattle.tx_commands.specs.declared.command.DefineStage.{DefineStage}
use Rattle.tx_commands.specs.declared.command.DefineStage.TheVariants as define
use Rattle.tx_commands.specs.declared.command.LetStage.{LetStage}
use Rattle.tx_commands.specs.declared.command.LetStage.TheVariants as lets
use Rattle.tx_commands.specs.declared.command.FutureLetStage.{FutureLetStage}
use Rattle.tx_commands.specs.declared.command.FutureLetStage.TheVariants as future
use Rattle.tx_commands.specs.declared.command.Stage.{Stage}
use Rattle.tx_commands.specs.declared.command.Stage.TheVariants as stage
use Rattle.tx_commands.specs.declared.command.Named.{Named}
use Rattle.tx_commands.specs.declared.command.Named.TheVariants as named
use Rattle.tx_commands.specs.declared.command.Arithmetic.{Arithmetic}
use Rattle.tx_commands.specs.declared.command.Arithmetic.TheVariants as computing
use Rattle.tx_commands.specs.declared.command.After.{After}
use Rattle.tx_commands.specs.declared.command.After.TheVariants as after
use Rattle.tx_commands.specs.declared.command.Message.{Message}
use Rattle.tx_commands.specs.declared.command.Message.TheVariants as messages
use Rattle.tx_commands.specs.declared.command.Letters.{Letters}
use Rattle.tx_commands.specs.declared.command.Letters.TheVariants as letters
use Rattle.tx_commands.specs.declared.command.Command.{Command}
use Rattle.tx_commands.specs.declared.command.Command.TheVariants as command

-- what is said of an assignment to a place
abbrev pub assign_says : View → definitions.Prefixes → Assign → List private.Item → World → private.Move
assign_says view p (assign.Register kind) items w = byte_first 15 (λ n rest v. assign_at p (meaning.OfRegister (register_in kind) n) rest v) items w
assign_says view p (assign.Code table) items w = byte_first 16 (λ b rest v. assign_at p (meaning.OfCode (table_in table) b) rest v) items w
assign_says view p (assign.Equals at) items w = assign_at p (address_in view at) items w
assign_says view p (assign.Value at r) items w = assign_at p (address_in view at) (private.Given private.Nothing ∷ items) w

-- a name that stands for a number: the limit of the number, how it is checked, and what the name means
abbrev pub limit_of : Standing → ℕ
limit_of standing.MathCharacter = 32768
limit_of _ = 256

abbrev pub checks : Standing → ℤ → World → (ℕ → private.Move) → private.Move
checks standing.Character = byte_or 16
checks standing.MathCharacter = math_character
checks (standing.Register kind) = byte_or 15

abbrev pub means : Standing → ℕ → meaning.Meaning
means standing.Character = meaning.Code false
means standing.MathCharacter = meaning.Code true
means (standing.Register kind) = meaning.Register' (register_in kind)

abbrev pub stands : definitions.Prefixes → Standing → meaning.Address → List private.Item → World → private.Move
stands p what = stands_for p (limit_of what) (checks what) (means what)

-- what is said of a command behind its name, of which nothing more was taken
abbrev pub behind_name : definitions.Prefixes → Naming → meaning.Address → List private.Item → World → private.Move
behind_name p (naming.Define expands) = defined p expands
behind_name p naming.Let = let_to p
behind_name p naming.FutureLet = future_let p
behind_name p (naming.Stand what) = stands p what

-- what is said of each command behind its name
abbrev pub define_says : View → definitions.Prefixes → Bool → meaning.Address → DefineStage → List private.Item → World → private.Move
define_says view p expands at define.Brace items w = defined p expands at items w
define_says view p expands at (define.Body t s) items w = defined p expands at (private.Tok (command_in view t s) ∷ items) w

abbrev pub let_says : definitions.Prefixes → meaning.Address → LetStage → List private.Item → World → private.Move
let_says p at lets.Start items w = let_to p at items w
let_says p at lets.Equals items w = let_behind_equals p at items w
let_says p at lets.Last items w = let_last p at items w

abbrev pub future_let_says : View → definitions.Prefixes → meaning.Address → FutureLetStage → List private.Item → World → private.Move
future_let_says view p at future.First items w = future_let p at items w
future_let_says view p at (future.Second t s) items w = future_let p at (private.Tok (command_in view t s) ∷ items) w

abbrev pub stand_says : definitions.Prefixes → Standing → meaning.Address → Stage → List private.Item → World → private.Move
stand_says p what at stage.Equals items w = stands p what at items w
stand_says p what at stage.Number items w = stands p what at (private.Given private.Nothing ∷ items) w

abbrev pub named_says : View → definitions.Prefixes → meaning.Address → Named → List private.Item → World → private.Move
named_says view p at (named.Define expands s) items w = define_says view p expands at s items w
named_says view p at (named.Let s) items w = let_says p at s items w
named_says view p at (named.FutureLet s) items w = future_let_says view p at s items w
named_says view p at (named.Stand what s) items w = stand_says p what at s items w

-- what is said of arithmetic
abbrev pub arithmetic_says : View → definitions.Prefixes → Operation → Arithmetic → List private.Item → World → private.Move
arithmetic_says view p o computing.Target items w = arithmetic p o items w
arithmetic_says view p o (computing.Register kind) items w = register_numbered p o (register_in kind) items w
arithmetic_says view p o (computing.By at) items w = computes p o (address_in view at) items w
arithmetic_says view p o (computing.Operand at k r) items w = computes p o (address_in view at) (private.Given (private.Word k) ∷ items) w

-- what is said of a token that is kept for later
abbrev pub after_says : After → List private.Item → World → private.Move
after_says after.Group items w = after_group items w
after_says after.Assignment items w = after_assignment items w

-- a text is told in the log, or as an error
abbrev pub told : Message → List Token → World → private.Move
told messages.Log tokens w = private.Again (logged (text_of_list tokens w) w)
told messages.Error tokens w = private.Bad (showing 62 0 (text_of_list tokens w)) w

-- the table of the letters that a text is changed to
abbrev pub letters_table : Letters → meaning.CodeTable
letters_table letters.Lower = meaning.LowerCases
letters_table letters.Upper = meaning.UpperCases

-- what is said of a command with a text, behind its left brace or not
abbrev pub message_says : Message → Bool → List private.Item → World → private.Move
message_says m false items w = message (λ tokens. told m tokens w) items w
message_says m true items w = message (λ tokens. told m tokens w) (private.Given private.Nothing ∷ items) w

abbrev pub letters_say : Letters → Bool → List private.Item → World → private.Move
letters_say l false items w = change_case (letters_table l) items w
letters_say l true items w = change_case (letters_table l) (private.Given private.Nothing ∷ items) w

-- what a command says of the items to come, of which there is at least one
abbrev pub says : View → Command → List private.Item → World → private.Move
says view command.Start items w = control items w
says view (command.Prefixed p) items w = behind_prefix (prefixes_in p) items w
says view (command.Assign p s) items w = assign_says view (prefixes_in p) s items w
says view (command.Name p n) items w = definitions.named (behind_name (prefixes_in p) n) items w
says view (command.Named p at n) items w = named_says view (prefixes_in p) (address_in view at) n items w
says view (command.Arithmetic p o s) items w = arithmetic_says view (prefixes_in p) (operation_in o) s items w
says view (command.After a) items w = after_says a items w
says view (command.Message m braced) items w = message_says m braced items w
says view (command.ChangeCase l braced) items w = letters_say l braced items w
says view command.IgnoreSpaces items w = ignore_spaces items w

-- main control in the middle of a command of which this is said
abbrev pub control_open : (List private.Item → World → private.Move) → Open
control_open f = record { kind = private.Control; says = λ item later w. f (item ∷ later) w }

abbrev pub open_of : View → Command → Open
open_of view c = record { kind = private.Control; says = λ item later w. says view c (item ∷ later) w }
