-- How commands take their next items.
use Rattle.std.specs.Prelude.{Bool, true, false}
use Rattle.tx_quant.specs.declared.keyword.KeySet.TheVariants as keywords
use Rattle.tx_frames.specs.declared.reading.TextKind.{TextKind}
use Rattle.tx_frames.specs.declared.reading.TextKind.TheVariants as text
use Rattle.tx_frames.specs.declared.reading.Reading.TheVariants as reading
use Rattle.tx_frames.specs.declared.frame.Wish.{Wish}
use Rattle.tx_frames.specs.declared.frame.Wish.TheVariants as wish
use Rattle.tx_commands.specs.declared.command.Assign.{Assign}
use Rattle.tx_commands.specs.declared.command.Assign.TheVariants as assign
use Rattle.tx_commands.specs.declared.command.DefineStage.{DefineStage}
use Rattle.tx_commands.specs.declared.command.DefineStage.TheVariants as define
use Rattle.tx_commands.specs.declared.command.Stage.{Stage}
use Rattle.tx_commands.specs.declared.command.Stage.TheVariants as stage
use Rattle.tx_commands.specs.declared.command.Named.{Named}
use Rattle.tx_commands.specs.declared.command.Named.TheVariants as named
use Rattle.tx_commands.specs.declared.command.Arithmetic.{Arithmetic}
use Rattle.tx_commands.specs.declared.command.Arithmetic.TheVariants as arithmetic
use Rattle.tx_commands.specs.declared.command.Command.{Command}
use Rattle.tx_commands.specs.declared.command.Command.TheVariants as command

-- how the body of a definition is read
abbrev pub body_text : Bool → TextKind
body_text true = text.ExpandedBody
body_text false = text.Body

-- the wish of each command
abbrev pub assign_wish : Assign → Wish
assign_wish (assign.Register kind) = wish.Within reading.Number
assign_wish (assign.Code table) = wish.Within reading.Number
assign_wish (assign.Equals p) = wish.Within reading.Equals
assign_wish (assign.Value p r) = wish.Within r

abbrev pub define_wish : Bool → DefineStage → Wish
define_wish expands define.Brace = wish.Plain
define_wish expands (define.Body t s) = wish.Within (reading.Text (body_text expands))

abbrev pub stage_wish : Stage → Wish
stage_wish stage.Equals = wish.Within reading.Equals
stage_wish stage.Number = wish.Within reading.Number

abbrev pub named_wish : Named → Wish
named_wish (named.Define expands s) = define_wish expands s
named_wish (named.Let s) = wish.Plain
named_wish (named.FutureLet s) = wish.Plain
named_wish (named.Stand what s) = stage_wish s

abbrev pub arithmetic_wish : Arithmetic → Wish
arithmetic_wish arithmetic.Target = wish.Expanded false
arithmetic_wish (arithmetic.Register kind) = wish.Within reading.Number
arithmetic_wish (arithmetic.By p) = wish.Within (reading.Keyword keywords.By)
arithmetic_wish (arithmetic.Operand p k r) = wish.Within r

-- a text, behind its left brace or not
abbrev pub text_wish : TextKind → Bool → Wish
text_wish k false = wish.Within reading.LeftBrace
text_wish k true = wish.Within (reading.Text k)

abbrev pub wish_of : Command → Wish
wish_of command.Start = wish.Expanded false
wish_of (command.Prefixed p) = wish.Expanded false
wish_of (command.Assign p s) = assign_wish s
wish_of (command.Name p n) = wish.Plain
wish_of (command.Named p at n) = named_wish n
wish_of (command.Arithmetic p o s) = arithmetic_wish s
wish_of (command.After a) = wish.Plain
wish_of (command.Message m braced) = text_wish text.Expanded braced
wish_of (command.ChangeCase l braced) = text_wish text.Plain braced
wish_of command.IgnoreSpaces = wish.Expanded false
