-- What is known of the numbers in commands, and in what comes of them.
use Rattle.std.specs.Prelude.{false}
use Rattle.tx_eqtb.specs.declared.meaning.Meaning.{Meaning}
use Rattle.tx_eqtb.specs.declared.meaning.Meaning.TheVariants as meaning
use Rattle.tx_assign.specs.declared.targets.Target.{Target}
use Rattle.tx_assign.specs.declared.targets.Target.TheVariants as target
use Rattle.tx_frames.specs.Knowledge.{Known, KnowsToken, KnowsTokens, KnowsList, KnowsSense, KnowsCommand, KnowsPlace, KnowsReading}
use Rattle.tx_commands.specs.declared.item.Item.{Item}
use Rattle.tx_commands.specs.declared.item.Item.TheVariants as item
use Rattle.tx_commands.specs.declared.command.Assign.{Assign}
use Rattle.tx_commands.specs.declared.command.Assign.TheVariants as assign
use Rattle.tx_commands.specs.declared.command.DefineStage.{DefineStage}
use Rattle.tx_commands.specs.declared.command.DefineStage.TheVariants as define
use Rattle.tx_commands.specs.declared.command.FutureLetStage.{FutureLetStage}
use Rattle.tx_commands.specs.declared.command.FutureLetStage.TheVariants as future
use Rattle.tx_commands.specs.declared.command.Named.{Named}
use Rattle.tx_commands.specs.declared.command.Named.TheVariants as named
use Rattle.tx_commands.specs.declared.command.Arithmetic.{Arithmetic}
use Rattle.tx_commands.specs.declared.command.Arithmetic.TheVariants as computing
use Rattle.tx_commands.specs.declared.command.Command.{Command}
use Rattle.tx_commands.specs.declared.command.Command.TheVariants as command
use Rattle.tx_commands.specs.declared.effect.Effect.{Effect}
use Rattle.tx_commands.specs.declared.effect.Effect.TheVariants as effect
use Rattle.tx_commands.specs.declared.outcome.Outcome.{Outcome}
use Rattle.tx_commands.specs.declared.outcome.Outcome.TheVariants as outcome

-- what commands are given
abbrev pub KnowsItem : Known → Item → Type 0
KnowsItem known (item.Token t s) = KnowsCommand known t s
KnowsItem known (item.Expanded t s) = KnowsCommand known t s
KnowsItem known (item.Tokens tokens) = KnowsTokens known tokens
KnowsItem known (item.List list) = KnowsList known list
KnowsItem known _ = Unit {0}

-- the places, tokens, meanings and readings that a command has
abbrev pub KnowsAssign : Known → Assign → Type 0
KnowsAssign known (assign.Equals at) = KnowsPlace known at
KnowsAssign known (assign.Value at r) = KnowsPlace known at × KnowsReading known r
KnowsAssign known _ = Unit {0}

abbrev pub KnowsDefine : Known → DefineStage → Type 0
KnowsDefine known define.Brace = Unit {0}
KnowsDefine known (define.Body t s) = KnowsCommand known t s

abbrev pub KnowsFutureLet : Known → FutureLetStage → Type 0
KnowsFutureLet known future.First = Unit {0}
KnowsFutureLet known (future.Second t s) = KnowsCommand known t s

abbrev pub KnowsNamed : Known → Named → Type 0
KnowsNamed known (named.Define expands s) = KnowsDefine known s
KnowsNamed known (named.FutureLet s) = KnowsFutureLet known s
KnowsNamed known _ = Unit {0}

abbrev pub KnowsArithmetic : Known → Arithmetic → Type 0
KnowsArithmetic known (computing.By at) = KnowsPlace known at
KnowsArithmetic known (computing.Operand at k r) = KnowsPlace known at × KnowsReading known r
KnowsArithmetic known _ = Unit {0}

abbrev pub KnowsControl : Known → Command → Type 0
KnowsControl known (command.Assign p s) = KnowsAssign known s
KnowsControl known (command.Named p at n) = KnowsPlace known at × KnowsNamed known n
KnowsControl known (command.Arithmetic p o s) = KnowsArithmetic known s
KnowsControl known _ = Unit {0}

-- the list that a meaning of the table has is held
abbrev pub KnowsMeaning : {B : Type 0} → Known → Meaning B → Type 0
KnowsMeaning known (meaning.Macro long outer list) = KnowsList known list
KnowsMeaning known (meaning.List list) = KnowsList known list
KnowsMeaning known _ = Unit {0}

-- what arithmetic works on
abbrev pub KnowsTarget : Known → Target → Type 0
KnowsTarget known (target.Place at) = KnowsPlace known at
KnowsTarget known _ = Unit {0}

-- what commands do at last
abbrev pub KnowsEffect : Known → Effect → Type 0
KnowsEffect known (effect.Assign p at m) = KnowsPlace known at × KnowsMeaning known m
KnowsEffect known (effect.AssignTokens p at tokens) = KnowsPlace known at × KnowsTokens known tokens
KnowsEffect known (effect.Let p at s) = KnowsPlace known at × KnowsSense known s
KnowsEffect known (effect.FutureLet p at s t u) = KnowsPlace known at × KnowsSense known s × KnowsToken known t × KnowsToken known u
KnowsEffect known (effect.Define p at body) = KnowsPlace known at × KnowsTokens known body
KnowsEffect known (effect.Compute p o at q) = KnowsPlace known at
KnowsEffect known (effect.AfterGroup t) = KnowsToken known t
KnowsEffect known (effect.AfterAssignment t) = KnowsToken known t
KnowsEffect known (effect.Message m tokens) = KnowsTokens known tokens
KnowsEffect known (effect.ChangeCase l tokens) = KnowsTokens known tokens
KnowsEffect known (effect.BadPrefix s) = KnowsSense known s
KnowsEffect known (effect.NoTarget s) = KnowsSense known s
KnowsEffect known _ = Unit {0}

-- the same, where no list is held
abbrev pub no_lists : Known → Known
no_lists known = record known { list = λ reference. false }

-- And what comes of an item for a command. A command that goes on behind an assignment has no list.
abbrev pub KnowsOutcome : Known → Outcome → Type 0
KnowsOutcome known (outcome.Goes c) = KnowsControl known c
KnowsOutcome known (outcome.Relaxes c p at) = KnowsControl (no_lists known) c × KnowsPlace known at
KnowsOutcome known (outcome.Again back) = KnowsTokens known back
KnowsOutcome known (outcome.Does e) = KnowsEffect known e
KnowsOutcome known (outcome.Wrong e) = Unit {0}
KnowsOutcome known outcome.Memory = Unit {0}

-- What is known of a command and of its item is known of what comes of them.
abbrev pub KnowsGiven : Command → Item → Outcome → Type 0
KnowsGiven c i a = (known : Known) → KnowsControl known c → KnowsItem known i → KnowsOutcome known a
