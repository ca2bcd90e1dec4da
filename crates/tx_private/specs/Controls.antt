-- Main control. *TeX: The Program*, part 46 and 49.
use Rattle.std.specs.Prelude.{ℕ, zero, suc, ℤ, pos, nat_lt, ◌==◌, Bool, true, false, ◌||◌, List, [], ◌∷◌, ◌++◌, length, map, Option, Some, None, if◌then◌else◌}
use Rattle.tx_model.specs.declared.category.Cat.TheVariants as cat
use Rattle.tx_model.specs.Tokens.{Token, Char, Active}
use Rattle.tx_model.specs.Pending.{Member, Single, Text}
use Rattle.tx_model.specs.Shown.{shown_in_list}
use Rattle.std.specs.List.{flat_map}
use Rattle.tx_prims.specs.declared.primitives.Primitive.TheVariants as primitive
use Rattle.tx_prims.specs.declared.primitives.Assignment.{Assignment}
use Rattle.tx_prims.specs.declared.primitives.Assignment.TheVariants as assignment
use Rattle.tx_prims.specs.declared.primitives.Command.{Command as Primitive}
use Rattle.tx_prims.specs.declared.primitives.Command.TheVariants as command
use Rattle.tx_prims.specs.declared.primitives.IntegerParameter.TheVariants.{EscapeChar, HangAfter}
use Rattle.tx_prims.specs.declared.primitives.DimensionParameter.TheVariants.{HangIndent}
use Rattle.tx_save.specs.declared.group.GroupKind.{GroupKind}
use Rattle.tx_save.specs.declared.group.GroupKind.TheVariants as group
use Rattle.tx_private.specs.Errors.{plain, numbered, showing}
use Rattle.tx_private.specs.Meanings.{Register, Count, Dimen, Skip, MuSkip, Toks, CodeTable, LowerCases, UpperCases, OfRegister, OfCode, OfInteger, OfDimension, OfGlue, OfList, Meaning, Prim, Character, Code, Register', Integer, Dimension}
use Rattle.tx_private.specs.Environment.{assigning, Level, Environment, present, beginning, integer_in, category_of, parameter_of}
use Rattle.tx_private.specs.World.{World, Command, put_in_front, with_environment, logged}
use Rattle.tx_private.specs.Readings.{Expanded, Balanced, ExpandedBalanced, LeftBrace, Value, Unexpandable, TextEnd, Tokens, Nothing, Item, Tok, End, Given, Move, Take, Sub, Again, Done, Bad}
use Rattle.tx_private.specs.Described.{meaning_text}
use Rattle.tx_private.specs.Quantities.{byte_first, register_of, codes_of}
use Rattle.tx_private.specs.Lists.{is_skipped, is_space}
use Rattle.tx_private.specs.Assignments.{Prefixes, no_prefix, assign_at, named, defined, let_to, future_let, stands_for, byte_or, math_character}
use Rattle.tx_private.specs.Arithmetic.{Plus, Times, Over, arithmetic}

-- the text of a list, by the present categories and \escapechar
abbrev pub text_of_list : List Token → World → List ℕ
text_of_list tokens w = flat_map (shown_in_list (category_of w.environment) (parameter_of w.environment EscapeChar)) tokens

-- Groups. A group's end drops its map and puts its \aftergroup tokens in front.
abbrev pub close : Level → List Level → World → Move
close level levels w = Again (put_in_front level.after (with_environment (record w.environment { groups = levels }) w))

-- what a right brace closes
abbrev pub close_brace : List Level → World → Move
close_brace [] w = Bad (plain 3) w
close_brace (level ∷ levels) w = by_kind level.kind
  where
    by_kind : GroupKind → Move
    by_kind group.Simple = close level levels w
    by_kind group.Semi = Bad (plain 4) w
    by_kind _ = Bad (plain 63) w

-- what \endgroup closes
abbrev pub close_group : List Level → World → Move
close_group [] w = Bad (plain 5) w
close_group (level ∷ levels) w = by_kind level.kind
  where
    by_kind : GroupKind → Move
    by_kind group.Semi = close level levels w
    by_kind group.Simple = Bad (plain 6) w
    by_kind _ = Bad (plain 63) w

-- at most 255 levels, of which the outermost is 1
abbrev pub opens : GroupKind → World → Move
opens kind w =
    if nat_lt (length w.environment.groups) 254 then Again (with_environment (beginning kind w.environment) w)
    else Bad (showing 57 3 []) w

-- a token for the innermost group's end; outside of all groups it is dropped
abbrev pub keep_for_end : Token → List Level → List Level
keep_for_end t [] = []
keep_for_end t (level ∷ levels) = record level { after = level.after ++ t ∷ [] } ∷ levels

abbrev pub after_group : List Item → World → Move
after_group [] w = Take w
after_group (Tok c ∷ items) w = Again (with_environment (record w.environment { groups = keep_for_end c.token w.environment.groups }) w)
after_group _ w = Again w

abbrev pub after_assignment : List Item → World → Move
after_assignment [] w = Take w
after_assignment (Tok c ∷ items) w = Again (record w { kept = Some c.token })
after_assignment _ w = Again w

-- a left brace and an expanded text
abbrev pub message : (List Token → Move) → List Item → World → Move
message further [] w = Sub LeftBrace w
message further (Given Nothing ∷ []) w = Sub ExpandedBalanced w
message further (Given Nothing ∷ Given (Tokens tokens) ∷ items) w = further tokens
message further _ w = Bad (plain 63) w

-- the code of a byte in a table, where it is not 0, and else the byte
abbrev pub byte_for : CodeTable → World → ℕ → ℕ
byte_for table w b = by_code (integer_in (present w.environment (OfCode table b)))
  where
    by_code : ℤ → ℕ
    by_code (pos (suc n)) = suc n
    by_code _ = b

-- a character, active or not, has the code of its byte in its place, and keeps its category
abbrev pub recoded : CodeTable → World → Token → Token
recoded table w (Char c b) = Char c (byte_for table w b)
recoded table w (Active b) = Active (byte_for table w b)
recoded table w t = t

-- \lowercase and \uppercase
abbrev pub change_case : CodeTable → List Item → World → Move
change_case table [] w = Sub LeftBrace w
change_case table (Given Nothing ∷ []) w = Sub Balanced w
change_case table (Given Nothing ∷ Given (Tokens tokens) ∷ items) w = Again (put_in_front (map (recoded table w) tokens) w)
change_case table _ w = Bad (plain 63) w

-- \ignorespaces
abbrev pub ignore_spaces : List Item → World → Move
ignore_spaces [] w = Sub Expanded w
ignore_spaces (Given (Unexpandable c) ∷ items) w =
    if is_space c.meaning then ignore_spaces items w else Again (put_in_front (c.token ∷ []) w)
ignore_spaces _ w = Again w

-- the region's end, where so many groups are open
abbrev pub ended : List Level → World → Move
ended [] w = Done TextEnd w
ended (level ∷ levels) w = Bad (numbered 59 0 (pos (length (level ∷ levels)))) w

-- a preamble can't be dumped inside a group
abbrev pub dumped : Bool → List Level → World → Move
dumped true (level ∷ levels) w = Bad (plain 58) w
dumped _ levels w = ended levels w

-- at a paragraph's end, and between paragraphs, its lines hang no more
abbrev pub straightened : World → World
straightened w =
    with_environment (assigning false (OfInteger HangAfter) (Integer (pos 1)) (assigning false (OfDimension HangIndent) (Dimension (pos 0)) w.environment)) w

-- all that is pending is dropped; the number of the line stays
abbrev pub only_line : List Member → List Member
only_line [] = []
only_line (Single t marked ∷ members) = only_line members
only_line (Text rest ∷ members) = Text (record rest { unread = []; later = [] }) ∷ []

abbrev pub without_rest : World → World
without_rest w = record w { pending = only_line w.pending }

-- a command of the family of commands
abbrev pub commands : Primitive → List Item → World → Move
commands command.Relax items w = Again w
commands command.Par items w = Again (straightened w)
commands command.End items w = ended w.environment.groups (without_rest w)
commands command.Dump items w = dumped w.preamble w.environment.groups (without_rest w)
commands command.BeginGroup items w = opens group.Semi w
commands command.EndGroup items w = close_group w.environment.groups w
commands command.AfterGroup items w = after_group items w
commands command.AfterAssignment items w = after_assignment items w
commands command.Message items w = message (λ tokens. Again (logged (text_of_list tokens w) w)) items w
commands command.ErrMessage items w = message (λ tokens. Bad (showing 62 0 (text_of_list tokens w)) w) items w
commands command.Lowercase items w = change_case LowerCases items w
commands command.Uppercase items w = change_case UpperCases items w
commands command.IgnoreSpaces items w = ignore_spaces items w
commands _ items w = Bad (plain 63) w

-- the definitions of names, and arithmetic
abbrev pub names : Prefixes → Assignment → List Item → World → Move
names p assignment.Def items w = named (defined p false) items w
names p assignment.EDef items w = named (defined p true) items w
names p assignment.GDef items w = named (defined (record p { global = true }) false) items w
names p assignment.XDef items w = named (defined (record p { global = true }) true) items w
names p assignment.Let items w = named (let_to p) items w
names p assignment.FutureLet items w = named (future_let p) items w
names p assignment.CharDef items w = named (stands_for p 256 (byte_or 16) (Code false)) items w
names p assignment.MathCharDef items w = named (stands_for p 32768 math_character (Code true)) items w
names p assignment.CountDef items w = named (stands_for p 256 (byte_or 15) (Register' Count)) items w
names p assignment.DimenDef items w = named (stands_for p 256 (byte_or 15) (Register' Dimen)) items w
names p assignment.SkipDef items w = named (stands_for p 256 (byte_or 15) (Register' Skip)) items w
names p assignment.MuSkipDef items w = named (stands_for p 256 (byte_or 15) (Register' MuSkip)) items w
names p assignment.ToksDef items w = named (stands_for p 256 (byte_or 15) (Register' Toks)) items w
names p assignment.Advance items w = arithmetic p Plus items w
names p assignment.Multiply items w = arithmetic p Times items w
names p assignment.Divide items w = arithmetic p Over items w
names p _ items w = Bad (plain 63) w

-- an assignment of the family of assignments
abbrev pub assignments : Prefixes → Assignment → List Item → World → Move
assignments p a items w =
    register_of a (λ kind. byte_first 15 (λ n rest v. assign_at p (OfRegister kind n) rest v) items w)
    (codes_of a (λ table. byte_first 16 (λ b rest v. assign_at p (OfCode table b) rest v) items w) (names p a items w))

-- what may stand behind \long and \protected
abbrev pub defines : Assignment → Bool
defines assignment.Def = true
defines assignment.EDef = true
defines assignment.GDef = true
defines assignment.XDef = true
defines _ = false

abbrev pub bad_prefix : Meaning → World → Move
bad_prefix m w = Bad (showing 22 0 (meaning_text w.environment m)) w

-- \long and \protected stand before definitions alone
abbrev pub checked : Bool → Bool → Meaning → World → Move → Move
checked true false m w further = bad_prefix m w
checked _ _ m w further = further

-- a command behind prefixes, or an assignment without one; what is none is done so
abbrev pub prefixed : Prefixes → Bool → Meaning → List Item → World → Move → Move
prefixed p flags (Register' kind n) items w other = checked flags false (Register' kind n) w (assign_at p (OfRegister kind n) items w)
prefixed p flags (Prim (primitive.IntegerParameter q)) items w other = checked flags false (Prim (primitive.IntegerParameter q)) w (assign_at p (OfInteger q) items w)
prefixed p flags (Prim (primitive.DimensionParameter q)) items w other = checked flags false (Prim (primitive.DimensionParameter q)) w (assign_at p (OfDimension q) items w)
prefixed p flags (Prim (primitive.GlueParameter q)) items w other = checked flags false (Prim (primitive.GlueParameter q)) w (assign_at p (OfGlue q) items w)
prefixed p flags (Prim (primitive.ListParameter q)) items w other = checked flags false (Prim (primitive.ListParameter q)) w (assign_at p (OfList q) items w)
prefixed p flags (Prim (primitive.Assignment a)) items w other = checked flags (defines a) (Prim (primitive.Assignment a)) w (assignments p a items w)
prefixed p flags _ items w other = other

-- the prefix that an assignment is
abbrev pub with_prefix : Assignment → Prefixes → Option Prefixes
with_prefix assignment.Global p = Some (record p { global = true })
with_prefix assignment.Long p = Some (record p { long = true })
with_prefix assignment.Protected p = Some (record p { protected = true })
with_prefix _ p = None

abbrev pub prefix_of : Meaning → Prefixes → Option Prefixes
prefix_of (Prim (primitive.Assignment a)) p = with_prefix a p
prefix_of _ p = None

abbrev pub if_prefix : Option Prefixes → (Prefixes → Move) → Move → Move
if_prefix (Some p) further other = further p
if_prefix None further other = other

-- Behind a prefix spaces and \relax are skipped, and an assignment must come.
abbrev pub behind_prefix : Prefixes → List Item → World → Move
behind_prefix p [] w = Sub Expanded w
behind_prefix p (Given (Unexpandable c) ∷ items) w =
    if is_skipped c.meaning then behind_prefix p items w
    else if_prefix (prefix_of c.meaning p) (λ q. behind_prefix q items w) (prefixed p (p.long || p.protected) c.meaning items w (bad_prefix c.meaning w))
behind_prefix p _ w = Again w

-- what is no assignment
abbrev pub other_command : Meaning → List Item → World → Move
other_command (Character cat.Space b) items w = Again w
other_command (Character cat.Begin b) items w = opens group.Simple w
other_command (Character cat.End b) items w = close_brace w.environment.groups w
other_command (Prim (primitive.Command c)) items w = commands c items w
other_command _ items w = Bad (plain 63) w

abbrev pub control_on : Value → List Item → World → Move
control_on (Unexpandable c) items w =
    if_prefix (prefix_of c.meaning no_prefix) (λ p. behind_prefix p items w)
    (prefixed no_prefix false c.meaning items w (other_command c.meaning items w))
control_on TextEnd items w = ended w.environment.groups w
control_on _ items w = Bad (plain 63) w

abbrev pub control : List Item → World → Move
control [] w = Sub Expanded w
control (Given value ∷ items) w = control_on value items w
control _ w = Bad (plain 63) w
