-- What outcomes mean.
use Rattle.std.specs.Prelude.{◌≡◌, List, [], ◌∷◌, map, Some}
use Rattle.tx_prims.specs.declared.primitives.Primitive.TheVariants as primitive
use Rattle.tx_prims.specs.declared.primitives.Command.TheVariants.{Relax}
use Rattle.tx_private.specs.Meanings as meaning
use Rattle.tx_private.specs.World.{World, put_in_front, with_environment}
use Rattle.tx_private.specs.Readings as private
use Rattle.tx_private.specs.Quantities.{quantity_at}
use Rattle.tx_private.specs.Lists.{storing}
use Rattle.tx_private.specs.Assignments.{assigned, assigns}
use Rattle.tx_private.specs.Arithmetic.{result, assigns_result, no_target}
use Rattle.tx_private.specs.Controls.{opens, close_brace, close_group, keep_for_end, recoded, straightened, ended, dumped, without_rest, bad_prefix}
use Rattle.tx_private.specs.Moves.{move_in}
use Rattle.tx_opens.specs.Opens.{Open, begun, given, SaysSame}
use Rattle.tx_views.specs.Views.{View, viewed, all_viewed}
use Rattle.tx_views.specs.Places.{address_in}
use Rattle.tx_views.specs.Meanings.{meaning_in, sense_in}
use Rattle.tx_assign.specs.Refusals.{refused_in}
use Rattle.tx_assign.specs.Assigned.{prefixes_in}
use Rattle.tx_assign.specs.Operations.{operation_in}
use Rattle.tx_frames.specs.Kinds.{wished}
use Rattle.tx_frames.specs.declared.frame.Wish.{Wish}
use Rattle.tx_frames.specs.declared.frame.Wish.TheVariants as wish
use Rattle.tx_frames.specs.declared.reading.Reading.TheVariants as reading
use Rattle.tx_commands.specs.declared.item.Item.{Item}
use Rattle.tx_commands.specs.declared.item.Item.TheVariants as item
use Rattle.tx_commands.specs.declared.command.Command.{Command}
use Rattle.tx_commands.specs.declared.effect.Effect.{Effect}
use Rattle.tx_commands.specs.declared.effect.Effect.TheVariants as effect
use Rattle.tx_commands.specs.declared.outcome.Outcome.{Outcome}
use Rattle.tx_commands.specs.declared.outcome.Outcome.TheVariants as outcome
use Rattle.tx_commands.specs.Items.{item_in}
use Rattle.tx_commands.specs.Wishes.{wish_of}
use Rattle.tx_commands.specs.Commands.{told, letters_table, says, open_of, control_open}

-- the last move of a command
abbrev pub move_of : View → Effect → World → private.Move
move_of view (effect.Assign p at m) w = assigns (prefixes_in p) (address_in view at) (meaning_in view m) w
move_of view (effect.AssignTokens p at tokens) w = assigns (prefixes_in p) (address_in view at) (meaning.Tokens (all_viewed view tokens)) w
move_of view (effect.Let p at s) w = assigns (prefixes_in p) (address_in view at) (sense_in view s) w
move_of view (effect.FutureLet p at s t u) w = assigns (prefixes_in p) (address_in view at) (sense_in view s) (put_in_front (viewed view t ∷ viewed view u ∷ []) w)
move_of view (effect.Define p at body) w =
    storing (all_viewed view body) w (λ v. assigns (prefixes_in p) (address_in view at) (meaning.Macro' (record { long = p.long; protected = p.protected; body = all_viewed view body })) v)
move_of view (effect.Compute p o at q) w = assigns_result (prefixes_in p) (address_in view at) (result (operation_in o) (quantity_at (address_in view at) w) q) w
move_of view (effect.BeginGroup kind) w = opens kind w
move_of view effect.CloseBrace w = close_brace w.environment.groups w
move_of view effect.EndGroup w = close_group w.environment.groups w
move_of view (effect.AfterGroup t) w = private.Again (with_environment (record w.environment { groups = keep_for_end (viewed view t) w.environment.groups }) w)
move_of view (effect.AfterAssignment t) w = private.Again (record w { kept = Some (viewed view t) })
move_of view (effect.Message m tokens) w = told m (all_viewed view tokens) w
move_of view (effect.ChangeCase l tokens) w = private.Again (put_in_front (map (recoded (letters_table l) w) (all_viewed view tokens)) w)
move_of view effect.Par w = private.Again (straightened w)
move_of view effect.End w = ended w.environment.groups (without_rest w)
move_of view effect.Dump w = dumped w.preamble w.environment.groups (without_rest w)
move_of view effect.Finish w = ended w.environment.groups w
move_of view (effect.BadPrefix s) w = bad_prefix (sense_in view s) w
move_of view (effect.NoTarget s) w = no_target (sense_in view s) w

-- An outcome says what a command is from here on, and what its move in this world is.
abbrev pub Becomes : View → Open → private.Move → World → Outcome → Type 0
Becomes view o m w (outcome.Goes c) = SaysSame o (open_of view c) × (m ≡ wished view (wish_of c) w)
Becomes view o m w (outcome.Relaxes c p at) =
    SaysSame o (open_of view c) × (m ≡ wished view (wish_of c) (assigned (prefixes_in p) (address_in view at) (meaning.Prim (primitive.Command Relax)) w))
Becomes view o m w (outcome.Again back) = m ≡ private.Again (put_in_front (all_viewed view back) w)
Becomes view o m w (outcome.Does e) = m ≡ move_of view e w
Becomes view o m w (outcome.Wrong e) = m ≡ private.Bad (refused_in e) w
Becomes view o m w outcome.Memory = Unit {0}

-- what comes of an item for a command
abbrev pub BecomesGiven : View → Command → Item → World → Outcome → Type 0
BecomesGiven view c i w a = Becomes view (given (open_of view c) (item_in view i)) (says view c (item_in view i ∷ []) w) w a

-- what comes of a command of which this is said
abbrev pub Makes : View → (List private.Item → World → private.Move) → World → Outcome → Type 0
Makes view f w a = Becomes view (control_open f) (f [] w) w a

-- main control begins with a command
abbrev pub Begins : View → Command → World → Type 0
Begins view c w = SaysSame (begun private.Control) (open_of view c) × (move_in private.Control [] w ≡ wished view (wish_of c) w)

-- the value of a list is wished for
abbrev pub IsForList : Wish → Type 0
IsForList (wish.Within reading.List) = Unit {0}
IsForList _ = ⊥

-- an item is one that a command is given: a list that is held comes as the value of a list alone
abbrev pub Suits : Command → Item → Type 0
Suits c (item.List list) = IsForList (wish_of c)
Suits c _ = Unit {0}
