-- What open readings stand for.
use Rattle.std.specs.Prelude.{◌≡◌, ℕ, ◌≤◌, List, [], ◌∷◌, ◌++◌, length, map, reverse, false, Some, Vec}
use Rattle.std.specs.Global.{Global}
use Rattle.tx_model.specs.Tokens as token
use Rattle.tx_model.specs.World.{World, Command, failure}
use Rattle.tx_model.specs.Moves.{Kind, Move, Take, Sub, Again, Done, Bad, move_in, balanced, message, message_text, definition, definition_of, definition_body}
use Rattle.tx_model.specs.Moves as moves
use Rattle.tx_model.specs.Opens.{Open, Stands, GoesOn}
use Rattle.tx_tok.specs.declared.tok.Tok.{Tok}
use Rattle.tx_tok.specs.Tokens.{token_in, tokens_in}
use Rattle.tx_names.specs.Names.{Names, Naming, KeepsApart, Agrees}
use Rattle.tx_gullet.specs.declared.meaning.Meaning.{Meaning}
use Rattle.tx_gullet.specs.declared.frame.Wish.{Wish}
use Rattle.tx_gullet.specs.declared.frame.Wish.TheVariants as wish
use Rattle.tx_gullet.specs.declared.frame.Frame.{Frame}
use Rattle.tx_gullet.specs.declared.frame.Frame.TheVariants as frame
use Rattle.tx_gullet.specs.declared.frame.Waiting.{Waiting}
use Rattle.tx_gullet.specs.declared.frame.Waiting.TheVariants as waiting
use Rattle.tx_gullet.specs.declared.frame.Item.{Item}
use Rattle.tx_gullet.specs.declared.frame.Item.TheVariants as item
use Rattle.tx_gullet.specs.declared.frame.AtEnd.{AtEnd}
use Rattle.tx_gullet.specs.declared.frame.AtEnd.TheVariants as at_end
use Rattle.tx_gullet.specs.declared.frame.Answer.{Answer}
use Rattle.tx_gullet.specs.declared.frame.Answer.TheVariants as answer
use Rattle.tx_gullet.specs.declared.frame.BalancedText.{BalancedText}
use Rattle.tx_gullet.specs.declared.scene.Scene.{Scene}
use Rattle.tx_gullet.specs.Meanings.{meaning_in, IsKnown, AreKnown}
use Rattle.tx_gullet.specs.Scenes.{world_of, IsSound}

-- the move that is a wish for a token
abbrev pub wished : Wish → Move
wished wish.Plain = Take
wished wish.Expanded = Sub moves.Expanded

-- how a reading takes its next token
abbrev pub wish_of : Frame → Wish
wish_of frame.Control = wish.Expanded
wish_of frame.Message = wish.Plain
wish_of frame.Definition = wish.Plain
wish_of (frame.DefinitionOf n) = wish.Plain
wish_of (frame.Balanced w text) = w

abbrev pub kind_of : Frame → Kind
kind_of (frame.Balanced wish.Plain text) = moves.Balanced
kind_of (frame.Balanced wish.Expanded text) = moves.ExpandedBalanced
kind_of _ = moves.Control

-- what an open reading says of all items to come
abbrev pub says : Naming → Frame → List moves.Item → World → Move
says naming frame.Control items w = move_in moves.Control items w
says naming frame.Message items w = message items w
says naming frame.Definition items w = definition items w
says naming (frame.DefinitionOf n) items w = definition_of (token.Name (naming n)) items w
says naming (frame.Balanced k text) items w = balanced (wished k) text.groups (tokens_in naming text.tokens.items) items w

abbrev pub awaits : Naming → Waiting → List moves.Item → World → Move
awaits naming waiting.Message items w = message_text items w
awaits naming (waiting.Definition n) items w = definition_body (naming n) items w

abbrev pub open_of : Naming → Frame → Open
open_of naming f = record { kind = kind_of f; says = says naming f }

abbrev pub waiting_of : Naming → Waiting → Open
waiting_of naming x = record { kind = moves.Control; says = awaits naming x }

-- the readings around the innermost one, of which the latest is the last
abbrev pub outer_of : Naming → List Waiting → List Open
outer_of naming waiting = map (waiting_of naming) (reverse waiting)

abbrev pub command_in : Naming → Tok → Meaning → Command
command_in naming t m = record { token = token_in naming t; marked = false; meaning = meaning_in naming m }

abbrev pub item_in : Naming → Item → moves.Item
item_in naming (item.Token t m) = moves.Tok (command_in naming t m)
item_in naming (item.Expanded t m) = moves.Given (moves.Unexpandable (command_in naming t m))

abbrev pub value_in : Naming → Vec Tok Global → moves.Value
value_in naming tokens = moves.Tokens (tokens_in naming tokens.items)

-- What comes of an item: how the reading goes on, begins again or ends, in this world.
abbrev pub Comes : Naming → Open → moves.Item → World → Answer → World → Type 0
Comes naming o i w (answer.Goes f) w' = (kind_of f ≡ o.kind) × GoesOn o.says i (says naming f) × (w' ≡ w)
Comes naming o i w (answer.Within x f) w' =
    (o.kind ≡ moves.Control) × GoesOn o.says i (awaits naming x) × ((v : World) → awaits naming x [] v ≡ Sub (kind_of f)) × Stands (open_of naming f) [] × (w' ≡ w)
Comes naming o i w answer.Again w' = (o.kind ≡ moves.Control) × (o.says (i ∷ []) w ≡ Again w')
Comes naming o i w (answer.Done v) w' = o.says (i ∷ []) w ≡ Done (value_in naming v) w'
Comes naming o i w (answer.Wrong error) w' = (o.says (i ∷ []) w ≡ Bad error w) × (failure error w ≡ failure error w')
Comes naming o i w answer.Memory w' = Unit {0}

-- what a reading is given where nothing is pending, by its wish
abbrev pub end_item : Wish → moves.Item
end_item wish.Plain = moves.End
end_item wish.Expanded = moves.Given moves.TextEnd

-- what comes of the end of the text for a reading
abbrev pub ComesAtEnd : Frame → AtEnd → Scene → Type 0
ComesAtEnd f at_end.Done s =
    (naming : Naming) → says naming f (end_item (wish_of f) ∷ []) (world_of naming s) ≡ Done moves.TextEnd (world_of naming s)
ComesAtEnd f (at_end.Wrong error) s =
    (naming : Naming) → says naming f (end_item (wish_of f) ∷ []) (world_of naming s) ≡ Bad error (world_of naming s)

-- for each naming that agrees with the table
abbrev pub Answers : Frame → Item → Scene → Answer → Scene → Type 0
Answers f i old a new =
    (naming : Naming) → KeepsApart naming → Agrees naming old.names → Comes naming (open_of naming f) (item_in naming i) (world_of naming old) a (world_of naming new)

abbrev pub AnswersValue : Waiting → Vec Tok Global → Scene → Answer → Scene → Type 0
AnswersValue x v old a new =
    (naming : Naming) → KeepsApart naming → Agrees naming old.names → Comes naming (waiting_of naming x) (moves.Given (value_in naming v)) (world_of naming old) a (world_of naming new)

-- the table has all names of a balanced text, in which no more groups are open than it has tokens
pub record KnowsText (names : Names) (text : BalancedText) : Type 0 where
  pub tokens : AreKnown names text.tokens.items
  pub groups : text.groups ≤ length text.tokens.items

abbrev pub KnowsFrame : Names → Frame → Type 0
KnowsFrame names (frame.Balanced k text) = KnowsText names text
KnowsFrame names _ = Unit {0}

abbrev pub KnowsItem : Names → Item → Type 0
KnowsItem names (item.Token t m) = IsKnown names t
KnowsItem names (item.Expanded t m) = IsKnown names t

abbrev pub KnowsAnswer : Names → Answer → Type 0
KnowsAnswer names (answer.Goes f) = KnowsFrame names f
KnowsAnswer names (answer.Within x f) = KnowsFrame names f
KnowsAnswer names (answer.Done tokens) = AreKnown names tokens.items
KnowsAnswer names _ = Unit {0}

-- the scene and the answer are sound, unless memory was wanting
abbrev pub IsSoundAfter : Answer → Scene → Type 0
IsSoundAfter answer.Memory s = Unit {0}
IsSoundAfter a s = IsSound s

-- the answer goes on with a balanced text that has this token more, and in which so many groups are open
abbrev pub Keeps : Wish → ℕ → Vec Tok Global → Tok → Answer → Type 0
Keeps k groups tokens t (answer.Goes (frame.Balanced k' text)) = (k' ≡ k) × (text.groups ≡ groups) × (text.tokens.items ≡ tokens.items ++ t ∷ [])
Keeps k groups tokens t answer.Memory = Unit {0}
Keeps k groups tokens t _ = ⊥

-- what comes of a token for a balanced text, whether it is taken as it stands or expanded
abbrev pub Adds : Wish → BalancedText → Tok → Answer → Type 0
Adds k text t a =
    (naming : Naming) (w : World) (i : moves.Item) → moves.token_given i ≡ Some (token_in naming t) → Comes naming (open_of naming (frame.Balanced k text)) i w a w

-- a balanced text of which nothing was taken
abbrev pub Begun : Wish → Frame → Type 0
Begun k f = (text : BalancedText) × (f ≡ frame.Balanced k text) × (text.groups ≡ 0) × (text.tokens.items ≡ [])
