-- What comes of tokens for a text.
use Rattle.std.specs.Prelude.{ℕ, ◌∷◌, List, []}
use Rattle.tx_private.specs.World.{World}
use Rattle.tx_private.specs.Readings as private
use Rattle.tx_private.specs.Lists.{balanced, taking_in, adding, closed_in, bounded}
use Rattle.tx_opens.specs.Opens.{Open}
use Rattle.tx_tok.specs.declared.tok.Tok.{Tok}
use Rattle.tx_views.specs.Views.{View, viewed, all_viewed}
use Rattle.tx_frames.specs.declared.reading.TextKind.{TextKind}
use Rattle.tx_frames.specs.declared.frame.Text.{Text}
use Rattle.tx_frames.specs.declared.answer.Answer.{Answer}
use Rattle.tx_frames.specs.Kinds.{text_kind, wished}
use Rattle.tx_frames.specs.Frames.{is_body, text_wish}
use Rattle.tx_frames.specs.Answers.{Becomes}

-- a text that is read on with these tokens, of which so many groups are open
abbrev pub goes_on : View → TextKind → World → ℕ → List Tok → List private.Item → World → private.Move
goes_on view k w groups tokens items v = bounded w (λ n more. balanced (is_body k) (wished view (text_wish k)) n more items v) groups (all_viewed view tokens)

-- a text that was given this token
abbrev pub taking_on : View → Text → Tok → List private.Item → World → private.Move
taking_on view x t items v =
    taking_in (is_body x.kind) x.groups (all_viewed view x.tokens) (viewed view t) v (bounded v (λ n more. balanced (is_body x.kind) (wished view (text_wish x.kind)) n more items v))

-- the same where the token can stand in it
abbrev pub adding_on : View → Text → Tok → List private.Item → World → private.Move
adding_on view x t items v =
    adding x.groups (all_viewed view x.tokens) (viewed view t) v (bounded v (λ n more. balanced (is_body x.kind) (wished view (text_wish x.kind)) n more items v))

-- the same where it is a right brace
abbrev pub closing_on : View → Text → Tok → List private.Item → World → private.Move
closing_on view x t items v =
    closed_in x.groups (all_viewed view x.tokens) (viewed view t) v (bounded v (λ n more. balanced (is_body x.kind) (wished view (text_wish x.kind)) n more items v))

abbrev pub as_open : TextKind → (List private.Item → World → private.Move) → Open
as_open k says = record { kind = text_kind k; says = λ item later w. says (item ∷ later) w }

-- it goes on with these tokens, unless they are too many
abbrev pub GoesOnWith : TextKind → ℕ → List Tok → Answer → Type 0
GoesOnWith k groups tokens a = (view : View) (w : World) → Becomes view (as_open k (λ items v. goes_on view k v groups tokens items v)) (goes_on view k w groups tokens [] w) w a

-- it is given a token more
abbrev pub AddsToken : Text → Tok → Answer → Type 0
AddsToken x t a = (view : View) (w : World) → Becomes view (as_open x.kind (taking_on view x t)) (taking_on view x t [] w) w a

-- the same where the token can stand in it, and where it is a right brace
abbrev pub AddsOn : Text → Tok → Answer → Type 0
AddsOn x t a = (view : View) (w : World) → Becomes view (as_open x.kind (adding_on view x t)) (adding_on view x t [] w) w a

abbrev pub Closes : Text → Tok → Answer → Type 0
Closes x t a = (view : View) (w : World) → Becomes view (as_open x.kind (closing_on view x t)) (closing_on view x t [] w) w a
