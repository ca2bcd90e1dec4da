-- What is left of a description.
use Rattle.std.specs.Prelude.{ℕ, ◌+◌, Bool, true, false, [], ◌∷◌, drop, length, Option, Some, None, IsTrue, All, ⊤}
use Rattle.tx_tok.specs.declared.tok.Tok.{Tok}
use Rattle.tx_tok.specs.declared.tok.Tok.TheVariants as tok
use Rattle.tx_tok.specs.declared.tok.ListRef.{ListRef}
use Rattle.tx_tok.specs.declared.tok.ListRef.TheVariants as list
use Rattle.tx_views.specs.declared.sense.Sense.{Sense}
use Rattle.tx_views.specs.declared.sense.Sense.TheVariants as sense
use Rattle.tx_views.specs.Views.{View}
use Rattle.tx_describe.specs.declared.rest.Wanted.{Wanted}
use Rattle.tx_describe.specs.declared.rest.Wanted.TheVariants as wants
use Rattle.tx_describe.specs.declared.rest.Rest.{Rest}
use Rattle.tx_describe.specs.declared.rest.Rest.TheVariants as rest

-- the text of a token's name, if it is one
abbrev pub name_wanted : Tok → Option Wanted
name_wanted (tok.Name n) = Some (wants.Text n)
name_wanted _ = None

-- the content of a list; that of the empty one is known
abbrev pub content_wanted : ListRef → Option Wanted
content_wanted list.Empty = None
content_wanted (list.Frozen k) = Some (wants.Frozen k)
content_wanted (list.Pooled id) = Some (wants.Content id)

-- what has to be given before the next piece
abbrev pub wanted : Rest → Option Wanted
wanted rest.Nothing = None
wanted (rest.Token t) = name_wanted t
wanted (rest.Tokens []) = None
wanted (rest.Tokens (t ∷ tokens)) = name_wanted t
wanted (rest.Content list) = content_wanted list
wanted (rest.Meaning s) = None

-- nothing is left
abbrev pub is_finished : Rest → Bool
is_finished rest.Nothing = true
is_finished (rest.Token t) = false
is_finished (rest.Tokens []) = true
is_finished (rest.Tokens (t ∷ tokens)) = false
is_finished (rest.Content list) = false
is_finished (rest.Meaning s) = false

-- what is left behind the next piece; behind the beginning of a macro's text stands its list
abbrev pub behind : Rest → Rest
behind (rest.Tokens tokens) = rest.Tokens (drop 1 tokens)
behind (rest.Meaning (sense.Macro long protected list)) = rest.Content list
behind _ = rest.Nothing

-- the number of pieces that are left, and of contents that have to be given
abbrev pub pieces_left : View → Rest → ℕ
pieces_left view rest.Nothing = 0
pieces_left view (rest.Token t) = 1
pieces_left view (rest.Tokens tokens) = length tokens
pieces_left view (rest.Content list) = length (view.content list) + 1
pieces_left view (rest.Meaning (sense.Macro long protected list)) = length (view.content list) + 2
pieces_left view (rest.Meaning s) = 1

-- a token's name is known, if it is one
abbrev pub KnowsToken : (ℕ → Bool) → Tok → Type 0
KnowsToken known (tok.Name n) = IsTrue (known n)
KnowsToken known _ = ⊤

-- a list is held, unless it is the empty one
abbrev pub KnowsList : (ListRef → Bool) → ListRef → Type 0
KnowsList held list.Empty = ⊤
KnowsList held (list.Frozen k) = IsTrue (held (list.Frozen k))
KnowsList held (list.Pooled id) = IsTrue (held (list.Pooled id))

-- the list of a macro is held
abbrev pub KnowsSense : (ListRef → Bool) → Sense → Type 0
KnowsSense held (sense.Macro long protected list) = KnowsList held list
KnowsSense held _ = ⊤

-- the names that are left are known, and the list is held
abbrev pub KnowsRest : (ℕ → Bool) → (ListRef → Bool) → Rest → Type 0
KnowsRest known held rest.Nothing = ⊤
KnowsRest known held (rest.Token t) = KnowsToken known t
KnowsRest known held (rest.Tokens tokens) = All (KnowsToken known) tokens
KnowsRest known held (rest.Content list) = KnowsList held list
KnowsRest known held (rest.Meaning s) = KnowsSense held s
