-- What descriptions stand for.
use Rattle.std.specs.Prelude.{◌≡◌, ℕ, ◌<◌, ℤ, Bool, true, false, List, [], ◌++◌, Option, Some, None, IsTrue, ⊤}
use Rattle.std.specs.List.{flat_map}
use Rattle.tx_model.specs.Shown.{shown_token, shown_in_list}
use Rattle.tx_private.specs.Meanings as private
use Rattle.tx_private.specs.Environment.{Environment}
use Rattle.tx_private.specs.Described.{described, macro_text}
use Rattle.tx_scan.specs.declared.cats.Cats.{Cats}
use Rattle.tx_scan.specs.Scans.{category_by}
use Rattle.tx_tok.specs.declared.tok.Tok.{Tok}
use Rattle.tx_tok.specs.declared.tok.ListRef.{ListRef}
use Rattle.tx_tok.specs.declared.tok.ListRef.TheVariants as list
use Rattle.tx_views.specs.declared.sense.Sense.{Sense}
use Rattle.tx_views.specs.declared.sense.Sense.TheVariants as sense
use Rattle.tx_views.specs.Views.{View, viewed, all_viewed}
use Rattle.tx_views.specs.Meanings.{sense_in}
use Rattle.tx_describe.specs.declared.rest.Wanted.{Wanted}
use Rattle.tx_describe.specs.declared.rest.Wanted.TheVariants as wanted
use Rattle.tx_describe.specs.declared.rest.Rest.{Rest}
use Rattle.tx_describe.specs.declared.rest.Rest.TheVariants as rest
use Rattle.tx_describe.specs.declared.description.Progress.{Progress}
use Rattle.tx_describe.specs.declared.description.Progress.TheVariants as progress
use Rattle.tx_describe.specs.declared.description.Description.{Description}
use Rattle.tx_describe.specs.Rests.{wanted as wanted_by, pieces_left, KnowsRest}

-- an environment without meanings, for texts that do not depend on one
abbrev pub nowhere : Environment
nowhere = record { groups = []; outside = λ at. private.Undefined }

-- the text of a macro up to its list: that of a macro with an empty list
abbrev pub macro_beginning : ℤ → Bool → Bool → List ℕ
macro_beginning esc long protected = macro_text nowhere esc (record { long = long; protected = protected; body = [] })

-- the text of a list
abbrev pub list_text : View → Cats → ℤ → List Tok → List ℕ
list_text view cats esc tokens = flat_map (shown_in_list (category_by cats) esc) (all_viewed view tokens)

-- the text of a meaning: only that of a macro's list depends on the categories
abbrev pub sense_text : View → Cats → ℤ → Sense → List ℕ
sense_text view cats esc (sense.Macro long protected list) = macro_beginning esc long protected ++ list_text view cats esc (view.content list)
sense_text view cats esc s = described nowhere esc (sense_in view s)

-- the text of what is left
abbrev pub rest_text : View → Cats → ℤ → Rest → List ℕ
rest_text view cats esc rest.Nothing = []
rest_text view cats esc (rest.Token t) = shown_token esc (viewed view t)
rest_text view cats esc (rest.Tokens tokens) = list_text view cats esc tokens
rest_text view cats esc (rest.Content list) = list_text view cats esc (view.content list)
rest_text view cats esc (rest.Meaning s) = sense_text view cats esc s

-- what is printed
abbrev pub written : Description → List ℕ
written d = d.printed

-- the whole text that it comes to
abbrev pub text_in : View → Cats → Description → List ℕ
text_in view cats d = d.printed ++ rest_text view cats d.escape d.rest

-- what has to be given before the next piece
abbrev pub wants : Description → Option Wanted
wants d = wanted_by d.rest

abbrev pub is_text : Option Wanted → Bool
is_text (Some (wanted.Text n)) = true
is_text _ = false

abbrev pub is_content : Option Wanted → Bool
is_content (Some (wanted.Content id)) = true
is_content (Some (wanted.Frozen k)) = true
is_content _ = false

-- that is the text of a name
abbrev pub wants_text : Description → Bool
wants_text d = is_text (wants d)

-- that is the content of a list
abbrev pub wants_content : Description → Bool
wants_content d = is_content (wants d)

-- the number of pieces that are left, and of contents that have to be given
abbrev pub left : View → Description → ℕ
left view d = pieces_left view d.rest

-- nothing is left, and the text is what is printed
abbrev pub IsDone : Description → Type 0
IsDone d = ((view : View) → left view d ≡ 0) × ((view : View) (cats : Cats) → text_in view cats d ≡ written d)

-- what a step did, by its answer
abbrev pub Progresses : Progress → Description → Description → Type 0
Progresses progress.Went old new = (wants old ≡ None) × ((view : View) → left view new < left view old)
Progresses (progress.Wants w) old new = (new ≡ old) × (wants new ≡ Some w)
Progresses progress.Done old new = (new ≡ old) × IsDone new
Progresses progress.Memory old new = new ≡ old

-- the names that it may ask for are known, and the lists are held
abbrev pub Knows : (ℕ → Bool) → (ListRef → Bool) → Description → Type 0
Knows known held d = KnowsRest known held d.rest

-- what a step asks for is known, or held
abbrev pub KnowsWanted : (ℕ → Bool) → (ListRef → Bool) → Progress → Type 0
KnowsWanted known held (progress.Wants (wanted.Text n)) = IsTrue (known n)
KnowsWanted known held (progress.Wants (wanted.Content id)) = IsTrue (held (list.Pooled id))
KnowsWanted known held (progress.Wants (wanted.Frozen k)) = IsTrue (held (list.Frozen k))
KnowsWanted known held _ = ⊤
