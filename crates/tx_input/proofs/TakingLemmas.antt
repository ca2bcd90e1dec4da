-- What the wish for a token comes to, by what is pending.
use Rattle.std.proofs.Common.{◌≡◌, ◌≢◌, ℕ, ℤ, ◌==◌, Bool, true, false, List, [], ◌∷◌, ◌++◌, length, map, Option, None, Some, IsSomeAnd, if◌then◌else◌, refl, ap, ◌∙◌, sym, subst, arith}
use Rattle.std.proofs.lemmas.Bool.Decides.{nat_tests}
use Rattle.tx_model.specs.declared.category.Cat.{Cat}
use Rattle.tx_model.specs.Tokens as private
use Rattle.tx_model.specs.Tokens.{Token}
use Rattle.tx_model.specs.Scanner.{Rest, Gives, Used, Halts, scanned}
use Rattle.tx_model.specs.Pending.{Member, Single, Text, Next, First, Empty, Blocked, next, line_number}
use Rattle.tx_prims.specs.declared.primitives.IntegerParameter.TheVariants.{EndLineChar}
use Rattle.tx_private.specs.Errors.{plain}
use Rattle.tx_private.specs.Environment.{category_of, parameter_of}
use Rattle.tx_private.specs.World.{World, failure, Takes, Finds-none, Spends, Breaks, taking, taken_from, making, new_name, stepped, pending_tokens}
use Rattle.tx_private.specs.Controls.{only_line}
use Rattle.tx_tok.specs.declared.tok.Tok.{Tok}
use Rattle.tx_scan.specs.declared.cats.Cats.{Cats}
use Rattle.tx_scan.specs.declared.line.Scan.TheVariants as scan
use Rattle.tx_scan.specs.Scans.{category_by, par}
use Rattle.tx_views.specs.Views.{View, viewed, all_viewed}
use Rattle.tx_input.specs.declared.input.Input.{Input}
use Rattle.tx_input.specs.declared.input.Taken.{Taken}
use Rattle.tx_input.specs.declared.input.Taken.TheVariants as taken
use Rattle.tx_input.specs.Texts.{text_members, AfterScan, dropped}
use Rattle.tx_input.specs.Worlds.{input_in, present, new_text}
use Rattle.tx_input.specs.Stepping.{one_more, AfterStep, AfterName}
use Rattle.tx_input.specs.Takings.{TakesBy}

-- unmarked tokens
abbrev singles : List Token → List Member
singles tokens = map (λ t. Single t false) tokens

-- a world's wish, by what its first token is
module _ (w : World) where
  taking-next : (cats : ℕ → Cat) (end : ℤ) (members : List Member) (n : Next) → category_of w.environment ≡ cats → parameter_of w.environment EndLineChar ≡ end → w.pending ≡ members → next cats end members ≡ n → taking w ≡ taken_from w n
  taking-next cats end members n by_cats by_end are first =
      ap (λ (ms : List Member). taken_from w (next (category_of w.environment) (parameter_of w.environment EndLineChar) ms)) are
      ∙ ap (λ (c : ℕ → Cat). taken_from w (next c (parameter_of w.environment EndLineChar) members)) by_cats
      ∙ ap (λ (e : ℤ). taken_from w (next cats e members)) by_end
      ∙ ap (taken_from w) first

  first-stepped : (token : Token) (left members : List Member) → w.pending ≡ members → (w.output.steps == w.budget) ≡ false → taken_from w (First token false left) ≡ making (new_name members token w) (present w token) (stepped left w)
  first-stepped token left members are more =
      ap (λ (b : Bool). if b then Spends w.output else making (new_name w.pending token w) (present w token) (stepped left w)) more
      ∙ ap (λ (ms : List Member). making (new_name ms token w) (present w token) (stepped left w)) are

  first-spent : (token : Token) (left : List Member) → (w.output.steps == w.budget) ≡ true → taken_from w (First token false left) ≡ Spends w.output
  first-spent token left over =
      ap (λ (b : Bool). if b then Spends w.output else making (new_name w.pending token w) (present w token) (stepped left w)) over

-- what stands first
next-single : (cats : ℕ → Cat) (end : ℤ) (token : Token) (members : List Member) → next cats end (Single token false ∷ members) ≡ First token false members
unfolding next
next-single cats end token members = refl

next-none : (cats : ℕ → Cat) (end : ℤ) → next cats end [] ≡ Empty []
unfolding next
next-none cats end = refl

next-gives : (cats : ℕ → Cat) (end : ℤ) (rest left : Rest) (token : Token) → scanned cats end rest ≡ Gives token left → next cats end (Text rest ∷ []) ≡ First token false (Text left ∷ [])
unfolding next
next-gives cats end rest left token found = rw found refl

next-used : (cats : ℕ → Cat) (end : ℤ) (rest left : Rest) → scanned cats end rest ≡ Used left → next cats end (Text rest ∷ []) ≡ Empty (Text left ∷ [])
unfolding next
next-used cats end rest left found = rw found refl

next-halts : (cats : ℕ → Cat) (end : ℤ) (rest left : Rest) → scanned cats end rest ≡ Halts left → next cats end (Text rest ∷ []) ≡ Blocked (Text left ∷ [])
unfolding next
next-halts cats end rest left found = rw found refl

has-step : (spent budget : ℕ) → spent ≢ budget → (spent == budget) ≡ false
has-step spent budget h = grind (arith, nat_tests)

no-step : (spent budget : ℕ) → spent ≡ budget → (spent == budget) ≡ true
no-step spent budget h = grind (arith, nat_tests)

-- a text gave this token
pub record Gave (cats : Cats) (end : ℤ) (old : Option Rest) (token : Token) (new : Option Rest) : Type 0 where
  pub rest : Rest
  pub left : Rest
  pub before : old ≡ Some rest
  pub after : new ≡ Some left
  pub found : scanned (category_by cats) end rest ≡ Gives token left

pub gave-char : (cats : Cats) (end : ℤ) (old new : Option Rest) (c : Cat) (b : ℕ) → AfterScan cats end old (scan.Char c b) new → Gave cats end old (private.Char c b) new
gave-char cats end None new c b h = let is = h.0 in cc
gave-char cats end (Some old) None c b h = absurd h
gave-char cats end (Some old) (Some left) c b h = record { rest = old; left = left; before = refl; after = refl; found = h }

pub gave-active : (cats : Cats) (end : ℤ) (old new : Option Rest) (b : ℕ) → AfterScan cats end old (scan.Active b) new → Gave cats end old (private.Active b) new
gave-active cats end None new b h = let is = h.0 in cc
gave-active cats end (Some old) None b h = absurd h
gave-active cats end (Some old) (Some left) b h = record { rest = old; left = left; before = refl; after = refl; found = h }

pub gave-name : (cats : Cats) (end : ℤ) (old new : Option Rest) (text : List ℕ) → AfterScan cats end old (scan.NameText text) new → Gave cats end old (private.Name text) new
gave-name cats end None new text h = let is = h.0 in cc
gave-name cats end (Some old) None text h = absurd h
gave-name cats end (Some old) (Some left) text h = record { rest = old; left = left; before = refl; after = refl; found = h }

pub gave-par : (cats : Cats) (end : ℤ) (old new : Option Rest) → AfterScan cats end old scan.Par new → Gave cats end old (private.Name par) new
gave-par cats end None new h = let is = h.0 in cc
gave-par cats end (Some old) None h = absurd h
gave-par cats end (Some old) (Some left) h = record { rest = old; left = left; before = refl; after = refl; found = h }

-- what is pending where no list has a token
module _ (view : View) where
  only-text : (lists : List Tok) (text : Option Rest) → lists ≡ [] → singles (all_viewed view lists) ++ text_members text ≡ text_members text
  only-text lists text none = ap (λ (ts : List Tok). singles (all_viewed view ts) ++ text_members text) none

  -- what is pending of a text alone
  pub pending-none : (lists : List Tok) (text left : Option Rest) → lists ≡ [] → text ≡ left → singles (all_viewed view lists) ++ text_members text ≡ text_members left
  pending-none lists text left none is = only-text lists text none ∙ ap text_members is

  text-pending : (lists : List Tok) (text : Option Rest) (rest : Rest) → lists ≡ [] → text ≡ Some rest → singles (all_viewed view lists) ++ text_members text ≡ Text rest ∷ []
  text-pending lists text rest none is = only-text lists text none ∙ ap text_members is

text-ends : (w : World) (cats : Cats) (end : ℤ) → category_of w.environment ≡ category_by cats → parameter_of w.environment EndLineChar ≡ end → (old new : Option Rest) → w.pending ≡ text_members old → AfterScan cats end old scan.End new → taking w ≡ Finds-none (record w { pending = text_members new })
text-ends w cats end by_cats by_end None None are h = taking-next w (category_by cats) end [] _ by_cats by_end are (next-none (category_by cats) end)
text-ends w cats end by_cats by_end None (Some left) are h = let is = h.1 in cc
text-ends w cats end by_cats by_end (Some rest) None are h = absurd h
text-ends w cats end by_cats by_end (Some rest) (Some left) are h =
    taking-next w (category_by cats) end (Text rest ∷ []) _ by_cats by_end are (next-used (category_by cats) end rest left h)

text-breaks : (w : World) (cats : Cats) (end : ℤ) → category_of w.environment ≡ category_by cats → parameter_of w.environment EndLineChar ≡ end → (old new : Option Rest) → w.pending ≡ text_members old → AfterScan cats end old scan.Invalid new → taking w ≡ Breaks (failure (plain 2) (record w { pending = text_members new }))
text-breaks w cats end by_cats by_end None new are h = let is = h.0 in cc
text-breaks w cats end by_cats by_end (Some rest) None are h = absurd h
text-breaks w cats end by_cats by_end (Some rest) (Some left) are h =
    taking-next w (category_by cats) end (Text rest ∷ []) _ by_cats by_end are (next-halts (category_by cats) end rest left h)

module _ (view : View) (formats : List (List ℕ)) (base : World) where
  -- a list has the next token
  pub list-takes : (old new : Input) (lists : List Tok) (token : Tok) (t : Taken) → old.lists ≡ token ∷ lists → AfterStep (record old { lists = lists }) token t new → TakesBy view (input_in view formats base old) t new.wanted (input_in view formats base new)
  list-takes old new lists token (taken.Token t) are h =
      let w = input_in view formats base old in
      let members = singles (all_viewed view lists) ++ text_members old.text in
      let pending : w.pending ≡ Single (viewed view token) false ∷ members = ap (λ (ts : List Tok). singles (all_viewed view ts) ++ text_members old.text) are in
      let now : taking w ≡ Takes (present w (viewed view token)) (input_in view formats base (one_more (record old { lists = lists }))) =
      taking-next w (category_of w.environment) (parameter_of w.environment EndLineChar) (Single (viewed view token) false ∷ members) _ refl refl pending (next-single _ _ (viewed view token) members)
      ∙ first-stepped w (viewed view token) members (Single (viewed view token) false ∷ members) pending (has-step old.steps.spent old.steps.budget h.1) in
      subst (λ (x : Input). taking w ≡ Takes (present w (viewed view t)) (input_in view formats base x)) (sym h.2)
      (subst (λ (x : Tok). taking w ≡ Takes (present w (viewed view x)) (input_in view formats base (one_more (record old { lists = lists })))) (sym h.0) now)
  list-takes old new lists token taken.Spent are h =
      let w = input_in view formats base old in
      let members = singles (all_viewed view lists) ++ text_members old.text in
      let pending : w.pending ≡ Single (viewed view token) false ∷ members = ap (λ (ts : List Tok). singles (all_viewed view ts) ++ text_members old.text) are in
      taking-next w (category_of w.environment) (parameter_of w.environment EndLineChar) (Single (viewed view token) false ∷ members) _ refl refl pending (next-single _ _ (viewed view token) members)
      ∙ first-spent w (viewed view token) members (no-step old.steps.spent old.steps.budget h.0)
  list-takes old new lists token taken.Name are h = absurd h
  list-takes old new lists token taken.End are h = absurd h
  list-takes old new lists token taken.Invalid are h = absurd h
  list-takes old new lists token taken.Memory are h = absurd h

  -- with no list left, and these categories
  module _ (cats : Cats) (end : ℤ) (by_cats : category_of base.environment ≡ category_by cats) (by_end : parameter_of base.environment EndLineChar ≡ end) where
    text-next : (old : Input) (text : Option Rest) (token : Token) (gave : Gave cats end old.text token text) → old.lists ≡ [] → taking (input_in view formats base old) ≡ taken_from (input_in view formats base old) (First token false (Text gave.left ∷ []))
    text-next old text token gave none =
        taking-next (input_in view formats base old) (category_by cats) end (Text gave.rest ∷ []) _ by_cats by_end (text-pending view old.lists old.text gave.rest none gave.before) (next-gives (category_by cats) end gave.rest gave.left token gave.found)

    text-stepped : (old : Input) (text : Option Rest) (token : Token) (gave : Gave cats end old.text token text) → old.lists ≡ [] → old.steps.spent ≢ old.steps.budget → taking (input_in view formats base old) ≡ making (new_name (Text gave.rest ∷ []) token (input_in view formats base old)) (present (input_in view formats base old) token) (input_in view formats base (one_more (record old { text = text })))
    text-stepped old text token gave none more =
        let w = input_in view formats base old in
        text-next old text token gave none
        ∙ first-stepped w token (Text gave.left ∷ []) (Text gave.rest ∷ []) (text-pending view old.lists old.text gave.rest none gave.before) (has-step old.steps.spent old.steps.budget more)
        ∙ ap (λ (ms : List Member). making (new_name (Text gave.rest ∷ []) token w) (present w token) (stepped ms w)) (sym (text-pending view old.lists text gave.left none gave.after))

    text-spent : (old : Input) (text : Option Rest) (token : Token) (gave : Gave cats end old.text token text) → old.lists ≡ [] → old.steps.spent ≡ old.steps.budget → taking (input_in view formats base old) ≡ Spends (input_in view formats base old).output
    text-spent old text token gave none over =
        text-next old text token gave none ∙ first-spent (input_in view formats base old) token (Text gave.left ∷ []) (no-step old.steps.spent old.steps.budget over)

    -- the text has a name next
    pub name-takes : (old new : Input) (text : Option Rest) (name : List ℕ) (t : Taken) → Gave cats end old.text (private.Name name) text → old.lists ≡ [] → AfterName (record old { text = text }) name t new → TakesBy view (input_in view formats base old) t new.wanted (input_in view formats base new)
    name-takes old new text name taken.Name gave none h =
        let w = input_in view formats base old in
        subst (λ (x : Input). IsSomeAnd x.wanted (λ n. taking w ≡ making (new_text n (input_in view formats base x)) (present (input_in view formats base x) (private.Name n)) (input_in view formats base x))) (sym h.1)
        (text-stepped old text (private.Name name) gave none h.0)
    name-takes old new text name taken.Spent gave none h = text-spent old text (private.Name name) gave none h.0
    name-takes old new text name taken.Memory gave none h = tt
    name-takes old new text name (taken.Token t) gave none h = absurd h
    name-takes old new text name taken.End gave none h = absurd h
    name-takes old new text name taken.Invalid gave none h = absurd h

    -- the text has a character next, which makes no name
    pub char-takes : (old new : Input) (text : Option Rest) (token : Tok) (t : Taken) → (gave : Gave cats end old.text (viewed view token) text) → new_name (Text gave.rest ∷ []) (viewed view token) (input_in view formats base old) ≡ None → old.lists ≡ [] → AfterStep (record old { text = text }) token t new → TakesBy view (input_in view formats base old) t new.wanted (input_in view formats base new)
    char-takes old new text token (taken.Token t) gave no_name none h =
        let w = input_in view formats base old in
        let next = one_more (record old { text = text }) in
        let now : taking w ≡ Takes (present w (viewed view token)) (input_in view formats base next) =
        text-stepped old text (viewed view token) gave none h.1
        ∙ ap (λ (o : Option (List ℕ)). making o (present w (viewed view token)) (input_in view formats base next)) no_name in
        subst (λ (x : Input). taking w ≡ Takes (present w (viewed view t)) (input_in view formats base x)) (sym h.2)
        (subst (λ (x : Tok). taking w ≡ Takes (present w (viewed view x)) (input_in view formats base next)) (sym h.0) now)
    char-takes old new text token taken.Spent gave no_name none h = text-spent old text (viewed view token) gave none h.0
    char-takes old new text token taken.Name gave no_name none h = absurd h
    char-takes old new text token taken.End gave no_name none h = absurd h
    char-takes old new text token taken.Invalid gave no_name none h = absurd h
    char-takes old new text token taken.Memory gave no_name none h = absurd h

    -- nothing stands in the text, or there is none
    pub none-taken : (old : Input) (text : Option Rest) → old.lists ≡ [] → AfterScan cats end old.text scan.End text → taking (input_in view formats base old) ≡ Finds-none (input_in view formats base (record old { text = text }))
    none-taken old text none h =
        let w = input_in view formats base old in
        text-ends w cats end by_cats by_end old.text text (only-text view old.lists old.text none) h
        ∙ ap (λ (ms : List Member). Finds-none (record w { pending = ms })) (sym (only-text view old.lists text none))

    -- an invalid byte stands in the text
    pub text-halts : (old : Input) (text : Option Rest) → old.lists ≡ [] → AfterScan cats end old.text scan.Invalid text → taking (input_in view formats base old) ≡ Breaks (failure (plain 2) (input_in view formats base (record old { text = text })))
    text-halts old text none h =
        let w = input_in view formats base old in
        text-breaks w cats end by_cats by_end old.text text (only-text view old.lists old.text none) h
        ∙ ap (λ (ms : List Member). Breaks (failure (plain 2) (record w { pending = ms }))) (sym (only-text view old.lists text none))

-- what stands of the pending input without its lists
pub line-of-text : (tokens : List Token) (members : List Member) → line_number (singles tokens ++ members) ≡ line_number members
line-of-text [] members = refl
line-of-text (t ∷ tokens) members = line-of-text tokens members

pub only-line-of-text : (tokens : List Token) (members : List Member) → only_line (singles tokens ++ members) ≡ only_line members
only-line-of-text [] members = refl
only-line-of-text (t ∷ tokens) members = only-line-of-text tokens members

pub line-dropped : (text : Option Rest) → line_number (text_members (dropped text)) ≡ line_number (text_members text)
line-dropped None = refl
line-dropped (Some rest) = refl

pub only-line-dropped : (text : Option Rest) → only_line (text_members text) ≡ text_members (dropped text)
only-line-dropped None = refl
only-line-dropped (Some rest) = refl

pub count-of-lists : (tokens : List Token) (text : Option Rest) → pending_tokens (singles tokens ++ text_members text) ≡ length tokens
count-of-lists [] None = refl
count-of-lists [] (Some rest) = refl
count-of-lists (t ∷ tokens) text = let rest = count-of-lists tokens text in omega arith
