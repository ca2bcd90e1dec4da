-- What a name's text and its number come to.
use Rattle.std.proofs.Common.{◌≡◌, ◌⊎◌, inl, inr, ℕ, zero, suc, ◌+◌, ◌<◌, ◌==◌, ◌||◌, Bool, true, false, List, [], ◌∷◌, length, get_or, drop, nat_le, nat_lt, pos, Option, None, Some, if◌then◌else◌, refl, ap, ◌∙◌, sym, subst, arith, true≢false}
use Rattle.std.specs.List.{list_any}
use Rattle.std.specs.Str.{bytes_eq}
use Rattle.std.proofs.lemmas.Bool.Decides.{same_from_decides, Decides-eqb, Decides-ltb}
use Rattle.std.proofs.lemmas.List.{length-map, get_or_default}
use Rattle.std.proofs.lemmas.List.Folds.{Any-from_list_any, list_any_at}
use Rattle.std.proofs.lemmas.Slice.Eq.{bytes_eq-Decides}
use Rattle.tx_private.specs.Errors.{numbered}
use Rattle.tx_private.specs.World.{World, Command, Taking, failure, Takes, Breaks, making, made, total_length}
use Rattle.tx_tok.specs.declared.tok.Tok.TheVariants as tok
use Rattle.tx_views.specs.Views.{View, IsView}
use Rattle.tx_input.specs.declared.input.Input.{Input}
use Rattle.tx_input.specs.declared.owned.NameLimit.{NameLimit}
use Rattle.tx_input.specs.declared.owned.NameLimit.TheVariants as limit
use Rattle.tx_input.specs.Owned.{Own, texts_of, has_number, bytes_of, AreCounted, limit_for, error_of}
use Rattle.tx_input.specs.Worlds.{input_in, IsOf, has_name, IsUnnamed, new_text, wanted_text}
use Rattle.tx_input.specs.Takings.{limit_in, names_with, IsNumbered, Refuses, HasRoom}

-- the bytes that are counted are those of the texts
pub bytes-counted : (naming : ℕ → List ℕ) (own : Own) → AreCounted naming own → bytes_of own ≡ total_length (texts_of naming own)
bytes-counted naming [] h = refl
bytes-counted naming (o ∷ own) h = h.0

-- the first names are counted
pub counted-drop : (naming : ℕ → List ℕ) (k : ℕ) (own : Own) → AreCounted naming own → AreCounted naming (drop k own)
counted-drop naming zero own h = h
counted-drop naming (suc k) [] h = tt
counted-drop naming (suc k) (o ∷ own) h = counted-drop naming k own h.1

-- the limits as a choice
abbrev by_limit : Option NameLimit → List ℕ → Command → World → Taking
by_limit None text command w = Takes command (record w { names = text ∷ w.names })
by_limit (Some l) text command w = Breaks (failure (error_of l) w)

choose : (a b c : Bool) (text : List ℕ) (command : Command) (w : World) →
    (if a then Breaks (failure (numbered 57 0 (pos 0)) w) else (if b then Breaks (failure (numbered 57 1 (pos 0)) w) else (if c then Breaks (failure (numbered 57 2 (pos 0)) w) else Takes command (record w { names = text ∷ w.names }))))
    ≡ by_limit (if a then Some limit.Number else (if b then Some limit.Bytes else (if c then Some limit.Length else None))) text command w
choose true b c text command w = refl
choose false true c text command w = refl
choose false false true text command w = refl
choose false false false text command w = refl

made-by : (text : List ℕ) (command : Command) (w : World) (own : Own) → length w.names ≡ length own → total_length w.names ≡ bytes_of own → made text command w ≡ by_limit (limit_for (length text) own) text command w
made-by text command w own count bytes =
    ap (λ (k : ℕ). if nat_le 65536 k then Breaks (failure (numbered 57 0 (pos 0)) w) else (if nat_lt 4194304 (total_length w.names + length text) then Breaks (failure (numbered 57 1 (pos 0)) w) else (if nat_lt 1024 (length text) then Breaks (failure (numbered 57 2 (pos 0)) w) else Takes command (record w { names = text ∷ w.names })))) count
    ∙ ap (λ (k : ℕ). if nat_le 65536 (length own) then Breaks (failure (numbered 57 0 (pos 0)) w) else (if nat_lt 4194304 (k + length text) then Breaks (failure (numbered 57 1 (pos 0)) w) else (if nat_lt 1024 (length text) then Breaks (failure (numbered 57 2 (pos 0)) w) else Takes command (record w { names = text ∷ w.names })))) bytes
    ∙ choose (nat_le 65536 (length own)) (nat_lt 4194304 (bytes_of own + length text)) (nat_lt 1024 (length text)) text command w

-- whether a name of the session has a text
or-first : (a b : Bool) → a ≡ true → (a || b) ≡ true
or-first true b e = refl
or-first false b e = absurd (true≢false (sym e))

or-second : (a b : Bool) → b ≡ true → (a || b) ≡ true
or-second true b e = refl
or-second false b e = e

case-of : (b : Bool) → (b ≡ true) ⊎ (b ≡ false)
case-of true = inl refl
case-of false = inr refl

-- a number with a text of the session's own names
own-named : (naming : ℕ → List ℕ) (text : List ℕ) (own : Own) → list_any (bytes_eq text) (texts_of naming own) ≡ true → (n : ℕ) × (has_number n own ≡ true) × (naming n ≡ text)
own-named naming text [] h = absurd (true≢false (sym h))
own-named naming text (o ∷ own) h = by (case-of (bytes_eq text (naming o.0))) (own-named naming text own)
  where
    by : (bytes_eq text (naming o.0) ≡ true) ⊎ (bytes_eq text (naming o.0) ≡ false) → (list_any (bytes_eq text) (texts_of naming own) ≡ true → (n : ℕ) × (has_number n own ≡ true) × (naming n ≡ text)) → (n : ℕ) × (has_number n (o ∷ own) ≡ true) × (naming n ≡ text)
    by (inl same) rest = (o.0, or-first (o.0 == o.0) (has_number o.0 own) ((Decides-eqb o.0 o.0).1 refl), sym ((bytes_eq-Decides text (naming o.0)).0 same))
    by (inr other) rest =
        let found = rest (ap (λ (b : Bool). b || list_any (bytes_eq text) (texts_of naming own)) (sym other) ∙ h) in
        (found.0, or-second (found.0 == o.0) (has_number found.0 own) found.1, found.2)

-- a number with a text of the format's names
format-named : (formats : List (List ℕ)) (text : List ℕ) → list_any (bytes_eq text) formats ≡ true → (n : ℕ) × (n < length formats) × (get_or formats n [] ≡ text)
format-named formats text h =
    let found = Any-from_list_any (bytes_eq text) formats h in
    (found.0, found.2, get_or_default formats found.0 [] found.1 found.2 ∙ found.3 ∙ sym ((bytes_eq-Decides text found.1).0 found.4))

-- In a view that keeps numbers apart, a text is that of a name exactly where its number is.
module _ (view : View) (apart : IsView view) (text : List ℕ) (n : ℕ) (is : view.naming n ≡ text) where
  same-number : (m : ℕ) → view.naming m ≡ text → n ≡ m
  same-number m e = sym (apart.apart n) ∙ ap view.number (is ∙ sym e) ∙ apart.apart m

  text-at : (m : ℕ) → bytes_eq text (view.naming m) ≡ (n == m)
  text-at m = same_from_decides (bytes_eq text (view.naming m)) (n == m)
      (λ e. same-number m (sym ((bytes_eq-Decides text (view.naming m)).0 e)), λ e. (bytes_eq-Decides text (view.naming m)).1 (sym is ∙ ap view.naming e))
      (Decides-eqb n m)

  own-text : (own : Own) → list_any (bytes_eq text) (texts_of view.naming own) ≡ has_number n own
  own-text [] = refl
  own-text (o ∷ own) =
      ap (λ (b : Bool). b || list_any (bytes_eq text) (texts_of view.naming own)) (text-at o.0) ∙ ap (λ (b : Bool). (n == o.0) || b) (own-text own)

  format-text : (formats : List (List ℕ)) → ((m : ℕ) → m < length formats → view.naming m ≡ get_or formats m []) → list_any (bytes_eq text) formats ≡ nat_lt n (length formats)
  format-text formats texts = same_from_decides (list_any (bytes_eq text) formats) (nat_lt n (length formats)) (
    λ e.
        let found = format-named formats text e in
        subst (λ (m : ℕ). m < length formats) (sym (same-number found.0 (texts found.0 found.1 ∙ found.2))) found.1,
    λ less.
        list_any_at (bytes_eq text) formats n [] less ((bytes_eq-Decides text (get_or formats n [])).1 (sym is ∙ texts n less)),
  )
      (Decides-ltb n (length formats))

  named-text : (formats : List (List ℕ)) (input : Input) → IsOf formats view input → (list_any (bytes_eq text) formats || list_any (bytes_eq text) (texts_of view.naming input.names)) ≡ has_name n input
  named-text formats input h =
      ap (λ (b : Bool). b || list_any (bytes_eq text) (texts_of view.naming input.names)) (format-text formats h.format.texts ∙ ap (nat_lt n) (sym h.format.number))
      ∙ ap (λ (b : Bool). nat_lt n input.format_names || b) (own-text input.names)

-- no name has a text that no number has
unnamed-text : (view : View) (formats : List (List ℕ)) (input : Input) (text : List ℕ) → IsOf formats view input → IsUnnamed view input text → (list_any (bytes_eq text) formats || list_any (bytes_eq text) (texts_of view.naming input.names)) ≡ false
unnamed-text view formats input text h unnamed =
    ap (λ (b : Bool). b || list_any (bytes_eq text) (texts_of view.naming input.names)) no-format ∙ no-own
  where
    none : (b : Bool) → (b ≡ true → ⊥) → b ≡ false
    none true never = absurd (never refl)
    none false never = refl

    no-format : list_any (bytes_eq text) formats ≡ false
    no-format = none (list_any (bytes_eq text) formats)
        (λ e.
        let found = format-named formats text e in
        let less : found.0 < input.format_names = subst (λ (k : ℕ). found.0 < k) (sym h.format.number) found.1 in
        unnamed found.0 (or-first (nat_lt found.0 input.format_names) (has_number found.0 input.names) ((Decides-ltb found.0 input.format_names).1 less)) (h.format.texts found.0 found.1 ∙ found.2))

    no-own : list_any (bytes_eq text) (texts_of view.naming input.names) ≡ false
    no-own = none (list_any (bytes_eq text) (texts_of view.naming input.names))
        (λ e.
        let found = own-named view.naming text input.names e in
        unnamed found.0 (or-second (nat_lt found.0 input.format_names) (has_number found.0 input.names) found.1) found.2)

-- what making a new name comes to
module _ (view : View) (formats : List (List ℕ)) (base : World) (command : Command) (input : Input) (of : IsOf formats view input) where
  new-made : made (wanted_text input) command (input_in view formats base input) ≡ by_limit (limit_in input) (wanted_text input) command (input_in view formats base input)
  new-made =
      made-by (wanted_text input) command (input_in view formats base input) input.names
      (length-map input.names (λ o. view.naming o.0))
      (sym (bytes-counted view.naming input.names of.counted))

  making-by : (b : Bool) → (list_any (bytes_eq (wanted_text input)) formats || list_any (bytes_eq (wanted_text input)) (texts_of view.naming input.names)) ≡ b → making (new_text (wanted_text input) (input_in view formats base input)) command (input_in view formats base input) ≡ making (if b then None else Some (wanted_text input)) command (input_in view formats base input)
  making-by b e = ap (λ (x : Bool). making (if x then None else Some (wanted_text input)) command (input_in view formats base input)) e

  making-refused : (l : NameLimit) → limit_in input ≡ Some l → (list_any (bytes_eq (wanted_text input)) formats || list_any (bytes_eq (wanted_text input)) (texts_of view.naming input.names)) ≡ false → making (new_text (wanted_text input) (input_in view formats base input)) command (input_in view formats base input) ≡ Breaks (failure (error_of l) (input_in view formats base input))
  making-refused l full new =
      making-by false new ∙ new-made ∙ ap (λ (o : Option NameLimit). by_limit o (wanted_text input) command (input_in view formats base input)) full

pub refuses-number : (n : ℕ) (input : Input) (l : NameLimit) → has_name n input ≡ false → limit_in input ≡ Some l → Refuses (Some n) l input
refuses-number n input l new full view formats base command of views =
    making-refused view formats base command input of l full (named-text view views.0 (wanted_text input) n views.1 formats input of ∙ new)

pub refuses-none : (input : Input) (l : NameLimit) → limit_in input ≡ Some l → Refuses None l input
refuses-none input l full view formats base command of unnamed =
    making-refused view formats base command input of l full (unnamed-text view formats input (wanted_text input) of unnamed)

pub has-room-for : (input : Input) → limit_in input ≡ None → HasRoom input
has-room-for input room view formats base command of =
    let w = input_in view formats base input in
    new-made view formats base command input of ∙ ap (λ (o : Option NameLimit). by_limit o (wanted_text input) command w) room

-- an input whose wanted text has this number, which is new or not
abbrev numbered-with : Bool → ℕ → Input → Input
numbered-with b n input = record input { names = if b then input.names else (n, bytes_of input.names + length (wanted_text input)) ∷ input.names; wanted = None }

module _ (n : ℕ) (input : Input) (room : (has_name n input ≡ true) ⊎ (limit_in input ≡ None)) where
  number-takes : (b : Bool) → has_name n input ≡ b → (view : View) (formats : List (List ℕ)) (base : World) (command : Command) → IsView view → IsOf formats view input → view.naming n ≡ wanted_text input → making (new_text (wanted_text input) (input_in view formats base input)) command (input_in view formats base input) ≡ Takes command (input_in view formats base (numbered-with b n input))
  number-takes true e view formats base command apart of is =
      making-by view formats base command input of true (named-text view apart (wanted_text input) n is formats input of ∙ e)
  number-takes false e view formats base command apart of is =
      let w = input_in view formats base input in
      making-by view formats base command input of false (named-text view apart (wanted_text input) n is formats input of ∙ e)
      ∙ new-made view formats base command input of
      ∙ ap (λ (o : Option NameLimit). by_limit o (wanted_text input) command w) (has-room room)
      ∙ ap (λ (text : List ℕ). Takes command (record w { names = text ∷ w.names })) (sym is)
    where
      has-room : (has_name n input ≡ true) ⊎ (limit_in input ≡ None) → limit_in input ≡ None
      has-room (inl known) = absurd (true≢false (sym known ∙ e))
      has-room (inr none) = none

  number-view : (b : Bool) (view : View) (formats : List (List ℕ)) → IsOf formats view input → view.naming n ≡ wanted_text input → IsOf formats view (numbered-with b n input)
  number-view true view formats of is = record { format = of.format; counted = of.counted }
  number-view false view formats of is =
      let earlier = bytes-counted view.naming input.names of.counted in
      let len = ap length is in
      record { format = of.format; counted = (omega (arith, earlier, len), of.counted) }

  pub names-wanted : (new : Input) → new ≡ record input { names = names_with n input; wanted = None } → IsNumbered n input (tok.Name n) new
  names-wanted new becomes = record {
    token = refl;
    becomes = becomes;
    takes = λ view formats base command apart of is.
        number-takes (has_name n input) refl view formats base command apart of is ∙ ap (λ (x : Input). Takes command (input_in view formats base x)) (sym becomes);
    view = λ view formats of is. subst (IsOf formats view) (sym becomes) (number-view (has_name n input) view formats of is);
  }
