-- A reading of the numbers that agrees with a list of names: a number beyond the list has a text that is longer than all of the
-- list's, by as much as the number says.
use Rattle.std.proofs.Common.{◌≡◌, ℕ, zero, suc, ◌+◌, ◌-◌, ◌≤◌, ◌<◌, ◌⊎◌, true, false, List, [], ◌∷◌, length, get_or, replicate, Option, Some, None, unwrap_or, option_map, slice_get, if◌then◌else◌, Bool, inl, inr, refl, sym, ap, ◌∙◌, arith}
use Rattle.std.specs.Str.{bytes_eq}
use Rattle.std.proofs.lemmas.Bool.{false≢true}
use Rattle.std.proofs.lemmas.List.{length-replicate}
use Rattle.std.proofs.lemmas.Slice.Eq.{bytes_eq-Decides}
use Rattle.std.proofs.lemmas.Option.{get_or_from_slice_get, slice_get_cases, slice_get_within}
use Rattle.tx_tok.specs.declared.tok.Tok.{Tok}
use Rattle.tx_tok.specs.declared.tok.ListRef.{ListRef}
use Rattle.tx_tok.specs.declared.tok.ListRef.TheVariants as list
use Rattle.tx_format.specs.Formats.{list_at}
use Rattle.tx_store.specs.Sessions.{Session, IsSound}
use Rattle.tx_store.specs.Steps.{content_of}
use Rattle.tx_scene.specs.Scenes.{Ground}
use Rattle.tx_engine.specs.Agreement.{Agrees}

-- the bytes of all texts
total : List (List ℕ) → ℕ
total [] = 0
total (text ∷ texts) = length text + total texts

at-most-total : (texts : List (List ℕ)) (i : ℕ) → length (get_or texts i []) ≤ total texts
unfolding total
at-most-total [] i = omega arith
at-most-total (text ∷ texts) zero = omega arith
at-most-total (text ∷ texts) (suc i) = let h = at-most-total texts i in omega arith

-- the place of a text in a list, if it is there
place : List (List ℕ) → List ℕ → Option ℕ
place [] text = None
place (t ∷ texts) text = if bytes_eq text t then Some 0 else option_map suc (place texts text)

-- the text stands there, or it is nowhere
abbrev Located : List (List ℕ) → List ℕ → Option ℕ → Type 0
Located texts text (Some k) = slice_get texts k ≡ Some text
Located texts text None = (n : ℕ) → slice_get texts n ≡ Some text → ⊥

later-nowhere : (t : List ℕ) (texts : List (List ℕ)) (text : List ℕ) → (text ≡ t → ⊥) → ((n : ℕ) → slice_get texts n ≡ Some text → ⊥) → (n : ℕ) → slice_get (t ∷ texts) n ≡ Some text → ⊥
later-nowhere t texts text other nowhere zero e = other (sym (ap (λ o. unwrap_or o []) e))
later-nowhere t texts text other nowhere (suc n) e = nowhere n e

located-later : (t : List ℕ) (texts : List (List ℕ)) (text : List ℕ) (o : Option ℕ) → (text ≡ t → ⊥) → Located texts text o → Located (t ∷ texts) text (option_map suc o)
located-later t texts text (Some k) other there = there
located-later t texts text None other nowhere = λ n e. later-nowhere t texts text other nowhere n e

located-by : (b : Bool) (t : List ℕ) (texts : List (List ℕ)) (text : List ℕ) → bytes_eq text t ≡ b → Located texts text (place texts text) → Located (t ∷ texts) text (if b then Some 0 else option_map suc (place texts text))
located-by true t texts text e rest = ap Some (sym ((bytes_eq-Decides text t).0 e))
located-by false t texts text e rest = located-later t texts text (place texts text) (λ same. absurd (false≢true (sym e ∙ (bytes_eq-Decides text t).1 same))) rest

none-there : (n : ℕ) (text : List ℕ) → slice_get [] n ≡ Some text → ⊥
none-there n text e = absurd (omega (arith, slice_get_within [] n text e))

located : (texts : List (List ℕ)) (text : List ℕ) → Located texts text (place texts text)
unfolding place
located [] text = λ n e. none-there n text e
located (t ∷ texts) text = located-by (bytes_eq text t) t texts text refl (located texts text)

module _ (texts : List (List ℕ)) where
  -- the text of a number beyond the list, and that of any number
  far : ℕ → List ℕ
  far n = replicate (1 + total texts + n) 0

  naming : ℕ → List ℕ
  naming n = unwrap_or (slice_get texts n) (far n)

  -- the number of a text, by its place in the list or by its length
  placed : Option ℕ → List ℕ → ℕ
  placed (Some k) text = k
  placed None text = length text - (1 + total texts)

  number : List ℕ → ℕ
  number text = placed (place texts text) text

  length-far : (n : ℕ) → length (far n) ≡ 1 + total texts + n
  unfolding far
  length-far n = length-replicate (1 + total texts + n) 0

  module _ (distinct : (n m : ℕ) (text : List ℕ) → slice_get texts n ≡ Some text → slice_get texts m ≡ Some text → n ≡ m) where
    -- a text of the list has its place, and one beyond the list its length
    placed-within : (n : ℕ) (text : List ℕ) → slice_get texts n ≡ Some text → (o : Option ℕ) → Located texts text o → placed o text ≡ n
    unfolding placed
    placed-within n text here (Some k) there = distinct k n text there here
    placed-within n text here None nowhere = absurd (nowhere n here)

    placed-beyond : (n : ℕ) (o : Option ℕ) → Located texts (far n) o → placed o (far n) ≡ n
    unfolding placed
    placed-beyond n (Some k) there =
        absurd (omega (arith, ap length (get_or_from_slice_get texts k (far n) [] there), length-far n, at-most-total texts k))
    placed-beyond n None nowhere = omega (arith, length-far n)

    number-by : (n : ℕ) → ((text : List ℕ) × (n < length texts) × (slice_get texts n ≡ Some text) × (get_or texts n text ≡ text)) ⊎ ((length texts ≤ n) × (slice_get texts n ≡ None)) → number (naming n) ≡ n
    unfolding number naming
    number-by n (inl there) =
        ap number (ap (λ o. unwrap_or o (far n)) there.2) ∙ placed-within n there.0 there.2 (place texts there.0) (located texts there.0)
    number-by n (inr beyond) =
        ap number (ap (λ o. unwrap_or o (far n)) beyond.1) ∙ placed-beyond n (place texts (far n)) (located texts (far n))

    number-of-naming : (n : ℕ) → number (naming n) ≡ n
    number-of-naming n = number-by n (slice_get_cases texts n).1

-- what lists have, as a session has them
contents : Session → ListRef → List Tok
contents session list.Empty = []
contents session (list.Frozen k) = list_at session.format.lists k
contents session (list.Pooled id) = content_of (session.row id)

ground_of : Session → List (List ℕ) → Ground
ground_of session texts = record {
  view = record { naming = naming texts; number = number texts; content = contents session };
  formats = session.format.names;
}

-- a session that knows the names of a list has a reading that agrees with it
pub reading-of : (session : Session) (texts : List (List ℕ)) → IsSound session → ((n : ℕ) → session.names n ≡ slice_get texts n) → (g : Ground) × Agrees session g
unfolding naming contents ground_of
reading-of session texts sound are = (
  ground_of session texts,
  record {
    view = record { apart = number-of-naming texts (λ n m text a b. sound.distinct n m text (are n ∙ a) (are m ∙ b)); empty = refl };
    formats = refl;
    names = λ n text known. ap (λ o. unwrap_or o (far texts n)) (sym (are n) ∙ known);
    lists = λ k within. refl;
    row = λ id holding held. ap content_of held;
  },
)
