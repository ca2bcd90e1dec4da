-- A table of names that is made of distinct texts.
use Rattle.std.proofs.Common.{◌≡◌, length-take-le, get_or-take, ◌-◌, ◌+◌, ℕ, zero, suc, ◌<◌, List, [], ◌∷◌, ◌++◌, length, get_or, take, Option, None, Some, refl, sym, ap, subst, ◌∙◌, arith}
use Rattle.std.proofs.lemmas.Grind.{take_at_read}
use Rattle.tx_names.specs.Names.{Names, number_of, text_at, with_text, IsDistinct as NamesDiffer}
use Rattle.tx_names.proofs.TextLemmas.{at_number}
use Rattle.tx_format.specs.Formats.{IsFreezable, table_of}
use Rattle.tx_format.specs.declared.state.Engineless.{Engineless}
use Rattle.tx_format.proofs.PresetLemmas.{text_at-place}

-- a text doesn't stand before its place
fresh : (texts : List (List ℕ)) (i : ℕ) (t : List ℕ) → NamesDiffer (table_of texts) → i < length texts → get_or texts i [] ≡ t → number_of (table_of (take i texts)) t ≡ None
fresh texts i t differ lt is = by (number_of (table_of (take i texts)) t) refl
  where
    by : (r : Option ℕ) → number_of (table_of (take i texts)) t ≡ r → r ≡ None
    by None e = refl
    by (Some n) e =
        let found = at_number (table_of (take i texts)) t n e in
        let count : length (take i texts) ≡ i = length-take-le i texts (omega (arith, lt)) in
        let before : n < i = omega (arith, count, found.0.1) in
        let there : get_or texts n [] ≡ t = sym (get_or-take i texts n [] before) ∙ sym (text_at-place (take i texts) n) ∙ found.1 in
        let one : n ≡ i = differ n i (omega arith, omega (arith, before, lt)) (omega arith, omega (arith, lt)) (text_at-place texts n ∙ there ∙ sym is ∙ sym (text_at-place texts i)) in
        absurd (omega (arith, one, before))

any_default : (texts : List (List ℕ)) (i : ℕ) (d e : List ℕ) → i < length texts → get_or texts i e ≡ get_or texts i d
any_default [] i d e lt = absurd (omega (arith, lt))
any_default (t ∷ texts) zero d e lt = refl
any_default (t ∷ texts) (suc i) d e lt = any_default texts i d e (omega (arith, lt))

-- the next text joins the table of the texts before it
pub joined : (texts : List (List ℕ)) (i : ℕ) (d t : List ℕ) (table new : Names) → NamesDiffer (table_of texts) → i < length texts → get_or texts i d ≡ t → table ≡ table_of (take i texts) → (number_of table t ≡ None → new ≡ with_text t table) → new ≡ table_of (take (i + 1) texts)
joined texts i d t table new differ lt is was join =
    join (ap (λ names. number_of names t) was ∙ fresh texts i t differ lt (any_default texts i d [] lt ∙ is))
    ∙ ap (with_text t) was
    ∙ ap (λ l. table_of (take i texts ++ l ∷ [])) (sym is)
    ∙ ap table_of (sym (take_at_read texts i d lt).1)

-- the same names in the same state
pub freezable-with : (s : Engineless) (names : List (List ℕ)) → IsFreezable s → names ≡ s.names → IsFreezable (record { frozen = s.frozen; names = names; lists = s.lists; files = s.files })
freezable-with s names h is = subst (λ l. IsFreezable (record { frozen = s.frozen; names = l; lists = s.lists; files = s.files })) (sym is) h
