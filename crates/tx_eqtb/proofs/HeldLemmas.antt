-- What a change of a table does to the meanings that it holds.
use Rattle.std.proofs.Common.{◌≡◌, ℕ, ◌+◌, cond, List, [], ◌∷◌, ◌++◌, Some, sum_by, refl, ap, ◌∙◌, arith}
use Rattle.std.specs.Map.{values_of}
use Rattle.std.proofs.lemmas.List.Sums.{sum_by-cons, sum_by-append}
use Rattle.indexmap.specs.IndexMap.{insert_entry}
use Rattle.tx_eqtb.specs.declared.addr.Addr.{Addr}
use Rattle.tx_eqtb.specs.declared.meaning.Meaning.{Meaning}
use Rattle.tx_eqtb.specs.declared.meaning.Before.{Before}
use Rattle.tx_eqtb.specs.declared.meaning.Before.TheVariants as was
use Rattle.tx_eqtb.specs.Addresses.{same, entry_at}
use Rattle.tx_eqtb.specs.Tables.{Table, in_note, kept, held, SameCounts}
use Rattle.tx_eqtb.proofs.EntryLemmas.{sum_by-inserted}

-- a sum over the values, with one at the end
sum_by-pushed : {V : Type 0} (g : V → ℕ) (es : List (Addr × V)) (p : Addr × V) → sum_by g (values_of (es ++ p ∷ [])) ≡ sum_by g (values_of es) + g p.1
sum_by-pushed g [] p = omega (arith, sum_by-cons g p.1 [])
sum_by-pushed g (e ∷ es) p = omega (arith, sum_by-cons g e.1 (values_of es), sum_by-cons g e.1 (values_of (es ++ p ∷ [])), sum_by-pushed g es p)

module _ {B : Type 0} where
  -- a sum over what a journal keeps, as one over its notes
  pub sum_by-kept : (w : Meaning B → ℕ) (js : List (Addr × Before B)) → sum_by w (kept js) ≡ sum_by (λ b. sum_by w (in_note b)) (values_of js)
  sum_by-kept w [] = refl
  sum_by-kept w (e ∷ js) =
      let g : Before B → ℕ = λ b. sum_by w (in_note b) in
      omega (arith, sum_by-append w (in_note e.1) (kept js), sum_by-cons g e.1 (values_of js), sum_by-kept w js)

  -- a first change of an address that has an entry
  pub held-kept : (t : Table B) (es : List (Addr × Meaning B)) (ks js : List (Addr × Before B)) (at : Addr) (m old : Meaning B) → entry_at t.entries at ≡ Some old → es ≡ insert_entry same t.entries at m → ks ≡ t.journal → js ≡ ks ++ (at, was.Kept old) ∷ [] → SameCounts (m ∷ held t) (values_of es ++ kept js)
  held-kept t es ks js at m old found es_is ks_is js_is test =
      let w : Meaning B → ℕ = λ x. cond (test x) 1 0 in
      let g : Before B → ℕ = λ b. sum_by w (in_note b) in
      let put = sum_by-inserted w t.entries at m old found in
      let journal = ap (λ l. sum_by g (values_of l)) js_is ∙ sum_by-pushed g ks (at, was.Kept old) ∙ ap (λ l. sum_by g (values_of l) + g (was.Kept old)) ks_is in
      omega (arith, put, journal, ap (λ l. sum_by w (values_of l)) es_is, sum_by-cons w old [], sum_by-cons w m (held t), sum_by-append w (values_of t.entries) (kept t.journal), sum_by-append w (values_of es) (kept js), sum_by-kept w t.journal, sum_by-kept w js)

  -- a first change of an address that has none
  pub held-new : (t : Table B) (es : List (Addr × Meaning B)) (ks js : List (Addr × Before B)) (at : Addr) (m : Meaning B) → es ≡ t.entries ++ (at, m) ∷ [] → ks ≡ t.journal → js ≡ ks ++ (at, was.Frozen) ∷ [] → SameCounts (m ∷ held t) (values_of es ++ kept js)
  held-new t es ks js at m es_is ks_is js_is test =
      let w : Meaning B → ℕ = λ x. cond (test x) 1 0 in
      let g : Before B → ℕ = λ b. sum_by w (in_note b) in
      let put = ap (λ l. sum_by w (values_of l)) es_is ∙ sum_by-pushed w t.entries (at, m) in
      let journal = ap (λ l. sum_by g (values_of l)) js_is ∙ sum_by-pushed g ks (at, was.Frozen) ∙ ap (λ l. sum_by g (values_of l) + g was.Frozen) ks_is in
      omega (arith, put, journal, sum_by-cons w m (held t), sum_by-append w (values_of t.entries) (kept t.journal), sum_by-append w (values_of es) (kept js), sum_by-kept w t.journal, sum_by-kept w js)

  -- a note leaves the journal, and what it says goes back into the entries
  pub held-restored : (t u : Table B) (b : Before B) (m : Meaning B) → ((g : Before B → ℕ) → sum_by g (values_of u.journal) + g b ≡ sum_by g (values_of t.journal)) → SameCounts (in_note b ++ values_of t.entries) (m ∷ values_of u.entries) → SameCounts (held t) (m ∷ held u)
  held-restored t u b m journal entries test =
      let w : Meaning B → ℕ = λ x. cond (test x) 1 0 in
      let g : Before B → ℕ = λ x. sum_by w (in_note x) in
      omega (arith, journal g, entries test, sum_by-append w (in_note b) (values_of t.entries), sum_by-cons w m (values_of u.entries), sum_by-cons w m (held u), sum_by-append w (values_of t.entries) (kept t.journal), sum_by-append w (values_of u.entries) (kept u.journal), sum_by-kept w t.journal, sum_by-kept w u.journal)

  -- a note without a meaning leaves the journal
  pub kept-frozen : (js ks : List (Addr × Before B)) (b : Before B) → ((g : Before B → ℕ) → sum_by g (values_of ks) + g b ≡ sum_by g (values_of js)) → b ≡ was.Frozen → SameCounts (kept js) (kept ks)
  kept-frozen js ks b journal is test =
      let w : Meaning B → ℕ = λ x. cond (test x) 1 0 in
      let g : Before B → ℕ = λ x. sum_by w (in_note x) in
      omega (arith, journal g, ap g is, sum_by-kept w js, sum_by-kept w ks)

  -- a note with its meaning leaves the journal
  pub kept-kept : (js ks : List (Addr × Before B)) (b : Before B) (m : Meaning B) → ((g : Before B → ℕ) → sum_by g (values_of ks) + g b ≡ sum_by g (values_of js)) → b ≡ was.Kept m → SameCounts (kept js) (m ∷ kept ks)
  kept-kept js ks b m journal is test =
      let w : Meaning B → ℕ = λ x. cond (test x) 1 0 in
      let g : Before B → ℕ = λ x. sum_by w (in_note x) in
      omega (arith, journal g, ap g is, sum_by-cons w m [], sum_by-cons w m (kept ks), sum_by-kept w js, sum_by-kept w ks)
