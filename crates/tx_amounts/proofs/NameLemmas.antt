-- The numbers of names in tokens that are put together, and what is known of them.
use Rattle.std.proofs.Common.{◌≡◌, ℕ, ◌-◌, List, [], ◌∷◌, ◌++◌, length, take, drop, ◌⊎◌, inl, inr, Option, Some, None, refl, sym, ap, subst}
use Rattle.std.specs.Option.{option_to_list}
use Rattle.std.proofs.lemmas.List.{take-append-drop}
use Rattle.std.proofs.lemmas.Grind.{flat_map-append}
use Rattle.tx_tok.specs.declared.tok.Tok.{Tok}
use Rattle.tx_tok.specs.declared.tok.Tok.TheVariants as tok
use Rattle.tx_amounts.specs.declared.scan.Scan.{Scan}
use Rattle.tx_amounts.specs.Backs.{given, last_given}
use Rattle.tx_amounts.specs.Names.{IsName, Names, IsWithin, scan_tokens, IsKnown, AreKnown, KnowsScan}

pub names-front : (n : ℕ) (xs ys : List Tok) → Names n xs → Names n (xs ++ ys)
names-front n [] ys h = absurd h
names-front n (x ∷ xs) ys (inl h) = inl h
names-front n (x ∷ xs) ys (inr h) = inr (names-front n xs ys h)

pub names-behind : (n : ℕ) (xs ys : List Tok) → Names n ys → Names n (xs ++ ys)
names-behind n [] ys h = h
names-behind n (x ∷ xs) ys h = inr (names-behind n xs ys h)

pub names-parts : (n : ℕ) (xs ys : List Tok) → Names n (xs ++ ys) → Names n xs ⊎ Names n ys
names-parts n [] ys h = inr h
names-parts n (x ∷ xs) ys (inl h) = inl (inl h)
names-parts n (x ∷ xs) ys (inr h) = elim (names-parts n xs ys h) [ inl k ↦ inl (inr k) | inr k ↦ inr k ]

-- two lists within a third one are within it together
pub within-both : (xs ys zs : List Tok) → IsWithin xs zs → IsWithin ys zs → IsWithin (xs ++ ys) zs
within-both xs ys zs f g n h = elim (names-parts n xs ys h) [ inl k ↦ f n k | inr k ↦ g n k ]

-- what is put back was taken
pub within-last : (back : ℕ) (taken : List (Option Tok)) → IsWithin (last_given back taken) (given taken)
within-last back taken n h =
    subst (λ tokens. Names n tokens) (ap given (take-append-drop (length taken - back) taken))
    (subst (λ tokens. Names n tokens) (sym (flat_map-append option_to_list (take (length taken - back) taken) (drop (length taken - back) taken)))
    (names-behind n (given (take (length taken - back) taken)) (last_given back taken) h))

-- a token more was taken
within-more : (old : List (Option Tok)) (t : Option Tok) → IsWithin (given (old ++ t ∷ [])) (option_to_list t ++ given old)
within-more old t n h =
    elim (names-parts n (given old) (given (t ∷ [])) (subst (λ tokens. Names n tokens) (flat_map-append option_to_list old (t ∷ [])) h))
    [ inl k ↦ names-behind n (option_to_list t) (given old) k | inr k ↦ names-front n (option_to_list t) (given old) (only n t k) ]
  where
    only : (n : ℕ) (t : Option Tok) → Names n (given (t ∷ [])) → Names n (option_to_list t)
    only n None h = h
    only n (Some t) h = h

pub within-noted : (old new : List (Option Tok)) (t : Option Tok) (back : List Tok) → new ≡ old ++ t ∷ [] → IsWithin back (given new) → IsWithin (given new ++ back) (option_to_list t ++ given old)
within-noted old new t back e within =
    within-both (given new) back (option_to_list t ++ given old) all (λ n h. all n (within n h))
  where
    all : IsWithin (given new) (option_to_list t ++ given old)
    all n h = within-more old t n (subst (λ xs. Names n (given xs)) e h)

-- the tokens of a scan, beside those with which a quantity begins
pub within-scan : (begun old new back tokens : List Tok) → IsWithin (new ++ back) (tokens ++ old) → IsWithin ((begun ++ new) ++ back) (tokens ++ (begun ++ old))
within-scan begun old new back tokens within =
    within-both (begun ++ new) back (tokens ++ (begun ++ old))
    (within-both begun new (tokens ++ (begun ++ old))
    (λ n h. names-behind n tokens (begun ++ old) (names-front n begun old h))
    (λ n h. wider n (within n (names-front n new back h))))
    (λ n h. wider n (within n (names-behind n new back h)))
  where
    wider : (n : ℕ) → Names n (tokens ++ old) → Names n (tokens ++ (begun ++ old))
    wider n h = elim (names-parts n tokens old h) [ inl k ↦ names-front n tokens (begun ++ old) k | inr k ↦ names-behind n tokens (begun ++ old) (names-behind n begun old k) ]

-- of a token with a known number the number is known
name-known : (known : ℕ → Type 0) (t : Tok) → ((n : ℕ) → IsName n t → known n) → IsKnown known t
name-known known (tok.Char c b) h = tt
name-known known (tok.Name n) h = h n refl
name-known known (tok.Active b) h = tt
name-known known (tok.Param n) h = tt
name-known known tok.Stop h = tt

known-name : (known : ℕ → Type 0) (t : Tok) (n : ℕ) → IsKnown known t → IsName n t → known n
known-name known (tok.Char c b) n k h = absurd h
known-name known (tok.Name m) n k h = subst known (sym h) k
known-name known (tok.Active b) n k h = absurd h
known-name known (tok.Param m) n k h = absurd h
known-name known tok.Stop n k h = absurd h

names-known : (known : ℕ → Type 0) (tokens : List Tok) → ((n : ℕ) → Names n tokens → known n) → AreKnown known tokens
names-known known [] h = tt
names-known known (t ∷ tokens) h = (name-known known t (λ n k. h n (inl k)), names-known known tokens (λ n k. h n (inr k)))

known-names : (known : ℕ → Type 0) (tokens : List Tok) (n : ℕ) → AreKnown known tokens → Names n tokens → known n
known-names known [] n k h = absurd h
known-names known (t ∷ tokens) n k (inl h) = known-name known t n k.0 h
known-names known (t ∷ tokens) n k (inr h) = known-names known tokens n k.1 h

-- Where the numbers in some tokens are known, so are those in tokens within them.
pub known-within : (known : ℕ → Type 0) (tokens others : List Tok) → IsWithin tokens others → AreKnown known others → AreKnown known tokens
known-within known tokens others within k = names-known known tokens (λ n h. known-names known others n k (within n h))

-- What is known of the numbers in a scan and in what it is given is known of those in the scan afterwards, and in
-- what it puts back.
pub known-after : (known : ℕ → Type 0) (old new : Scan) (tokens back : List Tok) → IsWithin (scan_tokens new ++ back) (tokens ++ scan_tokens old) → AreKnown known tokens → KnowsScan known old → KnowsScan known new × AreKnown known back
known-after known old new tokens back within given-known old-known = (
  known-within known (scan_tokens new) (tokens ++ scan_tokens old) (λ n h. within n (names-front n (scan_tokens new) back h)) all,
  known-within known back (tokens ++ scan_tokens old) (λ n h. within n (names-behind n (scan_tokens new) back h)) all,
)
  where
    all : AreKnown known (tokens ++ scan_tokens old)
    all = names-known known (tokens ++ scan_tokens old) (λ n h. elim (names-parts n tokens (scan_tokens old) h) [ inl k ↦ known-names known tokens n given-known k | inr k ↦ known-names known (scan_tokens old) n old-known k ])
