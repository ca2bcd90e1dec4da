-- Lists of tokens that are made token by token.
use Rattle.std.proofs.Common.{◌≡◌, ℕ, ◌+◌, ◌<◌, ◌≤◌, List, [], ◌∷◌, ◌++◌, map, take, length, get_or, refl, sym, ap, subst, ◌∙◌}
use Rattle.std.specs.List.{AllByRecursion}
use Rattle.std.proofs.lemmas.List.{take_all, take_more}

map-last : {X Y : Type 0} (f : X → Y) (xs : List X) (x : X) → map f (xs ++ x ∷ []) ≡ map f xs ++ f x ∷ []
map-last f [] x = refl
map-last f (y ∷ ys) x = ap (λ l. f y ∷ l) (map-last f ys x)

-- one more token is made of the next one
pub made-more : {X Y : Type 0} (f : X → Y) (h : Y → Y) (xs : List X) (i : ℕ) (out new : List X) (t x d : X) → i < length xs → new ≡ out ++ t ∷ [] → f t ≡ h (f x) → x ≡ get_or xs i d → map f out ≡ map h (map f (take i xs)) → map f new ≡ map h (map f (take (i + 1) xs))
made-more f h xs i out new t x d within new_is t_is is out_is =
    let next : take (i + 1) xs ≡ take i xs ++ x ∷ [] = take_more xs i d within ∙ ap (λ y. take i xs ++ y ∷ []) (sym is) in
    ap (map f) new_is
    ∙ map-last f out t
    ∙ (λ i. out_is i ++ t_is i ∷ [])
    ∙ sym (ap (λ l. map h (map f l)) next ∙ ap (map h) (map-last f (take i xs) x) ∙ map-last h (map f (take i xs)) (f x))

-- all of them are made
pub made-all : {X Y : Type 0} (f : X → Y) (h : Y → Y) (xs ys : List X) (i : ℕ) (out : List X) → length xs ≤ i → xs ≡ ys → map f out ≡ map h (map f (take i xs)) → map f out ≡ map h (map f ys)
made-all f h xs ys i out all same out_is = out_is ∙ ap (λ l. map h (map f l)) (take_all i xs all ∙ same)

module _ {X : Type 0} (P : X → Type 0) where
  all-with : (xs : List X) (x : X) → AllByRecursion P xs → P x → AllByRecursion P (xs ++ x ∷ [])
  all-with [] x all here = (here, tt)
  all-with (y ∷ ys) x all here = (all.0, all-with ys x all.1 here)

  all-parts : (xs : List X) (x : X) → AllByRecursion P (xs ++ x ∷ []) → AllByRecursion P xs × P x
  all-parts [] x all = (tt, all.0)
  all-parts (y ∷ ys) x all =
      let rest = all-parts ys x all.1 in
      ((all.0, rest.0), rest.1)

  -- what holds of the tokens so far holds of those that are made of them, and so of one more
  pub all-more : (xs : List X) (i : ℕ) (out new : List X) (t x d : X) → i < length xs → new ≡ out ++ t ∷ [] → (P x → P t) → x ≡ get_or xs i d → (AllByRecursion P (take i xs) → AllByRecursion P out) → AllByRecursion P (take (i + 1) xs) → AllByRecursion P new
  all-more xs i out new t x d within new_is t_is is out_is all =
      let next : take (i + 1) xs ≡ take i xs ++ x ∷ [] = take_more xs i d within ∙ ap (λ y. take i xs ++ y ∷ []) (sym is) in
      let parts = all-parts (take i xs) x (subst (AllByRecursion P) next all) in
      subst (AllByRecursion P) (sym new_is) (all-with out t (out_is parts.0) (t_is parts.1))

  -- and of all of them
  pub all-made : (xs ys : List X) (i : ℕ) (out : List X) → length xs ≤ i → xs ≡ ys → (AllByRecursion P (take i xs) → AllByRecursion P out) → AllByRecursion P ys → AllByRecursion P out
  all-made xs ys i out whole same out_is all = out_is (subst (AllByRecursion P) (sym (take_all i xs whole ∙ same)) all)
