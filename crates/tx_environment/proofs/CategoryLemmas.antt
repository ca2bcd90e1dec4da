-- What assignments make of tables of categories.
use Rattle.std.proofs.Common.{◌≡◌, ℕ, ◌<◌, suc, zero, ◌==◌, ◌&&◌, nat_lt, Bool, true, false, ℤ, pos, Option, None, Some, List, [], ◌∷◌, ◌++◌, map, reverse, length, get_or, if◌then◌else◌, arith, refl, sym, ap, subst, ◌∙◌}
use Rattle.tx_model.specs.declared.category.Cat.{Cat}
use Rattle.tx_model.specs.declared.category.Cat.TheVariants as cat
use Rattle.tx_scan.specs.declared.cats.Cats.{Cats}
use Rattle.tx_scan.specs.Scans.{category_by}
use Rattle.tx_node.specs.declared.BoxNode.{BoxNode}
use Rattle.tx_eqtb.specs.declared.addr.AddrKind.TheVariants as kind
use Rattle.tx_eqtb.specs.declared.meaning.Meaning.{Meaning}
use Rattle.tx_eqtb.specs.declared.meaning.Meaning.TheVariants as meaning
use Rattle.tx_eqtb.specs.declared.meaning.RegKind.TheVariants as reg
use Rattle.tx_eqtb.specs.Addresses.{same, update}
use Rattle.tx_eqtb.specs.Meanings.{Map}
use Rattle.std.proofs.lemmas.List.{reverse-append}
use Rattle.tx_prims.specs.declared.primitives.Primitive.{Primitive}
use Rattle.tx_prims.specs.Primitives.{primitive_at}
use Rattle.tx_private.specs.Categories.{category_numbered}
use Rattle.tx_save.specs.declared.group.Group.{Group}
use Rattle.tx_private.specs.Meanings.{OfCode, CatCodes}
use Rattle.tx_private.specs.Environment.{integer_in, category_of}
use Rattle.tx_views.specs.declared.place.CodeTable.TheVariants as table
use Rattle.tx_views.specs.declared.place.Place.{Place}
use Rattle.tx_views.specs.declared.place.Place.TheVariants as place
use Rattle.tx_views.specs.Views.{View}
use Rattle.tx_views.specs.Places.{numbered, addr_of}
use Rattle.tx_views.specs.Meanings.{meaning_in, primitive_in}
use Rattle.tx_views.specs.Environments.{environment_of}
use Rattle.tx_environment.proofs.LevelLemmas.{present-is}
use Rattle.tx_environment.specs.Soundness.{category_given, category_in, AreCategories, Pairwise}
use Rattle.tx_environment.specs.Changes.{is_category_of, IsGiven, IsGivenAround}

-- the category that a meaning gives is that of its integer
pub category-integer : (view : View) (m : Meaning BoxNode) → category_given m ≡ category_numbered (integer_in (meaning_in view m))
category-integer view (meaning.Prim place) = by (primitive_at place)
  where
    by : (p : Option Primitive) → category_numbered (pos 0) ≡ category_numbered (integer_in (primitive_in p))
    by None = refl
    by (Some p) = refl
category-integer view m = refl

-- the categories of the map now are the present ones
pub categories-are : (view : View) (cats : Cats) (m : Map BoxNode) (maps : List (Map BoxNode)) (gs : List Group) → AreCategories cats m → category_by cats ≡ category_of (environment_of view m maps gs)
categories-are view cats m maps gs are =
    let each : (b : ℕ) → category_by cats b ≡ category_of (environment_of view m maps gs) b = λ b.
    are b ∙ ap (λ c. if nat_lt b 256 then c else cat.Other) (category-integer view (m (numbered kind.CatCode b)) ∙ ap (λ f. category_numbered (integer_in (f (OfCode CatCodes b)))) (sym (present-is view m maps gs))) in
    λ i b. each b i

and_false : (a : Bool) → (a && false) ≡ false
and_false true = refl
and_false false = refl

chosen : (n s : Bool) (x y : Meaning BoxNode) → (if n && s then category_given x else (if n then category_given y else cat.Other)) ≡ (if n then category_given (if s then x else y) else cat.Other)
chosen true true x y = refl
chosen true false x y = refl
chosen false s x y = refl

-- a place is that of a byte's category where its address is
category-place : (p : Place) (b : ℕ) → is_category_of p b ≡ (nat_lt b 256 && same (addr_of p) (numbered kind.CatCode b))
category-place (place.Code table.Categories c) b = refl
category-place (place.Register reg.Count n) b = sym (and_false (nat_lt b 256))
category-place p b = sym (and_false (nat_lt b 256))

-- an assignment to a place, and to the table of categories
pub given-is : (p : Place) (x : Meaning BoxNode) (old new : Cats) (m : Map BoxNode) → IsGiven p (category_given x) old new → AreCategories old m → AreCategories new (update m (addr_of p) x)
given-is p x old new m given are b =
    given b
    ∙ ap (λ c. if is_category_of p b then category_given x else c) (are b)
    ∙ ap (λ c. if c then category_given x else category_in m b) (category-place p b)
    ∙ chosen (nat_lt b 256) (same (addr_of p) (numbered kind.CatCode b)) x (m (numbered kind.CatCode b))

-- the same of all levels
given-all : (p : Place) (x : Meaning BoxNode) (old new : List Cats) (maps : List (Map BoxNode)) → Pairwise (IsGiven p (category_given x)) old new → Pairwise AreCategories old maps → Pairwise AreCategories new (map (λ f. update f (addr_of p) x) maps)
given-all p x [] [] [] given are = tt
given-all p x [] [] (m ∷ maps) given are = absurd are
given-all p x [] (n ∷ new) maps given are = absurd given
given-all p x (o ∷ old) [] maps given are = absurd given
given-all p x (o ∷ old) (n ∷ new) [] given are = absurd are
given-all p x (o ∷ old) (n ∷ new) (m ∷ maps) given are = (given-is p x o n m given.0 are.0, given-all p x old new maps given.1 are.1)

module _ {X Y : Type 0} (R : X → Y → Type 0) where
  -- what holds at each index holds one by one
  pub pairwise-from : (d : X) (e : Y) (xs : List X) (ys : List Y) → length xs ≡ length ys → ((k : ℕ) → k < length xs → R (get_or xs k d) (get_or ys k e)) → Pairwise R xs ys
  pairwise-from d e [] [] same h = tt
  pairwise-from d e [] (y ∷ ys) same h = absurd (omega (arith, same))
  pairwise-from d e (x ∷ xs) [] same h = absurd (omega (arith, same))
  pairwise-from d e (x ∷ xs) (y ∷ ys) same h =
      (h zero (omega arith), pairwise-from d e xs ys (omega (arith, same)) (λ k lt. h (suc k) (omega (arith, lt))))

  pairwise-append : (xs zs : List X) (ys ws : List Y) → Pairwise R xs ys → Pairwise R zs ws → Pairwise R (xs ++ zs) (ys ++ ws)
  pairwise-append [] zs [] ws h k = k
  pairwise-append [] zs (y ∷ ys) ws h k = absurd h
  pairwise-append (x ∷ xs) zs [] ws h k = absurd h
  pairwise-append (x ∷ xs) zs (y ∷ ys) ws h k = (h.0, pairwise-append xs zs ys ws h.1 k)

  -- and backwards
  pub pairwise-reverse : (xs : List X) (ys : List Y) → Pairwise R xs ys → Pairwise R (reverse xs) (reverse ys)
  pairwise-reverse [] [] h = tt
  pairwise-reverse [] (y ∷ ys) h = absurd h
  pairwise-reverse (x ∷ xs) [] h = absurd h
  pairwise-reverse (x ∷ xs) (y ∷ ys) h =
      let moved : Pairwise R (reverse xs ++ x ∷ []) (reverse ys ++ y ∷ []) = pairwise-append (reverse xs) (x ∷ []) (reverse ys) (y ∷ []) (pairwise-reverse xs ys h.1) (h.0, tt) in
      subst (λ l. Pairwise R (reverse (x ∷ xs)) l) (sym (reverse-append (y ∷ []) ys)) (subst (λ l. Pairwise R l (reverse ys ++ y ∷ [])) (sym (reverse-append (x ∷ []) xs)) moved)

-- an assignment in the innermost group alone, or at all levels
pub given-around : (global : Bool) (p : Place) (x : Meaning BoxNode) (old new : List Cats) (maps : List (Map BoxNode)) → IsGivenAround global p (category_given x) old new → Pairwise AreCategories (reverse old) maps → Pairwise AreCategories (reverse new) (if global then map (λ f. update f (addr_of p) x) maps else maps)
given-around true p x old new maps given are = given-all p x (reverse old) (reverse new) maps (pairwise-reverse (IsGiven p (category_given x)) old new given) are
given-around false p x old new maps given are = subst (λ l. Pairwise AreCategories (reverse l) maps) (sym given) are
