-- The addresses of the code and those of the definitions.
use Rattle.std.proofs.Common.{◌≡◌, ℕ, ◌==◌, ◌&&◌, Bool, true, false, List, if◌then◌else◌, refl, sym, eq-eqb, ap, subst, ◌∙◌, true≢false}
use Rattle.std.specs.Str.{bytes_eq}
use Rattle.std.proofs.lemmas.Slice.Eq.{bytes_eq-Decides}
use Rattle.std.proofs.lemmas.Bool.{eqb-true}
use Rattle.tx_eqtb.specs.declared.meaning.Meaning.{Meaning}
use Rattle.tx_eqtb.specs.declared.addr.AddrKind.TheVariants as kind
use Rattle.tx_eqtb.specs.declared.meaning.RegKind.TheVariants as reg
use Rattle.tx_eqtb.specs.Addresses.{same, update}
use Rattle.tx_eqtb.specs.Meanings.{Map}
use Rattle.tx_private.specs.Meanings.{Address, OfName, OfActive, OfRegister, OfCode, OfInteger, OfDimension, OfGlue, OfList, Count, Dimen, Skip, MuSkip, Toks, CatCodes, LowerCases, UpperCases, SpaceFactors, MathCodes, DelimiterCodes, same_address, with_meaning}
use Rattle.tx_private.specs.Meanings as private
use Rattle.tx_views.specs.declared.place.CodeTable.TheVariants as table
use Rattle.tx_views.specs.declared.place.Place.{Place}
use Rattle.tx_views.specs.declared.place.Place.TheVariants as place
use Rattle.tx_views.specs.Views.{View, IsView}
use Rattle.tx_views.specs.Places.{numbered, address_in, addr_of, addr_at, is_numbered}
use Rattle.tx_views.specs.Meanings.{meaning_in, map_in}

by_answer : {P : Type 0} (b : Bool) → (b ≡ true → P) → (b ≡ false → P) → P
by_answer true p q = p refl
by_answer false p q = q refl

one_truth : (s t : Bool) → (s ≡ true → t ≡ true) → (t ≡ true → s ≡ true) → s ≡ t
one_truth true t f g = sym (f refl)
one_truth false true f g = g refl
one_truth false false f g = refl

both : (a b : Bool) → (a && b) ≡ true → (a ≡ true) × (b ≡ true)
both true b e = (refl, e)
both false b e = absurd (true≢false (sym e))

and_true : (a b : Bool) → a ≡ true → b ≡ true → (a && b) ≡ true
and_true a b p q = λ i. p i && q i

and_false : (a : Bool) → (a && false) ≡ false
and_false true = refl
and_false false = refl

-- a number is that of a text exactly where it has the text
names : (view : View) → IsView view → (n : ℕ) (text : List ℕ) → (bytes_eq (view.naming (view.number text)) text && (n == view.number text)) ≡ bytes_eq (view.naming n) text
names view is n text = one_truth _ _ there back
  where
    there : (bytes_eq (view.naming (view.number text)) text && (n == view.number text)) ≡ true → bytes_eq (view.naming n) text ≡ true
    there h =
        let parts = both (bytes_eq (view.naming (view.number text)) text) (n == view.number text) h in
        ap (λ k. bytes_eq (view.naming k) text) (eqb-true n (view.number text) parts.1) ∙ parts.0

    back : bytes_eq (view.naming n) text ≡ true → (bytes_eq (view.naming (view.number text)) text && (n == view.number text)) ≡ true
    back h =
        let text_is : view.naming n ≡ text = (bytes_eq-Decides (view.naming n) text).0 h in
        let number_is : n ≡ view.number text = sym (is.apart n) ∙ ap view.number text_is in
        and_true _ _ (ap (λ k. bytes_eq (view.naming k) text) (sym number_is) ∙ h) (eq-eqb n (view.number text) number_is)

-- the addresses are the same exactly where those of the definitions are, which a name without a number never is
pub same-is : (view : View) → IsView view → (p : Place) (at : Address) → (is_numbered view at && same (addr_of p) (addr_at view at)) ≡ same_address (address_in view p) at
same-is view is (place.Name n) (OfName text) = names view is n text
same-is view is (place.Name n) (OfRegister Count c) = refl
same-is view is (place.Name n) (OfCode CatCodes c) = refl
same-is view is (place.Active b) (OfName text) = and_false (bytes_eq (view.naming (view.number text)) text)
same-is view is (place.Active b) (OfRegister Count c) = refl
same-is view is (place.Active b) (OfCode CatCodes c) = refl
same-is view is (place.Register reg.Count b) (OfName text) = and_false (bytes_eq (view.naming (view.number text)) text)
same-is view is (place.Register reg.Count b) (OfRegister Count c) = refl
same-is view is (place.Register reg.Count b) (OfCode CatCodes c) = refl
same-is view is (place.Register reg.Dimen b) (OfName text) = and_false (bytes_eq (view.naming (view.number text)) text)
same-is view is (place.Register reg.Dimen b) (OfRegister Count c) = refl
same-is view is (place.Register reg.Dimen b) (OfCode CatCodes c) = refl
same-is view is (place.Register reg.Skip b) (OfName text) = and_false (bytes_eq (view.naming (view.number text)) text)
same-is view is (place.Register reg.Skip b) (OfRegister Count c) = refl
same-is view is (place.Register reg.Skip b) (OfCode CatCodes c) = refl
same-is view is (place.Register reg.Muskip b) (OfName text) = and_false (bytes_eq (view.naming (view.number text)) text)
same-is view is (place.Register reg.Muskip b) (OfRegister Count c) = refl
same-is view is (place.Register reg.Muskip b) (OfCode CatCodes c) = refl
same-is view is (place.Register reg.Toks b) (OfName text) = and_false (bytes_eq (view.naming (view.number text)) text)
same-is view is (place.Register reg.Toks b) (OfRegister Count c) = refl
same-is view is (place.Register reg.Toks b) (OfCode CatCodes c) = refl
same-is view is (place.Code table.Categories b) (OfName text) = and_false (bytes_eq (view.naming (view.number text)) text)
same-is view is (place.Code table.Categories b) (OfRegister Count c) = refl
same-is view is (place.Code table.Categories b) (OfCode CatCodes c) = refl
same-is view is (place.Code table.LowerCases b) (OfName text) = and_false (bytes_eq (view.naming (view.number text)) text)
same-is view is (place.Code table.LowerCases b) (OfRegister Count c) = refl
same-is view is (place.Code table.LowerCases b) (OfCode CatCodes c) = refl
same-is view is (place.Code table.UpperCases b) (OfName text) = and_false (bytes_eq (view.naming (view.number text)) text)
same-is view is (place.Code table.UpperCases b) (OfRegister Count c) = refl
same-is view is (place.Code table.UpperCases b) (OfCode CatCodes c) = refl
same-is view is (place.Code table.SpaceFactors b) (OfName text) = and_false (bytes_eq (view.naming (view.number text)) text)
same-is view is (place.Code table.SpaceFactors b) (OfRegister Count c) = refl
same-is view is (place.Code table.SpaceFactors b) (OfCode CatCodes c) = refl
same-is view is (place.Code table.MathCodes b) (OfName text) = and_false (bytes_eq (view.naming (view.number text)) text)
same-is view is (place.Code table.MathCodes b) (OfRegister Count c) = refl
same-is view is (place.Code table.MathCodes b) (OfCode CatCodes c) = refl
same-is view is (place.Code table.DelimiterCodes b) (OfName text) = and_false (bytes_eq (view.naming (view.number text)) text)
same-is view is (place.Code table.DelimiterCodes b) (OfRegister Count c) = refl
same-is view is (place.Code table.DelimiterCodes b) (OfCode CatCodes c) = refl
same-is view is (place.Integer b) (OfName text) = and_false (bytes_eq (view.naming (view.number text)) text)
same-is view is (place.Integer b) (OfRegister Count c) = refl
same-is view is (place.Integer b) (OfCode CatCodes c) = refl
same-is view is (place.Dimension b) (OfName text) = and_false (bytes_eq (view.naming (view.number text)) text)
same-is view is (place.Dimension b) (OfRegister Count c) = refl
same-is view is (place.Dimension b) (OfCode CatCodes c) = refl
same-is view is (place.Glue b) (OfName text) = and_false (bytes_eq (view.naming (view.number text)) text)
same-is view is (place.Glue b) (OfRegister Count c) = refl
same-is view is (place.Glue b) (OfCode CatCodes c) = refl
same-is view is (place.List b) (OfName text) = and_false (bytes_eq (view.naming (view.number text)) text)
same-is view is (place.List b) (OfRegister Count c) = refl
same-is view is (place.List b) (OfCode CatCodes c) = refl
same-is view is p at = refl

module _ {B : Type 0} (view : View) (is : IsView view) where
  -- what stands at the address of a place is what the place means
  pub present-at : (m : Map B) (p : Place) → map_in view m (address_in view p) ≡ meaning_in view (m (addr_of p))
  present-at m (place.Name n) =
      ap (λ k. if bytes_eq (view.naming k) (view.naming n) then meaning_in view (m (numbered kind.Name k)) else private.Undefined) (is.apart n)
      ∙ ap (λ c. if c then meaning_in view (m (numbered kind.Name n)) else private.Undefined) ((bytes_eq-Decides (view.naming n) (view.naming n)).1 refl)
  present-at m (place.Register reg.Count n) = refl
  present-at m (place.Code table.Categories b) = refl
  present-at m p = refl

  chosen : (n s : Bool) (x y : Meaning B) → (if n then meaning_in view (if s then x else y) else private.Undefined) ≡ (if n && s then meaning_in view x else (if n then meaning_in view y else private.Undefined))
  chosen true true x y = refl
  chosen true false x y = refl
  chosen false s x y = refl

  -- an assignment by numbers is one of the definitions
  pub update-is : (m : Map B) (p : Place) (x : Meaning B) → map_in view (update m (addr_of p) x) ≡ with_meaning (address_in view p) (meaning_in view x) (map_in view m)
  update-is m p x =
      let each : (at : Address) → map_in view (update m (addr_of p) x) at ≡ with_meaning (address_in view p) (meaning_in view x) (map_in view m) at = λ at.
      chosen (is_numbered view at) (same (addr_of p) (addr_at view at)) x (m (addr_at view at)) ∙ ap (λ c. if c then meaning_in view x else map_in view m at) (same-is view is p at) in
      λ i at. each at i
