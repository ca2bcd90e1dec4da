-- The state of a preset can be frozen.
use Rattle.std.proofs.Common.{◌≡◌, ℕ, ℤ, ◌<◌, Bool, true, false, cond, nat_lt, List, [], ◌∷◌, length, map, get_or, take, Option, None, Some, IfSome, Result, Ok, Err, IfOk, ◌-◌, refl, sym, ap, subst, ◌∙◌, arith, true≢false}
use Rattle.std.specs.List.{IsDistinct, slice_get}
use Rattle.std.specs.Map.{keys_of}
use Rattle.std.specs.Option.{option_map}
use Rattle.std.proofs.lemmas.Bool.Decides.{nat_tests}
use Rattle.std.proofs.lemmas.List.{length-map, get_or-map, take_all}
use Rattle.tx_eqtb.specs.declared.addr.Addr.{Addr}
use Rattle.tx_eqtb.specs.declared.addr.AddrKind.{AddrKind}
use Rattle.tx_eqtb.specs.declared.addr.AddrKind.TheVariants as kind
use Rattle.tx_eqtb.specs.declared.meaning.Meaning.{Meaning}
use Rattle.tx_eqtb.specs.declared.meaning.Meaning.TheVariants as meaning
use Rattle.tx_eqtb.specs.Addresses.{same, entry_at}
use Rattle.tx_names.specs.Names.{text_at, IsDistinct as NamesDiffer}
use Rattle.tx_node.specs.declared.BoxNode.{BoxNode}
use Rattle.tx_prims.specs.declared.TableRow.{TableRow}
use Rattle.tx_prims.specs.declared.primitives.Primitive.{Primitive}
use Rattle.tx_prims.specs.Keys.{text_of}
use Rattle.tx_prims.specs.Rows.{EachKeyHasItsRow}
use Rattle.tx_format.specs.declared.preset.Preset.{Preset}
use Rattle.tx_format.specs.declared.state.Engineless.{Engineless}
use Rattle.tx_format.specs.declared.parameters.TheConstants.{INTEGERS, DIMENSIONS, GLUES}
use Rattle.tx_format.specs.States.{told, code, byte_code, primitive_names}
use Rattle.tx_format.specs.Formats.{IsFreezable, table_of, MeaningWithin, AddressWithin}

-- numbers from 0 are places
pub text_at-place : (texts : List (List ℕ)) (n : ℕ) → text_at (table_of texts) n ≡ get_or texts n []
text_at-place texts n =
    let same : n - 0 ≡ n = omega arith in
    ap (λ k. get_or texts k []) same

-- rows whose keys have one row each have distinct names
names-differ : (rows : List (TableRow Primitive)) → EachKeyHasItsRow rows → NamesDiffer (table_of (map (λ row. text_of row.key) rows))
names-differ [] each n m has_n has_m is = absurd (omega (arith, has_n.1))
names-differ (row ∷ rows) each n m has_n has_m is =
    let f : TableRow Primitive → List ℕ = λ r. text_of r.key in
    let texts : List (List ℕ) = map f (row ∷ rows) in
    let count : length texts ≡ length (row ∷ rows) = length-map (row ∷ rows) f in
    let low : n < length (row ∷ rows) = omega (arith, count, has_n.1) in
    let high : m < length (row ∷ rows) = omega (arith, count, has_m.1) in
    each.once n m row low high (sym (get_or-map f (row ∷ rows) n row [] low) ∙ sym (text_at-place texts n) ∙ is ∙ text_at-place texts m ∙ get_or-map f (row ∷ rows) m row [] high)

pub names_differ_if_ok : {E : Type 0} (r : Result (List (List ℕ)) E) (rows : List (TableRow Primitive)) → EachKeyHasItsRow rows → IfOk r (λ names. names ≡ map (λ row. text_of row.key) rows) → IfOk r (λ names. NamesDiffer (table_of names))
names_differ_if_ok (Ok names) rows each is = subst (λ l. NamesDiffer (table_of l)) (sym is) (names-differ rows each)
names_differ_if_ok (Err e) rows each is = tt

-- what a state says leads to no list
code_within : (b : Bool) (o : Option ℤ) → IfSome (cond b (option_map meaning.Int o) None) (MeaningWithin 0)
code_within true None = tt
code_within true (Some x) = tt
code_within false o = tt

prim_within : (b : Bool) (n : ℕ) → IfSome (cond b (Some (meaning.Prim n)) None) (MeaningWithin 0)
prim_within true n = tt
prim_within false n = tt

item_within : {X : Type 0} (f : X → Meaning BoxNode) → ((x : X) → MeaningWithin 0 (f x)) → (o : Option X) → IfSome (option_map f o) (MeaningWithin 0)
item_within f h None = tt
item_within f h (Some x) = h x

told_within : (preset : Preset) (k : AddrKind) (n : ℕ) → IfSome (told preset k n) (MeaningWithin 0)
told_within preset kind.Name n = prim_within (nat_lt n 297) n
told_within preset kind.IntParam n = item_within _ (λ x. tt) (slice_get INTEGERS n)
told_within preset kind.DimenParam n = item_within _ (λ x. tt) (slice_get DIMENSIONS n)
told_within preset kind.GlueParam n = item_within _ (λ x. tt) (slice_get GLUES n)
told_within preset kind.CatCode n = code_within (nat_lt n 256) (code preset kind.CatCode n)
told_within preset kind.LcCode n = code_within (nat_lt n 256) (code preset kind.LcCode n)
told_within preset kind.UcCode n = code_within (nat_lt n 256) (code preset kind.UcCode n)
told_within preset kind.SfCode n = code_within (nat_lt n 256) (code preset kind.SfCode n)
told_within preset kind.MathCode n = code_within (nat_lt n 256) (code preset kind.MathCode n)
told_within preset kind.DelCode n = code_within (nat_lt n 256) (code preset kind.DelCode n)
told_within preset kind.Active n = code_within (nat_lt n 256) None
told_within preset kind.Count n = code_within (nat_lt n 256) None
told_within preset kind.Dimen n = code_within (nat_lt n 256) None
told_within preset kind.Skip n = code_within (nat_lt n 256) None
told_within preset kind.Muskip n = code_within (nat_lt n 256) None
told_within preset kind.Toks n = code_within (nat_lt n 256) None
told_within preset kind.Box n = code_within (nat_lt n 256) None
told_within preset kind.ToksParam n = code_within (nat_lt n 256) None
told_within preset kind.CurrentFont n = code_within (nat_lt n 256) None
told_within preset kind.Family n = code_within (nat_lt n 256) None
told_within preset kind.ParShape n = code_within (nat_lt n 256) None

-- a name of which a state says something is a primitive's
name_within : (b : Bool) (n : ℕ) (m : Meaning BoxNode) → nat_lt n 297 ≡ b → cond b (Some (meaning.Prim n)) None ≡ Some m → n < 297
name_within true n m below e = grind (arith, nat_tests)
name_within false n m below e = cc

address_within : (preset : Preset) (k : AddrKind) (n : ℕ) (m : Meaning BoxNode) → told preset k n ≡ Some m → AddressWithin 297 k n
address_within preset kind.Name n m e = name_within (nat_lt n 297) n m refl e
address_within preset kind.IntParam n m e = tt
address_within preset kind.DimenParam n m e = tt
address_within preset kind.GlueParam n m e = tt
address_within preset kind.CatCode n m e = tt
address_within preset kind.LcCode n m e = tt
address_within preset kind.UcCode n m e = tt
address_within preset kind.SfCode n m e = tt
address_within preset kind.MathCode n m e = tt
address_within preset kind.DelCode n m e = tt
address_within preset kind.Active n m e = tt
address_within preset kind.Count n m e = tt
address_within preset kind.Dimen n m e = tt
address_within preset kind.Skip n m e = tt
address_within preset kind.Muskip n m e = tt
address_within preset kind.Toks n m e = tt
address_within preset kind.Box n m e = tt
address_within preset kind.ToksParam n m e = tt
address_within preset kind.CurrentFont n m e = tt
address_within preset kind.Family n m e = tt
address_within preset kind.ParShape n m e = tt

pub freezable-preset : (preset : Preset) (state : Engineless) → IsDistinct same (keys_of state.frozen) → ((q : Addr) → entry_at state.frozen q ≡ told preset q.kind q.no)
    → state.names ≡ primitive_names → length state.names ≡ 297 → NamesDiffer (table_of state.names) → state.lists ≡ [] → IsFreezable state
freezable-preset preset state distinct entries names count differ lists =
    let none : length state.lists ≡ 0 = ap length lists in
    record {
      addresses = distinct;
      names = differ;
      primitives = ap (λ l. take (length l) state.names) (sym names) ∙ take_all _ state.names (omega arith) ∙ names;
      lists = λ j k low high is. absurd (omega (arith, none, low));
      room = omega (arith, none);
      filled = λ k low is. absurd (omega (arith, none, low));
      entries = λ at m found.
          let says : told preset at.kind at.no ≡ Some m = sym (entries at) ∙ found in (
            subst (λ n. AddressWithin n at.kind at.no) (sym count) (address_within preset at.kind at.no m says),
            subst (λ n. MeaningWithin n m) (sym none) (subst (λ o. IfSome o (MeaningWithin 0)) says (told_within preset at.kind at.no)),
          );
      tokens = λ k low. absurd (omega (arith, none, low));
    }
