-- What the calls do to the environment, from what they do to its table and its save stack.
use Rattle.std.proofs.Common.{◌≡◌, ℕ, Bool, List, [], ◌∷◌, ◌++◌, length, map, reverse, Option, None, Some, Result, Ok, Err, OnOk, OnErr, IfNone, if◌then◌else◌, refl, sym, ap, subst, ◌∙◌}
use Rattle.std.specs.List.{slice_get}
use Rattle.std.specs.Option.{option_map}
use Rattle.tx_tok.specs.declared.tok.Tok.{Tok}
use Rattle.tx_scan.specs.declared.cats.Cats.{Cats}
use Rattle.tx_node.specs.declared.BoxNode.{BoxNode}
use Rattle.tx_eqtb.specs.declared.meaning.Meaning.{Meaning}
use Rattle.tx_eqtb.specs.Addresses.{update}
use Rattle.tx_eqtb.specs.Meanings.{Map}
use Rattle.tx_eqtb.specs.Tables.{Table, now, before}
use Rattle.tx_eqtb.specs.Steps.{Sets, KeepsNow, KeepsBefore}
use Rattle.tx_save.specs.declared.group.Group.{Group}
use Rattle.tx_save.specs.declared.group.Closed.{Closed}
use Rattle.tx_save.specs.declared.group.Closed.TheVariants as closed
use Rattle.tx_save.specs.Levels.{level_at}
use Rattle.tx_save.specs.Saves.{Saves, outside, groups, Fits, ChangesOutside, Closes as SaveCloses}
use Rattle.tx_private.specs.Environment.{assigning}
use Rattle.tx_views.specs.declared.place.Place.{Place}
use Rattle.tx_views.specs.Views.{View, IsView, viewed, all_viewed}
use Rattle.tx_views.specs.Places.{address_in, addr_of}
use Rattle.tx_views.specs.Meanings.{meaning_in, map_in}
use Rattle.tx_views.specs.Environments.{environment_of, environment_in}
use Rattle.tx_environment.specs.States.{State, environment}
use Rattle.tx_environment.specs.Soundness.{category_given, AreCategories, Pairwise, IsSound, IsClosing}
use Rattle.tx_environment.specs.Changes.{IsGiven, IsGivenAround}
use Rattle.tx_environment.specs.Steps.{alone, leaving, within, keeping_for_end, Closes, Ends}
use Rattle.tx_environment.proofs.PlaceLemmas.{update-is}
use Rattle.tx_environment.proofs.LevelLemmas.{groups-added, length-added, length-below, alone-is, kept-is, around-is, assigned-is}
use Rattle.tx_environment.proofs.CategoryLemmas.{given-is, given-around}

-- there are as many maps outside as open groups
pub length-outside : {B : Type 0} (frozen : Map B) (t : Table B) (s : Saves B) → length (outside frozen t s) ≡ length (groups s)
length-outside frozen t s = length-below (before frozen t) (now frozen t) (level_at s.levels) s.group s.stack

-- no kind means that no group is open
pub none-open : {K : Type 0} (f : Group → K) (gs : List Group) (r : Option K) → r ≡ option_map f (slice_get gs 0) → IfNone r (gs ≡ [])
none-open f [] None e = refl
none-open f [] (Some k) e = tt
none-open f (g ∷ gs) r e = subst (λ o. IfNone o (g ∷ gs ≡ [])) (sym e) tt

-- a token was added for the innermost group's end
abbrev pub Adds : {B : Type 0} → Tok → Saves B → Saves B → Type 0
Adds t s n = n ≡ record s { group = record s.group { after = s.group.after ++ t ∷ [] } }

pub groups-after : {B : Type 0} (t : Tok) (s n : Saves B) → Adds t s n → groups n ≡ leaving t (groups s)
groups-after t s n adds = ap groups adds ∙ groups-added t s.group s.stack

pub on_ok_map : {T E P Q : Type 0} (r : Result T E) → (P → Q) → OnOk r P → OnOk r Q
on_ok_map (Ok x) f h = f h
on_ok_map (Err e) f h = h

pub length-after : {B T E : Type 0} (t : Tok) (s n : Saves B) (r : Result T E) → OnOk r (Adds t s n) → OnErr r (n ≡ s) → (length (groups n) ≡ length (groups s)) × (n.level ≡ s.level)
length-after t s n (Ok x) ok err = (ap (λ x. length (groups x)) ok ∙ ap length (groups-added t s.group s.stack) ∙ length-added t (groups s), ap (λ x. x.level) ok)
length-after t s n (Err e) ok err = (ap (λ x. length (groups x)) err, ap (λ x. x.level) err)

pub after-is : {B : Type 0} (t : Tok) (table : Table B) (s n : Saves B) → Adds t s n → (view : View) (frozen : Map B) → environment_in view frozen table n ≡ keeping_for_end (viewed view t) (environment_in view frozen table s)
after-is t table s n adds view frozen =
    ap (environment_in view frozen table) adds
    ∙ ap (environment_of view (now frozen table) (outside frozen table s)) (groups-added t s.group s.stack)
    ∙ kept-is view t (now frozen table) (outside frozen table s) (groups s)

-- an assignment
pub assigned : (p : Place) (x : Meaning BoxNode) (global : Bool) (t u : Table BoxNode) (s n : Saves BoxNode) → Sets t (addr_of p) x u → ChangesOutside global (addr_of p) x t s u n → groups n ≡ groups s → (view : View) → IsView view → (frozen : Map BoxNode) → environment_in view frozen u n ≡ assigning global (address_in view p) (meaning_in view x) (environment_in view frozen t s)
assigned p x global t u s n sets changes same view is frozen =
    let now_is : now frozen u ≡ update (now frozen t) (addr_of p) x = λ i q. sets frozen q i in
    assigned-is view (addr_of p) x (address_in view p) (meaning_in view x) (λ m. update-is view is m p x) global (now frozen t) (now frozen u) (outside frozen t s) (outside frozen u n) (groups s) (groups n) now_is (changes frozen) same

-- categories of a map are those of one that is the same
pub categories_moved : (cats : Cats) (m n : Map BoxNode) → n ≡ m → AreCategories cats m → AreCategories cats n
categories_moved cats m n e h = subst (AreCategories cats) (sym e) h

-- and the categories go with it
pub assigned-sound : (p : Place) (x : Meaning BoxNode) (global : Bool) (old new : State) (frozen : Map BoxNode) → Sets old.table (addr_of p) x new.table → ChangesOutside global (addr_of p) x old.table old.saves new.table new.saves → KeepsBefore old.table new.table → Fits new.table new.saves → IsGiven p (category_given x) old.cats new.cats → new.first ≡ old.first → (tables given : List Cats) → old.outer ≡ reverse tables → new.outer ≡ reverse given → IsGivenAround global p (category_given x) tables given → IsSound frozen old → IsSound frozen new
assigned-sound p x global old new frozen sets changes keeps fits cats first tables given old_is new_is around sound =
    let now_is : now frozen new.table ≡ update (now frozen old.table) (addr_of p) x = λ i q. sets frozen q i in
    let before_is : before frozen new.table ≡ before frozen old.table = λ i q. keeps frozen q i in
    let tables_are : Pairwise AreCategories (reverse tables) (outside frozen old.table old.saves) = subst (λ l. Pairwise AreCategories l (outside frozen old.table old.saves)) old_is sound.outer in
    record {
      fits = fits;
      present = categories_moved new.cats _ _ now_is (given-is p x old.cats new.cats (now frozen old.table) cats sound.present);
      outer = subst (λ l. Pairwise AreCategories l (outside frozen new.table new.saves)) (sym new_is) (subst (Pairwise AreCategories (reverse given)) (sym (changes frozen)) (given-around global p x tables given (outside frozen old.table old.saves) around tables_are));
      first = categories_moved new.first _ _ before_is (subst (λ f. AreCategories f (before frozen old.table)) (sym first) sound.first);
    }

-- a step of a group's end
pub ends-is : (step : Closed BoxNode) (old new : State) → SaveCloses old.table old.saves step new.table new.saves → Ends (groups old.saves) step (groups new.saves)
ends-is (closed.Dropped m) old new c = c.1
ends-is (closed.End kind after) old new c = c.1

pub closed-is : (step : Closed BoxNode) (old new : State) → SaveCloses old.table old.saves step new.table new.saves → (view : View) (frozen : Map BoxNode) → Closes view frozen old step new
closed-is (closed.Dropped m) old new h view frozen =
    let maps = h.0 frozen in
    let kept = h.1 in
    (λ i. environment_of view (now frozen new.table) (maps i) (kept i)) ∙ around-is view (now frozen old.table) (now frozen new.table) (outside frozen old.table old.saves) (groups old.saves)
closed-is (closed.End kind after) old new h view frozen =
    let maps = h.2 frozen in
    let open_are = h.1 in
    (λ i. environment_of view (now frozen old.table) (maps i) (open_are i))
    ∙ ap (λ t. within (record { map = map_in view (now frozen old.table); kind = kind; after = all_viewed view after }) (environment_of view (now frozen t) (outside frozen new.table new.saves) (groups new.saves))) (sym h.0)

-- where no group is open the map now is all
pub kept-alone : (t u : Table BoxNode) (s : Saves BoxNode) → KeepsNow t u → groups s ≡ [] → (view : View) (frozen : Map BoxNode) → environment_in view frozen u s ≡ environment_in view frozen t s
kept-alone t u s keeps none view frozen =
    let now_is : now frozen u ≡ now frozen t = λ i q. keeps frozen q i in
    alone-is view (now frozen u) (outside frozen u s) (groups s) (length-outside frozen u s) none
    ∙ ap (λ m. alone (map_in view m)) now_is
    ∙ sym (alone-is view (now frozen t) (outside frozen t s) (groups s) (length-outside frozen t s) none)

-- a group can end where all is sound
pub closing-sound : (frozen : Map BoxNode) (e : State) → IsSound frozen e → IsClosing frozen e
closing-sound frozen e sound = record { fits = sound.fits; outer = sound.outer; first = sound.first }
