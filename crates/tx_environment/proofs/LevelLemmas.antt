-- What changes of maps and groups make of the environment.
use Rattle.std.proofs.Common.{◌≡◌, ℕ, ◌+◌, ◌<◌, suc, zero, ◌==◌, Bool, true, false, List, [], ◌∷◌, ◌++◌, map, length, Option, None, Some, get_or, if◌then◌else◌, arith, refl, sym, ap, subst, ◌∙◌}
use Rattle.std.specs.List.{slice_get}
use Rattle.std.specs.Option.{option_map}
use Rattle.tx_tok.specs.declared.tok.Tok.{Tok}
use Rattle.tx_eqtb.specs.declared.addr.Addr.{Addr}
use Rattle.tx_eqtb.specs.declared.meaning.Meaning.{Meaning}
use Rattle.tx_eqtb.specs.Addresses.{update}
use Rattle.tx_eqtb.specs.Meanings.{Map}
use Rattle.tx_eqtb.specs.Steps.{meaning_back}
use Rattle.tx_save.specs.declared.group.Group.{Group}
use Rattle.tx_save.specs.declared.group.GroupKind.{GroupKind}
use Rattle.tx_save.specs.declared.save.Save.{Save}
use Rattle.tx_save.specs.declared.save.Save.TheVariants as save
use Rattle.tx_save.specs.Saves.{below, groups_of}
use Rattle.tx_private.specs.Meanings as private
use Rattle.tx_private.specs.Environment.{Environment, present, beginning, assigning}
use Rattle.tx_views.specs.Views.{View, viewed, all_viewed}
use Rattle.tx_views.specs.Meanings.{map_in}
use Rattle.tx_views.specs.Environments.{level_in, environment_of}
use Rattle.tx_environment.specs.Steps.{innermost, leaving, with_present, keeping_for_end, alone}

by_answer : {P : Type 0} (b : Bool) → (b ≡ true → P) → (b ≡ false → P) → P
by_answer true p q = p refl
by_answer false p q = q refl

pub groups-added : {B : Type 0} (t : Tok) (g : Group) (s : List (Save B)) → groups_of (record g { after = g.after ++ t ∷ [] }) s ≡ leaving t (groups_of g s)
groups-added t g [] = refl
groups-added t g (save.Mark outer ∷ s) = refl
groups-added t g (save.Saved at old level ∷ s) = groups-added t g s

pub length-added : (t : Tok) (gs : List Group) → length (leaving t gs) ≡ length gs
length-added t [] = refl
length-added t (g ∷ gs) = refl

map-last : {X Y : Type 0} (f : X → Y) (xs : List X) (x : X) → map f (xs ++ x ∷ []) ≡ map f xs ++ f x ∷ []
map-last f [] x = refl
map-last f (y ∷ ys) x = ap (λ l. f y ∷ l) (map-last f ys x)

module _ {B : Type 0} where
  -- there are as many maps outside as open groups
  pub length-below : (first now : Map B) (level : Addr → ℕ) (g : Group) (s : List (Save B)) → length (below first now level s) ≡ length (groups_of g s)
  length-below first now level g [] = refl
  length-below first now level g (save.Mark outer ∷ s) = ap suc (length-below first now level outer s)
  length-below first now level g (save.Saved at old outer ∷ s) =
      let back : Map B = update now at (meaning_back (first at) old) in
      by_answer (level at == 1)
      (λ y. ap (λ c. length (if c then below first now level s else below first back (update level at outer) s)) y ∙ length-below first now level g s)
      (λ n. ap (λ c. length (if c then below first now level s else below first back (update level at outer) s)) n ∙ length-below first back (update level at outer) g s)

  module _ (view : View) where
    pub present-is : (m : Map B) (maps : List (Map B)) (gs : List Group) → present (environment_of view m maps gs) ≡ map_in view m
    present-is m [] gs = refl
    present-is m (o ∷ maps) [] = refl
    present-is m (o ∷ maps) (g ∷ gs) = refl

    pub length-groups : (m : Map B) (maps : List (Map B)) (gs : List Group) → length maps ≡ length gs → length (environment_of view m maps gs).groups ≡ length gs
    length-groups m [] gs same = same
    length-groups m (o ∷ maps) [] same = refl
    length-groups m (o ∷ maps) (g ∷ gs) same = ap suc (length-groups o maps gs (omega (arith, same)))

    pub innermost-is : (m : Map B) (maps : List (Map B)) (gs : List Group) → length maps ≡ length gs → innermost (environment_of view m maps gs) ≡ option_map (λ g. g.kind) (slice_get gs 0)
    innermost-is m [] [] same = refl
    innermost-is m [] (g ∷ gs) same = absurd (omega (arith, same))
    innermost-is m (o ∷ maps) [] same = refl
    innermost-is m (o ∷ maps) (g ∷ gs) same = refl

    -- outside of all groups
    pub alone-is : (m : Map B) (maps : List (Map B)) (gs : List Group) → length maps ≡ length gs → gs ≡ [] → environment_of view m maps gs ≡ alone (map_in view m)
    alone-is m [] gs same none = refl
    alone-is m (o ∷ maps) [] same none = refl
    alone-is m (o ∷ maps) (g ∷ gs) same none = absurd (omega (arith, ap length none))

    -- a group begins
    pub begun-is : (m : Map B) (maps : List (Map B)) (gs : List Group) (kind : GroupKind) → environment_of view m (m ∷ maps) (record { kind = kind; after = [] } ∷ gs) ≡ beginning kind (environment_of view m maps gs)
    begun-is m maps gs kind =
        let e = environment_of view m maps gs in
        let is = sym (present-is m maps gs) in
        λ i. record { groups = record { map = is i; kind = kind; after = [] } ∷ e.groups; outside = e.outside }

    -- a token is added for the innermost group's end
    pub kept-is : (t : Tok) (m : Map B) (maps : List (Map B)) (gs : List Group) → environment_of view m maps (leaving t gs) ≡ keeping_for_end (viewed view t) (environment_of view m maps gs)
    kept-is t m [] gs = refl
    kept-is t m (o ∷ maps) [] = refl
    kept-is t m (o ∷ maps) (g ∷ gs) =
        let e = environment_of view o maps gs in
        let tokens : all_viewed view (g.after ++ t ∷ []) ≡ all_viewed view g.after ++ viewed view t ∷ [] = map-last (viewed view) g.after t in
        λ i. record { groups = record { map = map_in view m; kind = g.kind; after = tokens i } ∷ e.groups; outside = e.outside }

    -- only the innermost map changes
    pub around-is : (m n : Map B) (maps : List (Map B)) (gs : List Group) → environment_of view n maps gs ≡ with_present (map_in view n) (environment_of view m maps gs)
    around-is m n [] gs = refl
    around-is m n (o ∷ maps) [] = refl
    around-is m n (o ∷ maps) (g ∷ gs) = refl

    module _ (at : Addr) (x : Meaning B) (place : private.Address) (meaning : private.Meaning) (law : (m : Map B) → map_in view (update m at x) ≡ private.with_meaning place meaning (map_in view m)) where
      local-is : (m : Map B) (maps : List (Map B)) (gs : List Group) → environment_of view (update m at x) maps gs ≡ assigning false place meaning (environment_of view m maps gs)
      local-is m [] gs = ap alone (law m)
      local-is m (o ∷ maps) [] = ap alone (law m)
      local-is m (o ∷ maps) (g ∷ gs) =
          let e = environment_of view o maps gs in
          ap (λ n. record { groups = record { map = n; kind = g.kind; after = all_viewed view g.after } ∷ e.groups; outside = e.outside }) (law m)

      global-is : (m : Map B) (maps : List (Map B)) (gs : List Group) → environment_of view (update m at x) (map (λ f. update f at x) maps) gs ≡ assigning true place meaning (environment_of view m maps gs)
      global-is m [] gs = ap alone (law m)
      global-is m (o ∷ maps) [] = ap alone (law m)
      global-is m (o ∷ maps) (g ∷ gs) =
          let e = global-is o maps gs in
          let here = law m in
          λ i. record { groups = record { map = here i; kind = g.kind; after = all_viewed view g.after } ∷ (e i).groups; outside = (e i).outside }

      -- an assignment, whose map and maps outside are these
      pub assigned-is : (global : Bool) (m n : Map B) (maps outer : List (Map B)) (gs new : List Group) → n ≡ update m at x → outer ≡ (if global then map (λ f. update f at x) maps else maps) → new ≡ gs → environment_of view n outer new ≡ assigning global place meaning (environment_of view m maps gs)
      assigned-is true m n maps outer gs new now_is outside_is groups_is = (λ i. environment_of view (now_is i) (outside_is i) (groups_is i)) ∙ global-is m maps gs
      assigned-is false m n maps outer gs new now_is outside_is groups_is = (λ i. environment_of view (now_is i) (outside_is i) (groups_is i)) ∙ local-is m maps gs
