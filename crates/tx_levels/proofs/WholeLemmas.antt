-- What one assignment more makes of a map, and what a map has at an address.
use Rattle.std.proofs.Common.{◌≡◌, ℕ, ℤ, Bool, true, false, List, [], ◌∷◌, map, reverse, Option, None, Some, is_some, IsSome, if◌then◌else◌, refl, sym, ap, ◌∙◌, true≢false}
use Rattle.indexmap.proofs.ReorderLemmas.{map-reverse}
use Rattle.std.specs.List.{fold}
use Rattle.std.specs.Option.{option_map_or}
use Rattle.std.proofs.lemmas.List.Sums.{fold-append}
use Rattle.tx_eqtb.specs.declared.addr.Addr.{Addr}
use Rattle.tx_eqtb.specs.declared.meaning.Meaning.{Meaning}
use Rattle.tx_eqtb.specs.declared.meaning.Meaning.TheVariants as meaning
use Rattle.tx_eqtb.specs.Addresses.{same, update}
use Rattle.tx_eqtb.specs.Meanings.{Map}
use Rattle.tx_levels.specs.Levels.{assigned}
use Rattle.tx_levels.specs.Wholes.{Whole, leads, changed, last_given, integer_of}

-- one assignment more changes the map at its address
pub leads-changed : (whole : Whole) (at : Addr) (n : ℤ) (frozen : Map ℕ) → leads (changed whole at n) frozen ≡ update (leads whole frozen) at (meaning.Int n)
leads-changed whole at n frozen = fold-append (λ m e. update m e.0 (meaning.Int e.1)) frozen whole ((at, n) ∷ [])

step : (b : Bool) (n : ℤ) (found : Option ℤ) (there : Meaning ℕ) → (if b then meaning.Int n else option_map_or meaning.Int found there) ≡ option_map_or meaning.Int (if b then Some n else found) there
step true n found there = refl
step false n found there = refl

-- a map has at an address what the last assignment to it gave it, or else what the frozen map has
given : (whole : Whole) (here frozen : Map ℕ) (at : Addr) (found : Option ℤ) → here at ≡ option_map_or meaning.Int found (frozen at) → fold (λ m e. update m e.0 (meaning.Int e.1)) here whole at ≡ option_map_or meaning.Int (fold (λ f e. if same e.0 at then Some e.1 else f) found whole) (frozen at)
given [] here frozen at found is = is
given (e ∷ whole) here frozen at found is =
    given whole (update here e.0 (meaning.Int e.1)) frozen at (if same e.0 at then Some e.1 else found) (ap (λ m. if same e.0 at then meaning.Int e.1 else m) is ∙ step (same e.0 at) e.1 found (frozen at))

pub given-last : (whole : Whole) (frozen : Map ℕ) (at : Addr) → leads whole frozen at ≡ option_map_or meaning.Int (last_given at whole) (frozen at)
given-last whole frozen at = given whole frozen frozen at None refl

some_integer : (given : Option ℤ) (there : Meaning ℕ) → IsSome given → given ≡ integer_of (option_map_or meaning.Int given there)
some_integer None there some = absurd (true≢false (sym some))
some_integer (Some n) there some = refl

none_left : (given : Option ℤ) (there : Meaning ℕ) → is_some given ≡ false → option_map_or meaning.Int given there ≡ there
none_left None there absent = refl
none_left (Some n) there absent = absurd (true≢false absent)

pub integer-given : (whole : Whole) (frozen : Map ℕ) (at : Addr) (found : Option ℤ) → found ≡ last_given at whole → IsSome found → found ≡ integer_of (leads whole frozen at)
integer-given whole frozen at found is some =
    some_integer found (frozen at) some ∙ ap (λ g. integer_of (option_map_or meaning.Int g (frozen at))) is ∙ sym (ap integer_of (given-last whole frozen at))

pub not-given : (whole : Whole) (frozen : Map ℕ) (at : Addr) (found : Option ℤ) → found ≡ last_given at whole → is_some found ≡ false → frozen at ≡ leads whole frozen at
not-given whole frozen at found is absent =
    sym (none_left found (frozen at) absent) ∙ ap (λ g. option_map_or meaning.Int g (frozen at)) is ∙ sym (given-last whole frozen at)

-- the same of many maps
pub leads-all : (wholes : List Whole) (at : Addr) (n : ℤ) (frozen : Map ℕ) → map (λ whole. leads whole frozen) (map (λ whole. changed whole at n) wholes) ≡ map (λ m. update m at (meaning.Int n)) (map (λ whole. leads whole frozen) wholes)
leads-all [] at n frozen = refl
leads-all (whole ∷ wholes) at n frozen = λ i. leads-changed whole at n frozen i ∷ leads-all wholes at n frozen i

-- the levels after an assignment to all maps, from the outer maps in the order of their beginnings
pub assigned-all : (global : Bool) (at : Addr) (n : ℤ) (innermost first set : Whole) (xs ys : List Whole) → global ≡ true → set ≡ changed innermost at n → ys ≡ map (λ whole. changed whole at n) xs → record { innermost = set; outer = reverse ys; first = first } ≡ assigned global at n (record { innermost = innermost; outer = reverse xs; first = first })
assigned-all global at n innermost first set xs ys all here there =
    let one : Whole → Whole = λ whole. changed whole at n in
    let outer : reverse ys ≡ (if global then map one (reverse xs) else reverse xs) = ap reverse there ∙ sym (map-reverse one xs) ∙ ap (λ b. if b then map one (reverse xs) else reverse xs) (sym all) in
    λ i. record { innermost = here i; outer = outer i; first = first }
