-- The tokens that are put back, as the definitions have them.
use Rattle.std.proofs.Common.{◌≡◌, ℕ, ◌-◌, List, [], ◌∷◌, ◌++◌, length, map, reverse, take, drop, Option, Some, None, refl, sym, ◌∙◌, ap}
use Rattle.std.proofs.lemmas.List.{reverse-append, reverse-reverse, length-reverse, take-append-drop, drop_at, drop-map, length-map, length-drop, map-append}
use Rattle.std.specs.List.{flat_map}
use Rattle.std.specs.Option.{option_map, option_to_list}
use Rattle.tx_tok.specs.declared.tok.Tok.{Tok}
use Rattle.tx_views.specs.Views.{View, viewed, all_viewed}
use Rattle.tx_private.specs.World.{World, put_in_front}
use Rattle.tx_private.specs.Scans.{put_back}
use Rattle.tx_amounts.specs.Backs.{last_given}
use Rattle.tx_amounts.specs.Scanning.{taken_in}

-- the first of a list, turned round, are the last of the list turned round
reverse-take : {A : Type 0} (n : ℕ) (xs : List A) → reverse (take n xs) ≡ drop (length xs - n) (reverse xs)
reverse-take n xs =
    sym (ap (λ ys. drop (length xs - n) (reverse ys)) (sym (take-append-drop n xs)) ∙
    ap (λ ys. drop (length xs - n) ys) (reverse-append (take n xs) (drop n xs)) ∙
    drop_at (reverse (drop n xs)) (reverse (take n xs)) (length xs - n) (length-reverse (drop n xs) ∙ length-drop n xs))

-- the last of a list, the latest first
last-of : {A : Type 0} (n : ℕ) (xs : List A) → reverse (take n (reverse xs)) ≡ drop (length xs - n) xs
last-of n xs = reverse-take n (reverse xs) ∙ ap (λ k. drop (k - n) (reverse (reverse xs))) (length-reverse xs) ∙ ap (λ ys. drop (length xs - n) ys) (reverse-reverse xs)

given-map : {A B : Type 0} (f : A → B) (xs : List (Option A)) → flat_map option_to_list (map (option_map f) xs) ≡ map f (flat_map option_to_list xs)
given-map f [] = refl
given-map f (None ∷ xs) = given-map f xs
given-map f (Some x ∷ xs) = ap (λ ys. f x ∷ ys) (given-map f xs)

-- what is put back of the tokens that were taken
pub put_back-last : (view : View) (n : ℕ) (taken : List (Option Tok)) (w : World) → put_back n (taken_in view taken) w ≡ put_in_front (all_viewed view (last_given n taken)) w
put_back-last view n taken w = ap (λ tokens. put_in_front tokens w) tokens
  where
    tokens : flat_map option_to_list (reverse (take n (reverse (map (option_map (viewed view)) taken)))) ≡ all_viewed view (last_given n taken)
    tokens =
        ap (λ xs. flat_map option_to_list xs) (last-of n (map (option_map (viewed view)) taken)) ∙
        ap (λ k. flat_map option_to_list (drop (k - n) (map (option_map (viewed view)) taken))) (length-map taken (option_map (viewed view))) ∙
        ap (λ xs. flat_map option_to_list xs) (drop-map (option_map (viewed view)) (length taken - n) taken) ∙
        given-map (viewed view) (drop (length taken - n) taken)

-- one token more is the latest
pub taken_in-more : (view : View) (taken : List (Option Tok)) (t : Option Tok) → taken_in view (taken ++ t ∷ []) ≡ option_map (viewed view) t ∷ taken_in view taken
taken_in-more view taken t = ap reverse (map-append (option_map (viewed view)) taken (t ∷ [])) ∙ reverse-append (map (option_map (viewed view)) taken) (option_map (viewed view) t ∷ [])
