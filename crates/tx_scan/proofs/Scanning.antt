-- The definitions of the scanner, without the bounds of their recursions.
use Rattle.std.proofs.Common.{◌≡◌, ℕ, zero, suc, ◌<◌, ◌≤◌, ◌==◌, ◌&&◌, Bool, true, false, List, [], ◌∷◌, length, Option, Some, None, if◌then◌else◌, ◌++◌, refl, ◌∙◌, sym, ap, append_assoc, append-nil, subst, arith}
use Rattle.std.specs.Prelude.{nat_lt}
use Rattle.tx_model.specs.declared.category.Cat.{Cat}
use Rattle.tx_model.specs.declared.category.LineState.{LineState}
use Rattle.tx_model.specs.Scanner.{Found, LineUsed, Run, is_superscript, is_letter, hex_value, hex_byte, shifted, by_digits, after_superscripts, noted, go_on, fronted_within, fronted, letters_at, letters_within, letters_in, gives_nothing, token_at, found_at, found_within, found_in}

-- these bytes, if there are any, are so many at the most
abbrev pub AtMost : ℕ → Option (List ℕ) → Type 0
AtMost n None = Unit {0}
AtMost n (Some line) = length line ≤ n

either-at-most : (n : ℕ) (t : Bool) (a b : Option (List ℕ)) → AtMost n a → AtMost n b → AtMost n (if t then a else b)
either-at-most n true a b h k = h
either-at-most n false a b h k = k

shifted-at-most : (n b : ℕ) (bytes : List ℕ) → length bytes < n → AtMost n (shifted b bytes)
shifted-at-most n b bytes h =
    either-at-most n (nat_lt b 64) _ _ (omega arith) (either-at-most n (nat_lt b 128) _ None (omega arith) tt)

by-digits-at-most : (n : ℕ) (byte : Option ℕ) (b c : ℕ) (bytes : List ℕ) → suc (length bytes) < n → AtMost n (by_digits byte b c bytes)
by-digits-at-most n (Some byte) b c bytes h = omega arith
by-digits-at-most n None b c bytes h = shifted-at-most n b (c ∷ bytes) h

after-at-most : (n : ℕ) (bytes : List ℕ) → length bytes ≤ n → AtMost n (after_superscripts bytes)
after-at-most n [] h = tt
after-at-most n (b ∷ []) h = shifted-at-most n b [] h
after-at-most n (b ∷ c ∷ bytes) h = by-digits-at-most n (hex_byte (hex_value b) (hex_value c)) b c bytes h

-- what a notation stands for is shorter
noted-at-most : (cats : ℕ → Cat) (b : ℕ) (bytes : List ℕ) → AtMost (length bytes) (noted cats (b ∷ bytes))
noted-at-most cats b [] = tt
noted-at-most cats b (c ∷ bytes) =
    either-at-most (suc (length bytes)) (is_superscript (cats b) && (b == c)) (after_superscripts bytes) None (after-at-most (suc (length bytes)) bytes (omega arith)) tt

same-goes-on : (f g : List ℕ → List ℕ) (bytes : List ℕ) (next : Option (List ℕ)) (n : ℕ) → AtMost n next → ((line : List ℕ) → length line ≤ n → f line ≡ g line) → go_on f bytes next ≡ go_on g bytes next
same-goes-on f g bytes None n most same = refl
same-goes-on f g bytes (Some line) n most same = same line most

-- a bound that is no less than the bytes are many doesn't matter
enough-fronted : (cats : ℕ → Cat) (n m : ℕ) (bytes : List ℕ) → length bytes ≤ n → length bytes ≤ m → fronted_within n cats bytes ≡ fronted_within m cats bytes
enough-fronted cats zero zero bytes h k = refl
enough-fronted cats zero (suc m) [] h k = refl
enough-fronted cats zero (suc m) (b ∷ bytes) h k = absurd (omega arith)
enough-fronted cats (suc n) zero [] h k = refl
enough-fronted cats (suc n) zero (b ∷ bytes) h k = absurd (omega arith)
enough-fronted cats (suc n) (suc m) [] h k = refl
enough-fronted cats (suc n) (suc m) (b ∷ bytes) h k =
    same-goes-on (fronted_within n cats) (fronted_within m cats) (b ∷ bytes) (noted cats (b ∷ bytes)) (length bytes) (noted-at-most cats b bytes)
    (λ line e. enough-fronted cats n m line (omega arith) (omega arith))

pub fronted-is : (cats : ℕ → Cat) (bytes : List ℕ) → fronted cats bytes ≡ go_on (fronted cats) bytes (noted cats bytes)
fronted-is cats [] = refl
fronted-is cats (b ∷ bytes) =
    same-goes-on (fronted_within (length bytes) cats) (fronted cats) (b ∷ bytes) (noted cats (b ∷ bytes)) (length bytes) (noted-at-most cats b bytes)
    (λ line e. enough-fronted cats (length bytes) (length line) line e (omega arith))

-- what a notation stands for has the same byte in front
pub fronted-noted : (cats : ℕ → Cat) (bytes line : List ℕ) → noted cats bytes ≡ Some line → fronted cats bytes ≡ fronted cats line
fronted-noted cats bytes line e = fronted-is cats bytes ∙ subst (λ o. go_on (fronted cats) bytes (noted cats bytes) ≡ go_on (fronted cats) bytes o) e refl

-- without a notation the first byte stands in front
pub fronted-plain : (cats : ℕ → Cat) (bytes : List ℕ) → noted cats bytes ≡ None → fronted cats bytes ≡ bytes
fronted-plain cats bytes e = fronted-is cats bytes ∙ subst (λ o. go_on (fronted cats) bytes (noted cats bytes) ≡ go_on (fronted cats) bytes o) e refl

short-goes-on : (f : List ℕ → List ℕ) (bytes : List ℕ) (next : Option (List ℕ)) → AtMost (length bytes) next → ((line : List ℕ) → length (f line) ≤ length line) → length (go_on f bytes next) ≤ length bytes
short-goes-on f bytes None most short = omega arith
short-goes-on f bytes (Some line) most short = omega (arith, short line)

more-at-most : (n : ℕ) (next : Option (List ℕ)) → AtMost n next → AtMost (suc n) next
more-at-most n None most = tt
more-at-most n (Some line) most = omega arith

short-fronted : (cats : ℕ → Cat) (n : ℕ) (bytes : List ℕ) → length (fronted_within n cats bytes) ≤ length bytes
short-fronted cats zero bytes = omega arith
short-fronted cats (suc n) [] = omega arith
short-fronted cats (suc n) (b ∷ bytes) =
    short-goes-on (fronted_within n cats) (b ∷ bytes) (noted cats (b ∷ bytes)) (more-at-most (length bytes) (noted cats (b ∷ bytes)) (noted-at-most cats b bytes)) (short-fronted cats n)

pub fronted-short : (cats : ℕ → Cat) (bytes : List ℕ) → length (fronted cats bytes) ≤ length bytes
fronted-short cats bytes = short-fronted cats (length bytes) bytes

same-letters : (f g : List ℕ → Run) (cats : ℕ → Cat) (bytes : List ℕ) → ((line : List ℕ) → length line < length bytes → f line ≡ g line) → letters_at f cats bytes ≡ letters_at g cats bytes
same-letters f g cats [] same = refl
same-letters f g cats (b ∷ bytes) same = subst (λ r. letters_at f cats (b ∷ bytes) ≡ (if is_letter (cats b) then record { letters = b ∷ r.letters; behind = r.behind } else record { letters = []; behind = b ∷ bytes })) (same bytes (omega arith)) refl

enough-letters : (cats : ℕ → Cat) (n m : ℕ) (bytes : List ℕ) → length bytes ≤ n → length bytes ≤ m → letters_within n cats bytes ≡ letters_within m cats bytes
enough-letters cats zero zero bytes h k = refl
enough-letters cats zero (suc m) [] h k = refl
enough-letters cats zero (suc m) (b ∷ bytes) h k = absurd (omega arith)
enough-letters cats (suc n) zero [] h k = refl
enough-letters cats (suc n) zero (b ∷ bytes) h k = absurd (omega arith)
enough-letters cats (suc n) (suc m) bytes h k =
    same-letters (letters_within n cats) (letters_within m cats) cats (fronted cats bytes)
    (λ line e. enough-letters cats n m line (omega (arith, fronted-short cats bytes)) (omega (arith, fronted-short cats bytes)))

pub letters-are : (cats : ℕ → Cat) (bytes : List ℕ) → letters_in cats bytes ≡ letters_at (letters_in cats) cats (fronted cats bytes)
letters-are cats [] = refl
letters-are cats (b ∷ bytes) =
    same-letters (letters_within (length bytes) cats) (letters_in cats) cats (fronted cats (b ∷ bytes))
    (λ line e. enough-letters cats (length bytes) (length line) line (omega (arith, fronted-short cats (b ∷ bytes))) (omega arith))

same-found : (f g : List ℕ → Found) (cats : ℕ → Cat) (state : LineState) (bytes : List ℕ) → ((line : List ℕ) → length line < length bytes → f line ≡ g line) → found_at f cats state bytes ≡ found_at g cats state bytes
same-found f g cats state [] same = refl
same-found f g cats state (b ∷ bytes) same = subst (λ r. found_at f cats state (b ∷ bytes) ≡ (if gives_nothing state (cats b) then r else token_at cats state (cats b) b bytes)) (same bytes (omega arith)) refl

enough-found : (cats : ℕ → Cat) (state : LineState) (n m : ℕ) (bytes : List ℕ) → length bytes ≤ n → length bytes ≤ m → found_within n cats state bytes ≡ found_within m cats state bytes
enough-found cats state zero zero bytes h k = refl
enough-found cats state zero (suc m) [] h k = refl
enough-found cats state zero (suc m) (b ∷ bytes) h k = absurd (omega arith)
enough-found cats state (suc n) zero [] h k = refl
enough-found cats state (suc n) zero (b ∷ bytes) h k = absurd (omega arith)
enough-found cats state (suc n) (suc m) bytes h k =
    same-found (found_within n cats state) (found_within m cats state) cats state (fronted cats bytes)
    (λ line e. enough-found cats state n m line (omega (arith, fronted-short cats bytes)) (omega (arith, fronted-short cats bytes)))

pub found-is : (cats : ℕ → Cat) (state : LineState) (bytes : List ℕ) → found_in cats state bytes ≡ found_at (found_in cats state) cats state (fronted cats bytes)
found-is cats state [] = refl
found-is cats state (b ∷ bytes) =
    same-found (found_within (length bytes) cats state) (found_in cats state) cats state (fronted cats (b ∷ bytes))
    (λ line e. enough-found cats state (length bytes) (length line) line (omega (arith, fronted-short cats (b ∷ bytes))) (omega arith))

-- no byte stands in front
pub found-none : (cats : ℕ → Cat) (state : LineState) (bytes : List ℕ) → fronted cats bytes ≡ [] → found_in cats state bytes ≡ LineUsed
found-none cats state bytes e = found-is cats state bytes ∙ subst (λ o. found_at (found_in cats state) cats state (fronted cats bytes) ≡ found_at (found_in cats state) cats state o) e refl

-- a byte stands in front
found-front : (cats : ℕ → Cat) (state : LineState) (bytes : List ℕ) (b : ℕ) (rest : List ℕ) → fronted cats bytes ≡ b ∷ rest → found_in cats state bytes ≡ (if gives_nothing state (cats b) then found_in cats state rest else token_at cats state (cats b) b rest)
found-front cats state bytes b rest e = found-is cats state bytes ∙ subst (λ o. found_at (found_in cats state) cats state (fronted cats bytes) ≡ found_at (found_in cats state) cats state o) e refl

-- it gives nothing
pub found-behind : (cats : ℕ → Cat) (state : LineState) (bytes : List ℕ) (b : ℕ) (rest : List ℕ) → fronted cats bytes ≡ b ∷ rest → gives_nothing state (cats b) ≡ true → found_in cats state bytes ≡ found_in cats state rest
found-behind cats state bytes b rest e t = found-front cats state bytes b rest e ∙ subst (λ o. (if gives_nothing state (cats b) then found_in cats state rest else token_at cats state (cats b) b rest) ≡ (if o then found_in cats state rest else token_at cats state (cats b) b rest)) t refl

-- it gives something
pub found-there : (cats : ℕ → Cat) (state : LineState) (bytes : List ℕ) (b : ℕ) (rest : List ℕ) → fronted cats bytes ≡ b ∷ rest → gives_nothing state (cats b) ≡ false → found_in cats state bytes ≡ token_at cats state (cats b) b rest
found-there cats state bytes b rest e t = found-front cats state bytes b rest e ∙ subst (λ o. (if gives_nothing state (cats b) then found_in cats state rest else token_at cats state (cats b) b rest) ≡ (if o then found_in cats state rest else token_at cats state (cats b) b rest)) t refl

-- no letter stands in front of a line that is used up
pub letters-none : (cats : ℕ → Cat) (bytes : List ℕ) → fronted cats bytes ≡ [] → letters_in cats bytes ≡ record { letters = []; behind = [] }
letters-none cats bytes e = letters-are cats bytes ∙ subst (λ o. letters_at (letters_in cats) cats (fronted cats bytes) ≡ letters_at (letters_in cats) cats o) e refl

letters-front : (cats : ℕ → Cat) (bytes : List ℕ) (b : ℕ) (rest : List ℕ) → fronted cats bytes ≡ b ∷ rest → letters_in cats bytes ≡ letters_at (letters_in cats) cats (b ∷ rest)
letters-front cats bytes b rest e = letters-are cats bytes ∙ subst (λ o. letters_at (letters_in cats) cats (fronted cats bytes) ≡ letters_at (letters_in cats) cats o) e refl

pub letters-more : (cats : ℕ → Cat) (bytes : List ℕ) (b : ℕ) (rest : List ℕ) → fronted cats bytes ≡ b ∷ rest → is_letter (cats b) ≡ true → letters_in cats bytes ≡ record { letters = b ∷ (letters_in cats rest).letters; behind = (letters_in cats rest).behind }
letters-more cats bytes b rest e t = letters-front cats bytes b rest e ∙ rw t refl

pub letters-end : (cats : ℕ → Cat) (bytes : List ℕ) (b : ℕ) (rest : List ℕ) → fronted cats bytes ≡ b ∷ rest → is_letter (cats b) ≡ false → letters_in cats bytes ≡ record { letters = []; behind = b ∷ rest }
letters-end cats bytes b rest e t = letters-front cats bytes b rest e ∙ rw t refl

-- a name's letters, as a loop finds them: one more, and none more
pub name-grows : (name text letters more new : List ℕ) (b : ℕ) → letters ≡ b ∷ more → new ≡ text ++ b ∷ [] → name ≡ text ++ letters → name ≡ new ++ more
name-grows name text letters more new b run grown so_far = so_far ∙ ap (λ l. text ++ l) run ∙ sym (ap (λ l. l ++ more) grown ∙ append_assoc text (b ∷ []) more)

pub name-ends : (name text letters : List ℕ) → letters ≡ [] → name ≡ text ++ letters → text ≡ name
name-ends name text letters none so_far = sym (so_far ∙ ap (λ l. text ++ l) none ∙ append-nil text)
