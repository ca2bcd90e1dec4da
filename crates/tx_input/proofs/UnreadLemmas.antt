-- What a list more, and a token less, makes of the tokens that are left to read.
use Rattle.std.proofs.Common.{◌≡◌, ℕ, zero, suc, ◌+◌, ◌<◌, List, [], ◌∷◌, ◌++◌, length, get_or, take, drop, set, sym, ◌∙◌, ap, subst, append_assoc, arith, add-one}
use Rattle.std.proofs.Math.Seq.{take-suc, take-suc-set, drop-cons}
use Rattle.std.proofs.Math.ListN.{length-set, drop_of_length-le}
use Rattle.std.proofs.lemmas.List.{append-nil, take_all, take-set}
use Rattle.tx_tok.specs.declared.tok.Tok.{Tok}
use Rattle.tx_input.specs.declared.lists.ListRead.{ListRead}
use Rattle.tx_input.specs.Unread.{unread, AreUnread}

-- the last list is read first
pub unread-last : (lists : List ListRead) (l : ListRead) → unread (lists ++ l ∷ []) ≡ drop l.read l.tokens ++ unread lists
unread-last [] l = sym (append-nil (drop l.read l.tokens))
unread-last (x ∷ lists) l =
    ap (λ tokens. tokens ++ drop x.read x.tokens) (unread-last lists l) ∙ append_assoc (drop l.read l.tokens) (unread lists) (drop x.read x.tokens)

pub are-unread-last : (lists : List ListRead) (l : ListRead) → l.read < length l.tokens → AreUnread lists → AreUnread (lists ++ l ∷ [])
are-unread-last [] l less all = (less, tt)
are-unread-last (x ∷ lists) l less all = (all.0, are-unread-last lists l less all.1)

-- a list is its first elements and the last one
with-last : {X : Type 0} (xs : List X) (i : ℕ) (d : X) → length xs ≡ i + 1 → xs ≡ take i xs ++ get_or xs i d ∷ []
with-last xs i d len =
    let within : i < length xs = omega arith in
    sym (take_all (suc i) xs (omega arith)) ∙ take-suc xs i d within

-- the same after a write to the last one
pub last-set : {X : Type 0} (xs : List X) (i : ℕ) (x : X) → length xs ≡ i + 1 → set xs i x ≡ take i xs ++ x ∷ []
last-set xs i x len =
    let within : i < length xs = omega arith in
    let same : length (set xs i x) ≡ length xs = length-set xs i x in
    sym (take_all (suc i) (set xs i x) (omega arith)) ∙ take-suc-set xs i x within

-- the first token that is left to read
pub first-left : (lists : List ListRead) (i : ℕ) (l : ListRead) (d : Tok) → length lists ≡ i + 1 → l ≡ get_or lists i l → l.read < length l.tokens → unread lists ≡ get_or l.tokens l.read d ∷ (drop (l.read + 1) l.tokens ++ unread (take i lists))
first-left lists i l d len is less =
    ap unread (with-last lists i l len ∙ ap (λ x. take i lists ++ x ∷ []) (sym is))
    ∙ unread-last (take i lists) l
    ∙ ap (λ tokens. tokens ++ unread (take i lists)) (drop-cons l.tokens l.read d less)
    ∙ ap (λ n. get_or l.tokens l.read d ∷ (drop n l.tokens ++ unread (take i lists))) (sym (add-one l.read))

-- what holds of each list holds of the one at a place
pub unread-at : (lists : List ListRead) (i : ℕ) (l : ListRead) → AreUnread lists → i < length lists → l ≡ get_or lists i l → l.read < length l.tokens
unread-at [] i l all within is = absurd (omega arith)
unread-at (x ∷ lists) zero l all within is = subst (λ (y : ListRead). y.read < length y.tokens) (sym is) all.0
unread-at (x ∷ lists) (suc i) l all within is = unread-at lists i l all.1 (omega arith) is

-- the last token of a list is read, and the list is dropped
pub list-used : (lists new : List ListRead) (i n : ℕ) (l written : ListRead) (tokens : List Tok) (d : Tok) → length lists ≡ i + 1 → l ≡ get_or lists i l → AreUnread lists → l.read + 1 ≡ length l.tokens → tokens ≡ l.tokens → n ≡ i → new ≡ take n (set lists i written) → unread lists ≡ get_or tokens l.read d ∷ unread new
list-used lists new i n l written tokens d len is all used are at becomes =
    let within : i < length lists = omega arith in
    let none : drop (l.read + 1) l.tokens ≡ [] = drop_of_length-le l.tokens (omega arith) in
    let left : new ≡ take i lists = becomes ∙ ap (λ k. take k (set lists i written)) at ∙ take-set lists i written in
    first-left lists i l d len is (unread-at lists i l all within is)
    ∙ ap (λ ts. get_or l.tokens l.read d ∷ (ts ++ unread (take i lists))) none
    ∙ ap (λ ls. get_or l.tokens l.read d ∷ unread ls) (sym left)
    ∙ ap (λ ts. get_or ts l.read d ∷ unread new) (sym are)

-- a token of a list is read, and more are left
pub list-left : (lists : List ListRead) (i : ℕ) (l : ListRead) (tokens : List Tok) (d : Tok) → length lists ≡ i + 1 → l ≡ get_or lists i l → AreUnread lists → tokens ≡ l.tokens → unread lists ≡ get_or tokens l.read d ∷ unread (set lists i (record { tokens = l.tokens; read = l.read + 1 }))
list-left lists i l tokens d len is all are =
    let within : i < length lists = omega arith in
    let next : ListRead = record { tokens = l.tokens; read = l.read + 1 } in
    first-left lists i l d len is (unread-at lists i l all within is)
    ∙ ap (λ ts. get_or l.tokens l.read d ∷ ts) (sym (ap unread (last-set lists i next len) ∙ unread-last (take i lists) next))
    ∙ ap (λ ts. get_or ts l.read d ∷ unread (set lists i next)) (sym are)
