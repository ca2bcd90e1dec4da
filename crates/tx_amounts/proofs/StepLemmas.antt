-- A scan that is given an item, whatever its reading is.
use Rattle.std.proofs.Common.{◌≡◌, ℕ, Bool, List, [], ◌∷◌, ◌++◌, Option, Some, None, refl, sym, ◌∙◌, ap}
use Rattle.std.proofs.lemmas.List.{append_assoc, append-nil}
use mathlib.Core.Path.{fun_ext}
use Rattle.tx_model.specs.Tokens.{Token}
use Rattle.tx_num.specs.declared.quantities.Quant.{Quant}
use Rattle.tx_num.specs.declared.quantities.Want.{Want}
use Rattle.tx_num.specs.declared.quantities.Want.TheVariants as want
use Rattle.tx_num.specs.declared.quantities.ErrorNo.{ErrorNo}
use Rattle.tx_quant.specs.Items as quantities
use Rattle.tx_private.specs.Meanings.{Meaning}
use Rattle.tx_private.specs.World.{World, Command}
use Rattle.tx_private.specs.Readings.{Value, Unexpandable, Amount, Item, Given, Move, Done, Bad}
use Rattle.tx_private.specs.Scans.{scan_from, scan_ends, scanned_item, token_of, put_back, may_start, starting, by_start}
use Rattle.tx_amounts.specs.declared.amount.ScanWish.TheVariants as wish
use Rattle.tx_amounts.specs.Automata.{valued, wish_at}
use Rattle.tx_amounts.specs.Scanning.{wished}

-- a quantity, or another item
by_start-same : (o : Option Command) (p q : Command → Move) (m n : Move) → ((c : Command) → p c ≡ q c) → m ≡ n → by_start o p m ≡ by_start o q n
by_start-same None p q m n e d = d
by_start-same (Some c) p q m n e d = e c

-- what was fed may count as what the reading says of the items behind it
fed-before : {V : Type 0} (begins : Meaning → Bool) (reading : quantities.Reading V) (value : V → Value) (before fed : List quantities.Item) (taken : List (Option Token)) (start : Option Command) (items : List Item) (w : World) → scan_from begins reading value (before ++ fed) taken start items w ≡ scan_from begins (λ later. reading (before ++ later)) value fed taken start items w
fed-before begins reading value before fed taken None [] w = refl
fed-before begins reading value before fed taken (Some c) [] w = refl
fed-before begins reading value before fed taken (Some c) (Given (Amount q) ∷ items) w =
    rw append_assoc (fed-before begins reading value before (fed ++ quantities.Quantity q ∷ []) taken None items w)
fed-before begins reading value before fed taken (Some c) (item ∷ items) w = refl
fed-before begins reading value before fed taken None (item ∷ items) w =
    by_start-same (starting begins (may_start (reading (before ++ fed))) item) _ _ _ _
    (λ c. fed-before begins reading value before fed taken (Some c) items w)
    (rw append_assoc (fed-before begins reading value before (fed ++ scanned_item item ∷ []) (token_of item ∷ taken) None items w))

pub nothing-fed : {V : Type 0} (begins : Meaning → Bool) (reading : quantities.Reading V) (value : V → Value) (fed : List quantities.Item) (taken : List (Option Token)) (start : Option Command) (items : List Item) (w : World) → scan_from begins reading value fed taken start items w ≡ scan_from begins (λ later. reading (fed ++ later)) value [] taken start items w
nothing-fed begins reading value fed taken start items w =
    ap (λ xs. scan_from begins reading value xs taken start items w) (sym (append-nil fed)) ∙ fed-before begins reading value fed [] taken start items w

-- After an item, a reading says of later items what another one says of them.
abbrev Agree : {V : Type 0} → quantities.Reading V → quantities.Item → quantities.Reading V → Type 0
Agree old x new = (next : quantities.Item) (items : List quantities.Item) → old (x ∷ next ∷ items) ≡ new (next ∷ items)

behind : {V : Type 0} (begins : Meaning → Bool) (value : V → Value) (old new : quantities.Reading V) (x : quantities.Item) → Agree old x new → (next : quantities.Item) (fed : List quantities.Item) (taken : List (Option Token)) (start : Option Command) (items : List Item) (w : World) → scan_from begins old value (x ∷ next ∷ fed) taken start items w ≡ scan_from begins new value (next ∷ fed) taken start items w
behind begins value old new x e next fed taken None [] w = ap (scan_ends value taken w) (e next fed)
behind begins value old new x e next fed taken (Some c) [] w = refl
behind begins value old new x e next fed taken (Some c) (Given (Amount q) ∷ items) w =
    behind begins value old new x e next (fed ++ quantities.Quantity q ∷ []) taken None items w
behind begins value old new x e next fed taken (Some c) (item ∷ items) w = refl
behind begins value old new x e next fed taken None (item ∷ items) w =
    rw (e next fed)
    (by_start-same (starting begins (may_start (new (next ∷ fed))) item) _ _ _ _
    (λ c. behind begins value old new x e next fed taken (Some c) items w)
    (behind begins value old new x e next (fed ++ scanned_item item ∷ []) (token_of item ∷ taken) None items w))

may_start-putting : {V : Type 0} (m : quantities.Move V) (back : ℕ) → may_start (quantities.putting_back back m) ≡ may_start m
may_start-putting (quantities.Asks want.Start n) back = refl
may_start-putting (quantities.Asks want.Expanded n) back = refl
may_start-putting (quantities.Asks want.Plain n) back = refl
may_start-putting (quantities.Asks (want.Factor kind) n) back = refl
may_start-putting (quantities.Gives v n) back = refl
may_start-putting (quantities.Fails error) back = refl

-- the first item was given, and a quantity has begun
begun-behind : {V : Type 0} (begins : Meaning → Bool) (value : V → Value) (old new : quantities.Reading V) (x : quantities.Item) → Agree old x new → (taken : List (Option Token)) (c : Command) (items : List Item) (w : World) → scan_from begins old value (x ∷ []) taken (Some c) items w ≡ scan_from begins new value [] taken (Some c) items w
begun-behind begins value old new x e taken c [] w = refl
begun-behind begins value old new x e taken c (Given (Amount q) ∷ items) w = behind begins value old new x e (quantities.Quantity q) [] taken None items w
begun-behind begins value old new x e taken c (item ∷ items) w = refl

-- the first item was given, after which the reading goes on
first-behind : {V : Type 0} (begins : Meaning → Bool) (value : V → Value) (old new : quantities.Reading V) (x : quantities.Item) (back : ℕ) → quantities.GoesOn old x new back → (taken : List (Option Token)) (next : Item) (items : List Item) (w : World) → scan_from begins old value (x ∷ []) taken None (next ∷ items) w ≡ scan_from begins new value [] taken None (next ∷ items) w
first-behind begins value old new x back on taken next items w =
    rw (ap may_start on.asks ∙ may_start-putting (new []) back)
    (by_start-same (starting begins (may_start (new [])) next) _ _ _ _
    (λ c. begun-behind begins value old new x on.later taken c items w)
    (behind begins value old new x on.later (scanned_item next) [] (token_of next ∷ taken) None items w))

-- where the outcome is open, a scan ends with its wish
pub ends-open : {V : Type 0} (value : V → Value) (m : quantities.Move V) (back : ℕ) (taken : List (Option Token)) (w : World) → quantities.IsOpen m → scan_ends value taken w (quantities.putting_back back m) ≡ wished None (wish_at m) (put_back back taken w)
ends-open value (quantities.Asks want.Start n) back taken w open' = refl
ends-open value (quantities.Asks want.Expanded n) back taken w open' = refl
ends-open value (quantities.Asks want.Plain n) back taken w open' = refl
ends-open value (quantities.Asks (want.Factor kind) n) back taken w open' = refl
ends-open value (quantities.Gives v n) back taken w open' = absurd open'
ends-open value (quantities.Fails error) back taken w open' = absurd open'

-- An item with which no quantity begins is fed to the reading. Where this goes on, the scan wishes for the next
-- item, after some of the tokens are put back.
pub onward-now : {V : Type 0} (begins : Meaning → Bool) (value : V → Value) (old new : quantities.Reading V) (item : Item) (back : ℕ) (taken : List (Option Token)) (w : World) → quantities.GoesOn old (scanned_item item) new back → starting begins (may_start (old [])) item ≡ None → scan_from begins old value [] taken None (item ∷ []) w ≡ wished None (wish_at (new [])) (put_back back (token_of item ∷ taken) w)
onward-now begins value old new item back taken w on plain =
    rw plain (ap (scan_ends value (token_of item ∷ taken) w) on.asks ∙ ends-open value (new []) back (token_of item ∷ taken) w on.is_open)

pub onward-later : {V : Type 0} (begins : Meaning → Bool) (value : V → Value) (old new : quantities.Reading V) (item : Item) (back : ℕ) (taken : List (Option Token)) → quantities.GoesOn old (scanned_item item) new back → starting begins (may_start (old [])) item ≡ None → (next : Item) (items : List Item) (w : World) → scan_from begins old value [] taken None (item ∷ next ∷ items) w ≡ scan_from begins new value [] (token_of item ∷ taken) None (next ∷ items) w
onward-later begins value old new item back taken on plain next items w =
    rw plain (first-behind begins value old new (scanned_item item) back on (token_of item ∷ taken) next items w)

-- it ends with a value
pub gives-now : {V : Type 0} (begins : Meaning → Bool) (value : V → Value) (old : quantities.Reading V) (item : Item) (v : V) (back : ℕ) (taken : List (Option Token)) (w : World) → old (scanned_item item ∷ []) ≡ quantities.Gives v back → starting begins (may_start (old [])) item ≡ None → scan_from begins old value [] taken None (item ∷ []) w ≡ Done (value v) (put_back back (token_of item ∷ taken) w)
gives-now begins value old item v back taken w gives plain = rw plain (ap (scan_ends value (token_of item ∷ taken) w) gives)

-- it ends with an error
pub fails-now : {V : Type 0} (begins : Meaning → Bool) (value : V → Value) (old : quantities.Reading V) (item : Item) (error : ErrorNo) (taken : List (Option Token)) (w : World) → old (scanned_item item ∷ []) ≡ quantities.Fails error → starting begins (may_start (old [])) item ≡ None → scan_from begins old value [] taken None (item ∷ []) w ≡ Bad (record { number = error; shown = [] }) w
fails-now begins value old item error taken w fails plain = rw plain (ap (scan_ends value (token_of item ∷ taken) w) fails)

-- the same of a quantity that had begun
pub quantity-now : {V : Type 0} (begins : Meaning → Bool) (value : V → Value) (old new : quantities.Reading V) (q : Quant) (c : Command) (back : ℕ) (taken : List (Option Token)) (w : World) → quantities.GoesOn old (quantities.Quantity q) new back → scan_from begins old value [] taken (Some c) (Given (Amount q) ∷ []) w ≡ wished None (wish_at (new [])) (put_back back taken w)
quantity-now begins value old new q c back taken w on =
    ap (scan_ends value taken w) on.asks ∙ ends-open value (new []) back taken w on.is_open

pub quantity-later : {V : Type 0} (begins : Meaning → Bool) (value : V → Value) (old new : quantities.Reading V) (q : Quant) (c : Command) (back : ℕ) (taken : List (Option Token)) → quantities.GoesOn old (quantities.Quantity q) new back → (next : Item) (items : List Item) (w : World) → scan_from begins old value [] taken (Some c) (Given (Amount q) ∷ next ∷ items) w ≡ scan_from begins new value [] taken None (next ∷ items) w
quantity-later begins value old new q c back taken on next items w =
    first-behind begins value old new (quantities.Quantity q) back on taken next items w

may_start-valued : {V U : Type 0} (f : V → U) (m : quantities.Move V) → may_start (valued f m) ≡ may_start m
may_start-valued f (quantities.Asks want.Start n) = refl
may_start-valued f (quantities.Asks want.Expanded n) = refl
may_start-valued f (quantities.Asks want.Plain n) = refl
may_start-valued f (quantities.Asks (want.Factor kind) n) = refl
may_start-valued f (quantities.Gives v n) = refl
may_start-valued f (quantities.Fails error) = refl

ends-valued : {V U : Type 0} (f : V → U) (value : U → Value) (taken : List (Option Token)) (w : World) (m : quantities.Move V) → scan_ends value taken w (valued f m) ≡ scan_ends (λ v. value (f v)) taken w m
ends-valued f value taken w (quantities.Asks how n) = refl
ends-valued f value taken w (quantities.Gives v n) = refl
ends-valued f value taken w (quantities.Fails error) = refl

-- the value of a reading may be made another one before the scan ends
pub value-before : {V U : Type 0} (begins : Meaning → Bool) (reading : quantities.Reading V) (f : V → U) (value : U → Value) (fed : List quantities.Item) (taken : List (Option Token)) (start : Option Command) (items : List Item) (w : World) → scan_from begins (λ later. valued f (reading later)) value fed taken start items w ≡ scan_from begins reading (λ v. value (f v)) fed taken start items w
value-before begins reading f value fed taken None [] w = ends-valued f value taken w (reading fed)
value-before begins reading f value fed taken (Some c) [] w = refl
value-before begins reading f value fed taken (Some c) (Given (Amount q) ∷ items) w =
    value-before begins reading f value (fed ++ quantities.Quantity q ∷ []) taken None items w
value-before begins reading f value fed taken (Some c) (item ∷ items) w = refl
value-before begins reading f value fed taken None (item ∷ items) w =
    rw (may_start-valued f (reading fed))
    (by_start-same (starting begins (may_start (reading fed)) item) _ _ _ _
    (λ c. value-before begins reading f value fed taken (Some c) items w)
    (value-before begins reading f value (fed ++ scanned_item item ∷ []) (token_of item ∷ taken) None items w))

-- readings that say the same make scans that do
pub same-reading : {V : Type 0} (begins : Meaning → Bool) (value : V → Value) (old new : quantities.Reading V) → ((items : List quantities.Item) → old items ≡ new items) → (items : List Item) (w : World) → scan_from begins old value [] [] None items w ≡ scan_from begins new value [] [] None items w
same-reading begins value old new e items w = ap (λ reading. scan_from begins reading value [] [] None items w) (fun_ext e)

-- a quantity begins with the first item
pub begun-first : {V : Type 0} (begins : Meaning → Bool) (value : V → Value) (reading : quantities.Reading V) (taken : List (Option Token)) (c : Command) (items : List Item) (w : World) → starting begins (may_start (reading [])) (Given (Unexpandable c)) ≡ Some c → scan_from begins reading value [] taken None (Given (Unexpandable c) ∷ items) w ≡ scan_from begins reading value [] taken (Some c) items w
begun-first begins value reading taken c items w e = rw e refl

-- no wish for a token is one for a quantity
pub wish_at-token : {V : Type 0} (m : quantities.Move V) → wish_at m ≡ wish.Quantity → ⊥
wish_at-token (quantities.Asks want.Start n) e = cc
wish_at-token (quantities.Asks want.Expanded n) e = cc
wish_at-token (quantities.Asks want.Plain n) e = cc
wish_at-token (quantities.Asks (want.Factor kind) n) e = cc
wish_at-token (quantities.Gives v n) e = cc
wish_at-token (quantities.Fails error) e = cc

-- what a scan does that was given nothing since is its wish
asks-now : {V : Type 0} (value : V → Value) (taken : List (Option Token)) (w : World) (how : Want) → let m : quantities.Move V = quantities.Asks how 0 in scan_ends value taken w m ≡ wished None (wish_at m) w
asks-now value taken w want.Start = refl
asks-now value taken w want.Expanded = refl
asks-now value taken w want.Plain = refl
asks-now value taken w (want.Factor kind) = refl

pub wish-now : {V : Type 0} (value : V → Value) (taken : List (Option Token)) (w : World) (m : quantities.Move V) (how : Want) → m ≡ quantities.Asks how 0 → scan_ends value taken w m ≡ wished None (wish_at m) w
wish-now value taken w m how e =
    ap (scan_ends value taken w) e ∙ asks-now value taken w how ∙ ap (λ n. wished None (wish_at n) w) (sym e)
