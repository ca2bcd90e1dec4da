-- What a scan answers is what it said of the item.
use Rattle.std.proofs.Common.{◌≡◌, ℕ, Bool, true, false, ◌&&◌, List, [], ◌∷◌, ◌++◌, Option, Some, None, refl, sym, ◌∙◌, ap, subst}
use Rattle.std.specs.Option.{option_map}
use Rattle.tx_tok.specs.declared.tok.Tok.{Tok}
use Rattle.tx_num.specs.declared.quantities.Quant.{Quant}
use Rattle.tx_num.specs.declared.quantities.Feed.{Feed}
use Rattle.tx_num.specs.declared.quantities.Feed.TheVariants as feed
use Rattle.tx_quant.specs.Items as quantities
use Rattle.tx_views.specs.declared.sense.Sense.{Sense}
use Rattle.tx_views.specs.Views.{View, viewed, all_viewed}
use Rattle.tx_views.specs.Meanings.{sense_in}
use Rattle.tx_private.specs.Meanings.{Meaning}
use Rattle.tx_private.specs.World.{World, Command, put_in_front}
use Rattle.tx_private.specs.Readings.{Unexpandable, TextEnd, Item, Given, Sub, QuantityFrom, Done}
use Rattle.tx_private.specs.Scans.{scan_from, scan_ends, scanned_item, token_of, put_back, may_start, starting}
use Rattle.tx_amounts.specs.declared.amount.Amount.{Amount}
use Rattle.tx_amounts.specs.declared.amount.Scanned.{Scanned}
use Rattle.tx_amounts.specs.declared.amount.Scanned.TheVariants as scanned
use Rattle.tx_amounts.specs.declared.amount.ScanWish.{ScanWish}
use Rattle.tx_amounts.specs.declared.amount.ScanWish.TheVariants as wish
use Rattle.tx_amounts.specs.declared.begun.Begun.{Begun}
use Rattle.tx_amounts.specs.declared.scan.Scan.{Scan}
use Rattle.tx_amounts.specs.Automata.{reading, begins, amount_in, wish_at}
use Rattle.tx_amounts.specs.Backs.{last_given, scanned_of, IsAnswer, IsNoted}
use Rattle.tx_amounts.specs.Scanning.{command_of, command_in, taken_in, says, wished, wish_behind, wish_move, GoesOn, Tells, token_item, quantity_item, plain_item, letter_in}
use Rattle.tx_amounts.proofs.BackLemmas.{put_back-last, taken_in-more}
use Rattle.tx_amounts.proofs.StepLemmas.{onward-now, onward-later, gives-now, fails-now, quantity-now, quantity-later, begun-first, wish_at-token}

-- where a token is wished for, no quantity has begun
pub expanded-none : (begun : Option Begun) (how : ScanWish) → wish_behind begun how ≡ wish.Expanded → begun ≡ None
expanded-none None how e = refl
expanded-none (Some b) how e = cc

pub plain-none : (begun : Option Begun) (how : ScanWish) → wish_behind begun how ≡ wish.Plain → begun ≡ None
plain-none None how e = refl
plain-none (Some b) how e = cc

-- with which items a quantity begins
pub starts : (begins : Meaning → Bool) (may : Bool) (c : Command) → (may && begins c.meaning) ≡ true → starting begins may (Given (Unexpandable c)) ≡ Some c
starts begins true c e = rw e refl
starts begins false c e = cc

pub starts-none : (begins : Meaning → Bool) (may : Bool) (c : Command) → (may && begins c.meaning) ≡ false → starting begins may (Given (Unexpandable c)) ≡ None
starts-none begins true c e = rw e refl
starts-none begins false c e = refl

pub starts-no_end : (begins : Meaning → Bool) (may : Bool) → starting begins may (Given TextEnd) ≡ None
starts-no_end begins true = refl
starts-no_end begins false = refl

pub starts-no_plain : (view : View) (meaning : Meaning) (t : Option Tok) (begins : Meaning → Bool) (may : Bool) → starting begins may (plain_item view meaning t) ≡ None
starts-no_plain view meaning None begins true = refl
starts-no_plain view meaning None begins false = refl
starts-no_plain view meaning (Some t) begins true = refl
starts-no_plain view meaning (Some t) begins false = refl

-- a token as it stands is its letter, and may be put back
pub plain-letter : (view : View) (meaning : Meaning) (t : Option Tok) → scanned_item (plain_item view meaning t) ≡ quantities.Letter (letter_in view t)
plain-letter view meaning None = refl
plain-letter view meaning (Some t) = refl

pub plain-token : (view : View) (meaning : Meaning) (t : Option Tok) → token_of (plain_item view meaning t) ≡ option_map (viewed view) t
plain-token view meaning None = refl
plain-token view meaning (Some t) = refl

-- where no quantity has begun, a scan says what its reading does
said : (view : View) (scan : Scan) (items : List Item) (w : World) → scan.begun ≡ None → says view scan items w ≡ scan_from (begins scan.automaton) (reading scan.automaton) amount_in [] (taken_in view scan.taken.items) None items w
said view scan items w none =
    ap (λ begun. scan_from (begins scan.automaton) (reading scan.automaton) amount_in [] (taken_in view scan.taken.items) (option_map (command_in view) begun) items w) none

wishes : (view : View) (scan : Scan) (w : World) → scan.begun ≡ None → wish_move view scan w ≡ wished None (wish_at (reading scan.automaton [])) w
wishes view scan w none =
    ap (λ begun. wished (option_map (command_in view) begun) (wish_behind begun (wish_at (reading scan.automaton []))) w) none

-- an item that is fed to the automaton
module _ (view : View) (old new : Scan) (item : Item) (t : Option Tok) (before : old.begun ≡ None) (after : new.begun ≡ None) (same : begins new.automaton ≡ begins old.automaton) (token : token_of item ≡ option_map (viewed view) t) (plain : starting (begins old.automaton) (may_start (reading old.automaton [])) item ≡ None) (noted : new.taken.items ≡ old.taken.items ++ t ∷ []) where
  taken-now : token_of item ∷ taken_in view old.taken.items ≡ taken_in view new.taken.items
  taken-now = ap (λ x. x ∷ taken_in view old.taken.items) token ∙ sym (taken_in-more view old.taken.items t) ∙ ap (taken_in view) (sym noted)

  put-now : (n : ℕ) (w : World) → put_back n (token_of item ∷ taken_in view old.taken.items) w ≡ put_in_front (all_viewed view (last_given n new.taken.items)) w
  put-now n w = ap (λ taken. put_back n taken w) taken-now ∙ put_back-last view n new.taken.items w

  goes-on : (n : ℕ) → quantities.GoesOn (reading old.automaton) (scanned_item item) (reading new.automaton) n → GoesOn view old item new (last_given n new.taken.items)
  goes-on n on = record {
    now = λ w. said view old (item ∷ []) w before ∙
        onward-now (begins old.automaton) amount_in (reading old.automaton) (reading new.automaton) item n (taken_in view old.taken.items) w on plain ∙
        ap (λ v. wished None (wish_at (reading new.automaton [])) v) (put-now n w) ∙
        sym (wishes view new (put_in_front (all_viewed view (last_given n new.taken.items)) w) after);
    later = λ next items w. said view old (item ∷ next ∷ items) w before ∙
        onward-later (begins old.automaton) amount_in (reading old.automaton) (reading new.automaton) item n (taken_in view old.taken.items) on plain next items w ∙
        ap (λ taken. scan_from (begins old.automaton) (reading new.automaton) amount_in [] taken None (next ∷ items) w) taken-now ∙
        ap (λ b. scan_from b (reading new.automaton) amount_in [] (taken_in view new.taken.items) None (next ∷ items) w) (sym same) ∙
        sym (said view new (next ∷ items) w after);
  }

  tells-answer : (answer : Feed Amount) → quantities.Answers answer (reading old.automaton) (scanned_item item) (reading new.automaton) → Tells view (scanned_of answer new.taken.items) old item new
  tells-answer (feed.More n) = λ a. goes-on n a
  tells-answer (feed.Done v n) = λ a w.
      said view old (item ∷ []) w before ∙
      gives-now (begins old.automaton) amount_in (reading old.automaton) item v n (taken_in view old.taken.items) w (a []) plain ∙
      ap (λ u. Done (amount_in v) u) (put-now n w)
  tells-answer (feed.Bad error) = λ a w.
      said view old (item ∷ []) w before ∙
      fails-now (begins old.automaton) amount_in (reading old.automaton) item error (taken_in view old.taken.items) w (a []) plain
  tells-answer feed.Memory = λ a. tt

pub tells : (view : View) (result : Scanned) (answer : Feed Amount) (old new : Scan) (item : Item) (t : Option Tok) → old.begun ≡ None → new.begun ≡ None → begins new.automaton ≡ begins old.automaton → token_of item ≡ option_map (viewed view) t → starting (begins old.automaton) (may_start (reading old.automaton [])) item ≡ None → quantities.Answers answer (reading old.automaton) (scanned_item item) (reading new.automaton) → IsAnswer result answer new.taken.items → IsNoted result old.taken.items t new.taken.items → Tells view result old item new
tells view (scanned.More back) answer old new item t before after same token plain a e noted =
    subst (λ r. Tells view r old item new) (sym e) (tells-answer view old new item t before after same token plain noted answer a)
tells view (scanned.Done v back) answer old new item t before after same token plain a e noted =
    subst (λ r. Tells view r old item new) (sym e) (tells-answer view old new item t before after same token plain noted answer a)
tells view (scanned.Bad error) answer old new item t before after same token plain a e noted =
    subst (λ r. Tells view r old item new) (sym e) (tells-answer view old new item t before after same token plain noted answer a)
tells view scanned.Memory answer old new item t before after same token plain a e noted = tt

-- the quantity that was wished for
module _ (view : View) (old new : Scan) (q : Quant) (b : Begun) (before : old.begun ≡ Some b) (after : new.begun ≡ None) (same : begins new.automaton ≡ begins old.automaton) (kept : new.taken.items ≡ old.taken.items) where
  begun-said : (items : List Item) (w : World) → says view old items w ≡ scan_from (begins old.automaton) (reading old.automaton) amount_in [] (taken_in view old.taken.items) (Some (command_in view b)) items w
  begun-said items w =
      ap (λ begun. scan_from (begins old.automaton) (reading old.automaton) amount_in [] (taken_in view old.taken.items) (option_map (command_in view) begun) items w) before

  put-kept : (n : ℕ) (w : World) → put_back n (taken_in view old.taken.items) w ≡ put_in_front (all_viewed view (last_given n new.taken.items)) w
  put-kept n w = ap (λ taken. put_back n (taken_in view taken) w) (sym kept) ∙ put_back-last view n new.taken.items w

  quantity-on : (n : ℕ) → quantities.GoesOn (reading old.automaton) (quantities.Quantity q) (reading new.automaton) n → GoesOn view old (quantity_item q) new (last_given n new.taken.items)
  quantity-on n on = record {
    now = λ w. begun-said (quantity_item q ∷ []) w ∙
        quantity-now (begins old.automaton) amount_in (reading old.automaton) (reading new.automaton) q (command_in view b) n (taken_in view old.taken.items) w on ∙
        ap (λ v. wished None (wish_at (reading new.automaton [])) v) (put-kept n w) ∙
        sym (wishes view new (put_in_front (all_viewed view (last_given n new.taken.items)) w) after);
    later = λ next items w. begun-said (quantity_item q ∷ next ∷ items) w ∙
        quantity-later (begins old.automaton) amount_in (reading old.automaton) (reading new.automaton) q (command_in view b) n (taken_in view old.taken.items) on next items w ∙
        ap (λ taken. scan_from (begins old.automaton) (reading new.automaton) amount_in [] (taken_in view taken) None (next ∷ items) w) (sym kept) ∙
        ap (λ b. scan_from b (reading new.automaton) amount_in [] (taken_in view new.taken.items) None (next ∷ items) w) (sym same) ∙
        sym (said view new (next ∷ items) w after);
  }

  quantity-answer : (answer : Feed Amount) → quantities.Answers answer (reading old.automaton) (quantities.Quantity q) (reading new.automaton) → Tells view (scanned_of answer new.taken.items) old (quantity_item q) new
  quantity-answer (feed.More n) = λ a. quantity-on n a
  quantity-answer (feed.Done v n) = λ a w.
      begun-said (quantity_item q ∷ []) w ∙
      ap (scan_ends amount_in (taken_in view old.taken.items) w) (a []) ∙
      ap (λ u. Done (amount_in v) u) (put-kept n w)
  quantity-answer (feed.Bad error) = λ a w.
      begun-said (quantity_item q ∷ []) w ∙ ap (scan_ends amount_in (taken_in view old.taken.items) w) (a [])
  quantity-answer feed.Memory = λ a. tt

pub tells-quantity : (view : View) (result : Scanned) (answer : Feed Amount) (old new : Scan) (q : Quant) (b : Begun) → old.begun ≡ Some b → new.begun ≡ None → begins new.automaton ≡ begins old.automaton → new.taken.items ≡ old.taken.items → quantities.Answers answer (reading old.automaton) (quantities.Quantity q) (reading new.automaton) → IsAnswer result answer new.taken.items → Tells view result old (quantity_item q) new
tells-quantity view (scanned.More back) answer old new q b before after same kept a e =
    subst (λ r. Tells view r old (quantity_item q) new) (sym e) (quantity-answer view old new q b before after same kept answer a)
tells-quantity view (scanned.Done v back) answer old new q b before after same kept a e =
    subst (λ r. Tells view r old (quantity_item q) new) (sym e) (quantity-answer view old new q b before after same kept answer a)
tells-quantity view (scanned.Bad error) answer old new q b before after same kept a e =
    subst (λ r. Tells view r old (quantity_item q) new) (sym e) (quantity-answer view old new q b before after same kept answer a)
tells-quantity view scanned.Memory answer old new q b before after same kept a e = tt

-- a token with which a quantity begins
pub tells-begun : (view : View) (old new : Scan) (t : Tok) (sense : Sense) → old.begun ≡ None → new.begun ≡ Some (record { token = t; sense = sense }) → new.automaton ≡ old.automaton → new.taken.items ≡ old.taken.items → (may_start (reading old.automaton []) && begins old.automaton (sense_in view sense)) ≡ true → GoesOn view old (token_item view t sense) new []
tells-begun view old new t sense before after same kept begins-one = record {
  now = λ w. first [] w ∙
      sym (ap (λ b. wished (option_map (command_in view) b) (wish_behind b (wish_at (reading new.automaton []))) (put_in_front [] w)) after);
  later = λ next items w. first (next ∷ items) w ∙
      sym (ap (λ b. scan_from (begins new.automaton) (reading new.automaton) amount_in [] (taken_in view new.taken.items) (option_map (command_in view) b) (next ∷ items) w) after ∙
      ap (λ a. scan_from (begins a) (reading a) amount_in [] (taken_in view new.taken.items) (Some (command_of view t sense)) (next ∷ items) w) same ∙
      ap (λ taken. scan_from (begins old.automaton) (reading old.automaton) amount_in [] (taken_in view taken) (Some (command_of view t sense)) (next ∷ items) w) kept);
}
  where
    first : (items : List Item) (w : World) → says view old (token_item view t sense ∷ items) w ≡ scan_from (begins old.automaton) (reading old.automaton) amount_in [] (taken_in view old.taken.items) (Some (command_of view t sense)) items w
    first items w =
        said view old (token_item view t sense ∷ items) w before ∙
        begun-first (begins old.automaton) amount_in (reading old.automaton) (taken_in view old.taken.items) (command_of view t sense) items w
        (starts (begins old.automaton) (may_start (reading old.automaton [])) (command_of view t sense) begins-one)

-- a quantity is wished for where one has begun
pub quantity-begun : (begun : Option Begun) (m : quantities.Move Amount) → wish_behind begun (wish_at m) ≡ wish.Quantity → (b : Begun) × (begun ≡ Some b)
quantity-begun (Some b) m e = (b, refl)
quantity-begun None m e = absurd (wish_at-token m e)

pub wishes-quantity : (view : View) (scan : Scan) (w : World) (b : Begun) → scan.begun ≡ Some b → wish_move view scan w ≡ Sub (QuantityFrom (command_in view b)) w
wishes-quantity view scan w b e =
    ap (λ begun. wished (option_map (command_in view) begun) (wish_behind begun (wish_at (reading scan.automaton []))) w) e
