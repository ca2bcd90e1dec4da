-- What a change of a table does to the map now and to the map before the region.
use Rattle.std.proofs.Common.{◌≡◌, Bool, true, false, List, Option, None, Some, is_some, IsSome, unwrap_or, if◌then◌else◌, refl, sym, ap, ◌∙◌, true≢false}
use Rattle.std.specs.Option.{option_map_or}
use Rattle.tx_eqtb.specs.declared.addr.Addr.{Addr}
use Rattle.tx_eqtb.specs.declared.meaning.Meaning.{Meaning}
use Rattle.tx_eqtb.specs.declared.meaning.Before.{Before}
use Rattle.tx_eqtb.specs.declared.meaning.Before.TheVariants as was
use Rattle.tx_eqtb.specs.Addresses.{entry_at, update}
use Rattle.tx_eqtb.specs.Meanings.{Map}
use Rattle.tx_eqtb.specs.Tables.{Table, entry, noted, now, said, before}
use Rattle.tx_eqtb.specs.Steps.{entry_before, IsLeftOf, where_noted}
use Rattle.tx_eqtb.proofs.AddressLemmas.{by_address}

module _ {B : Type 0} where
  said_before : (m : Meaning B) (b : Before B) → unwrap_or (entry_before b) m ≡ said m b
  said_before m was.Frozen = refl
  said_before m (was.Kept k) = refl

  either_way : (n : Option (Before B)) (f : Before B → Meaning B) (x : Meaning B) → x ≡ (if is_some n then x else option_map_or f n x)
  either_way None f x = refl
  either_way (Some b) f x = refl

  -- a note goes back into the entries: its address has again what it had before the region
  pub now-restored : (t u : Table B) (at : Addr) (b : Before B) → noted t at ≡ Some b → ((q : Addr) → noted u q ≡ update (noted t) at None q) → ((q : Addr) → entry u q ≡ update (entry t) at (entry_before b) q) → (frozen : Map B) (q : Addr) → now frozen u q ≡ where_noted u (now frozen t) (before frozen t) q
  now-restored t u at b was journal entries frozen q =
      let P : Addr → Bool → Type 0 = λ r c. unwrap_or (if c then entry_before b else entry t r) (frozen r) ≡ (if is_some (if c then None else noted t r) then now frozen t r else before frozen t r) in
      let here : P at true = said_before (frozen at) b ∙ ap (λ n. option_map_or (said (frozen at)) n (now frozen t at)) (sym was) in
      let others : (r : Addr) → P r false = λ r. either_way (noted t r) (said (frozen r)) (now frozen t r) in
      ap (λ x. unwrap_or x (frozen q)) (entries q) ∙ by_address at P here others q ∙ ap (λ n. if is_some n then now frozen t q else before frozen t q) (sym (journal q))

  -- the same at the address alone
  pub now-given : (t u : Table B) (at : Addr) (b : Before B) → noted t at ≡ Some b → ((q : Addr) → entry u q ≡ update (entry t) at (entry_before b) q) → (frozen : Map B) (q : Addr) → now frozen u q ≡ update (now frozen t) at (before frozen t at) q
  now-given t u at b was entries frozen q =
      let P : Addr → Bool → Type 0 = λ r c. unwrap_or (if c then entry_before b else entry t r) (frozen r) ≡ (if c then before frozen t at else now frozen t r) in
      let here : P at true = said_before (frozen at) b ∙ ap (λ n. option_map_or (said (frozen at)) n (now frozen t at)) (sym was) in
      let others : (r : Addr) → P r false = λ r. refl in
      ap (λ x. unwrap_or x (frozen q)) (entries q) ∙ by_address at P here others q

  -- the map before the region is the map now at the addresses that left the journal
  pub before-left : (t u : Table B) → u.entries ≡ t.entries → IsLeftOf t.journal u.journal → (frozen : Map B) (q : Addr) → before frozen u q ≡ where_noted u (before frozen t) (now frozen t) q
  before-left t u same_entries left frozen q = by (noted u q) (left q)
    where
      by : (n : Option (Before B)) → (IsSome n → n ≡ noted t q) → option_map_or (said (frozen q)) n (now frozen u q) ≡ (if is_some n then before frozen t q else now frozen t q)
      by None is = ap (λ l. unwrap_or (entry_at l q) (frozen q)) same_entries
      by (Some b) is = ap (λ n. option_map_or (said (frozen q)) n (now frozen t q)) (is refl)

  -- what is left of a journal after one note more is gone
  pub left-less : (js ks ls : List (Addr × Before B)) (at : Addr) → IsLeftOf js ks → ((q : Addr) → entry_at ls q ≡ update (entry_at ks) at None q) → IsLeftOf js ls
  left-less js ks ls at left less q some =
      let P : Addr → Bool → Type 0 = λ r c. IsSome (if c then None else entry_at ks r) → (if c then None else entry_at ks r) ≡ entry_at js r in
      let here : P at true = λ no. absurd (true≢false (sym no)) in
      let others : (r : Addr) → P r false = λ r. left r in
      less q ∙ by_address at P here others q (sym (ap is_some (less q)) ∙ some)
