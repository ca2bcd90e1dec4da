-- Scans as open readings.
use Rattle.std.proofs.Common.{◌≡◌, Bool, true, false, List, [], ◌∷◌, Option, None, Some, refl, sym, ◌∙◌, ap}
use Rattle.std.specs.Option.{option_map}
use Rattle.tx_model.specs.Tokens.{Token}
use Rattle.tx_tok.specs.declared.tok.Tok.{Tok}
use Rattle.tx_quant.specs.Items as quantities
use Rattle.tx_private.specs.Meanings.{Meaning}
use Rattle.tx_private.specs.World.{World, put_in_front}
use Rattle.tx_private.specs.Readings as private
use Rattle.tx_private.specs.Moves.{move_in}
use Rattle.tx_private.specs.Scans.{scan_from, starting, by_start, may_start, scanned_item, token_of}
use Rattle.tx_opens.specs.Opens.{begun}
use Rattle.tx_amounts.specs.declared.begun.Begun.{Begun}
use Rattle.tx_amounts.specs.declared.scan.Scan.{Scan}
use Rattle.tx_amounts.specs.declared.amount.ScanWish.{ScanWish}
use Rattle.tx_amounts.specs.declared.amount.ScanWish.TheVariants as how
use Rattle.tx_amounts.specs.declared.amount.Scanned.{Scanned}
use Rattle.tx_amounts.specs.declared.amount.Scanned.TheVariants as scanned
use Rattle.tx_amounts.specs.Automata.{reading, begins, amount_in, wish_at}
use Rattle.tx_amounts.specs.Scanning as scans
use Rattle.tx_views.specs.declared.sense.Sense.{Sense}
use Rattle.tx_views.specs.Views.{View, all_viewed}
use Rattle.tx_frames.specs.declared.reading.Reading.{Reading}
use Rattle.tx_frames.specs.declared.reading.Reading.TheVariants as readings
use Rattle.tx_frames.specs.declared.frame.Wish.{Wish}
use Rattle.tx_frames.specs.declared.frame.Wish.TheVariants as wish
use Rattle.tx_frames.specs.declared.frame.Frame.TheVariants as frame
use Rattle.tx_frames.specs.declared.answer.Answer.TheVariants as answer
use Rattle.tx_frames.specs.Kinds.{kind_in, wished}
use Rattle.tx_frames.specs.Frames.{scan_wish, wish_of}
use Rattle.tx_frames.specs.Answers.{BecomesBegun}
use Rattle.tx_frames.specs.Scanned.{IsNoToken}

-- the wish for an item is the same in both words
pub wish-same : (view : View) (b : Option Begun) (h : ScanWish) (w : World) → scans.wished (option_map (scans.command_in view) b) h w ≡ wished view (scan_wish b h) w
wish-same view None how.Plain w = refl
wish-same view None how.Expanded w = refl
wish-same view None how.Quantity w = refl
wish-same view (Some b) h w = refl

abbrev wish-by : Option (Tok × Sense) → Wish
wish-by None = wish.Plain
wish-by (Some begun) = wish.Within (readings.Quantity begun.0 begun.1)

-- the quantity that has begun is the wish
pub wish-begun : (b : Option Begun) (h : ScanWish) (t : Tok) (s : Sense) → scans.started b ≡ Some (t, s) → wish.Within (readings.Quantity t s) ≡ scan_wish b h
wish-begun None h t s e = cc
wish-begun (Some b) h t s e = ap wish-by (sym e)

-- a scan begins
pub scan-begun : (view : View) (r : Reading) (s : Scan) (none : List Tok) (w : World) → ((items : List private.Item) (v : World) → scans.says view s items v ≡ move_in (kind_in view r) items v) → ((v : World) → move_in (kind_in view r) [] v ≡ scans.wish_move view s v) → none ≡ [] → BecomesBegun view (kind_in view r) w (answer.Goes (frame.Scan r s) none)
scan-begun view r s none w says wish e = (
  record { kind = refl; says = λ item later v. sym (says (item ∷ later) v) },
  wish w ∙ wish-same view s.begun (scans.wish_of s) w ∙ ap (λ t. wished view (wish_of (frame.Scan r s)) (put_in_front (all_viewed view t) w)) (sym e),
)

-- what is no token begins no quantity
starts-none : (b : Meaning → Bool) (t : Bool) (v : private.Value) → IsNoToken v → starting b t (private.Given v) ≡ None
starts-none b true (private.Unexpandable c) n = absurd n
starts-none b true private.TextEnd n = refl
starts-none b true (private.Tokens tokens) n = refl
starts-none b true (private.Amount q) n = refl
starts-none b true (private.Word k) n = refl
starts-none b true private.Nothing n = refl
starts-none b false v n = refl

item-same : (v : private.Value) → IsNoToken v → scanned_item (private.Given v) ≡ scanned_item (private.Given private.TextEnd)
item-same (private.Unexpandable c) n = absurd n
item-same private.TextEnd n = refl
item-same (private.Tokens tokens) n = refl
item-same (private.Amount q) n = refl
item-same (private.Word k) n = refl
item-same private.Nothing n = refl

token-same : (v : private.Value) → IsNoToken v → token_of (private.Given v) ≡ token_of (private.Given private.TextEnd)
token-same (private.Unexpandable c) n = absurd n
token-same private.TextEnd n = refl
token-same (private.Tokens tokens) n = refl
token-same (private.Amount q) n = refl
token-same (private.Word k) n = refl
token-same private.Nothing n = refl

-- to a scan all values that are no tokens are as the end of the text
from-same : {V : Type 0} (b : Meaning → Bool) (read : quantities.Reading V) (value : V → private.Value) (taken : List (Option Token)) (v : private.Value) (items : List private.Item) (w : World) → IsNoToken v → scan_from b read value [] taken None (private.Given v ∷ items) w ≡ scan_from b read value [] taken None (private.Given private.TextEnd ∷ items) w
from-same b read value taken v items w n =
    ap (λ o. by_start o (λ c. scan_from b read value [] taken (Some c) items w) (scan_from b read value (scanned_item (private.Given v) ∷ []) (token_of (private.Given v) ∷ taken) None items w)) (starts-none b (may_start (read [])) v n)
    ∙ ap (λ i. scan_from b read value (i ∷ []) (token_of (private.Given v) ∷ taken) None items w) (item-same v n)
    ∙ ap (λ t. scan_from b read value (scanned_item (private.Given private.TextEnd) ∷ []) (t ∷ taken) None items w) (token-same v n)
    ∙ sym (ap (λ o. by_start o (λ c. scan_from b read value [] taken (Some c) items w) (scan_from b read value (scanned_item (private.Given private.TextEnd) ∷ []) (token_of (private.Given private.TextEnd) ∷ taken) None items w)) (starts-none b (may_start (read [])) private.TextEnd tt))

-- no quantity has begun where an expanded token is wished for
none-begun : (b : Option Begun) (h : ScanWish) → scans.wish_behind b h ≡ how.Expanded → b ≡ None
none-begun None h e = refl
none-begun (Some b) h e = cc

says-same : (view : View) (s : Scan) (v : private.Value) (items : List private.Item) (w : World) → scans.wish_of s ≡ how.Expanded → IsNoToken v → scans.says view s (private.Given v ∷ items) w ≡ scans.says view s (private.Given private.TextEnd ∷ items) w
says-same view s v items w e n =
    let none = none-begun s.begun (wish_at (reading s.automaton [])) e in
    ap (λ b. scan_from (begins s.automaton) (reading s.automaton) amount_in [] (scans.taken_in view s.taken.items) (option_map (scans.command_in view) b) (private.Given v ∷ items) w) none
    ∙ from-same (begins s.automaton) (reading s.automaton) amount_in (scans.taken_in view s.taken.items) v items w n
    ∙ sym (ap (λ b. scan_from (begins s.automaton) (reading s.automaton) amount_in [] (scans.taken_in view s.taken.items) (option_map (scans.command_in view) b) (private.Given private.TextEnd ∷ items) w) none)

-- so an answer to the end of the text is one to such a value
pub tells-same : (view : View) (a : Scanned) (old : Scan) (v : private.Value) (new : Scan) → scans.wish_of old ≡ how.Expanded → IsNoToken v → scans.Tells view a old (private.Given private.TextEnd) new → scans.Tells view a old (private.Given v) new
tells-same view (scanned.More back) old v new e n t = record {
  now = λ w. says-same view old v [] w e n ∙ t.now w;
  later = λ next items w. says-same view old v (next ∷ items) w e n ∙ t.later next items w;
}
tells-same view (scanned.Done amount back) old v new e n t = λ w. says-same view old v [] w e n ∙ t w
tells-same view (scanned.Bad error) old v new e n t = λ w. says-same view old v [] w e n ∙ t w
tells-same view scanned.Memory old v new e n t = tt
