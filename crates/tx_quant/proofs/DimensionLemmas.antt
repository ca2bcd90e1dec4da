use Rattle.std.proofs.Common.{◌≡◌, ℕ, ◌+◌, ◌*◌, ◌<◌, ◌^◌, nat_lt, Bool, true, false, List, [], ◌∷◌, Option, Some, None, refl, sym, ◌∙◌, ap}
use Rattle.std.proofs.lemmas.Bool.{lt-ltb}
use Rattle.tx_tok.specs.declared.tok.Tok.{Tok}
use Rattle.tx_quant.specs.declared.factor.Factor.{Factor}
use Rattle.tx_quant.specs.declared.setting.Setting.{Setting}
use Rattle.tx_quant.specs.declared.size.Size.{Size}
use Rattle.tx_quant.specs.declared.next.Next.{Next}
use Rattle.tx_quant.specs.declared.next.Next.TheVariants as next
use Rattle.tx_quant.specs.declared.units.UnitWord.{UnitWord}
use Rattle.tx_quant.specs.declared.units.Begun.{Begun}
use Rattle.tx_quant.specs.declared.units.Begun.TheVariants as begun
use Rattle.tx_quant.specs.declared.units.UnitStep.{UnitStep}
use Rattle.tx_quant.specs.declared.units.UnitStep.TheVariants as step
use Rattle.tx_quant.specs.declared.dimension_stage.DimStage.{DimStage}
use Rattle.tx_quant.specs.declared.dimension_stage.DimStage.TheVariants as stage
use Rattle.tx_quant.specs.Items.{Item, Token, Reading, IsOpen, GoesOn, putting_back, is_space}
use Rattle.tx_quant.specs.Behinds.{Behind, Leads}
use Rattle.tx_quant.specs.Spelling.{Words, letter, going_on_with, spelled, spell}
use Rattle.tx_quant.specs.Numbers.{digit}
use Rattle.tx_quant.specs.Factors.{factor}
use Rattle.tx_quant.specs.Fractions.{with_decimal}
use Rattle.tx_quant.specs.Units.{due, left, lengths, unit_words}
use Rattle.tx_quant.specs.Dimensions.{Sized, after_true, after_word, behind_whole, decimals, is_point, no_unit_here, true_unit, unit_after, unsigned_dimension, whole}
use Rattle.tx_quant.specs.DimensionStates.{dimension_at, stepped}
use Rattle.tx_num.specs.Decimals.{round_digits}

-- each stage asks for an item
pub stage_is_open : (s : Setting) (stage : DimStage) → IsOpen (dimension_at s stage [])
stage_is_open s (stage.Sign negative) = tt
stage_is_open s (stage.Whole w) = tt
stage_is_open s (stage.Decimals d) = tt
stage_is_open s (stage.Unit f) = tt
stage_is_open s (stage.Letters f b) = tt
stage_is_open s (stage.True f) = tt
stage_is_open s (stage.TrueLetters f b) = tt
stage_is_open s (stage.Infinite v order) = tt
stage_is_open s (stage.Space v order) = tt

-- with nothing put back
stage_asks : (s : Setting) (stage : DimStage) → dimension_at s stage [] ≡ putting_back 0 (dimension_at s stage [])
stage_asks s (stage.Sign negative) = refl
stage_asks s (stage.Whole w) = refl
stage_asks s (stage.Decimals d) = refl
stage_asks s (stage.Unit f) = refl
stage_asks s (stage.Letters f b) = refl
stage_asks s (stage.True f) = refl
stage_asks s (stage.TrueLetters f b) = refl
stage_asks s (stage.Infinite v order) = refl
stage_asks s (stage.Space v order) = refl

-- a reading goes on at a stage that says the same of what comes later
pub goes_on_at : (s : Setting) (old : Reading (Behind Size)) (item : Item) (stage : DimStage) → ((items : List Item) → old (item ∷ items) ≡ dimension_at s stage items) → GoesOn old item (dimension_at s stage) 0
goes_on_at s old item stage same = record {
  is_open = stage_is_open s stage;
  asks = same [] ∙ stage_asks s stage;
  later = λ next items. same (next ∷ items);
}

-- an answer to one reading is one to a reading that says the same from this item on
pub leads_alike : (s : Setting) (answer : Next DimStage Size) (old other : Reading (Behind Size)) (item : Item) → ((items : List Item) → other (item ∷ items) ≡ old (item ∷ items)) → Leads (dimension_at s) answer old item → Leads (dimension_at s) answer other item
leads_alike s (next.More stage back) old other item same goes = record {
  is_open = goes.is_open;
  asks = same [] ∙ goes.asks;
  later = λ next items. same (next ∷ items) ∙ goes.later next items;
}
leads_alike s (next.Done v back) old other item same done = λ items. same items ∙ done items
leads_alike s (next.Bad error) old other item same bad = λ items. same items ∙ bad items

-- where a unit is missing, the number of the letters that were taken doesn't count
spelled_any : (s : Setting) (found : UnitWord → Reading (Behind Size)) (more : Words UnitWord) (n m : ℕ) (items : List Item) (x y : Sized) → x ≡ y → spelled found (no_unit_here s) more n items x ≡ spelled found (no_unit_here s) more m items y
spelled_any s found [] n m items x y same = refl
spelled_any s found ((w, []) ∷ words) n m items x y same = refl
spelled_any s found ((w, d ∷ due) ∷ words) n m items x y same = same

spell_any : (s : Setting) (found : UnitWord → Reading (Behind Size)) (words : Words UnitWord) (n m : ℕ) (items : List Item) → spell found (no_unit_here s) words n items ≡ spell found (no_unit_here s) words m items
spell_any s found words n m [] = refl
spell_any s found words n m (item ∷ items) =
    spelled_any s found (going_on_with (letter item) words) (n + 1) (m + 1) items _ _ (spell_any s found (going_on_with (letter item) words) (n + 1) (m + 1) items)

-- letters are due of a unit that was begun
spelled_due : (s : Setting) (found : UnitWord → Reading (Behind Size)) (b : Begun) (n : ℕ) (items : List Item) (more : Sized) → spelled found (no_unit_here s) (due b) n items more ≡ more
spelled_due s found begun.P n items more = refl
spelled_due s found begun.I n items more = refl
spelled_due s found begun.C n items more = refl
spelled_due s found begun.M n items more = refl
spelled_due s found begun.B n items more = refl
spelled_due s found begun.D n items more = refl
spelled_due s found begun.S n items more = refl
spelled_due s found begun.E n items more = refl
spelled_due s found begun.MathM n items more = refl
spelled_due s found begun.T n items more = refl
spelled_due s found begun.Tr n items more = refl
spelled_due s found begun.Tru n items more = refl
spelled_due s found begun.F n items more = refl
spelled_due s found begun.Fi n items more = refl

spelled_left : (s : Setting) (found : UnitWord → Reading (Behind Size)) (step : UnitStep) (items : List Item) → spelled found (no_unit_here s) (left step) 1 items (spell found (no_unit_here s) (left step) 1 items) ≡ stepped s found step items
spelled_left s found (step.Found word) items = refl
spelled_left s found (step.Due b) items = spelled_due s found b 1 items _ ∙ spell_any s found (due b) 1 0 items
spelled_left s found step.Missing items = refl

-- what a token makes of a unit
pub letter_step : (s : Setting) (found : UnitWord → Reading (Behind Size)) (words : Words UnitWord) (t : Tok) (l : Option ℕ) (step : UnitStep) → l ≡ letter (Token t) → going_on_with l words ≡ left step → (items : List Item) → spell found (no_unit_here s) words 0 (Token t ∷ items) ≡ stepped s found step items
letter_step s found words t l step is_letter goes items =
    ap (λ (more : Words UnitWord). spelled found (no_unit_here s) more 1 items (spell found (no_unit_here s) more 1 items))
    (ap (λ (c : Option ℕ). going_on_with c words) (sym is_letter) ∙ goes)
    ∙ spelled_left s found step items

-- the first token of a unit
pub unit_step : (s : Setting) (f : Factor) (t : Tok) (space : Bool) (l : Option ℕ) (step : UnitStep) → space ≡ is_space (Token t) → space ≡ false → l ≡ letter (Token t) → going_on_with l (unit_words s) ≡ left step → (items : List Item) → unit_after s f (Token t ∷ items) ≡ stepped s (after_word s f) step items
unit_step s f t space l step is not_one is_letter goes items =
    let blank : is_space (Token t) ≡ false = sym is ∙ not_one in
    rw blank (letter_step s (after_word s f) (unit_words s) t l step is_letter goes items)

-- the first token of a unit after `true`
pub true_step : (s : Setting) (f : Factor) (t : Tok) (space : Bool) (l : Option ℕ) (step : UnitStep) → space ≡ is_space (Token t) → space ≡ false → l ≡ letter (Token t) → going_on_with l lengths ≡ left step → (items : List Item) → after_true s f (Token t ∷ items) ≡ stepped s (true_unit s f) step items
true_step s f t space l step is not_one is_letter goes items =
    let blank : is_space (Token t) ≡ false = sym is ∙ not_one in
    rw blank (letter_step s (true_unit s f) lengths t l step is_letter goes items)

-- a decimal more
pub decimal_more : (s : Setting) (negative : Bool) (n : ℕ) (ds : List ℕ) (t : Tok) (d : ℕ) (negative' : Bool) (n' : ℕ) (ds' : List ℕ) → Some d ≡ digit 10 (Token t) → ds' ≡ with_decimal ds d → negative' ≡ negative → n' ≡ n → (items : List Item) → decimals s negative n ds (Token t ∷ items) ≡ decimals s negative' n' ds' items
decimal_more s negative n ds t d negative' n' ds' is more sign same items = rw (← is, more, sign, same)

-- an item that is no decimal
pub decimals_end : (s : Setting) (negative : Bool) (n : ℕ) (ds : List ℕ) (item : Item) (f : Factor) → None ≡ digit 10 item → f ≡ factor negative n (round_digits ds) → (items : List Item) → decimals s negative n ds (item ∷ items) ≡ unit_after s f (item ∷ items)
decimals_end s negative n ds item f is same items = rw (← is) (ap (λ (g : Factor). unit_after s g (item ∷ items)) (sym same))

-- a token behind digits that is neither a digit nor a point
pub whole_end : (s : Setting) (negative : Bool) (n : ℕ) (t : Tok) (f : Factor) (point : Bool) → point ≡ is_point (Token t) → point ≡ false → f ≡ factor negative n 0 → (items : List Item) → behind_whole s negative n (Token t ∷ items) ≡ unit_after s f (Token t ∷ items)
whole_end s negative n t f point is not_one same items =
    let none : is_point (Token t) ≡ false = sym is ∙ not_one in
    rw none (ap (λ (g : Factor). unit_after s g (Token t ∷ items)) (sym same))

-- a point behind no digits
pub first_point : (s : Setting) (negative : Bool) (t : Tok) (point : Bool) (negative' : Bool) (n' : ℕ) (ds' : List ℕ) → None ≡ digit 10 (Token t) → point ≡ is_point (Token t) → point ≡ true → ds' ≡ [] → negative' ≡ negative → n' ≡ 0 → (items : List Item) → unsigned_dimension s negative (Token t ∷ items) ≡ decimals s negative' n' ds' items
first_point s negative t point negative' n' ds' none is one empty sign zero items =
    let found : is_point (Token t) ≡ true = sym is ∙ one in
    rw (← none, found, empty, sign, zero)

-- a digit more
pub whole_more : (s : Setting) (negative : Bool) (n : ℕ) (t : Tok) (d v : ℕ) → Some d ≡ digit 10 (Token t) → v ≡ n * 10 + d → v < 2 ^ 31 → (items : List Item) → whole s negative n (Token t ∷ items) ≡ whole s negative v items
whole_more s negative n t d v is more few items =
    let low : nat_lt v (2 ^ 31) ≡ true = lt-ltb v (2 ^ 31) few in
    rw (← is, ← more, low)
