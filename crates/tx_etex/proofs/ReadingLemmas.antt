-- What is said of an expression depends on what was read by its value alone.
use Rattle.std.proofs.Common.{◌≡◌, Bool, true, false, cond, if◌then◌else◌, List, [], ◌∷◌, Option, Some, None, refl, ap, sym}
use Rattle.tx_tok.specs.declared.tok.Tok.{Tok}
use Rattle.tx_num.specs.declared.quantities.QuantKind.{QuantKind}
use Rattle.tx_num.specs.declared.quantities.QuantKind.TheVariants as quant_kind
use Rattle.tx_num.specs.declared.quantities.Want.TheVariants as want
use Rattle.tx_etex.specs.declared.amount.Amount.{Amount}
use Rattle.tx_etex.specs.declared.sums.Sign.TheVariants as sign
use Rattle.tx_etex.specs.declared.level.Scale.{Scale}
use Rattle.tx_etex.specs.declared.level.Scale.TheVariants as scale
use Rattle.tx_etex.specs.declared.level.Level.{Level as State}
use Rattle.tx_etex.specs.declared.expression.Stage.{Stage}
use Rattle.tx_etex.specs.declared.expression.Stage.TheVariants as stage
use Rattle.tx_etex.specs.Expressions.{amount_of, Tree, Quantity, Inner, Sum, Difference, Product, Quotient, within, dividend, exact, value}
use Rattle.tx_etex.specs.Readings.{Item, Token, Factor, Move, Asks, Fails, missing_parenthesis, outcome, is_space, is_other, Level, level_begun, whole, next_term, next_factor, behind_operator, reads, expression}
use Rattle.tx_etex.specs.Values.{scaled, added, total, due_in, due, begun, divided, behind_sign, behind_star, behind_slash, behind}
use Rattle.tx_etex.specs.States.{ended, says_at}

abbrev is_product : Tree → Bool
is_product (Product a b) = true
is_product _ = false

abbrev is_times : Scale → Bool
is_times (scale.Times a) = true
is_times _ = false

-- a tree of this kind has this value, and is no product
record IsFactor (kind : QuantKind) (f : Tree) (v : Option Amount) : Type 0 where
  value : exact kind f ≡ v
  alone : is_product f ≡ false

-- the level has these values
record Stands (l : Level) (s : State) : Type 0 where
  same_kind : l.kind ≡ s.kind
  same_due : l.due ≡ due s
  sum : (t : Tree) (v : Option Amount) → exact s.kind t ≡ v → exact s.kind (l.sum t) ≡ added s.kind s.sum v
  term : (f : Tree) (v : Option Amount) → exact (due s) f ≡ v → exact s.kind (l.term f) ≡ scaled s.kind s.term v
  times : (f : Tree) → is_product f ≡ false → is_product (l.term f) ≡ is_times s.term

-- levels stand for those outside one of this kind
abbrev StandOutside : QuantKind → List Level → List State → Type 0
StandOutside kind [] [] = Unit {0}
StandOutside kind (l ∷ ls) (s ∷ ss) = (due s ≡ kind) × Stands l s × StandOutside s.kind ls ss
StandOutside kind [] (s ∷ ss) = ⊥
StandOutside kind (l ∷ ls) [] = ⊥

abbrev StandsAt : QuantKind → Option Tree → Stage → Type 0
StandsAt kind None stage.Due = Unit {0}
StandsAt kind (Some f) (stage.Behind v) = IsFactor kind f v
StandsAt kind None (stage.Behind v) = ⊥
StandsAt kind (Some f) stage.Due = ⊥

stands-begun : (k kind : QuantKind) → k ≡ kind → Stands (level_begun k) (begun kind)
stands-begun k kind e = record {
  same_kind = e;
  same_due = e;
  sum = λ t v h. h;
  term = λ f v h. h;
  times = λ f h. h;
}

whole-value : (l : Level) (s : State) → Stands l s → (f : Tree) (v : Option Amount) → exact (due s) f ≡ v →
    exact s.kind (whole l f) ≡ total s v
whole-value l s st f v h = st.sum (l.term f) (scaled s.kind s.term v) (st.term f v h)

stands-plus : (l : Level) (s : State) → Stands l s → (f : Tree) (v : Option Amount) → IsFactor (due s) f v →
    Stands (next_term l (λ x. Sum (whole l f) x)) (behind_sign sign.Plus s v)
stands-plus l s st f v h = record {
  same_kind = st.same_kind;
  same_due = st.same_kind;
  sum = λ t w e. rw (whole-value l s st f v h.value, e);
  term = λ g w e. e;
  times = λ g e. e;
}

stands-minus : (l : Level) (s : State) → Stands l s → (f : Tree) (v : Option Amount) → IsFactor (due s) f v →
    Stands (next_term l (λ x. Difference (whole l f) x)) (behind_sign sign.Minus s v)
stands-minus l s st f v h = record {
  same_kind = st.same_kind;
  same_due = st.same_kind;
  sum = λ t w e. rw (whole-value l s st f v h.value, e);
  term = λ g w e. e;
  times = λ g e. e;
}

stands-star : (l : Level) (s : State) → Stands l s → (f : Tree) (v : Option Amount) → IsFactor (due s) f v →
    Stands (next_factor l (λ x. Product (l.term f) x)) (behind_star s v)
stands-star l s st f v h = record {
  same_kind = st.same_kind;
  same_due = refl;
  sum = st.sum;
  term = λ g w e. rw (st.term f v h.value, e);
  times = λ g e. refl;
}

-- a product is divided as it is
dividend-product : (kind : QuantKind) (t : Tree) (v : Option Amount) → is_product t ≡ true → dividend kind t v ≡ v
dividend-product kind (Product a b) v e = refl
dividend-product kind (Quantity q) v e = cc
dividend-product kind (Inner t) v e = cc
dividend-product kind (Sum a b) v e = cc
dividend-product kind (Difference a b) v e = cc
dividend-product kind (Quotient a b) v e = cc

dividend-other : (kind : QuantKind) (t : Tree) (v : Option Amount) → is_product t ≡ false → dividend kind t v ≡ within kind v
dividend-other kind (Product a b) v e = cc
dividend-other kind (Quantity q) v e = refl
dividend-other kind (Inner t) v e = refl
dividend-other kind (Sum a b) v e = refl
dividend-other kind (Difference a b) v e = refl
dividend-other kind (Quotient a b) v e = refl

-- the value of a quotient whose dividend is a term of this value
quotient-value : (kind : QuantKind) (term : Scale) (v w : Option Amount) (t g : Tree) →
    is_product t ≡ is_times term → exact kind t ≡ scaled kind term v → exact quant_kind.Int g ≡ w →
    exact kind (Quotient t g) ≡ scaled kind (divided kind term v) w
quotient-value kind (scale.Times a) v w t g p e d = rw (dividend-product kind t (exact kind t) p, e, d)
quotient-value kind scale.Alone v w t g p e d = rw (dividend-other kind t (exact kind t) p, e, d)
quotient-value kind (scale.Over a) v w t g p e d = rw (dividend-other kind t (exact kind t) p, e, d)
quotient-value kind (scale.TimesOver a n) v w t g p e d = rw (dividend-other kind t (exact kind t) p, e, d)

due-divided : (kind : QuantKind) (term : Scale) (v : Option Amount) → quant_kind.Int ≡ due_in kind (divided kind term v)
due-divided kind (scale.Times a) v = refl
due-divided kind scale.Alone v = refl
due-divided kind (scale.Over a) v = refl
due-divided kind (scale.TimesOver a n) v = refl

times-divided : (kind : QuantKind) (term : Scale) (v : Option Amount) → false ≡ is_times (divided kind term v)
times-divided kind (scale.Times a) v = refl
times-divided kind scale.Alone v = refl
times-divided kind (scale.Over a) v = refl
times-divided kind (scale.TimesOver a n) v = refl

stands-slash : (l : Level) (s : State) → Stands l s → (f : Tree) (v : Option Amount) → IsFactor (due s) f v →
    Stands (next_factor l (λ x. Quotient (l.term f) x)) (behind_slash s v)
stands-slash l s st f v h = record {
  same_kind = st.same_kind;
  same_due = due-divided s.kind s.term v;
  sum = st.sum;
  term = λ g w e.
      quotient-value s.kind s.term v w (l.term f) g (st.times f h.alone) (st.term f v h.value)
      (rw (due-divided s.kind s.term v) e);
  times = λ g e. times-divided s.kind s.term v;
}

-- what an operator leads to
abbrev StandsNext : QuantKind → Option Level → Option State → Type 0
StandsNext kind None None = Unit {0}
StandsNext kind (Some l) (Some s) = Stands l s × (s.kind ≡ kind)
StandsNext kind None (Some s) = ⊥
StandsNext kind (Some l) None = ⊥

next-if : (b : Bool) (kind : QuantKind) (l : Level) (s : State) (o : Option Level) (p : Option State) →
    Stands l s → s.kind ≡ kind → StandsNext kind o p → StandsNext kind (cond b (Some l) o) (cond b (Some s) p)
next-if true kind l s o p st e h = (st, e)
next-if false kind l s o p st e h = h

stands-behind : (l : Level) (s : State) (f : Tree) (v : Option Amount) (t : Tok) → Stands l s → IsFactor (due s) f v →
    StandsNext s.kind (behind_operator l f t) (behind s v t)
stands-behind l s f v t st h =
    next-if (is_other 43 t) s.kind _ _ _ _ (stands-plus l s st f v h) refl
    (next-if (is_other 45 t) s.kind _ _ _ _ (stands-minus l s st f v h) refl
    (next-if (is_other 42 t) s.kind _ _ _ _ (stands-star l s st f v h) refl
    (next-if (is_other 47 t) s.kind _ _ None None (stands-slash l s st f v h) refl tt)))

same-if : {A : Type 0} (b : Bool) (x y u v : A) → x ≡ y → u ≡ v → cond b x u ≡ cond b y v
same-if true x y u v e g = e
same-if false x y u v e g = g

-- both go on alike behind what an operator leads to, or at the end
same-next : (kind : QuantKind) (o : Option Level) (p : Option State) (r : Level → Move) (m : State → Move) (x y : Move) →
    StandsNext kind o p → ((l : Level) (s : State) → Stands l s → s.kind ≡ kind → r l ≡ m s) → x ≡ y →
    (elim o as (λ _. Move) [ Some l ↦ r l | None ↦ x ]) ≡ (elim p as (λ _. Move) [ Some s ↦ m s | None ↦ y ])
same-next kind None None r m x y h g e = e
same-next kind (Some l) (Some s) r m x y h g e = g l s h.0 h.1
same-next kind None (Some s) r m x y h g e = absurd h
same-next kind (Some l) None r m x y h g e = absurd h

-- the end of an expression, where what the next one out goes on with is alike
same-end : (l : Level) (s : State) (ls : List Level) (ss : List State) (f : Tree) (v : Option Amount) (t : Tok)
    (r : Level → List Level → Option Tree → Move) (m : State → List State → Stage → Move) →
    Stands l s → StandOutside s.kind ls ss → exact (due s) f ≡ v →
    ((o : Level) (p : State) (others : List Level) (ps : List State) (g : Tree) (w : Option Amount) → Stands o p →
    StandOutside p.kind others ps → IsFactor (due p) g w → r o others (Some g) ≡ m p ps (stage.Behind w)) →
    (elim ls as (λ _. Move) [
      | [] ↦ outcome l.kind (value l.kind (whole l f))
      | o ∷ others ↦ if is_other 41 t then r o others (Some (Inner (whole l f))) else Fails missing_parenthesis
    ]) ≡ ended s.kind ss (within s.kind (total s v)) t m
same-end l s [] [] f v t r m st out e g = rw (st.same_kind, whole-value l s st f v e)
same-end l s (o ∷ others) (p ∷ ps) f v t r m st out e g =
    same-if (is_other 41 t) _ _ _ _
    (g o p others ps (Inner (whole l f)) (within s.kind (total s v)) out.1 out.2
    (record { value = rw (out.0, whole-value l s st f v e); alone = refl }))
    refl
same-end l s [] (p ∷ ps) f v t r m st out e g = absurd out
same-end l s (o ∷ others) [] f v t r m st out e g = absurd out

reads-says : (items : List Item) (l : Level) (s : State) (ls : List Level) (ss : List State) (o : Option Tree) (at : Stage) →
    Stands l s → StandOutside s.kind ls ss → StandsAt (due s) o at → reads l ls o items ≡ says_at s ss at items
reads-says items l s ls ss None (stage.Behind v) st out h = absurd h
reads-says items l s ls ss (Some f) stage.Due st out h = absurd h
reads-says [] l s ls ss None stage.Due st out h = ap (λ kind. Asks (want.Factor kind)) st.same_due
reads-says [] l s ls ss (Some f) (stage.Behind v) st out h = refl
reads-says (Factor q ∷ items) l s ls ss None stage.Due st out h =
    reads-says items l s ls ss (Some (Quantity q)) (stage.Behind (Some (amount_of q))) st out (record { value = refl; alone = refl })
reads-says (Factor q ∷ items) l s ls ss (Some f) (stage.Behind v) st out h =
    reads-says items l s ls ss (Some f) (stage.Behind v) st out h
reads-says (Token t ∷ items) l s ls ss None stage.Due st out h =
    same-if (is_other 40 t) _ _ _ _
    (reads-says items (level_begun l.due) (begun (due s)) (l ∷ ls) (s ∷ ss) None stage.Due (stands-begun l.due (due s) st.same_due) (refl, st, out) tt)
    (reads-says items l s ls ss None stage.Due st out tt)
reads-says (Token t ∷ items) l s ls ss (Some f) (stage.Behind v) st out h =
    same-if (is_space t) _ _ _ _
    (reads-says items l s ls ss (Some f) (stage.Behind v) st out h)
    (same-next s.kind (behind_operator l f t) (behind s v t)
    (λ next. reads next ls None items) (λ next. says_at next ss stage.Due items) _ _
    (stands-behind l s f v t st h)
    (λ next p at e. reads-says items next p ls ss None stage.Due at (rw e out) tt)
    (same-end l s ls ss f v t (λ o others g. reads o others g items) (λ p ps at. says_at p ps at items) st out h.value
    (λ o p others ps g w at outer k. reads-says items o p others ps (Some g) (stage.Behind w) at outer k)))

-- an expression at its start
pub says-expression : (kind : QuantKind) (items : List Item) → says_at (begun kind) [] stage.Due items ≡ expression kind items
says-expression kind items =
    sym (reads-says items (level_begun kind) (begun kind) [] [] None stage.Due (stands-begun kind kind refl) tt tt)
