-- A delimited argument is the shortest balanced tokens before its delimiter.
use Rattle.std.proofs.Common.{◌≡◌, ℕ, length-append, arith, Bool, true, false, not, cond, ◌&&◌, ◌||◌, eqb, List, [], ◌∷◌, ◌++◌, refl, sym, ◌∙◌, ap, append_assoc, append-nil}
use Rattle.std.proofs.lemmas.Bool.{eq-eqb}
use Rattle.tx_tok.specs.declared.tok.Tok.{Tok}
use Rattle.tx_macro.specs.declared.rule.Rule.{Rule}
use Rattle.tx_macro.specs.declared.rule.Misuse.TheVariants as misuse
use Rattle.tx_macro.specs.Outcome.{same, is_end, level_after, Depth, At, Breaks, grown, Standing, Stands, Within, Differs, standing, Found, stripped, ended, onward, delimited}
use Rattle.tx_macro.specs.Split.{is_balanced, IsDelimited, can_stand}
use Rattle.tx_macro.proofs.SameLemmas.{both, and-true, standing-equal, standing-itself, within-fewer}
use Rattle.tx_macro.proofs.SettlingLemmas.{delimited-onward}

-- a delimited argument where so many groups are open
pub record IsShortest (depth : ℕ) (delimiter raw later : List Tok) : Type 0 where
  pub balanced : is_balanced depth raw ≡ true
  pub shortest : (first more after : List Tok) →
      raw ≡ first ++ more → is_balanced depth first ≡ true → more ++ delimiter ++ later ≡ delimiter ++ after → more ≡ []

pub is-delimited : (delimiter raw later : List Tok) → IsShortest 0 delimiter raw later → IsDelimited delimiter raw later
is-delimited delimiter raw later s = record { balanced = s.balanced; shortest = s.shortest }

pub is-shortest : (delimiter raw later : List Tok) → IsDelimited delimiter raw later → IsShortest 0 delimiter raw later
is-shortest delimiter raw later s = record { balanced = s.balanced; shortest = s.shortest }

nil-parts : (first more : List Tok) → [] ≡ first ++ more → more ≡ []
nil-parts [] more e = sym e
nil-parts (x ∷ first) more e = cc

-- no tokens are the shortest where no group is open
none-shortest : (depth : ℕ) (delimiter later : List Tok) → eqb depth 0 ≡ true → IsShortest depth delimiter [] later
none-shortest depth delimiter later e = record {
  balanced = e;
  shortest = λ first more after split balanced stands. nil-parts first more split;
}

-- a token that leads to a depth
grown-by : (long_par ends : Bool) (depth n level : ℕ) → cond long_par (Breaks misuse.ParEnded) (cond ends (Breaks misuse.ExtraBrace) (At level)) ≡ At n → (ends ≡ false) × (level ≡ n)
grown-by true ends depth n level e = cc
grown-by false true depth n level e = cc
grown-by false false depth n level e = (refl, cc)

pub grown-at : (rule : Rule) (depth n : ℕ) (t : Tok) → grown rule depth t ≡ At n → ((eqb depth 0 && is_end t) ≡ false) × (level_after depth t ≡ n)
grown-at rule depth n t e =
    grown-by (not rule.long && same t rule.par) (eqb depth 0 && is_end t) depth n (level_after depth t) e

-- balanced tokens at the front, of which this is the first
shortest-front : (depth n : ℕ) (delimiter : List Tok) (t : Tok) (raw later : List Tok) →
    level_after depth t ≡ n → IsShortest n delimiter raw later →
    (eqb depth 0 ≡ true → (after : List Tok) → t ∷ raw ++ delimiter ++ later ≡ delimiter ++ after → ⊥) →
    (first more after : List Tok) → t ∷ raw ≡ first ++ more → is_balanced depth first ≡ true →
    more ++ delimiter ++ later ≡ delimiter ++ after → more ≡ []
shortest-front depth n delimiter t raw later level s differs [] more after split balanced stands =
    absurd (differs balanced after (ap (λ xs. xs ++ delimiter ++ later) split ∙ stands))
shortest-front depth n delimiter t raw later level s differs (f ∷ first) more after split balanced stands =
    let same : f ≡ t = cc in
    let rest : raw ≡ first ++ more = cc in
    let parts = both (not (eqb depth 0 && is_end f)) (is_balanced (level_after depth f) first) balanced in
    let inner : is_balanced n first ≡ true = rw (← level, ← same) parts.1 in
    s.shortest first more after rest inner stands

-- one token more of the argument
shortest-cons : (depth n : ℕ) (delimiter : List Tok) (t : Tok) (raw later : List Tok) →
    (eqb depth 0 && is_end t) ≡ false → level_after depth t ≡ n → IsShortest n delimiter raw later →
    (eqb depth 0 ≡ true → (after : List Tok) → t ∷ raw ++ delimiter ++ later ≡ delimiter ++ after → ⊥) →
    IsShortest depth delimiter (t ∷ raw) later
shortest-cons depth n delimiter t raw later inside level s differs = record {
  balanced = rw (inside, level) s.balanced;
  shortest = shortest-front depth n delimiter t raw later level s differs;
}

-- the argument and its delimiter, behind what was taken already
pub record TakesDelimited (delimiter argument : List Tok) (depth : ℕ) (tokens found rest : List Tok) : Type 0 where
  pub raw : List Tok
  pub split : tokens ≡ raw ++ delimiter ++ rest
  pub bare : found ≡ stripped (argument ++ raw)
  pub shortest : IsShortest depth delimiter raw rest

differs≢stands : (later : List Tok) → Differs ≡ Stands later → ⊥
differs≢stands later e = cc

true≢false : true ≡ false → ⊥
true≢false e = cc

takes-cons : (rule : Rule) (delimiter : List Tok) (depth n : ℕ) (argument : List Tok) (t : Tok) (tokens found rest : List Tok) →
    TakesDelimited delimiter (argument ++ t ∷ []) n tokens found rest → grown rule depth t ≡ At n →
    (eqb depth 0 ≡ true → (after : List Tok) → t ∷ tokens ≡ delimiter ++ after → ⊥) →
    TakesDelimited delimiter argument depth (t ∷ tokens) found rest
takes-cons rule delimiter depth n argument t tokens found rest r g differs =
    let at = grown-at rule depth n t g in
    record {
      raw = t ∷ r.raw;
      split = ap (λ xs. t ∷ xs) r.split;
      bare = r.bare ∙ ap stripped (append_assoc argument (t ∷ []) r.raw);
      shortest = shortest-cons depth n delimiter t r.raw rest at.0 at.1 r.shortest (λ zero after stands. differs zero after (ap (λ xs. t ∷ xs) r.split ∙ stands));
    }

-- what the tokens from here on are, by what stands here
takes-by : (rule : Rule) (delimiter : List Tok) (depth : ℕ) (argument : List Tok) (t : Tok) (tokens found rest : List Tok) →
    ((n : ℕ) → delimited rule delimiter n (argument ++ t ∷ []) tokens ≡ Found found rest → TakesDelimited delimiter (argument ++ t ∷ []) n tokens found rest) →
    (b : Bool) (s : Standing) (o : Depth) → eqb depth 0 ≡ b → standing delimiter (t ∷ tokens) ≡ s → grown rule depth t ≡ o →
    ended b s argument (onward o (λ n. delimited rule delimiter n (argument ++ t ∷ []) tokens)) ≡ Found found rest →
    TakesDelimited delimiter argument depth (t ∷ tokens) found rest
takes-by rule delimiter depth argument t tokens found rest ih true (Stands r) o b s g e =
    let bare : stripped argument ≡ found = cc in
    let same : r ≡ rest = cc in
    record {
      raw = [];
      split = standing-equal delimiter (t ∷ tokens) rest (s ∙ ap Stands same);
      bare = sym bare ∙ ap stripped (sym (append-nil argument));
      shortest = none-shortest depth delimiter rest b;
    }
takes-by rule delimiter depth argument t tokens found rest ih true Within o b s g e = cc
takes-by rule delimiter depth argument t tokens found rest ih true Differs (Breaks m) b s g e = cc
takes-by rule delimiter depth argument t tokens found rest ih true Differs (At n) b s g e =
    takes-cons rule delimiter depth n argument t tokens found rest (ih n e) g
    (λ zero after stands. differs≢stands after (sym s ∙ (ap (standing delimiter) stands ∙ standing-itself delimiter after)))
takes-by rule delimiter depth argument t tokens found rest ih false s (Breaks m) b is g e = cc
takes-by rule delimiter depth argument t tokens found rest ih false s (At n) b is g e =
    takes-cons rule delimiter depth n argument t tokens found rest (ih n e) g (λ zero. absurd (true≢false (sym zero ∙ b)))

-- where an argument was found, it is the shortest balanced tokens before its delimiter
pub takes : (rule : Rule) (delimiter : List Tok) (depth : ℕ) (argument tokens found rest : List Tok) →
    delimited rule delimiter depth argument tokens ≡ Found found rest → TakesDelimited delimiter argument depth tokens found rest
takes rule delimiter depth argument [] found rest e = cc
takes rule delimiter depth argument (t ∷ tokens) found rest e =
    takes-by rule delimiter depth argument t tokens found rest (λ n. takes rule delimiter n (argument ++ t ∷ []) tokens found rest)
    (eqb depth 0) (standing delimiter (t ∷ tokens)) (grown rule depth t) refl refl refl e

-- a token that can stand in an argument
grown-free : (long same_par ends : Bool) (level : ℕ) → (long || not same_par) ≡ true → ends ≡ false →
    cond (not long && same_par) (Breaks misuse.ParEnded) (cond ends (Breaks misuse.ExtraBrace) (At level)) ≡ At level
grown-free true same_par ends level h e = rw e refl
grown-free false true ends level h e = cc
grown-free false false ends level h e = rw e refl

pub grown-freely : (rule : Rule) (depth : ℕ) (t : Tok) → (rule.long || not (same t rule.par)) ≡ true → (eqb depth 0 && is_end t) ≡ false → grown rule depth t ≡ At (level_after depth t)
grown-freely rule depth t free inside =
    grown-free rule.long (same t rule.par) (eqb depth 0 && is_end t) (level_after depth t) free inside

not-true : (b : Bool) → not b ≡ true → b ≡ false
not-true true e = cc
not-true false e = refl

-- what is said of the tokens behind the first
pub shortest-rest : (depth : ℕ) (delimiter : List Tok) (t : Tok) (raw later : List Tok) → IsShortest depth delimiter (t ∷ raw) later →
    ((eqb depth 0 && is_end t) ≡ false) × IsShortest (level_after depth t) delimiter raw later
shortest-rest depth delimiter t raw later s =
    let parts = both (not (eqb depth 0 && is_end t)) (is_balanced (level_after depth t) raw) s.balanced in (
      not-true (eqb depth 0 && is_end t) parts.0,
      record {
        balanced = parts.1;
        shortest = λ first more after split balanced stands. s.shortest (t ∷ first) more after (ap (λ xs. t ∷ xs) split)
            (and-true (not (eqb depth 0 && is_end t)) (is_balanced (level_after depth t) first) parts.0 balanced) stands;
      },
    )

cons≢nil : (t : Tok) (raw : List Tok) → t ∷ raw ≡ [] → ⊥
cons≢nil t raw e = cc

-- before the argument's end the delimiter doesn't stand
differs-by : (depth : ℕ) (delimiter : List Tok) (t : Tok) (raw later : List Tok) → IsShortest depth delimiter (t ∷ raw) later → eqb depth 0 ≡ true →
    (s : Standing) → standing delimiter (t ∷ raw ++ delimiter ++ later) ≡ s → standing delimiter (t ∷ raw ++ delimiter ++ later) ≡ Differs
differs-by depth delimiter t raw later s none (Stands after) is =
    absurd (cons≢nil t raw (s.shortest [] (t ∷ raw) after refl none (standing-equal delimiter (t ∷ raw ++ delimiter ++ later) after is)))
differs-by depth delimiter t raw later s none Within is =
    let fewer = within-fewer delimiter (t ∷ raw ++ delimiter ++ later) is in
    let all = length-append (raw ++ delimiter) later in
    let front = length-append raw delimiter in
    absurd (omega (arith, fewer, all, front))
differs-by depth delimiter t raw later s none Differs is = is

-- the shortest balanced tokens before the delimiter are found
pub found-shortest : (rule : Rule) (p : Tok) (delimiter : List Tok) (raw : List Tok) (depth : ℕ) (argument later : List Tok) →
    can_stand rule.long rule.par raw ≡ true → IsShortest depth (p ∷ delimiter) raw later →
    delimited rule (p ∷ delimiter) depth argument (raw ++ (p ∷ delimiter) ++ later) ≡ Found (stripped (argument ++ raw)) later
found-shortest rule p delimiter [] depth argument later free s =
    rw (append-nil argument, s.balanced, standing-itself (p ∷ delimiter) later) refl
found-shortest rule p delimiter (t ∷ raw) depth argument later free s =
    let parts = shortest-rest depth (p ∷ delimiter) t raw later s in
    let frees = both (rule.long || not (same t rule.par)) (can_stand rule.long rule.par raw) free in
    let differs = λ (none : depth ≡ 0). differs-by depth (p ∷ delimiter) t raw later s (eq-eqb depth 0 none) (standing (p ∷ delimiter) (t ∷ raw ++ (p ∷ delimiter) ++ later)) refl in
    delimited-onward rule (p ∷ delimiter) depth argument t (raw ++ (p ∷ delimiter) ++ later) differs
    ∙ (ap (λ o. onward o (λ n. delimited rule (p ∷ delimiter) n (argument ++ t ∷ []) (raw ++ (p ∷ delimiter) ++ later))) (grown-freely rule depth t frees.0 parts.0)
    ∙ (found-shortest rule p delimiter raw (level_after depth t) (argument ++ t ∷ []) later frees.1 parts.1
    ∙ ap (λ xs. Found (stripped xs) later) (append_assoc argument (t ∷ []) raw)))
