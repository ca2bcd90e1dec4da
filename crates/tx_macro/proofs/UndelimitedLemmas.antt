-- An undelimited argument is blanks, and then one token or one group.
use Rattle.std.proofs.Common.{◌≡◌, ℕ, ◌+◌, Bool, true, false, not, cond, ◌&&◌, ◌||◌, eqb, List, [], ◌∷◌, ◌++◌, length, refl, sym, ◌∙◌, ap, arith, append_assoc}
use Rattle.std.proofs.Math.Bool.{or-true}
use Rattle.std.proofs.lemmas.Bool.Decides.{nat_tests}
use Rattle.tx_model.specs.declared.category.Cat.TheVariants as cat
use Rattle.tx_tok.specs.declared.tok.Tok.{Tok}
use Rattle.tx_tok.specs.declared.tok.Tok.TheVariants as tok
use Rattle.tx_macro.specs.declared.rule.Rule.{Rule}
use Rattle.tx_macro.specs.Outcome.{same, is_begin, is_end, is_blank, level_after, Depth, At, Breaks, grown, Found, closes, is_group, stripped, onward, undelimited}
use Rattle.tx_macro.specs.Split.{are_blank, is_single, can_stand}
use Rattle.tx_macro.proofs.SameLemmas.{both, and-true}
use Rattle.tx_macro.proofs.DelimitedLemmas.{grown-at, grown-freely}

pub level-plain : (depth : ℕ) (t : Tok) → is_begin t ≡ false → is_end t ≡ false → level_after depth t ≡ depth
level-plain depth (tok.Char cat.Begin b) h k = cc
level-plain depth (tok.Char cat.End b) h k = cc
level-plain depth t h k = refl

pub level-begin : (depth : ℕ) (t : Tok) → is_begin t ≡ true → level_after depth t ≡ depth + 1
level-begin depth (tok.Char cat.Begin b) h = refl
level-begin depth t h = cc

-- no group is open after a token that is no left brace
begin-none : (n : ℕ) (t : Tok) → level_after 0 t ≡ n → eqb n 0 ≡ true → (b : Bool) → is_begin t ≡ b → is_begin t ≡ false
begin-none n t level none true is = let one = level-begin 0 t is in grind (arith, nat_tests)
begin-none n t level none false is = is

begin-some : (n : ℕ) (t : Tok) → level_after 0 t ≡ n → eqb n 0 ≡ false → is_end t ≡ false → (b : Bool) → is_begin t ≡ b → is_begin t ≡ true
begin-some n t level some ends true is = is
begin-some n t level some ends false is = let same = level-plain 0 t is ends in grind (arith, nat_tests)

pub push-some : (argument : List Tok) (t : Tok) → eqb (length (argument ++ t ∷ [])) 0 ≡ false
push-some [] t = refl
push-some (x ∷ argument) t = grind (arith, nat_tests)

-- a group that is open, behind what was taken already
record ClosesGroup (argument : List Tok) (depth : ℕ) (tokens found rest : List Tok) : Type 0 where
  raw : List Tok
  split : tokens ≡ raw ++ rest
  bare : found ≡ stripped (argument ++ raw)
  ends : closes depth raw ≡ true

closes-at : (rule : Rule) (depth n : ℕ) (argument : List Tok) (t : Tok) (tokens found rest : List Tok) →
    (undelimited rule n (argument ++ t ∷ []) tokens ≡ Found found rest → ClosesGroup (argument ++ t ∷ []) n tokens found rest) →
    level_after depth t ≡ n → (b : Bool) → eqb n 0 ≡ b →
    cond b (Found (stripped (argument ++ t ∷ [])) tokens) (undelimited rule n (argument ++ t ∷ []) tokens) ≡ Found found rest →
    ClosesGroup argument depth (t ∷ tokens) found rest
closes-at rule depth n argument t tokens found rest ih level true is e =
    let bare : found ≡ stripped (argument ++ t ∷ []) = cc in
    let same : tokens ≡ rest = cc in
    record {
      raw = t ∷ [];
      split = ap (λ xs. t ∷ xs) same;
      bare = bare;
      ends = rw (level, is) refl;
    }
closes-at rule depth n argument t tokens found rest ih level false is e =
    let r = ih e in
    record {
      raw = t ∷ r.raw;
      split = ap (λ xs. t ∷ xs) r.split;
      bare = r.bare ∙ ap stripped (append_assoc argument (t ∷ []) r.raw);
      ends = rw (level, is) r.ends;
    }

closes-by : (rule : Rule) (depth : ℕ) (argument : List Tok) (t : Tok) (tokens found rest : List Tok) →
    ((n : ℕ) → undelimited rule n (argument ++ t ∷ []) tokens ≡ Found found rest → ClosesGroup (argument ++ t ∷ []) n tokens found rest) →
    (o : Depth) → grown rule depth t ≡ o →
    onward o (λ n. cond (eqb n 0) (Found (stripped (argument ++ t ∷ [])) tokens) (undelimited rule n (argument ++ t ∷ []) tokens)) ≡ Found found rest →
    ClosesGroup argument depth (t ∷ tokens) found rest
closes-by rule depth argument t tokens found rest ih (Breaks m) g e = cc
closes-by rule depth argument t tokens found rest ih (At n) g e =
    closes-at rule depth n argument t tokens found rest (ih n) (grown-at rule depth n t g).1 (eqb n 0) refl e

-- behind a first token no blank is skipped
pub undelimited-behind : (rule : Rule) (depth : ℕ) (argument : List Tok) (t : Tok) (tokens : List Tok) → eqb (length argument) 0 ≡ false →
    undelimited rule depth argument (t ∷ tokens) ≡ onward (grown rule depth t) (λ n. cond (eqb n 0) (Found (stripped (argument ++ t ∷ [])) tokens) (undelimited rule n (argument ++ t ∷ []) tokens))
undelimited-behind rule depth argument t tokens some = rw some refl

closes-group : (rule : Rule) (depth : ℕ) (argument tokens found rest : List Tok) → eqb (length argument) 0 ≡ false →
    undelimited rule depth argument tokens ≡ Found found rest → ClosesGroup argument depth tokens found rest
closes-group rule depth argument [] found rest some e = cc
closes-group rule depth argument (t ∷ tokens) found rest some e =
    closes-by rule depth argument t tokens found rest
    (λ n. closes-group rule n (argument ++ t ∷ []) tokens found rest (push-some argument t))
    (grown rule depth t) refl (sym (undelimited-behind rule depth argument t tokens some) ∙ e)

-- an undelimited argument, as it stood
pub record TakesOne (tokens found rest : List Tok) : Type 0 where
  pub blanks : List Tok
  pub one : List Tok
  pub split : tokens ≡ (blanks ++ one) ++ rest
  pub blank : are_blank blanks ≡ true
  pub is_one : (is_single one || is_group one) ≡ true
  pub bare : found ≡ stripped one

single : (t : Tok) → is_begin t ≡ false → is_end t ≡ false → is_blank t ≡ false → (is_single (t ∷ []) || is_group (t ∷ [])) ≡ true
single t b e k = rw (b, e, k) refl

group : (t : Tok) (raw : List Tok) → is_begin t ≡ true → closes 0 (t ∷ raw) ≡ true → (is_single (t ∷ raw) || is_group (t ∷ raw)) ≡ true
group t raw b c = ap (λ x. is_single (t ∷ raw) || x) (and-true (is_begin t) (closes 0 (t ∷ raw)) b c) ∙ or-true (is_single (t ∷ raw))

one-at : (rule : Rule) (n : ℕ) (t : Tok) (tokens found rest : List Tok) → is_blank t ≡ false → is_end t ≡ false → level_after 0 t ≡ n → (b : Bool) → eqb n 0 ≡ b →
    cond b (Found (stripped (t ∷ [])) tokens) (undelimited rule n (t ∷ []) tokens) ≡ Found found rest → TakesOne (t ∷ tokens) found rest
one-at rule n t tokens found rest plain inside level true is e =
    let bare : found ≡ stripped (t ∷ []) = cc in
    let same : tokens ≡ rest = cc in
    record {
      blanks = [];
      one = t ∷ [];
      split = ap (λ xs. t ∷ xs) same;
      blank = refl;
      is_one = single t (begin-none n t level is (is_begin t) refl) inside plain;
      bare = bare;
    }
one-at rule n t tokens found rest plain inside level false is e =
    let r = closes-group rule n (t ∷ []) tokens found rest refl e in
    record {
      blanks = [];
      one = t ∷ r.raw;
      split = ap (λ xs. t ∷ xs) r.split;
      blank = refl;
      is_one = group t r.raw (begin-some n t level is inside (is_begin t) refl) (rw (level, is) r.ends);
      bare = r.bare;
    }

one-by : (rule : Rule) (t : Tok) (tokens found rest : List Tok) → is_blank t ≡ false → (o : Depth) → grown rule 0 t ≡ o →
    onward o (λ n. cond (eqb n 0) (Found (stripped (t ∷ [])) tokens) (undelimited rule n (t ∷ []) tokens)) ≡ Found found rest → TakesOne (t ∷ tokens) found rest
one-by rule t tokens found rest plain (Breaks m) g e = cc
one-by rule t tokens found rest plain (At n) g e =
    let at = grown-at rule 0 n t g in
    one-at rule n t tokens found rest plain at.0 at.1 (eqb n 0) refl e

blank-by : (rule : Rule) (t : Tok) (tokens found rest : List Tok) → (undelimited rule 0 [] tokens ≡ Found found rest → TakesOne tokens found rest) →
    (b : Bool) → is_blank t ≡ b →
    cond b (undelimited rule 0 [] tokens) (onward (grown rule 0 t) (λ n. cond (eqb n 0) (Found (stripped (t ∷ [])) tokens) (undelimited rule n (t ∷ []) tokens))) ≡ Found found rest →
    TakesOne (t ∷ tokens) found rest
blank-by rule t tokens found rest ih true is e =
    let r = ih e in
    record {
      blanks = t ∷ r.blanks;
      one = r.one;
      split = ap (λ xs. t ∷ xs) r.split;
      blank = and-true (is_blank t) (are_blank r.blanks) is r.blank;
      is_one = r.is_one;
      bare = r.bare;
    }
blank-by rule t tokens found rest ih false is e = one-by rule t tokens found rest is (grown rule 0 t) refl e

-- where an undelimited argument was found, it is blanks and then one token or one group
pub takes-one : (rule : Rule) (tokens found rest : List Tok) → undelimited rule 0 [] tokens ≡ Found found rest → TakesOne tokens found rest
takes-one rule [] found rest e = cc
takes-one rule (t ∷ tokens) found rest e = blank-by rule t tokens found rest (takes-one rule tokens found rest) (is_blank t) refl e

pub begin-is-no-end : (t : Tok) → is_begin t ≡ true → is_end t ≡ false
begin-is-no-end (tok.Char cat.Begin b) h = refl
begin-is-no-end t h = cc

begin-is-no-blank : (t : Tok) → is_begin t ≡ true → is_blank t ≡ false
begin-is-no-blank (tok.Char cat.Begin b) h = refl
begin-is-no-blank t h = cc

-- the group that closes here
group-at : (rule : Rule) (n : ℕ) (argument : List Tok) (t : Tok) (raw rest : List Tok) (b : Bool) →
    (closes n raw ≡ true → b ≡ false → undelimited rule n (argument ++ t ∷ []) (raw ++ rest) ≡ Found (stripped (argument ++ t ∷ raw)) rest) →
    cond b (eqb (length raw) 0) (closes n raw) ≡ true →
    cond b (Found (stripped (argument ++ t ∷ [])) (raw ++ rest)) (undelimited rule n (argument ++ t ∷ []) (raw ++ rest)) ≡ Found (stripped (argument ++ t ∷ raw)) rest
group-at rule n argument t [] rest true ih e = refl
group-at rule n argument t (u ∷ raw) rest true ih e = grind (arith, nat_tests)
group-at rule n argument t raw rest false ih e = ih e refl

-- a group that is open is found to its end
found-group : (rule : Rule) → (raw : List Tok) (depth : ℕ) (argument rest : List Tok) →
    eqb depth 0 ≡ false → eqb (length argument) 0 ≡ false → closes depth raw ≡ true → can_stand rule.long rule.par raw ≡ true →
    undelimited rule depth argument (raw ++ rest) ≡ Found (stripped (argument ++ raw)) rest
found-group rule [] depth argument rest deep some ends free = cc
found-group rule (t ∷ raw) depth argument rest deep some ends free =
    let frees = both (rule.long || not (same t rule.par)) (can_stand rule.long rule.par raw) free in
    let inside : (eqb depth 0 && is_end t) ≡ false = rw deep refl in
    undelimited-behind rule depth argument t (raw ++ rest) some
    ∙ (ap (λ o. onward o (λ n. cond (eqb n 0) (Found (stripped (argument ++ t ∷ [])) (raw ++ rest)) (undelimited rule n (argument ++ t ∷ []) (raw ++ rest)))) (grown-freely rule depth t frees.0 inside)
    ∙ group-at rule (level_after depth t) argument t raw rest (eqb (level_after depth t) 0)
    (λ more still. found-group rule raw (level_after depth t) (argument ++ t ∷ []) rest still (push-some argument t) more frees.1
    ∙ ap (λ xs. Found (stripped xs) rest) (append_assoc argument (t ∷ []) raw))
    ends)

-- a first token that is no blank
first-plain : (rule : Rule) (t : Tok) (tokens : List Tok) → (rule.long || not (same t rule.par)) ≡ true → is_blank t ≡ false → is_end t ≡ false →
    undelimited rule 0 [] (t ∷ tokens) ≡ cond (eqb (level_after 0 t) 0) (Found (stripped (t ∷ [])) tokens) (undelimited rule (level_after 0 t) (t ∷ []) tokens)
first-plain rule t tokens free plain inside = rw (plain, grown-freely rule 0 t free inside) refl

single-tests : (b e k c : Bool) → b ≡ false → (not b && not e && not k || b && c) ≡ true → (e ≡ false) × (k ≡ false)
single-tests true e k c none h = cc
single-tests false true k c none h = cc
single-tests false false true c none h = cc
single-tests false false false c none h = (refl, refl)

group-tests : (b c : Bool) → b ≡ false → (b && c) ≡ true → ⊥
group-tests true c none h = cc
group-tests false c none h = cc

group-test : (b e k c : Bool) → b ≡ true → (not b && not e && not k || b && c) ≡ true → c ≡ true
group-test true e k c some h = h
group-test false e k c some h = cc

group-closes : (t : Tok) (raw : List Tok) → is_begin t ≡ true → (is_single (t ∷ raw) || is_group (t ∷ raw)) ≡ true → closes 0 (t ∷ raw) ≡ true
group-closes t [] begin one = group-test (is_begin t) (is_end t) (is_blank t) (closes 0 (t ∷ [])) begin one
group-closes t (u ∷ raw) begin one = (both (is_begin t) (closes 0 (t ∷ u ∷ raw)) one).1

closes-deep : (t : Tok) (raw : List Tok) → eqb (level_after 0 t) 0 ≡ false → closes 0 (t ∷ raw) ≡ closes (level_after 0 t) raw
closes-deep t raw deep = rw deep refl

single-parts : (t : Tok) (raw : List Tok) → is_begin t ≡ false → (is_single (t ∷ raw) || is_group (t ∷ raw)) ≡ true →
    (raw ≡ []) × (is_end t ≡ false) × (is_blank t ≡ false)
single-parts t [] begin e =
    let parts = single-tests (is_begin t) (is_end t) (is_blank t) (closes 0 (t ∷ [])) begin e in (refl, parts.0, parts.1)
single-parts t (u ∷ raw) begin e = absurd (group-tests (is_begin t) (closes 0 (t ∷ u ∷ raw)) begin e)

only-token : (t : Tok) (raw rest : List Tok) → raw ≡ [] → Found (stripped (t ∷ [])) (raw ++ rest) ≡ Found (stripped (t ∷ raw)) rest
only-token t raw rest none = rw none refl

-- one token or one group is found
found-one-by : (rule : Rule) → (t : Tok) (raw rest : List Tok) → (is_single (t ∷ raw) || is_group (t ∷ raw)) ≡ true → can_stand rule.long rule.par (t ∷ raw) ≡ true →
    (b : Bool) → is_begin t ≡ b → undelimited rule 0 [] (t ∷ raw ++ rest) ≡ Found (stripped (t ∷ raw)) rest
found-one-by rule t raw rest one free true is =
    let frees = both (rule.long || not (same t rule.par)) (can_stand rule.long rule.par raw) free in
    let inside = begin-is-no-end t is in
    let deep : eqb (level_after 0 t) 0 ≡ false = rw (level-begin 0 t is) refl in
    first-plain rule t (raw ++ rest) frees.0 (begin-is-no-blank t is) inside
    ∙ (ap (λ b. cond b (Found (stripped (t ∷ [])) (raw ++ rest)) (undelimited rule (level_after 0 t) (t ∷ []) (raw ++ rest))) deep
    ∙ found-group rule raw (level_after 0 t) (t ∷ []) rest deep refl (sym (closes-deep t raw deep) ∙ group-closes t raw is one) frees.1)
found-one-by rule t raw rest one free false is =
    let frees = both (rule.long || not (same t rule.par)) (can_stand rule.long rule.par raw) free in
    let parts = single-parts t raw is one in
    let none : eqb (level_after 0 t) 0 ≡ true = rw (level-plain 0 t is parts.1) refl in
    first-plain rule t (raw ++ rest) frees.0 parts.2 parts.1
    ∙ (ap (λ b. cond b (Found (stripped (t ∷ [])) (raw ++ rest)) (undelimited rule (level_after 0 t) (t ∷ []) (raw ++ rest))) none
    ∙ only-token t raw rest parts.0)

found-one : (rule : Rule) (one rest : List Tok) → (is_single one || is_group one) ≡ true → can_stand rule.long rule.par one ≡ true → undelimited rule 0 [] (one ++ rest) ≡ Found (stripped one) rest
found-one rule [] rest one free = cc
found-one rule (t ∷ raw) rest one free = found-one-by rule t raw rest one free (is_begin t) refl

-- and behind blanks too
pub found-behind-blanks : (rule : Rule) → (blanks one rest : List Tok) → are_blank blanks ≡ true → (is_single one || is_group one) ≡ true → can_stand rule.long rule.par one ≡ true →
    undelimited rule 0 [] (blanks ++ one ++ rest) ≡ Found (stripped one) rest
found-behind-blanks rule [] one rest blank is free = found-one rule one rest is free
found-behind-blanks rule (t ∷ blanks) one rest blank is free =
    let parts = both (is_blank t) (are_blank blanks) blank in
    ap (λ b. cond b (undelimited rule 0 [] (blanks ++ one ++ rest)) (onward (grown rule 0 t) (λ n. cond (eqb n 0) (Found (stripped (t ∷ [])) (blanks ++ one ++ rest)) (undelimited rule n (t ∷ []) (blanks ++ one ++ rest))))) parts.0
    ∙ found-behind-blanks rule blanks one rest parts.1 is free
