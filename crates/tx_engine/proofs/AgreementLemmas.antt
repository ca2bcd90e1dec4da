-- Readings of the numbers that agree with a session, and what is known and held, from one session to the next.
use Rattle.std.proofs.Common.{◌≡◌, ◌≢◌, ℕ, zero, suc, ◌+◌, ◌-◌, ◌<◌, ◌≤◌, ◌==◌, Bool, true, cond, List, [], ◌∷◌, length, drop, Option, Some, None, is_some, if◌then◌else◌, inl, inr, ◌⊎◌, arith, refl, sym, ap, subst, ◌∙◌, eq-eqb, ne_eqb}
use Rattle.std.proofs.lemmas.Bool.{false≢true, cases_eq}
use Rattle.std.proofs.lemmas.List.{drop-drop}
use Rattle.tx_tok.specs.declared.tok.Tok.{Tok}
use Rattle.tx_tok.specs.declared.tok.Tok.TheVariants as tok
use Rattle.tx_tok.specs.declared.tok.ListRef.{ListRef}
use Rattle.tx_tok.specs.declared.tok.ListRef.TheVariants as list
use Rattle.tx_eqtb.specs.Meanings.{meanings}
use Rattle.tx_format.specs.declared.state.Engineless.{Engineless}
use Rattle.tx_format.specs.Formats.{list_at}
use Rattle.tx_environment.specs.Holding.{HasNoPooled}
use Rattle.tx_input.specs.Owned.{Own}
use Rattle.tx_input.specs.Worlds.{AllKnown}
use Rattle.tx_store.specs.Sessions.{Session, Holding}
use Rattle.tx_store.specs.Steps.{SameNames, SameRow, AfterIntern, AfterRelease, Holds, holding, count_of, content_of}
use Rattle.tx_scene.specs.declared.scene.Scene.{Scene}
use Rattle.tx_scene.specs.Scenes.{Ground, IsGround}
use Rattle.tx_run.specs.Runs.{IsGrown}
use Rattle.tx_run.specs.Knowledge.{counts_as, KnowsFormat}
use Rattle.tx_contents.specs.Contents.{SameGround}
use Rattle.tx_engine.specs.Agreement.{Agrees, known_names}

-- the names that were known are known, over the same format
pub record KnowsOn (earlier later : Session) : Type 0 where
  pub format : later.format ≡ earlier.format
  pub names : (n : ℕ) (text : List ℕ) → earlier.names n ≡ Some text → later.names n ≡ Some text

-- a list that was held is held with the same content
pub record HoldsOn (earlier later : Session) : Type 0 where
  pub row : (id : ℕ) (h : Holding) → earlier.row id ≡ Some h → (k : Holding) × (later.row id ≡ Some k) × (k.content ≡ h.content)

-- what agrees with a session agrees with one that knew and held less
pub agrees-earlier : {earlier later : Session} (g : Ground) → KnowsOn earlier later → HoldsOn earlier later → Agrees later g → Agrees earlier g
agrees-earlier g knows holds agrees = record {
  view = agrees.view;
  formats = agrees.formats ∙ ap (λ (f : Engineless). f.names) knows.format;
  names = λ n text e. agrees.names n text (knows.names n text e);
  lists = subst (λ (f : Engineless). (k : ℕ) → k < length f.lists → g.view.content (list.Frozen k) ≡ list_at f.lists k) knows.format agrees.lists;
  row = λ id h e. let there = holds.row id h e in agrees.row id there.0 there.1 ∙ there.2;
}

-- more names are known
pub knows-more : {earlier later : Session} → KnowsOn earlier later → (n : ℕ) → known_names earlier n ≡ true → known_names later n ≡ true
knows-more {earlier} {later} knows n = by (earlier.names n) refl
  where
    by : (o : Option (List ℕ)) → earlier.names n ≡ o → is_some o ≡ true → known_names later n ≡ true
    by None e h = absurd (false≢true h)
    by (Some text) e h = ap (λ (o : Option (List ℕ)). is_some o) (knows.names n text e)

pub more-tokens : (names more : ℕ → Bool) → ((n : ℕ) → names n ≡ true → more n ≡ true) → (ts : List Tok) → AllKnown names ts → AllKnown more ts
more-tokens names more le [] known = tt
more-tokens names more le (tok.Name n ∷ ts) known = (le n known.0, more-tokens names more le ts known.1)
more-tokens names more le (tok.Char c b ∷ ts) known = (tt, more-tokens names more le ts known.1)
more-tokens names more le (tok.Active b ∷ ts) known = (tt, more-tokens names more le ts known.1)
more-tokens names more le (tok.Param n ∷ ts) known = (tt, more-tokens names more le ts known.1)
more-tokens names more le (tok.Stop ∷ ts) known = (tt, more-tokens names more le ts known.1)

pub knows-format : {earlier later : Session} → KnowsOn earlier later → KnowsFormat (known_names earlier) earlier.format → KnowsFormat (known_names later) later.format
knows-format {earlier} {later} knows known = record {
  none = subst (λ (f : Engineless). HasNoPooled (meanings f.frozen)) (sym knows.format) known.none;
  lists = subst (λ (f : Engineless). (k : ℕ) → AllKnown (known_names later) (list_at f.lists k)) (sym knows.format)
      (λ k. more-tokens (known_names earlier) (known_names later) (knows-more knows) (list_at earlier.format.lists k) (known.lists k));
}

-- Where a list may be held by more or fewer references.
pub held-some : (content : List Tok) (n : ℕ) → 0 < n → holding content n ≡ Some (record { content = content; count = n })
held-some content n some =
    ap (λ (b : Bool). if b then None else Some (record { content = content; count = n })) (ne_eqb n 0 (λ e. absurd (omega (arith, e, some))))

pub count-held : (content : List Tok) (n : ℕ) → count_of (holding content n) ≡ n
count-held content zero = refl
count-held content (suc n) = ap count_of (held-some content (suc n) (omega arith))

pub content-held : (content : List Tok) (n : ℕ) (h : Holding) → holding content n ≡ Some h → h.content ≡ content
content-held content zero h e = cc
content-held content (suc n) h e = sym (ap (λ (o : Option Holding). content_of o) (sym (held-some content (suc n) (omega arith)) ∙ e))

-- what is held by some references is there
pub some-held : (o : Option Holding) → 0 < count_of o → (h : Holding) × (o ≡ Some h)
some-held None some = absurd (omega (arith, some))
some-held (Some h) some = (h, refl)

pub counts-same : (id : ℕ) → counts_as id (Some id) ≡ 1
counts-same id = ap (λ (b : Bool). cond b 1 0) (eq-eqb id id refl)

pub counts-other : (k id : ℕ) → k ≢ id → counts_as k (Some id) ≡ 0
counts-other k id apart = ap (λ (b : Bool). cond b 1 0) (ne_eqb k id apart)

module _ (earlier later : Session) (id : ℕ) (content : List Tok) where
  -- one reference more
  pub row-more : (all : ℕ) → Holds earlier id content (count_of (earlier.row id) + 1) all later → (k : ℕ) → count_of (later.row k) ≡ count_of (earlier.row k) + counts_as k (Some id)
  row-more all holds k = by (cases_eq k id)
    where
      by : (k ≡ id) ⊎ (k ≡ id → ⊥) → count_of (later.row k) ≡ count_of (earlier.row k) + counts_as k (Some id)
      by (inl same) =
          subst (λ j. count_of (later.row j) ≡ count_of (earlier.row j) + counts_as j (Some id)) (sym same)
          (omega (arith, ap count_of holds.here, count-held content (count_of (earlier.row id) + 1), counts-same id))
      by (inr apart) = omega (arith, ap count_of (holds.others k apart), counts-other k id apart)

  -- one reference less
  pub row-less : (all : ℕ) → 0 < count_of (earlier.row id) → Holds earlier id content (count_of (earlier.row id) - 1) all later → (k : ℕ) → count_of (later.row k) + counts_as k (Some id) ≡ count_of (earlier.row k)
  row-less all some holds k = by (cases_eq k id)
    where
      by : (k ≡ id) ⊎ (k ≡ id → ⊥) → count_of (later.row k) + counts_as k (Some id) ≡ count_of (earlier.row k)
      by (inl same) =
          subst (λ j. count_of (later.row j) + counts_as j (Some id) ≡ count_of (earlier.row j)) (sym same)
          (omega (arith, ap count_of holds.here, count-held content (count_of (earlier.row id) - 1), counts-same id, some))
      by (inr apart) = omega (arith, ap count_of (holds.others k apart), counts-other k id apart)

  -- the content of each list that is held is known
  pub known-lists : (names : ℕ → Bool) (count all : ℕ) → Holds earlier id content count all later → AllKnown names content → ((k : ℕ) (h : Holding) → earlier.row k ≡ Some h → AllKnown names h.content) → (k : ℕ) (h : Holding) → later.row k ≡ Some h → AllKnown names h.content
  known-lists names count all holds here others k h e = by (cases_eq k id)
    where
      by : (k ≡ id) ⊎ (k ≡ id → ⊥) → AllKnown names h.content
      by (inl same) = subst (λ ts. AllKnown names ts) (sym (content-held content count h (sym holds.here ∙ subst (λ j. later.row j ≡ Some h) same e))) here
      by (inr apart) = others k h (sym (holds.others k apart) ∙ e)

  -- a list that was held is held on, where there is one reference more, or this one had the same content
  pub holds-more : (all : ℕ) → Holds earlier id content (count_of (earlier.row id) + 1) all later → ((h : Holding) → earlier.row id ≡ Some h → h.content ≡ content) → HoldsOn earlier later
  holds-more all holds same_content = record { row = λ k h e. by k h e (cases_eq k id) }
    where
      by : (k : ℕ) (h : Holding) → earlier.row k ≡ Some h → (k ≡ id) ⊎ (k ≡ id → ⊥) → (j : Holding) × (later.row k ≡ Some j) × (j.content ≡ h.content)
      by k h e (inl same) = (
        record { content = content; count = count_of (earlier.row id) + 1 },
        ap (λ n. later.row n) same ∙ holds.here ∙ held-some content (count_of (earlier.row id) + 1) (omega arith),
        sym (same_content h (subst (λ n. earlier.row n ≡ Some h) same e)),
      )
      by k h e (inr apart) = (h, holds.others k apart ∙ e, refl)

-- the content that a number is held with is known
pub known-content : (names : ℕ → Bool) (o : Option Holding) → ((h : Holding) → o ≡ Some h → AllKnown names h.content) → AllKnown names (content_of o)
known-content names None known = tt
known-content names (Some h) known = known h refl

pub same-knows : {earlier later : Session} → SameNames earlier later → KnowsOn earlier later
same-knows same = record { format = same.format; names = λ n text e. same.names n ∙ e }

pub same-holds : {earlier later : Session} → SameRow earlier later → HoldsOn earlier later
same-holds same = record { row = λ id h e. (h, same.row id ∙ e, refl) }

-- a name with this text has this number from now on
pub interned-knows : (earlier later : Session) (text : List ℕ) (number : ℕ) → AfterIntern earlier text number later → KnowsOn earlier later
interned-knows earlier later text number made = record { format = made.format; names = λ n t e. by n t e (cases_eq n number) }
  where
    by : (n : ℕ) (t : List ℕ) → earlier.names n ≡ Some t → (n ≡ number) ⊎ (n ≡ number → ⊥) → later.names n ≡ Some t
    by n t e (inl same) = ap (λ m. later.names m) same ∙ made.now ∙ ap Some (sym (made.free t (subst (λ m. earlier.names m ≡ Some t) same e)))
    by n t e (inr apart) = made.others n apart ∙ e

-- The reading with these tokens as the content of one pooled list.
abbrev pub content_with : (ListRef → List Tok) → ℕ → List Tok → ListRef → List Tok
content_with content id tokens list.Empty = content list.Empty
content_with content id tokens (list.Frozen k) = content (list.Frozen k)
content_with content id tokens (list.Pooled k) = if k == id then tokens else content (list.Pooled k)

abbrev pub ground_with : Ground → ℕ → List Tok → Ground
ground_with g id tokens = record g { view = record g.view { content = content_with g.view.content id tokens } }

with-here : (content : ListRef → List Tok) (id k : ℕ) (tokens : List Tok) → k ≡ id → content_with content id tokens (list.Pooled k) ≡ tokens
with-here content id k tokens same = ap (λ (b : Bool). if b then tokens else content (list.Pooled k)) (eq-eqb k id same)

with-others : (content : ListRef → List Tok) (id k : ℕ) (tokens : List Tok) → k ≢ id → content_with content id tokens (list.Pooled k) ≡ content (list.Pooled k)
with-others content id k tokens apart = ap (λ (b : Bool). if b then tokens else content (list.Pooled k)) (ne_eqb k id apart)

-- such a reading reads a scene as well
pub ground-without : (g : Ground) (id : ℕ) (tokens : List Tok) (s : Scene) → IsGround (ground_with g id tokens) s → IsGround g s
ground-without g id tokens s ground = record {
  view = record { apart = ground.view.apart; empty = ground.view.empty };
  formats = record {
    format = record { number = ground.formats.format.number; texts = ground.formats.format.texts };
    counted = ground.formats.counted;
  };
}

-- Once a list is released, what agrees with the session agrees with the one from before it, but for the content of that
-- list, which may be another one where nothing holds it any more.
module _ (earlier later : Session) (id : ℕ) (after : AfterRelease earlier id later) (g : Ground) (agrees : Agrees later g) where
  pub agrees-released : Agrees earlier (ground_with g id (content_of (earlier.row id)))
  agrees-released = record {
    view = record { apart = agrees.view.apart; empty = agrees.view.empty };
    formats = agrees.formats ∙ ap (λ (f : Engineless). f.names) after.names.format;
    names = λ n text e. agrees.names n text (after.names.names n ∙ e);
    lists = subst (λ (f : Engineless). (k : ℕ) → k < length f.lists → g.view.content (list.Frozen k) ≡ list_at f.lists k) after.names.format agrees.lists;
    row = λ k h e. by k h e (cases_eq k id);
  }
    where
      by : (k : ℕ) (h : Holding) → earlier.row k ≡ Some h → (k ≡ id) ⊎ (k ≡ id → ⊥) → content_with g.view.content id (content_of (earlier.row id)) (list.Pooled k) ≡ h.content
      by k h e (inl same) = with-here g.view.content id k (content_of (earlier.row id)) same ∙ ap (λ (o : Option Holding). content_of o) (subst (λ n. earlier.row n ≡ Some h) same e)
      by k h e (inr apart) = with-others g.view.content id k (content_of (earlier.row id)) apart ∙ agrees.row k h (after.others k apart ∙ e)

  pub same-released : (IsAmong : ℕ → Type 0) → ((k : ℕ) → IsAmong k → 0 < count_of (later.row k)) → SameGround IsAmong g (ground_with g id (content_of (earlier.row id)))
  same-released IsAmong held = record {
    formats = refl;
    contents = record {
      naming = refl;
      number = refl;
      empty = refl;
      frozen = λ k. refl;
      pooled = λ k among. by k (some-held (later.row k) (held k among)) (cases_eq k id);
    };
  }
    where
      by : (k : ℕ) → (h : Holding) × (later.row k ≡ Some h) → (k ≡ id) ⊎ (k ≡ id → ⊥) → g.view.content (list.Pooled k) ≡ content_with g.view.content id (content_of (earlier.row id)) (list.Pooled k)
      by k there (inl same) =
          let e : later.row id ≡ Some there.0 = subst (λ n. later.row n ≡ Some there.0) same there.1 in
          agrees.row k there.0 there.1
          ∙ content-held (content_of (earlier.row id)) (count_of (earlier.row id) - 1) there.0 (sym after.here ∙ e)
          ∙ sym (with-here g.view.content id k (content_of (earlier.row id)) same)
      by k there (inr apart) = sym (with-others g.view.content id k (content_of (earlier.row id)) apart)

-- the names from before a region are there still
pub drop-grown : (own : ℕ) (old new : Own) → own ≤ length old → IsGrown old new → drop (length new - own) new ≡ drop (length old - own) old
drop-grown own old new le grown =
    let sum : length new - own ≡ (length new - length old) + (length old - own) = omega (arith, le, grown.0) in
    ap (λ n. drop n new) sum ∙ sym (drop-drop (length old - own) (length new - length old) new) ∙ ap (λ names. drop (length old - own) names) grown.1
