-- The maps of a session, now and from before the region, depend on the contents of those pooled lists alone that are held.
use Rattle.std.proofs.Common.{◌≡◌, ℕ, ◌<◌, Bool, true, false, List, [], ◌∷◌, ◌++◌, Some, if◌then◌else◌, sym, subst, ◌∙◌}
use Rattle.std.proofs.lemmas.Bool.{ltb-true}
use Rattle.std.specs.Map.{values_of}
use Rattle.std.specs.Option.{option_map_or}
use Rattle.tx_tok.specs.declared.tok.ListRef.{ListRef}
use Rattle.tx_tok.specs.declared.tok.ListRef.TheVariants as list
use Rattle.tx_node.specs.declared.BoxNode.{BoxNode}
use Rattle.tx_eqtb.specs.declared.addr.Addr.{Addr}
use Rattle.tx_eqtb.specs.declared.meaning.Meaning.{Meaning}
use Rattle.tx_eqtb.specs.declared.meaning.Meaning.TheVariants as meaning
use Rattle.tx_eqtb.specs.declared.meaning.Before.{Before}
use Rattle.tx_eqtb.specs.declared.meaning.Before.TheVariants as was
use Rattle.tx_eqtb.specs.Addresses.{same, entry_at}
use Rattle.tx_eqtb.specs.Meanings.{Map}
use Rattle.tx_eqtb.specs.Tables.{now, before, said, kept, held as held_in}
use Rattle.tx_save.specs.Saves.{saved}
use Rattle.tx_private.specs.Meanings as private
use Rattle.tx_views.specs.Views.{View}
use Rattle.tx_views.specs.Places.{addr_at, is_numbered}
use Rattle.tx_views.specs.Meanings.{map_in}
use Rattle.tx_environment.specs.Steps.{held}
use Rattle.tx_environment.specs.Holding.{pooled_of, IsHeldIn, HasNoPooled, SameContents}
use Rattle.tx_environment.proofs.HoldingLemmas.{Each, all-counted, now-held}
use Rattle.tx_frames.specs.Knowledge.{KnowsList}
use Rattle.tx_commands.specs.Knowledge.{KnowsMeaning}
use Rattle.tx_scene.specs.declared.scene.Scene.{Scene}
use Rattle.tx_scene.specs.Scenes.{Ground}
use Rattle.tx_scene.specs.Knowledge.{references}
use Rattle.tx_run.specs.Knowledge.{holds_list, known_by}
use Rattle.tx_run.proofs.KnowledgeLemmas.{list-held}
use Rattle.tx_contents.specs.Contents.{SameGround, IsHeldIn as IsHeldInScene}
use Rattle.tx_contents.proofs.ViewLemmas.{with_content, meaning-same}

-- lists that are held by so many references have the same contents
pub contents-same : (names : ℕ → Bool) (count : ℕ → ℕ) (view other : View) → SameContents (λ id. 0 < count id) view other → (l : ListRef) → KnowsList (record { name = names; list = holds_list count }) l → view.content l ≡ other.content l
contents-same names count view other contents list.Empty h = contents.empty
contents-same names count view other contents (list.Frozen k) h = contents.frozen k
contents-same names count view other contents (list.Pooled id) h = contents.pooled id (ltb-true 0 (count id) h)

-- what holds of both choices
chosen : {X : Type 0} (P : X → Type 0) (b : Bool) (x y : X) → P x → P y → P (if b then x else y)
chosen P true x y p q = p
chosen P false x y p q = q

module _ (P : Meaning BoxNode → Type 0) where
  each-append : (xs ys : List (Meaning BoxNode)) → Each P (xs ++ ys) → Each P xs × Each P ys
  each-append [] ys all = (tt, all)
  each-append (x ∷ xs) ys all =
      let parts = each-append xs ys all.1 in
      ((all.0, parts.0), parts.1)

  -- what the journal says of an address, or what is there now
  at-noted : (journal : List (Addr × Before BoxNode)) (q : Addr) (m n : Meaning BoxNode) → Each P (kept journal) → P m → P n → P (option_map_or (said m) (entry_at journal q) n)
  at-noted [] q m n all first here = here
  at-noted ((at, was.Frozen) ∷ journal) q m n all first here =
      chosen (λ o. P (option_map_or (said m) o n)) (same q at) (Some was.Frozen) (entry_at journal q) first (at-noted journal q m n all first here)
  at-noted ((at, was.Kept k) ∷ journal) q m n all first here =
      chosen (λ o. P (option_map_or (said m) o n)) (same q at) (Some (was.Kept k)) (entry_at journal q) all.0 (at-noted journal q m n all.1 first here)

-- a list of a meaning that is held is known
meaning-held : (names : ℕ → Bool) (s : Scene) (m : Meaning BoxNode) → IsHeldIn (held s.environment) (pooled_of m) → KnowsMeaning (known_by names s) m
meaning-held names s (meaning.Macro long protected l) h = list-held names s l h
meaning-held names s (meaning.List l) h = list-held names s l h
meaning-held names s _ h = tt

module _ (frozen : Map BoxNode) (s : Scene) (none : HasNoPooled frozen) where
  -- a list of the map before the region is held
  before-held : (at : Addr) → IsHeldIn (held s.environment) (pooled_of (before frozen s.environment.table at))
  before-held at =
      let t = s.environment.table in
      let all = held s.environment in
      let P : Meaning BoxNode → Type 0 = λ m. IsHeldIn all (pooled_of m) in
      let in_table = (each-append P (held_in t) (saved s.environment.saves.stack) (all-counted all)).0 in
      at-noted P t.journal at (frozen at) (now frozen t at) (each-append P (values_of t.entries) (kept t.journal) in_table).1 (subst (IsHeldIn all) (sym (none at)) tt) (now-held frozen t s.environment.saves none at)

  module _ (g h : Ground) (alike : SameGround (IsHeldInScene s) g h) where
    -- a map whose lists are held is the same
    map-same : (m : Map BoxNode) → ((at : Addr) → IsHeldIn (held s.environment) (pooled_of (m at))) → map_in g.view m ≡ map_in h.view m
    map-same m all =
        let names : ℕ → Bool = λ n. false in
        let lists = contents-same names (λ id. references id s) g.view h.view alike.contents in
        let one : map_in g.view m ≡ map_in (with_content g.view h.view.content) m =
        λ i at. if is_numbered g.view at then meaning-same g.view h.view.content (known_by names s) lists (m (addr_at g.view at)) (meaning-held names s (m (addr_at g.view at)) (all (addr_at g.view at))) i else private.Undefined in
        let naming = alike.contents.naming in
        let number = alike.contents.number in
        one ∙ (λ i. map_in (record { naming = naming i; number = number i; content = h.view.content }) m)

    pub now-same : map_in g.view (now frozen s.environment.table) ≡ map_in h.view (now frozen s.environment.table)
    now-same = map-same (now frozen s.environment.table) (now-held frozen s.environment.table s.environment.saves none)

    pub before-same : map_in g.view (before frozen s.environment.table) ≡ map_in h.view (before frozen s.environment.table)
    before-same = map-same (before frozen s.environment.table) before-held
