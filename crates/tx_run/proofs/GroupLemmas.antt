-- What main control does where groups are open.
use Rattle.std.proofs.Common.{◌≡◌, ◌≢◌, ℕ, ◌<◌, ◌≤◌, pos, Bool, true, false, List, [], ◌∷◌, length, None, Some, if◌then◌else◌, arith, refl, sym, ◌∙◌, ap, subst}
use Rattle.std.proofs.lemmas.Bool.{lt-ltb, le-ltb}
use Rattle.std.specs.List.{slice_get}
use Rattle.std.specs.Option.{option_map}
use Rattle.tx_node.specs.declared.BoxNode.{BoxNode}
use Rattle.tx_eqtb.specs.Meanings.{Map}
use Rattle.tx_eqtb.specs.Tables.{now, before}
use Rattle.tx_save.specs.declared.group.GroupKind.{GroupKind}
use Rattle.tx_save.specs.declared.group.GroupKind.TheVariants as group
use Rattle.tx_save.specs.Levels.{level_at}
use Rattle.tx_save.specs.Saves.{outside, groups}
use Rattle.tx_private.specs.Errors.{plain, numbered}
use Rattle.tx_private.specs.Environment.{Level, beginning}
use Rattle.tx_private.specs.World.{World, with_environment}
use Rattle.tx_private.specs.Readings.{Move, Again, Done, Bad, TextEnd}
use Rattle.tx_private.specs.Controls.{close_brace, close_group, opens, ended, dumped}
use Rattle.tx_views.specs.Views.{View}
use Rattle.tx_environment.specs.States.{State, environment}
use Rattle.tx_environment.specs.Steps.{IsOpen, innermost}
use Rattle.tx_environment.proofs.LevelLemmas.{length-below, length-groups}
use Rattle.tx_scene.specs.declared.scene.Scene.{Scene}
use Rattle.tx_scene.specs.Scenes.{Ground, world}
use Rattle.tx_scene.specs.Changes.{closing, closing_in}

-- the definitions have as many open groups
pub length-open : (view : View) (frozen : Map BoxNode) (e : State) → length (environment view frozen e).groups ≡ length (groups e.saves)
length-open view frozen e =
    length-groups view (now frozen e.table) (outside frozen e.table e.saves) (groups e.saves)
    (length-below (before frozen e.table) (now frozen e.table) (level_at e.saves.levels) e.saves.group e.saves.stack)

-- at most 254 groups are open
pub opens-not : (kind : GroupKind) (w : World) → 254 ≤ length w.environment.groups → opens kind w ≡ Bad (numbered 57 3 (pos 0)) w
opens-not kind w p = ap (λ b. if b then Again (with_environment (beginning kind w.environment) w) else Bad (numbered 57 3 (pos 0)) w) (le-ltb (length w.environment.groups) 254 p)

pub opens-more : (kind : GroupKind) (w : World) → length w.environment.groups < 254 → opens kind w ≡ Again (with_environment (beginning kind w.environment) w)
opens-more kind w p = ap (λ b. if b then Again (with_environment (beginning kind w.environment) w) else Bad (numbered 57 3 (pos 0)) w) (lt-ltb (length w.environment.groups) 254 p)

kind-same : (a b : GroupKind) → Some a ≡ Some b → a ≡ b
kind-same a b e = cc

none-or : (level : Level) → None ≡ Some level.kind → ⊥
none-or level e = cc

-- a right brace
brace-none-in : (levels : List Level) (w : World) → None ≡ option_map (λ (level : Level). level.kind) (slice_get levels 0) → close_brace levels w ≡ Bad (plain 3) w
brace-none-in [] w e = refl
brace-none-in (level ∷ levels) w e = absurd (none-or level e)

pub brace-none : (w : World) → None ≡ innermost w.environment → close_brace w.environment.groups w ≡ Bad (plain 3) w
brace-none w e = brace-none-in w.environment.groups w e

abbrev brace-kind : GroupKind → World → Move → Move
brace-kind group.Simple w m = m
brace-kind group.Semi w m = Bad (plain 4) w
brace-kind _ w m = Bad (plain 63) w

brace-by : (k : GroupKind) (level : Level) (levels : List Level) (w : World) → close_brace (record level { kind = k } ∷ levels) w ≡ brace-kind k w (closing_in (level ∷ levels) w)
brace-by group.Simple level levels w = refl
brace-by group.Semi level levels w = refl
brace-by k level levels w = refl

brace-in : (levels : List Level) (k : GroupKind) (w : World) → Some k ≡ option_map (λ (level : Level). level.kind) (slice_get levels 0) → close_brace levels w ≡ brace-kind k w (closing_in levels w)
brace-in [] k w e = absurd (some-none k e)
  where
    some-none : (k : GroupKind) → Some k ≡ None → ⊥
    some-none k e = cc
brace-in (level ∷ levels) k w e = brace-by level.kind level levels w ∙ ap (λ x. brace-kind x w (closing_in (level ∷ levels) w)) (sym (kind-same k level.kind e))

pub brace-simple : (w : World) (k : GroupKind) → k ≡ group.Simple → Some k ≡ innermost w.environment → close_brace w.environment.groups w ≡ closing w
brace-simple w k is e = brace-in w.environment.groups k w e ∙ ap (λ x. brace-kind x w (closing w)) is

pub brace-semi : (w : World) (k : GroupKind) → k ≡ group.Semi → Some k ≡ innermost w.environment → close_brace w.environment.groups w ≡ Bad (numbered 4 0 (pos 0)) w
brace-semi w k is e = brace-in w.environment.groups k w e ∙ ap (λ x. brace-kind x w (closing w)) is

brace-rest : (k : GroupKind) (w : World) (m : Move) → k ≢ group.Simple → k ≢ group.Semi → brace-kind k w m ≡ Bad (plain 63) w
brace-rest group.Simple w m a b = absurd (a refl)
brace-rest group.Semi w m a b = absurd (b refl)
brace-rest k w m a b = refl

pub brace-other : (w : World) (k : GroupKind) → k ≢ group.Simple → k ≢ group.Semi → Some k ≡ innermost w.environment → close_brace w.environment.groups w ≡ Bad (numbered 63 0 (pos 0)) w
brace-other w k a b e = brace-in w.environment.groups k w e ∙ brace-rest k w (closing w) a b

-- \endgroup
group-none-in : (levels : List Level) (w : World) → None ≡ option_map (λ (level : Level). level.kind) (slice_get levels 0) → close_group levels w ≡ Bad (plain 5) w
group-none-in [] w e = refl
group-none-in (level ∷ levels) w e = absurd (none-or level e)

pub group-none : (w : World) → None ≡ innermost w.environment → close_group w.environment.groups w ≡ Bad (plain 5) w
group-none w e = group-none-in w.environment.groups w e

abbrev group-kind : GroupKind → World → Move → Move
group-kind group.Semi w m = m
group-kind group.Simple w m = Bad (plain 6) w
group-kind _ w m = Bad (plain 63) w

group-by : (k : GroupKind) (level : Level) (levels : List Level) (w : World) → close_group (record level { kind = k } ∷ levels) w ≡ group-kind k w (closing_in (level ∷ levels) w)
group-by group.Semi level levels w = refl
group-by group.Simple level levels w = refl
group-by k level levels w = refl

group-in : (levels : List Level) (k : GroupKind) (w : World) → Some k ≡ option_map (λ (level : Level). level.kind) (slice_get levels 0) → close_group levels w ≡ group-kind k w (closing_in levels w)
group-in [] k w e = absurd (some-none k e)
  where
    some-none : (k : GroupKind) → Some k ≡ None → ⊥
    some-none k e = cc
group-in (level ∷ levels) k w e = group-by level.kind level levels w ∙ ap (λ x. group-kind x w (closing_in (level ∷ levels) w)) (sym (kind-same k level.kind e))

pub group-semi : (w : World) (k : GroupKind) → k ≡ group.Semi → Some k ≡ innermost w.environment → close_group w.environment.groups w ≡ closing w
group-semi w k is e = group-in w.environment.groups k w e ∙ ap (λ x. group-kind x w (closing w)) is

pub group-simple : (w : World) (k : GroupKind) → k ≡ group.Simple → Some k ≡ innermost w.environment → close_group w.environment.groups w ≡ Bad (numbered 6 0 (pos 0)) w
group-simple w k is e = group-in w.environment.groups k w e ∙ ap (λ x. group-kind x w (closing w)) is

group-rest : (k : GroupKind) (w : World) (m : Move) → k ≢ group.Semi → k ≢ group.Simple → group-kind k w m ≡ Bad (plain 63) w
group-rest group.Semi w m a b = absurd (a refl)
group-rest group.Simple w m a b = absurd (b refl)
group-rest k w m a b = refl

pub group-other : (w : World) (k : GroupKind) → k ≢ group.Semi → k ≢ group.Simple → Some k ≡ innermost w.environment → close_group w.environment.groups w ≡ Bad (numbered 63 0 (pos 0)) w
group-other w k a b e = group-in w.environment.groups k w e ∙ group-rest k w (closing w) a b

-- the region's end
ended-in : (levels : List Level) (n : ℕ) (w : World) → length levels ≡ n → 0 < n → ended levels w ≡ Bad (numbered 59 0 (pos n)) w
ended-in [] n w e p = absurd (omega (arith, e))
ended-in (level ∷ levels) n w e p = ap (λ k. Bad (numbered 59 0 (pos k)) w) e

pub ended-open : (w : World) (n : ℕ) → length w.environment.groups ≡ n → 0 < n → ended w.environment.groups w ≡ Bad (numbered 59 0 (pos n)) w
ended-open w n e p = ended-in w.environment.groups n w e p

ended-none-in : (levels : List Level) (n : ℕ) (w : World) → length levels ≡ n → n ≤ 0 → ended levels w ≡ Done TextEnd w
ended-none-in [] n w e p = refl
ended-none-in (level ∷ levels) n w e p = absurd (omega (arith, e))

pub ended-none : (w : World) (n : ℕ) → length w.environment.groups ≡ n → n ≤ 0 → ended w.environment.groups w ≡ Done TextEnd w
ended-none w n e p = ended-none-in w.environment.groups n w e p

pub dumped-text : (preamble : Bool) (levels : List Level) (w : World) → preamble ≡ false → dumped preamble levels w ≡ ended levels w
dumped-text true levels w e = absurd (true-false e)
  where
    true-false : true ≡ false → ⊥
    true-false e = cc
dumped-text false levels w e = refl

pub dumped-within : (preamble : Bool) (levels : List Level) (w : World) (n : ℕ) → preamble ≡ true → length levels ≡ n → 0 < n → dumped preamble levels w ≡ Bad (numbered 58 0 (pos 0)) w
dumped-within preamble [] w n is e p = absurd (omega (arith, e))
dumped-within preamble (level ∷ levels) w n is e p = ap (λ b. dumped b (level ∷ levels) w) is

pub dumped-none : (preamble : Bool) (levels : List Level) (w : World) (n : ℕ) → length levels ≡ n → n ≤ 0 → dumped preamble levels w ≡ ended levels w
dumped-none true [] w n e p = refl
dumped-none false [] w n e p = refl
dumped-none preamble (level ∷ levels) w n e p = absurd (omega (arith, e))

-- the end of a group goes on where it is still open

stays-in : (levels others : List Level) (w v : World) → closing_in levels w ≡ closing_in others v → 0 < length levels → 0 < length others
stays-in [] others w v e p = absurd (omega (arith, p))
stays-in (level ∷ levels) [] w v e p = absurd (no e)
  where
    no : closing_in (level ∷ levels) w ≡ closing_in [] v → ⊥
    no e = cc
stays-in (level ∷ levels) (other ∷ others) w v e p = omega arith

anywhere : Ground
anywhere = record { view = record { naming = λ n. []; number = λ text. 0; content = λ list. [] }; formats = [] }

pub stays-open : (frozen : Map BoxNode) (old new : Scene) → ((g : Ground) (f : Map BoxNode) (depth : ℕ) → closing (world g f depth old) ≡ closing (world g f depth new)) → IsOpen old.environment → IsOpen new.environment
stays-open frozen old new same opened =
    let w = world anywhere frozen 0 old in
    let v = world anywhere frozen 0 new in
    subst (λ n. 0 < n) (length-open anywhere.view frozen new.environment)
    (stays-in w.environment.groups v.environment.groups w v (same anywhere frozen 0) (subst (λ n. 0 < n) (sym (length-open anywhere.view frozen old.environment)) opened))
