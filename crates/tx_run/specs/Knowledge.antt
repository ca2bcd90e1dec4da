-- What is known of the names and lists that a run has, and by how many references it holds a list.
use Rattle.std.specs.Prelude.{◌≡◌, ℕ, ◌+◌, ◌<◌, Bool, true, nat_lt, cond, List, [], ◌∷◌, Option, Some, None}
use Rattle.std.specs.List.{AllByRecursion}
use Rattle.std.specs.Option.{option_map_or}
use Rattle.tx_tok.specs.declared.tok.ListRef.{ListRef}
use Rattle.tx_tok.specs.declared.tok.ListRef.TheVariants as list
use Rattle.tx_eqtb.specs.Meanings.{meanings}
use Rattle.tx_format.specs.declared.state.Engineless.{Engineless}
use Rattle.tx_format.specs.Formats.{list_at}
use Rattle.tx_environment.specs.Holding.{pooled_of, is_number, HasNoPooled}
use Rattle.tx_input.specs.Worlds.{AllKnown}
use Rattle.tx_describe.specs.Descriptions.{Knows}
use Rattle.tx_frames.specs.declared.frame.Frame.{Frame}
use Rattle.tx_frames.specs.Knowledge.{Known, KnowsToken, KnowsTokens, KnowsList, KnowsValue, KnowsPlace, KnowsReading, KnowsFrame}
use Rattle.tx_commands.specs.declared.command.Command.{Command}
use Rattle.tx_commands.specs.Knowledge.{KnowsControl, KnowsMeaning}
use Rattle.tx_scene.specs.declared.scene.Scene.{Scene}
use Rattle.tx_scene.specs.Knowledge.{KnowsScene, references, count_of}
use Rattle.tx_run.specs.declared.doing.Start.{Start}
use Rattle.tx_run.specs.declared.doing.Start.TheVariants as start
use Rattle.tx_run.specs.declared.doing.Doing.{Doing}
use Rattle.tx_run.specs.declared.doing.Doing.TheVariants as doing
use Rattle.tx_run.specs.declared.op.Op.{Op}
use Rattle.tx_run.specs.declared.op.Op.TheVariants as op
use Rattle.tx_run.specs.declared.op.Tick.{Tick}
use Rattle.tx_run.specs.declared.op.Tick.TheVariants as tick
use Rattle.tx_run.specs.declared.run.Run.{Run}

-- by how many references what is about to be done holds a list: that of a meaning that is to be assigned
abbrev pub in_hand : ℕ → Doing → ℕ
in_hand id (doing.Assigns p place m) = count_of id m
in_hand id _ = 0

-- and by how many one that has fallen away
abbrev pub counts_as : ℕ → Option ℕ → ℕ
counts_as id number = cond (is_number id number) 1 0

-- all the references of a run
abbrev pub held_by : ℕ → Run → ℕ
held_by id run = references id run.scene + in_hand id run.doing + counts_as id run.fallen

-- the lists that are held by so many references: those of the format always are
abbrev pub holds_list : (ℕ → ℕ) → ListRef → Bool
holds_list count (list.Pooled id) = nat_lt 0 (count id)
holds_list count _ = true

-- What may be asked for: the texts of these names, and the lists that the scene holds.
abbrev pub known_by : (ℕ → Bool) → Scene → Known
known_by names s = record { name = names; list = holds_list (λ id. references id s) }

-- the same, with what is held for what is about to be done
abbrev pub known_in : (ℕ → Bool) → Scene → Doing → Known
known_in names s d = record { name = names; list = holds_list (λ id. references id s + in_hand id d) }

-- No meaning of the format has a list of the pool, and the names in its lists are known.
pub record KnowsFormat (names : ℕ → Bool) (format : Engineless) : Type 0 where
  pub none : HasNoPooled (meanings format.frozen)
  pub lists : (k : ℕ) → AllKnown names (list_at format.lists k)

-- what begins
abbrev pub KnowsStart : Known → Start → Type 0
KnowsStart known (start.Expanded text) = Unit {0}
KnowsStart known (start.Within r) = KnowsReading known r

-- what is about to be done
abbrev pub KnowsDoing : Known → Doing → Type 0
KnowsDoing known (doing.Begins s) = KnowsStart known s
KnowsDoing known (doing.Gives v) = KnowsValue known v
KnowsDoing known (doing.GivesList list) = KnowsList known list
KnowsDoing known (doing.Took who t) = KnowsToken known t
KnowsDoing known (doing.Letter n) = known.name n ≡ true
KnowsDoing known (doing.Lettered t letter) = KnowsToken known t
KnowsDoing known (doing.Reads s how id) = KnowsStart known s × KnowsList known (list.Pooled id)
KnowsDoing known (doing.Copies s how tokens) = KnowsStart known s × KnowsTokens known tokens
KnowsDoing known (doing.Prints s d) = KnowsStart known s × Knows known.name known.list d
KnowsDoing known (doing.Tells what d) = Knows known.name known.list d
KnowsDoing known (doing.Shares p place what tokens) = KnowsPlace known place × KnowsTokens known tokens
KnowsDoing known (doing.Takes p place m id) = KnowsPlace known place × KnowsMeaning known m × (pooled_of m ≡ Some id)
KnowsDoing known (doing.Assigns p place m) = KnowsPlace known place × KnowsMeaning known m
KnowsDoing known _ = Unit {0}

-- the open readings and main control's command
pub record KnowsOpen (known : Known) (frames : List Frame) (command : Command) : Type 0 where
  pub readings : AllByRecursion (KnowsFrame known) frames
  pub control : KnowsControl known command

-- These go on behind what is about to be done, unless main control begins again behind it, or the region ends.
abbrev pub KnowsBehind : Known → Doing → List Frame → Command → Type 0
KnowsBehind known doing.Restarts frames command = Unit {0}
KnowsBehind known (doing.Full limit) frames command = Unit {0}
KnowsBehind known (doing.Tells what d) frames command = Unit {0}
KnowsBehind known (doing.Shares p place what tokens) frames command = Unit {0}
KnowsBehind known (doing.Takes p place m id) frames command = Unit {0}
KnowsBehind known (doing.Assigns p place m) frames command = Unit {0}
KnowsBehind known doing.Closes frames command = Unit {0}
KnowsBehind known doing.Straightens frames command = Unit {0}
KnowsBehind known doing.NoMemory frames command = Unit {0}
KnowsBehind known _ frames command = KnowsOpen known frames command

-- All names that a run has are known, and all lists are held by what the scene holds, or by what is held for them. One
-- that has fallen away is none of these.
pub record KnowsRun (names : ℕ → Bool) (run : Run) : Type 0 where
  pub scene : KnowsScene names run.scene
  pub doing : KnowsDoing (known_in names run.scene run.doing) run.doing
  pub behind : KnowsBehind (known_by names run.scene) run.doing run.frames run.command

-- what is known after a tick
abbrev pub KnowsAfter : (ℕ → Bool) → Tick → Run → Type 0
KnowsAfter names tick.Went run = KnowsRun names run
KnowsAfter names (tick.Ask o) run = KnowsRun names run
KnowsAfter names _ run = KnowsScene names run.scene

-- nothing is held beside what the scene holds
pub record IsEmptyHanded (run : Run) : Type 0 where
  pub fallen : run.fallen ≡ None
  pub doing : (id : ℕ) → in_hand id run.doing ≡ 0

-- how many lists may be in hand: one that has fallen away, and that of a meaning that is to be assigned
abbrev pub hands_of : Doing → ℕ
hands_of (doing.Assigns p place m) = 1
hands_of _ = 0

abbrev pub hands : Run → ℕ
hands run = option_map_or (λ id. 1) run.fallen 0 + hands_of run.doing

-- No reference is lost and none is made, where by so many more this held a list.
abbrev pub HoldsWith : (ℕ → ℕ) → Run → Run → Type 0
HoldsWith more old new = IsEmptyHanded old → (id : ℕ) → held_by id new ≡ references id old.scene + more id

abbrev pub Holds : Run → Run → Type 0
Holds old new = HoldsWith (λ id. 0) old new

-- the same, whatever has fallen away before
abbrev pub HoldsOn : Run → Run → Type 0
HoldsOn old new = ((id : ℕ) → in_hand id old.doing ≡ 0) → (id : ℕ) → held_by id new ≡ references id old.scene + counts_as id old.fallen

-- what is asked for may be asked for
abbrev pub KnowsOperation : (ℕ → Bool) → Op → Run → Type 0
KnowsOperation names (op.Text n) run = names n ≡ true
KnowsOperation names (op.Take id) run = 0 < held_by id run
KnowsOperation names (op.Release id) run = 0 < held_by id run
KnowsOperation names (op.Read id) run = 0 < held_by id run
KnowsOperation names _ run = Unit {0}
