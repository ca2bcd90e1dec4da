-- What a scene stands for, and what taking a token does.
use Rattle.std.specs.Prelude.{◌≡◌, ◌≢◌, ℕ, ◌+◌, List, [], ◌∷◌, false}
use Rattle.tx_model.specs.declared.error.Error.TheVariants.{InvalidCharacter}
use Rattle.tx_model.specs.Environment.{meaning_of}
use Rattle.tx_model.specs.Pending.{Member, Text}
use Rattle.tx_model.specs.World.{World, Command, failure, Takes, Finds-none, Spends, Breaks, taking}
use Rattle.tx_tok.specs.declared.tok.Tok.{Tok}
use Rattle.tx_tok.specs.declared.tok.Tok.TheVariants as tok
use Rattle.tx_tok.specs.Tokens.{token_in}
use Rattle.tx_names.specs.Names.{Names, Naming, KeepsApart, Agrees, HasNumber}
use Rattle.tx_gullet.specs.declared.scene.Scene.{Scene}
use Rattle.tx_gullet.specs.declared.scene.Taken.{Taken}
use Rattle.tx_gullet.specs.declared.scene.Taken.TheVariants as taken
use Rattle.tx_gullet.specs.Meanings.{IsKnown}
use Rattle.tx_gullet.specs.Levels.{levels, KnowsEquivalents}
use Rattle.tx_gullet.specs.Pieces.{pieces, KnowsLists}

-- the world that a scene stands for, where names have these texts
abbrev pub world_of : Naming → Scene → World
world_of naming s = record {
  pending = pieces naming s.lists (Text s.scanner ∷ []);
  environment = levels naming s.equivalents;
  budget = s.steps.budget;
  output = record { steps = s.steps.spent; pages = 0; dvi = []; log = s.log };
}

-- the table has all names that the scene holds
pub record IsSound (s : Scene) : Type 0 where
  pub equivalents : KnowsEquivalents s.names s.equivalents
  pub lists : KnowsLists s.names s.lists

abbrev pub IsToken : Taken → Type 0
IsToken (taken.Token t) = Unit {0}
IsToken _ = ⊥

abbrev pub KnowsTaken : Names → Taken → Type 0
KnowsTaken names (taken.Token t) = IsKnown names t
KnowsTaken names _ = Unit {0}

-- a token with its present meaning
abbrev pub present : Naming → Scene → Tok → Command
present naming s t = record { token = token_in naming t; marked = false; meaning = meaning_of (levels naming s.equivalents) (token_in naming t) }

-- after the wish for a token, with this answer; of want of memory nothing is said
abbrev pub TakesBy : Naming → Scene → Taken → Scene → Type 0
TakesBy naming old (taken.Token t) new = taking (world_of naming old) ≡ Takes (present naming new t) (world_of naming new)
TakesBy naming old taken.End new = taking (world_of naming old) ≡ Finds-none (world_of naming new)
TakesBy naming old taken.Spent new = taking (world_of naming old) ≡ Spends (world_of naming new).output
TakesBy naming old taken.Invalid new = taking (world_of naming old) ≡ Breaks (failure InvalidCharacter (world_of naming new))
TakesBy naming old taken.Memory new = Unit {0}

-- for each naming that agrees with the table after the call
abbrev pub AfterTake : Scene → Taken → Scene → Type 0
AfterTake old t new =
    (naming : Naming) → KeepsApart naming → Agrees naming new.names → Agrees naming old.names × TakesBy naming old t new

-- and where no list has a token left
abbrev pub AfterScan : Scene → Taken → Scene → Type 0
AfterScan old t new =
    (naming : Naming) → KeepsApart naming → Agrees naming new.names
    → Agrees naming old.names × (((behind : List Member) → pieces naming old.lists behind ≡ behind) → TakesBy naming old t new)

abbrev pub one_more : Scene → Scene
one_more s = record s { steps = record s.steps { spent = s.steps.spent + 1 } }

-- after a step was spent for a token, or none was left
abbrev pub AfterStep : Scene → Tok → Taken → Scene → Type 0
AfterStep old token (taken.Token t) new = (t ≡ token) × (old.steps.spent ≢ old.steps.budget) × (new ≡ one_more old)
AfterStep old token taken.Spent new = (old.steps.spent ≡ old.steps.budget) × (new ≡ old)
AfterStep old token _ new = ⊥

abbrev pub Grows : Names → Names → Type 0
Grows old new = (n : ℕ) → HasNumber old n → HasNumber new n

-- a name with this text was made, and a step was spent for it
pub record Makes (old : Scene) (text : List ℕ) (n : ℕ) (new : Scene) : Type 0 where
  pub has_step : old.steps.spent ≢ old.steps.budget
  pub becomes : new ≡ one_more (record old { names = new.names })
  pub number : HasNumber new.names n
  pub grows : Grows old.names new.names
  pub agrees : (naming : Naming) → Agrees naming new.names → (naming n ≡ text) × Agrees naming old.names

abbrev pub AfterName : Scene → List ℕ → Taken → Scene → Type 0
AfterName old text (taken.Token t) new = (n : ℕ) × (t ≡ tok.Name n) × Makes old text n new
AfterName old text taken.Spent new = (old.steps.spent ≡ old.steps.budget) × (new ≡ old)
AfterName old text taken.Memory new = new.names ≡ old.names
AfterName old text _ new = ⊥
