-- What one session knows of the names and holds of the lists. Other sessions may change the rest at any time.
use Rattle.std.specs.Prelude.{ℕ, ◌≡◌, ◌<◌, List, [], length, get_or, Option, None, Some}
use Rattle.tx_tok.specs.declared.tok.Tok.{Tok}
use Rattle.tx_format.specs.declared.state.Engineless.{Engineless}

-- what a session holds of a list of the pool: its content, and by how many references
pub record Holding : Type 0 where
  pub content : List Tok
  pub count : ℕ

-- the text of each number that the session knows, what it holds of each number of the pool, how many
-- references it holds in all, and the format that it serves
pub record Session : Type 0 where
  pub names : ℕ → Option (List ℕ)
  pub row : ℕ → Option Holding
  pub total : ℕ
  pub format : Engineless

-- The names of the format are known by their numbers, and no two numbers have one text. No list is held
-- by no reference.
pub record IsSound (session : Session) : Type 0 where
  pub of_format : (n : ℕ) → n < length session.format.names → session.names n ≡ Some (get_or session.format.names n [])
  pub distinct : (n m : ℕ) (text : List ℕ) → session.names n ≡ Some text → session.names m ≡ Some text → n ≡ m
  pub held : (id : ℕ) (holding : Holding) → session.row id ≡ Some holding → 0 < holding.count

-- the session with which a store of this format begins
pub record IsNew (frozen : Engineless) (session : Session) : Type 0 where
  pub sound : IsSound session
  pub row : (id : ℕ) → session.row id ≡ None
  pub total : session.total ≡ 0
  pub format : session.format ≡ frozen
