-- Which readings of the numbers agree with what a session knows and holds.
use Rattle.std.specs.Prelude.{◌≡◌, ℕ, ◌<◌, Bool, List, length, Some, is_some}
use Rattle.tx_tok.specs.declared.tok.ListRef.TheVariants as list
use Rattle.tx_format.specs.Formats.{list_at}
use Rattle.tx_store.specs.Sessions.{Session, Holding}
use Rattle.tx_views.specs.Views.{IsView}
use Rattle.tx_scene.specs.Scenes.{Ground}

-- Numbers that the session knows have the texts that it knows them by, lists of the format their contents there, and
-- lists that it holds the contents that it holds them with. Of all other numbers nothing is said.
pub record Agrees (session : Session) (g : Ground) : Type 0 where
  pub view : IsView g.view
  pub formats : g.formats ≡ session.format.names
  pub names : (n : ℕ) (text : List ℕ) → session.names n ≡ Some text → g.view.naming n ≡ text
  pub lists : (k : ℕ) → k < length session.format.lists → g.view.content (list.Frozen k) ≡ list_at session.format.lists k
  pub row : (id : ℕ) (holding : Holding) → session.row id ≡ Some holding → g.view.content (list.Pooled id) ≡ holding.content

-- the names that a session knows
abbrev pub known_names : Session → ℕ → Bool
known_names session n = is_some (session.names n)
