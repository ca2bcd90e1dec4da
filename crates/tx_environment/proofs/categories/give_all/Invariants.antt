-- the tables so far have the category, and the others are as they were
use Rattle.std.proofs.Common.{◌≡◌, ℕ, ◌<◌, ◌≤◌, List, [], length, get_or}
use Rattle.tx_model.specs.declared.category.Cat.{Cat}
use Rattle.tx_scan.specs.declared.cats.Cats.{Cats}
use Rattle.tx_views.specs.declared.place.Place.{Place}
use Rattle.tx_environment.specs.Changes.{IsGiven}
use Rattle.tx_environment.proofs.categories.give_all.Given as goal

-- a table for no place
abbrev pub none : Cats
none = record { 0 = [] }

pub record AreGiven (place : Place) (category : Cat) (old new : List Cats) (index : ℕ) : Type 0 where
  pub done : (k : ℕ) → k < index → IsGiven place category (get_or old k none) (get_or new k none)
  pub left : (k : ℕ) → index ≤ k → get_or new k none ≡ get_or old k none

abbrev pub invariant-loop-cats : goal.invariant-loop-cats
invariant-loop-cats l = AreGiven l.place l.category l.fn.tables l.tables l.cats-index
