-- the bytes so far have their categories
use Rattle.std.proofs.Common.{◌≡◌, ℕ, ◌<◌, List, length, get_or}
use Rattle.tx_model.specs.declared.category.Cat.{Cat}
use Rattle.tx_model.specs.declared.category.Cat.TheVariants.{Other}
use Rattle.tx_node.specs.declared.BoxNode.{BoxNode}
use Rattle.tx_eqtb.specs.declared.addr.AddrKind.TheVariants as kind
use Rattle.tx_eqtb.specs.Meanings.{Map, meanings}
use Rattle.tx_views.specs.Places.{numbered}
use Rattle.tx_environment.specs.Soundness.{category_given}
use Rattle.tx_environment.proofs.categories.categories_of.Given as goal

pub record AreSet (m : Map BoxNode) (cats : List Cat) (byte : ℕ) : Type 0 where
  pub len : length cats ≡ 256
  pub each : (k : ℕ) → k < byte → get_or cats k Other ≡ category_given (m (numbered kind.CatCode k))

abbrev pub invariant-loop-byte : goal.invariant-loop-byte
invariant-loop-byte l = AreSet (meanings l.frozen) l.cats l.byte
