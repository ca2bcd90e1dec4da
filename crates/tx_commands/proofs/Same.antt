-- What comes of commands of which the same is said.
use Rattle.std.proofs.Common.{◌≡◌, List, sym, subst}
use mathlib.Core.Path.{fun_ext}
use Rattle.tx_private.specs.World.{World}
use Rattle.tx_private.specs.Readings.{Item, Move}
use Rattle.tx_views.specs.Views.{View}
use Rattle.tx_commands.specs.declared.outcome.Outcome.{Outcome}
use Rattle.tx_commands.specs.Outcomes.{Makes}

-- where the same is said of two commands, the same comes of them
pub makes-same : (view : View) (f g : List Item → World → Move) (w : World) (a : Outcome) → ((items : List Item) (v : World) → f items v ≡ g items v) → Makes view g w a → Makes view f w a
makes-same view f g w a same m = subst (λ (h : List Item → World → Move). Makes view h w a) (sym (fun_ext (λ items. fun_ext (λ v. same items v)))) m
