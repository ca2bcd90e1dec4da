-- What is said of a region, of equal texts and outcomes.
use Rattle.std.proofs.Common.{◌≡◌, ℕ, List, subst}
use Rattle.tx_model.specs.Environment.{Map}
use Rattle.tx_model.specs.Region.{Outcome, Region}
use Rattle.tx_gullet.specs.States.{State, StandsFor}

pub answered-with : (map : Map) (text copy : List ℕ) (budget : ℕ) (o p : Outcome) (e : State) → copy ≡ text → o ≡ p → ((after : Map) × Region map copy budget o after × StandsFor e after) → (after : Map) × Region map text budget p after × StandsFor e after
answered-with map text copy budget o p e same is a =
    (a.0, subst (λ q. Region map text budget q a.0) is (subst (λ t. Region map t budget o a.0) same a.1), a.2)
