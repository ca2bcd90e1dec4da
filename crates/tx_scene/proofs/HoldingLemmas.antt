-- By how many references a scene holds a list, and with what state it begins.
use Rattle.std.proofs.Common.{◌≡◌, ℕ, ◌+◌, List, [], ◌∷◌, ◌++◌, Option, None, Some, Result, Ok, Err, IfOk, arith, refl, sym, ap, ◌∙◌}
use Rattle.std.specs.Option.{option_to_list}
use Rattle.std.specs.List.{list_any}
use Rattle.std.specs.Str.{bytes_eq}
use Rattle.tx_node.specs.declared.BoxNode.{BoxNode}
use Rattle.tx_eqtb.specs.declared.meaning.Meaning.{Meaning}
use Rattle.tx_eqtb.specs.Meanings.{Map}
use Rattle.tx_eqtb.specs.Tables.{SameCounts, now}
use Rattle.tx_save.specs.Saves.{groups, outside}
use Rattle.tx_model.specs.Scanner.{opened}
use Rattle.tx_private.specs.World.{World}
use Rattle.tx_private.specs.Environment.{Environment}
use Rattle.tx_private.specs.Region.{started}
use Rattle.tx_views.specs.Meanings.{map_in}
use Rattle.tx_environment.specs.States.{State, environment}
use Rattle.tx_environment.specs.Holding.{counted}
use Rattle.tx_environment.specs.Steps.{held, alone}
use Rattle.tx_environment.proofs.HoldingLemmas.{counts-assigned}
use Rattle.tx_environment.proofs.LevelLemmas.{alone-is}
use Rattle.tx_environment.proofs.StepLemmas.{length-outside}
use Rattle.tx_input.specs.declared.input.Input.{Input}
use Rattle.tx_input.specs.Owned.{texts_of}
use Rattle.tx_scene.specs.declared.scene.Scene.{Scene}
use Rattle.tx_scene.specs.Scenes.{Ground, world, state_in}

-- an assignment, whose meaning is held from then on
pub assigned-counts : (r : Result (Option (Meaning BoxNode)) (Meaning BoxNode)) (m : Meaning BoxNode) (old new : State) → IfOk r (λ out. SameCounts (m ∷ held old) (option_to_list out ++ held new)) → IfOk r (λ out. (id : ℕ) → counted id (held new) + counted id (option_to_list out) ≡ counted id (held old) + counted id (m ∷ []))
assigned-counts (Ok out) m old new same = λ id. omega (arith, counts-assigned id m (option_to_list out) (held old) (held new) same)
assigned-counts (Err e) m old new same = tt

-- outside of all groups the environment is the map now
alone-now : (g : Ground) (frozen : Map BoxNode) (e : State) → groups e.saves ≡ [] → environment g.view frozen e ≡ alone (map_in g.view (now frozen e.table))
alone-now g frozen e outermost =
    alone-is g.view (now frozen e.table) (outside frozen e.table e.saves) (groups e.saves) (length-outside frozen e.table e.saves) outermost

-- a scene begins in the state that the frozen map gives
pub new-state : (g : Ground) (frozen : Map BoxNode) (s : Scene) → environment g.view frozen s.environment ≡ alone (map_in g.view frozen) → groups s.environment.saves ≡ [] → s.input.names ≡ [] → state_in g frozen s ≡ record { map = map_in g.view frozen; frozen = λ text. list_any (bytes_eq text) g.formats; names = [] }
new-state g frozen s e outermost none =
    let same : map_in g.view (now frozen s.environment.table) ≡ map_in g.view frozen = ap (λ (x : Environment). x.outside) (sym (alone-now g frozen s.environment outermost) ∙ e) in
    λ i. record { map = same i; frozen = λ text. list_any (bytes_eq text) g.formats; names = texts_of g.view.naming (none i) }

-- a region begins in the state of the session
pub begun-is : (g : Ground) (frozen : Map BoxNode) (old : Scene) (text : List ℕ) (budget : ℕ) (input : Input) (e : State) (log : List ℕ) → input ≡ record old.input { lists = []; text = Some (opened text); steps = record { budget = budget; spent = 0 }; wanted = None } → e ≡ record old.environment { first = old.environment.cats } → log ≡ [] → groups old.environment.saves ≡ [] → world g frozen 0 (record old { input = input; environment = e; kept = None; stored = 0; log = log }) ≡ started (state_in g frozen old) old.preamble text budget
begun-is g frozen old text budget input e log input_is e_is log_is outermost =
    let made : Input → State → List ℕ → World = λ i x l. world g frozen 0 (record old { input = i; environment = x; kept = None; stored = 0; log = l }) in
    (λ i. made (input_is i) (e_is i) (log_is i))
    ∙ ap (λ (x : Environment). record (started (state_in g frozen old) old.preamble text budget) { environment = x }) (alone-now g frozen old.environment outermost)
