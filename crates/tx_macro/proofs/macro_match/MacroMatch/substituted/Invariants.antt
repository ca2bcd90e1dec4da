use Rattle.std.proofs.Common.{◌≡◌, ◌++◌, IsTrue, length, drop}
use Rattle.tx_macro.specs.ParameterText.{has_parameters_to}
use Rattle.tx_macro.specs.Substitution.{substituted}
use Rattle.tx_macro.proofs.macro_match.MacroMatch.substituted.Given as goal

abbrev pub invariant-loop-token : goal.invariant-loop-token
invariant-loop-token l =
    (l.text.items ++ substituted l.self.arguments.items (drop l.token-index l.body) ≡ substituted l.self.arguments.items l.body)
    × IsTrue (has_parameters_to (length l.self.arguments.items) (drop l.token-index l.body))
