use Rattle.std.proofs.Common.{◌≡◌, ℕ, List, ◌++◌, sym, subst, arith, rules, if◌then◌else◌, codes}
use Rattle.tx_model.specs.Shown.{escape}
use Rattle.tx_describe.proofs.HexadecimalLemmas.{hexadecimal_is}
use Rattle.tx_describe.proofs.meanings.code_text.Goals as goal

pub returns : goal.returns
returns c =
    let named : List ℕ → Type 0 = λ number. c.extend_from_slice.new.self.items ≡ escape c.args.escape ++ (if c.args.math then codes "mathchar" else codes "char") ++ number in
    subst named (sym (hexadecimal_is c.args.code (omega arith))) (search rules)
