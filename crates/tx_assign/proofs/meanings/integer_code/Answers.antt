use Rattle.std.proofs.Common.{rules, FitsSigned, w32}
use Rattle.std.proofs.lemmas.Int.{to_z-of_z}
use Rattle.std.proofs.lemmas.Result.{err_from_is_err_and}
use Rattle.tx_private.specs.Meanings as private
use Rattle.tx_assign.proofs.meanings.integer_code.Goals as goal

pub returns-in_err-n-clause-leads : goal.returns-in_err-n-clause-leads
returns-in_err-n-clause-leads c =
    let f : FitsSigned w32 c.args.n = search rules in
    let p = err_from_is_err_and c.from_residual.result c.from_residual.ensures.1 in
    λ view further w. rw (p.1, p.2) (simp to_z-of_z at (c.in_err-n.ensures.leads (λ v. further (private.Integer v)) w))
