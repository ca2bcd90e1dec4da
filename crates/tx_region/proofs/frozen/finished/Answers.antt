use Rattle.std.proofs.Common.{ap, sym, subst}
use Rattle.tx_model.specs.Bare.{bare_map}
use Rattle.tx_model.specs.Region.{Outcome}
use Rattle.tx_gullet.specs.Outcomes.{region_outcome}
use Rattle.tx_gullet.specs.States.{IsFormat}
use Rattle.tx_region.proofs.frozen.finished.Goals as goal

pub returns-in-Ok-Done : goal.returns-in-Ok-Done
returns-in-Ok-Done c =
    let a = c.in-Ok-Done.ensures.answered bare_map c.requires in
    (a.0, (region_outcome c.in-Ok-Done.field-0, (ap (λ o. (region_outcome o).status) c.in-Ok-Done.field-0-is, a.1)), subst (λ s. IsFormat s a.0) (sym c.freeze.ensures) a.2)

pub returns-in-Ok-Fail : goal.returns-in-Ok-Fail
returns-in-Ok-Fail c =
    let a = c.in-Ok-Fail.ensures.answered bare_map c.requires in
    let is = c.in-Ok-Fail.field-0-is in
    (region_outcome c.in-Ok-Fail.field-0, (a.0, ap (λ o. (region_outcome o).log) is, ap (λ o. (region_outcome o).steps) is, (ap (λ o. (region_outcome o).status) is, a.1)))

pub returns-in-Ok-Spent : goal.returns-in-Ok-Spent
returns-in-Ok-Spent c =
    let a = c.in-Ok-Spent.ensures.answered bare_map c.requires in
    let is = c.in-Ok-Spent.field-0-is in
    (region_outcome c.in-Ok-Spent.field-0, (a.0, ap (λ o. (region_outcome o).log) is, ap (λ o. (region_outcome o).steps) is, (ap (λ o. (region_outcome o).status) is, a.1)))
