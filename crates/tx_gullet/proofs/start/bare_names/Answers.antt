use Rattle.std.proofs.Common.{[], ◌∷◌, ◌∙◌, ap}
use Rattle.tx_model.specs.Bare.{bare_map}
use Rattle.tx_model.specs.Region.{outermost}
use Rattle.tx_gullet.proofs.StartLemmas.{bare-levels, none-known}
use Rattle.tx_gullet.proofs.start.bare_names.Goals as goal

pub keep-requires : goal.keep-requires
keep-requires c =
    let names = c.name_primitive-4.new.names in
    record {
      cells =
          (c.in_ok-name_primitive-4.ensures.knows names
          (c.in_ok-name_primitive-3.ensures.knows names
          (c.in_ok-name_primitive-2.ensures.knows names
          (c.in_ok-name_primitive.ensures.knows names (none-known names c.new-equivalents.result c.new-equivalents.ensures.names c.new-equivalents.ensures.saves))))).has_cells;
    }

pub returns-clause-bare : goal.returns-clause-bare
returns-clause-bare c naming apart agrees =
    let fourth = c.in_ok-name_primitive-4.ensures.named naming apart agrees in
    let third = c.in_ok-name_primitive-3.ensures.named naming apart fourth.0 in
    let second = c.in_ok-name_primitive-2.ensures.named naming apart third.0 in
    let first = c.in_ok-name_primitive.ensures.named naming apart second.0 in
    c.keep.ensures.levels naming apart bare_map
    ∙ ap (λ maps. outermost bare_map maps ∷ [])
    (bare-levels naming c.new-equivalents.result c.name_primitive.new.equivalents c.name_primitive-2.new.equivalents c.name_primitive-3.new.equivalents c.name_primitive-4.new.equivalents c.bare.result c.bare.ensures c.new-equivalents.ensures.cats c.new-equivalents.ensures.names c.new-equivalents.ensures.saves first.1 second.1 third.1 fourth.1)

pub returns-clause-rest : goal.returns-clause-rest
returns-clause-rest c =
    let names = c.name_primitive-4.new.names in
    record {
      knows = c.keep.ensures.knows names
          (c.in_ok-name_primitive-4.ensures.knows names
          (c.in_ok-name_primitive-3.ensures.knows names
          (c.in_ok-name_primitive-2.ensures.knows names
          (c.in_ok-name_primitive.ensures.knows names (none-known names c.new-equivalents.result c.new-equivalents.ensures.names c.new-equivalents.ensures.saves)))));
      unsaved = c.keep.ensures.saves;
    }
