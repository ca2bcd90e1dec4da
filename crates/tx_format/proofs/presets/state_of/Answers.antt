use Rattle.tx_format.proofs.PresetLemmas.{freezable-preset}
use Rattle.tx_format.proofs.presets.state_of.Goals as goal

pub returns-clause-freezable : goal.returns-clause-freezable
returns-clause-freezable c =
    freezable-preset c.args.preset _ c.in_ok-frozen.ensures.distinct c.in_ok-frozen.ensures.entries c.in_ok-primitive_names.ensures.names c.in_ok-primitive_names.ensures.count
    c.in_ok-primitive_names.ensures.distinct c.new.ensures.items
