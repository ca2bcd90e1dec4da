use Rattle.tx_frames.proofs.scan.value_given.Goals as goal

pub returns-in-Expanded-clause-knows : goal.returns-in-Expanded-clause-knows
returns-in-Expanded-clause-knows c known r s v = c.token_given.ensures.knows known r s v

pub returns-in-Quantity-clause-knows : goal.returns-in-Quantity-clause-knows
returns-in-Quantity-clause-knows c known r s v = c.quantity_given.ensures.knows known r s
