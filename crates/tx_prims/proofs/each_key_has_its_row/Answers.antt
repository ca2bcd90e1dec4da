use Rattle.tx_prims.proofs.Searches.{EachKeyHasItsRow-lawful}
use Rattle.tx_prims.proofs.each_key_has_its_row.Goals as goal

pub returns : goal.returns
returns g c = EachKeyHasItsRow-lawful _ c.args.rows.now c.requires
