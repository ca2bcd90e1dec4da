use Rattle.tx_prims.specs.declared.primitives.TheConstants.{PRIMITIVES}
use Rattle.tx_prims.specs.Primitives.{primitive_named, place_named, primitive_at}
use Rattle.tx_prims.proofs.Searches.{row_of-place_of}
use Rattle.tx_prims.proofs.primitives.each_name_has_its_place.Goals as goal

pub returns : goal.returns
unfolding primitive_named place_named primitive_at
returns c name = row_of-place_of PRIMITIVES name
