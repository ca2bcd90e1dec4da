-- What a number that is being read says of later items.
use Rattle.std.specs.Prelude.{ℤ}
use Rattle.tx_quant.specs.declared.number.NumStage.{NumStage}
use Rattle.tx_quant.specs.declared.number.NumStage.TheVariants as stage
use Rattle.tx_quant.specs.declared.number.NumScan.{NumScan}
use Rattle.tx_quant.specs.Items.{Reading}
use Rattle.tx_quant.specs.Bases.{radix_of}
use Rattle.tx_quant.specs.Numbers.{number_after, first_digit, digits, alphabetic, optional_space}

abbrev pub number_at : NumStage → Reading ℤ
number_at (stage.Sign negative) items = number_after negative items
number_at (stage.First negative base) items = first_digit negative (radix_of base) items
number_at (stage.More d) items = digits d.negative (radix_of d.base) d.value items
number_at (stage.Backquote negative) items = alphabetic negative items
number_at (stage.Space v) items = optional_space v items

abbrev pub number_says : NumScan → Reading ℤ
number_says n items = number_at n.stage items
