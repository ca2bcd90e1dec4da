-- Sizes of dimensions (TeX: The Program, sections 453 to 460).
use Rattle.std.specs.Prelude.{ℕ, ◌+◌, ◌*◌, ◌/◌, ℤ, pos, neg_ℤ, suc, negsuc, Option}
use Rattle.tx_num.specs.Ranges.{dimension}
use Rattle.tx_quant.specs.declared.factor.Factor.{Factor}
use Rattle.tx_quant.specs.declared.setting.Setting.{Setting}
use Rattle.tx_quant.specs.declared.units.Unit.{Unit}
use Rattle.tx_quant.specs.declared.units.Unit.TheVariants as unit
use Rattle.tx_quant.specs.Numbers.{signed}

-- a factor in 65536ths
abbrev pub scaled : Factor → ℕ
scaled f = f.whole * 65536 + f.fraction

-- a factor in a unit of which each den are num points, in scaled points, cut
abbrev pub in_ratio : Factor → ℕ → ℕ → ℕ
in_ratio f num den = scaled f * num / den

-- times a dimension, cut toward zero
abbrev pub times : Factor → ℤ → ℤ
times f (pos v) = pos (scaled f * v / 65536)
times f (negsuc v) = neg_ℤ (pos (scaled f * suc v / 65536))

-- a factor in a unit, without the sign
abbrev pub measured : Setting → Factor → Unit → ℤ
measured s f unit.Pt = pos (in_ratio f 1 1)
measured s f unit.In = pos (in_ratio f 7227 100)
measured s f unit.Pc = pos (in_ratio f 12 1)
measured s f unit.Cm = pos (in_ratio f 7227 254)
measured s f unit.Mm = pos (in_ratio f 7227 2540)
measured s f unit.Bp = pos (in_ratio f 7227 7200)
measured s f unit.Dd = pos (in_ratio f 1238 1157)
measured s f unit.Cc = pos (in_ratio f 14856 1157)
measured s f unit.Sp = pos f.whole
measured s f unit.Em = times f s.em
measured s f unit.Ex = times f s.ex
measured s f unit.Mu = pos (in_ratio f 1 1)

-- a factor in a unit, where it is a dimension
abbrev pub amount : Setting → Factor → Unit → Option ℤ
amount s f u = dimension (signed f.negative (measured s f u))
