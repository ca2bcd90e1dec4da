-- Units (TeX: The Program, sections 453 to 458).
use Rattle.std.specs.Prelude.{ℕ, Bool, if◌then◌else◌, List, [], ◌∷◌, codes}
use Rattle.tx_quant.specs.declared.setting.Setting.{Setting}
use Rattle.tx_quant.specs.declared.units.Unit.{Unit}
use Rattle.tx_quant.specs.declared.units.Unit.TheVariants as unit
use Rattle.tx_quant.specs.declared.units.UnitWord.{UnitWord}
use Rattle.tx_quant.specs.declared.units.UnitWord.TheVariants.{True, Fil, Of}
use Rattle.tx_quant.specs.declared.units.Begun.{Begun}
use Rattle.tx_quant.specs.declared.units.Begun.TheVariants as begun
use Rattle.tx_quant.specs.declared.units.UnitStep.{UnitStep}
use Rattle.tx_quant.specs.declared.units.UnitStep.TheVariants as step
use Rattle.tx_quant.specs.Spelling.{Words}

-- a unit, of which all these letters are due
abbrev pub spelled_as : Unit → List ℕ → UnitWord × List ℕ
spelled_as u letters = (Of u, letters)

-- the units that may stand after `true`
abbrev pub lengths : Words UnitWord
lengths =
    spelled_as unit.Pt (codes "pt") ∷ spelled_as unit.In (codes "in") ∷ spelled_as unit.Pc (codes "pc") ∷
    spelled_as unit.Cm (codes "cm") ∷ spelled_as unit.Mm (codes "mm") ∷ spelled_as unit.Bp (codes "bp") ∷
    spelled_as unit.Dd (codes "dd") ∷ spelled_as unit.Cc (codes "cc") ∷ spelled_as unit.Sp (codes "sp") ∷ []

-- what is no infinite unit, in an ordinary dimension and in a math one
abbrev pub finite_words : Bool → Words UnitWord
finite_words math =
    if math then spelled_as unit.Mu (codes "mu") ∷ []
    else (True, codes "true") ∷ spelled_as unit.Em (codes "em") ∷ spelled_as unit.Ex (codes "ex") ∷ lengths

-- with `fil`, where infinite units count
abbrev pub words_after_factor : Bool → Bool → Words UnitWord
words_after_factor infinite math =
    if infinite then (Fil, codes "fil") ∷ finite_words math else finite_words math

-- what may stand after a factor
abbrev pub unit_words : Setting → Words UnitWord
unit_words s = words_after_factor s.infinite s.math

-- what is left of the units that begin with these letters
abbrev pub due : Begun → Words UnitWord
due begun.P = spelled_as unit.Pt (codes "t") ∷ spelled_as unit.Pc (codes "c") ∷ []
due begun.I = spelled_as unit.In (codes "n") ∷ []
due begun.C = spelled_as unit.Cm (codes "m") ∷ spelled_as unit.Cc (codes "c") ∷ []
due begun.M = spelled_as unit.Mm (codes "m") ∷ []
due begun.B = spelled_as unit.Bp (codes "p") ∷ []
due begun.D = spelled_as unit.Dd (codes "d") ∷ []
due begun.S = spelled_as unit.Sp (codes "p") ∷ []
due begun.E = spelled_as unit.Em (codes "m") ∷ spelled_as unit.Ex (codes "x") ∷ []
due begun.MathM = spelled_as unit.Mu (codes "u") ∷ []
due begun.T = (True, codes "rue") ∷ []
due begun.Tr = (True, codes "ue") ∷ []
due begun.Tru = (True, codes "e") ∷ []
due begun.F = (Fil, codes "il") ∷ []
due begun.Fi = (Fil, codes "l") ∷ []

-- what is left after a letter
abbrev pub left : UnitStep → Words UnitWord
left (step.Found word) = (word, []) ∷ []
left (step.Due b) = due b
left step.Missing = []
