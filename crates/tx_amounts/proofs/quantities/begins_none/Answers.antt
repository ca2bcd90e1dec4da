-- proofs/quantities/begins_none/Answers.antt
-- The values of the arm are one of a list, of which each begins no quantity.
use Rattle.std.proofs.Common.{◌≡◌, true, List, [], ◌∷◌, ◌⊎◌, inl, inr, refl, sym, ap, ◌∙◌}
use Rattle.std.proofs.lemmas.Bool.{and_parts}
use Rattle.std.specs.List.{list_all}
use Rattle.tx_prims.specs.declared.primitives.Assignment.{Assignment}
use Rattle.tx_prims.specs.declared.primitives.Assignment.TheVariants.{Def, EDef, GDef, XDef, Let, FutureLet, CharDef, MathCharDef, CountDef, DimenDef, SkipDef, MuSkipDef, ToksDef, Advance, Multiply, Divide, Global, Long, Protected, Toks, SetBox, Font, TextFont, ScriptFont, ScriptScriptFont, NullFont, Hyphenation, Patterns}
use Rattle.tx_private.specs.Quantities.{begins_none}
use Rattle.tx_amounts.proofs.quantities.begins_none.Goals as goal

-- it is one of these
abbrev OneOf : Assignment → Assignment → List Assignment → Type 0
OneOf a b [] = a ≡ b
OneOf a b (c ∷ cs) = (a ≡ b) ⊎ OneOf a c cs

none-of : (a b : Assignment) (cs : List Assignment) → OneOf a b cs → list_all begins_none (b ∷ cs) ≡ true → true ≡ begins_none a
none-of a b [] e all = sym (ap begins_none e ∙ (and_parts (begins_none b) true all).0)
none-of a b (c ∷ cs) (inl e) all = sym (ap begins_none e ∙ (and_parts (begins_none b) (list_all begins_none (c ∷ cs)) all).0)
none-of a b (c ∷ cs) (inr one) all = none-of a c cs one (and_parts (begins_none b) (list_all begins_none (c ∷ cs)) all).1

pub returns-in-Def : goal.returns-in-Def
returns-in-Def c =
    none-of c.args.assignment Def
    (EDef ∷ GDef ∷ XDef ∷ Let ∷ FutureLet ∷ CharDef ∷ MathCharDef ∷ CountDef ∷ DimenDef ∷ SkipDef ∷ MuSkipDef ∷ ToksDef ∷ Advance ∷ Multiply ∷ Divide ∷ Global ∷ Long ∷ Protected ∷ Toks ∷ SetBox ∷ Font ∷ TextFont ∷ ScriptFont ∷ ScriptScriptFont ∷ NullFont ∷ Hyphenation ∷ Patterns ∷ [])
    c.in-Def.is refl
