-- What the engine's meanings stand for.
use Rattle.std.specs.Prelude.{◌≡◌, List}
use Rattle.std.specs.List.{AllByRecursion}
use Rattle.tx_model.specs.Environment as environment
use Rattle.tx_tok.specs.declared.tok.Tok.{Tok}
use Rattle.tx_tok.specs.declared.tok.Tok.TheVariants as tok
use Rattle.tx_tok.specs.Tokens.{tokens_in}
use Rattle.tx_names.specs.Names.{Names, Naming, HasNumber}
use Rattle.tx_gullet.specs.declared.meaning.Meaning.{Meaning}
use Rattle.tx_gullet.specs.declared.meaning.Meaning.TheVariants as meaning

-- the meaning as the definitions have it, where names have these texts
abbrev pub meaning_in : Naming → Meaning → environment.Meaning
meaning_in naming meaning.Undefined = environment.Undefined
meaning_in naming (meaning.Primitive p) = environment.Primitive' p
meaning_in naming (meaning.Macro list) = environment.Macro (tokens_in naming list.value.items)
meaning_in naming (meaning.Character c b) = environment.Character c b

-- the table has the name that a token is
abbrev pub IsKnown : Names → Tok → Type 0
IsKnown names (tok.Name n) = HasNumber names n
IsKnown names _ = Unit {0}

abbrev pub AreKnown : Names → List Tok → Type 0
AreKnown names tokens = AllByRecursion (IsKnown names) tokens

abbrev pub KnowsMeaning : Names → Meaning → Type 0
KnowsMeaning names (meaning.Macro list) = AreKnown names list.value.items
KnowsMeaning names _ = Unit {0}

-- the copy stands for the same, whatever texts names have
pub record IsSameMeaning (m copy : Meaning) : Type 0 where
  pub same : (naming : Naming) → meaning_in naming copy ≡ meaning_in naming m
  pub knows : (names : Names) → KnowsMeaning names m → KnowsMeaning names copy
