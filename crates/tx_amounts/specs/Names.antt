-- The numbers of names in tokens.
use Rattle.std.specs.Prelude.{◌≡◌, ℕ, List, [], ◌∷◌, ◌++◌, ◌⊎◌, Option, Some, None}
use Rattle.std.specs.List.{AllByRecursion}
use Rattle.tx_tok.specs.declared.tok.Tok.{Tok}
use Rattle.tx_tok.specs.declared.tok.Tok.TheVariants as tok
use Rattle.tx_amounts.specs.declared.amount.Scanned.{Scanned}
use Rattle.tx_amounts.specs.declared.amount.Scanned.TheVariants as scanned
use Rattle.tx_amounts.specs.declared.begun.Begun.{Begun}
use Rattle.tx_amounts.specs.declared.scan.Scan.{Scan}
use Rattle.tx_amounts.specs.Backs.{given}

-- the token is the name of this number
abbrev pub IsName : ℕ → Tok → Type 0
IsName n (tok.Name m) = n ≡ m
IsName n _ = ⊥

-- one of the tokens is
abbrev pub Names : ℕ → List Tok → Type 0
Names n [] = ⊥
Names n (t ∷ tokens) = IsName n t ⊎ Names n tokens

-- each number of a name in the first tokens stands in the second ones
abbrev pub IsWithin : List Tok → List Tok → Type 0
IsWithin tokens others = (n : ℕ) → Names n tokens → Names n others

-- the token with which a quantity begins
abbrev pub begun_tokens : Option Begun → List Tok
begun_tokens None = []
begun_tokens (Some begun) = begun.token ∷ []

-- the tokens that a scan holds
abbrev pub scan_tokens : Scan → List Tok
scan_tokens scan = begun_tokens scan.begun ++ given scan.taken.items

-- the tokens that an answer puts back
abbrev pub tokens_back : Scanned → List Tok
tokens_back (scanned.More back) = back
tokens_back (scanned.Done amount back) = back
tokens_back _ = []

-- the number of the name is known, if it is a name
abbrev pub IsKnown : (ℕ → Type 0) → Tok → Type 0
IsKnown known (tok.Name n) = known n
IsKnown known _ = Unit {0}

-- the numbers of all names are known
abbrev pub AreKnown : (ℕ → Type 0) → List Tok → Type 0
AreKnown known tokens = AllByRecursion (IsKnown known) tokens

abbrev pub KnowsScan : (ℕ → Type 0) → Scan → Type 0
KnowsScan known scan = AreKnown known (scan_tokens scan)
