-- Skipping the tokens of a branch that isn't taken (The TeXbook, chapter 20). Tokens count by what they
-- mean when they are met.
use Rattle.std.specs.Prelude.{◌≡◌, ℕ, ◌+◌, ◌^◌, ◌==◌, Bool, true, false, List, [], ◌∷◌, ◌++◌, Option, Some, None, replicate, count_by, if◌then◌else◌}
use Rattle.tx_num.specs.declared.quantities.Feed.{Feed}
use Rattle.tx_num.specs.declared.quantities.Feed.TheVariants as feed
use Rattle.tx_cond.specs.declared.skip.SkipKind.{SkipKind}
use Rattle.tx_cond.specs.declared.skip.SkipKind.TheVariants as kind
use Rattle.tx_cond.specs.declared.skip.SkipEnd.{SkipEnd}
use Rattle.tx_cond.specs.declared.skip.SkipEnd.TheVariants as end

-- which words are wanted beside \fi
pub record Wanted : Type 0 where
  pub or : Bool
  pub els : Bool

-- the wanted word that a token is, if it is one
abbrev pub wanted_word : Wanted → SkipKind → Option SkipEnd
wanted_word wanted kind.Plain = None
wanted_word wanted kind.If = None
wanted_word wanted kind.Or = if wanted.or then Some end.Or else None
wanted_word wanted kind.Else = if wanted.els then Some end.Else else None
wanted_word wanted kind.Fi = Some end.Fi

abbrev pub is_conditional : SkipKind → Bool
is_conditional kind.If = true
is_conditional _ = false

abbrev pub is_fi : SkipKind → Bool
is_fi kind.Fi = true
is_fi _ = false

-- of these tokens, each conditional has its \fi
abbrev pub is_balanced : List SkipKind → Bool
is_balanced tokens = count_by is_conditional tokens == count_by is_fi tokens

-- the word by which a token ends the skip that passed over these
abbrev pub end_behind : Wanted → List SkipKind → SkipKind → Option SkipEnd
end_behind wanted passed token = if is_balanced passed then wanted_word wanted token else None

-- what a skip makes of tokens: their end leaves it open, or a word ended it and this is the rest
pub data Skipped : Type 0 where
  Open : Skipped
  Ended : SkipEnd → List SkipKind → Skipped

-- the skip that passed over some tokens goes on up to the first one that ends it
abbrev pub skip_behind : Wanted → List SkipKind → List SkipKind → Skipped
skip_behind wanted passed [] = Open
skip_behind wanted passed (token ∷ later) =
    elim (end_behind wanted passed token)
    [ Some word ↦ Ended word later | None ↦ skip_behind wanted (passed ++ token ∷ []) later ]

-- the skip over tokens
abbrev pub skip : Wanted → List SkipKind → Skipped
skip wanted tokens = skip_behind wanted [] tokens

-- a skip under way: what it wants, and how many nested conditionals are open
pub record Skipping : Type 0 where
  pub wanted : Wanted
  pub nested : ℕ

-- what a skip under way makes of the tokens that come later: it has passed over that many conditionals
-- whose \fi is still to come
abbrev pub says : Skipping → List SkipKind → Skipped
says s later = skip_behind s.wanted (replicate s.nested kind.If) later

-- what the answer to a token says: of all later tokens the same is read as before
abbrev pub FedSkip : Skipping → SkipKind → Feed SkipEnd → Skipping → Type 0
FedSkip before token (feed.More back) after =
    (back ≡ 0) × ((later : List SkipKind) → says before (token ∷ later) ≡ says after later)
FedSkip before token (feed.Done word back) after =
    (back ≡ 0) × ((later : List SkipKind) → says before (token ∷ later) ≡ Ended word later)
FedSkip before token (feed.Bad error) after = ⊥
FedSkip before token feed.Memory after = (before.nested + 1 ≡ 2 ^ 64) × (token ≡ kind.If) × (after ≡ before)
