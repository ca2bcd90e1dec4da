-- What is proved of skips.
use Rattle.std.specs.Prelude.{◌≡◌, List, ◌∷◌, ◌++◌, Some, None, IsTrue}
use Rattle.tx_cond.specs.declared.skip.SkipKind.{SkipKind}
use Rattle.tx_cond.specs.declared.skip.SkipEnd.{SkipEnd}
use Rattle.tx_cond.specs.Skips.{Wanted, Ended, wanted_word, is_balanced, end_behind, skip}

-- the rest begins right after a wanted word, behind tokens of which each conditional has its \fi, and
-- no token of these ends the skip
pub record EndsAtWord (wanted : Wanted) (tokens : List SkipKind) (word : SkipEnd) (rest : List SkipKind) : Type 0 where
  pub passed : List SkipKind
  pub token : SkipKind
  pub split : tokens ≡ passed ++ token ∷ rest
  pub balanced : IsTrue (is_balanced passed)
  pub is_wanted : wanted_word wanted token ≡ Some word
  pub least : (front : List SkipKind) (early : SkipKind) (back : List SkipKind) →
      passed ≡ front ++ early ∷ back → end_behind wanted front early ≡ None

-- a skip that is over ends at such a word
abbrev pub SkipEndsAtWord : Type 0
SkipEndsAtWord =
    (wanted : Wanted) (tokens : List SkipKind) (word : SkipEnd) (rest : List SkipKind) →
    skip wanted tokens ≡ Ended word rest → EndsAtWord wanted tokens word rest

-- and where there is such a word, the skip ends there
abbrev pub WordEndsSkip : Type 0
WordEndsSkip =
    (wanted : Wanted) (tokens : List SkipKind) (word : SkipEnd) (rest : List SkipKind) →
    EndsAtWord wanted tokens word rest → skip wanted tokens ≡ Ended word rest
