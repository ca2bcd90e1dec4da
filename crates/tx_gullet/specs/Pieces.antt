-- The pending tokens that lists stand for.
use Rattle.std.specs.Prelude.{List, [], ◌∷◌, ◌++◌, drop, map, reverse, false}
use Rattle.std.specs.List.{AllByRecursion}
use Rattle.tx_model.specs.Pending.{Member, Single}
use Rattle.tx_tok.specs.declared.tok.Tok.{Tok}
use Rattle.tx_tok.specs.Tokens.{tokens_in}
use Rattle.tx_names.specs.Names.{Names, Naming}
use Rattle.tx_gullet.specs.declared.input.ListRead.{ListRead}
use Rattle.tx_gullet.specs.declared.input.Lists.{Lists}
use Rattle.tx_gullet.specs.Meanings.{AreKnown}

-- unmarked tokens
abbrev pub singles : Naming → List Tok → List Member
singles naming tokens = map (λ t. Single t false) (tokens_in naming tokens)

-- what is left of lists, the first of which is read first, and what stands behind them
abbrev pub left_of : Naming → List ListRead → List Member → List Member
left_of naming [] behind = behind
left_of naming (l ∷ lists) behind = singles naming (drop l.read l.list.value.items) ++ left_of naming lists behind

abbrev pub pieces : Naming → Lists → List Member → List Member
pieces naming lists behind = singles naming (drop lists.read lists.list.value.items) ++ left_of naming (reverse lists.later.items) behind

-- the table has all names in these lists
pub record KnowsLists (names : Names) (lists : Lists) : Type 0 where
  pub list : AreKnown names lists.list.value.items
  pub later : AllByRecursion (λ l. AreKnown names l.list.value.items) lists.later.items
