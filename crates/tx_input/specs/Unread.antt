-- The tokens of lists that are left to read.
use Rattle.std.specs.Prelude.{◌<◌, List, [], ◌∷◌, ◌++◌, length, drop}
use Rattle.std.specs.List.{AllByRecursion}
use Rattle.tx_tok.specs.declared.tok.Tok.{Tok}
use Rattle.tx_input.specs.declared.lists.ListRead.{ListRead}

-- of lists the last of which is read first
abbrev pub unread : List ListRead → List Tok
unread [] = []
unread (l ∷ later) = unread later ++ drop l.read l.tokens

-- each list has a token left
abbrev pub AreUnread : List ListRead → Type 0
AreUnread lists = AllByRecursion (λ l. l.read < length l.tokens) lists
