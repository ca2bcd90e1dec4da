use Rattle.std.proofs.Common.{drop, drop-drop, sym, ◌∙◌, ap}
use Rattle.tx_describe.proofs.unread.Unread.skip_first.Goals as goal

pub returns-then-self-len : goal.returns-then-self-len
returns-then-self-len c = sym (drop-drop 1 c.self.inside.from c.self.inside.tokens) ∙ ap (drop 1) c.self.view_is
