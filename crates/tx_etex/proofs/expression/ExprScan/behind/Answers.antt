use Rattle.std.proofs.Common.{◌≡◌, false, None, reverse}
use Rattle.tx_etex.specs.Readings.{Token, is_space}
use Rattle.tx_etex.specs.Values.{behind}
use Rattle.tx_etex.specs.States.{says, says_ended}
use Rattle.tx_etex.proofs.StateLemmas.{answers-from_leads, says_at-end}
use Rattle.tx_etex.proofs.expression.ExprScan.behind.Goals as goal

pub returns-in-None : goal.returns-in-None
returns-in-None c =
    let self = c.args.self.now in
    let value = c.within.result in
    let space : is_space c.args.t ≡ false = cc in
    let none : behind self.level c.args.factor c.args.t ≡ None = cc in
    answers-from_leads c.end.result (says self) (says_ended self value c.args.t) (says c.end.new.self) (Token c.args.t) c.end.ensures
    (λ items. rw c.requires (says_at-end self.level (reverse self.outer.items) c.args.factor value c.args.t items space none cc))
