use Rattle.std.proofs.Common.{◌≡◌, ◌<◌, ◌+◌, ◌++◌, length, ap, ◌∙◌, sym, subst, arith, length-append}
use Rattle.std.proofs.lemmas.Bool.Decides.{nat_tests}
use Rattle.tx_input.specs.declared.lists.ListRead.{ListRead}
use Rattle.tx_input.specs.Unread.{unread, AreUnread}
use Rattle.tx_input.proofs.UnreadLemmas.{unread-last, are-unread-last}
use Rattle.tx_input.proofs.lists.Lists.put.Goals as goal

pub invariant_of-self-2 : goal.invariant_of-self-2
invariant_of-self-2 c =
    let list : ListRead = record { tokens = c.args.tokens; read = 0 } in
    let items = c.in_ok-push.ensures.items in
    let test = c.if-is_empty.ensures in
    let some : 0 < length c.args.tokens = grind (arith, nat_tests, test, c.is_empty.ensures) in
    let sum : length (unread c.push.new.self.items) ≡ length c.args.tokens + length (unread c.self.inside.lists.items) =
    ap (λ ls. length (unread ls)) items ∙ ap length (unread-last c.self.inside.lists.items list) ∙ length-append c.args.tokens (unread c.self.inside.lists.items) in
    let whole = c.in-Some.ensures in (
      subst AreUnread (sym items) (are-unread-last c.self.inside.lists.items list some c.self.invariant.0),
      omega (arith, sum, whole.1, c.len.ensures, c.self.invariant.1),
    )

pub returns-clause-ok : goal.returns-clause-ok
returns-clause-ok c =
    ap unread (c.in_ok-push.ensures.items)
    ∙ unread-last c.self.inside.lists.items (record { tokens = c.args.tokens; read = 0 })
    ∙ ap (λ ts. c.args.tokens ++ ts) c.self.view_is
