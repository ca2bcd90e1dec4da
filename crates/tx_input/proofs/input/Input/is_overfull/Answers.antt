use Rattle.std.proofs.Common.{◌∙◌, sym, ap, nat_lt}
use Rattle.std.proofs.lemmas.List.{length-map}
use Rattle.tx_tok.specs.Tokens.{token_in}
use Rattle.tx_views.specs.Views.{all_viewed}
use Rattle.tx_input.proofs.TakingLemmas.{count-of-lists}
use Rattle.tx_input.proofs.input.Input.is_overfull.Goals as goal

pub returns : goal.returns
returns c view formats base =
    ap (nat_lt 1000000) (c.len.ensures ∙ sym (length-map c.args.self.now.lists (token_in view.naming)) ∙ sym (count-of-lists (all_viewed view c.args.self.now.lists) c.args.self.now.text))
