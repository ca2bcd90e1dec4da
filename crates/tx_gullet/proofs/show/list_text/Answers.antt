use Rattle.std.proofs.Common.{pos}
use Rattle.tx_model.specs.Shown.{shown_in_list}
use Rattle.tx_scan.specs.Scans.{category_by}
use Rattle.tx_gullet.proofs.ShowLemmas.{list-printed}
use Rattle.tx_gullet.proofs.show.list_text.Goals as goal

pub loop-token-preserved : goal.loop-token-preserved
loop-token-preserved c naming agrees =
    list-printed (shown_in_list (category_by c.args.cats.now) (pos 92)) naming c.args.tokens.now c.loop-token.token-index _ c.loop-token.out.items c.push_token.new.out.items c.loop-token-test.true (c.in_ok-push_token.ensures naming agrees) (c.loop-token.invariant naming agrees)
