use Rattle.std.proofs.Common.{ap, sym, ◌∙◌}
use Rattle.tx_model.specs.Tokens.{Char, Active}
use Rattle.tx_eqtb.specs.Meanings.{meanings}
use Rattle.tx_private.specs.Controls.{recoded}
use Rattle.tx_views.specs.Views.{viewed}
use Rattle.tx_views.specs.Places.{table_in}
use Rattle.tx_scene.specs.Scenes.{world}
use Rattle.tx_scene.proofs.scene.Scene.recoded_token.Goals as goal

pub returns-in_ok-byte_for-in-Char-clause-recodes : goal.returns-in_ok-byte_for-in-Char-clause-recodes
returns-in_ok-byte_for-in-Char-clause-recodes c g depth is =
    ap (Char c.in-Char.cat) (c.in_ok-byte_for-in-Char.ensures g depth is)
    ∙ ap (λ t. recoded (table_in c.args.table) (world g (meanings c.args.frozen.now) depth c.args.self.now) (viewed g.view t)) (sym c.in-Char.is)

pub returns-in_ok-byte_for-in-Active-clause-recodes : goal.returns-in_ok-byte_for-in-Active-clause-recodes
returns-in_ok-byte_for-in-Active-clause-recodes c g depth is =
    ap Active (c.in_ok-byte_for-in-Active.ensures g depth is)
    ∙ ap (λ t. recoded (table_in c.args.table) (world g (meanings c.args.frozen.now) depth c.args.self.now) (viewed g.view t)) (sym c.in-Active.is)
