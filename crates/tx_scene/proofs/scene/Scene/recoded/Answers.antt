use Rattle.std.proofs.Common.{refl}
use Rattle.tx_eqtb.specs.Meanings.{meanings}
use Rattle.tx_private.specs.Controls.{recoded}
use Rattle.tx_views.specs.Views.{viewed}
use Rattle.tx_views.specs.Places.{table_in}
use Rattle.tx_input.specs.Worlds.{IsKnown}
use Rattle.tx_scene.specs.Scenes.{world}
use Rattle.tx_scene.proofs.TokenLemmas.{made-more, made-all, all-more, all-made}
use Rattle.tx_scene.proofs.scene.Scene.recoded.Goals as goal

pub tokens-preserved : goal.tokens-preserved
tokens-preserved c =
    let frozen = meanings c.args.frozen.now in
    let items = c.as_slice-token-items.result.now in (
      λ g depth is. made-more (viewed g.view) (recoded (table_in c.args.table) (world g frozen depth c.args.self.now)) items c.tokens.token-index c.tokens.out.items c.push.new.self.items c.in_ok-recoded_token.field-0 _ _
          c.tokens-test.true c.in_ok-push.ensures.items (c.in_ok-recoded_token.ensures.recodes g depth is) refl (c.tokens.invariant.0 g depth is),
      λ known. all-more (IsKnown known) items c.tokens.token-index c.tokens.out.items c.push.new.self.items c.in_ok-recoded_token.field-0 _ _
          c.tokens-test.true c.in_ok-push.ensures.items (c.in_ok-recoded_token.ensures.knows known) refl (c.tokens.invariant.1 known),
    )

pub returns-clause-recodes : goal.returns-clause-recodes
returns-clause-recodes c g depth is =
    let frozen = meanings c.args.frozen.now in
    made-all (viewed g.view) (recoded (table_in c.args.table) (world g frozen depth c.args.self.now)) c.as_slice-token-items.result.now c.args.tokens.now c.tokens.token-index c.tokens.out.items
    c.tokens-test.false c.as_slice-token-items.ensures (c.tokens.invariant.0 g depth is)

pub returns-clause-knows : goal.returns-clause-knows
returns-clause-knows c known =
    all-made (IsKnown known) c.as_slice-token-items.result.now c.args.tokens.now c.tokens.token-index c.tokens.out.items
    c.tokens-test.false c.as_slice-token-items.ensures (c.tokens.invariant.1 known)
