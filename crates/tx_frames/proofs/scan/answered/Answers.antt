use Rattle.std.proofs.Common.{refl, ◌∙◌, subst}
use Rattle.tx_amounts.specs.Scanning.{Tells, wish_of}
use Rattle.tx_private.specs.World.{put_in_front}
use Rattle.tx_views.specs.Views.{all_viewed}
use Rattle.tx_frames.proofs.ScanLemmas.{wish-same}
use Rattle.tx_frames.specs.Knowledge.{KnowsTokens}
use Rattle.tx_amounts.specs.Names.{tokens_back}
use Rattle.tx_frames.proofs.scan.answered.Goals as goal

pub returns-in-More-clause-becomes : goal.returns-in-More-clause-becomes
returns-in-More-clause-becomes c view old item w tells =
    let goes = subst (λ s. Tells view s old item c.args.scan) c.in-More.is tells in (
      record { kind = refl; says = λ next later v. goes.later next later v },
      goes.now w ∙ wish-same view c.args.scan.begun (wish_of c.args.scan) (put_in_front (all_viewed view c.in-More.back) w),
    )

pub returns-in-Done-clause-becomes : goal.returns-in-Done-clause-becomes
returns-in-Done-clause-becomes c view old item w tells =
    c.done.ensures.becomes view old c.args.reading item w (subst (λ s. Tells view s old item c.args.scan) c.in-Done.is tells)

pub returns-in-More-clause-knows : goal.returns-in-More-clause-knows
returns-in-More-clause-knows c known r s b = ((r, s), subst (λ x. KnowsTokens known (tokens_back x)) c.in-More.is b)

pub returns-in-Done-clause-knows : goal.returns-in-Done-clause-knows
returns-in-Done-clause-knows c known r s b = c.done.ensures.knows known (subst (λ x. KnowsTokens known (tokens_back x)) c.in-Done.is b)
