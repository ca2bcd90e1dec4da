use Rattle.std.proofs.Common.{◌≡◌, sym, ◌∙◌, subst, IfSome, false}
use Rattle.tx_private.specs.Assignments.{is_space_token}
use Rattle.tx_views.specs.Views.{viewed}
use Rattle.tx_frames.specs.Knowledge.{KnowsPlace}
use Rattle.tx_commands.proofs.Knows.{KnowsPlace-place_of}
use Rattle.tx_commands.proofs.name.name.Goals as goal

pub returns-in-Some-clause-becomes : goal.returns-in-Some-clause-becomes
returns-in-Some-clause-becomes c = λ view w.
    let e : is_space_token (viewed view c.args.token) ≡ false = sym (c.is_space_token.ensures view) ∙ c.if-is_space_token.false in
    rw (e, ← c.in-Some.ensures.address view) (c.behind_name.ensures.becomes view w)

pub returns-in-Some-clause-knows : goal.returns-in-Some-clause-knows
returns-in-Some-clause-knows c = λ known k i.
    c.behind_name.ensures.knows known (subst (λ o. IfSome o (KnowsPlace known)) (sym c.in-Some.ensures.place) (KnowsPlace-place_of known c.args.token i.0))
