use Rattle.std.proofs.Common.{◌≡◌, ◌∷◌, ◌∙◌, ap, subst}
use Rattle.std.specs.Prelude.{IfOk}
use Rattle.tx_scan.specs.Scans.{category_by, from_front}
use Rattle.tx_scan.proofs.LineLemmas.{rest-of}
use Rattle.tx_scan.proofs.PlainLemmas.{shorter-fronted}
use Rattle.tx_scan.proofs.plain.+fronted.Goals as goal

pub returns-in_ok-shorter-in-Some : goal.returns-in_ok-shorter-in-Some
returns-in_ok-shorter-in-Some t c =
    let is : c.as_slice.result.now ≡ from_front c.args.line.now c.in-Some.stands =
    c.as_slice.ensures ∙ c.in_ok-shorter-in-Some.ensures ∙ ap (λ l. c.in-Some.stands.byte ∷ l) (rest-of c.args.line.now c.in-Some.stands.behind)
    in
    subst (λ l. IfOk c.fronted.result (λ front. front ≡ l))
    (shorter-fronted (category_by c.args.cats.now) c.args.line.now c.as_slice.result.now (from_front c.args.line.now c.in-Some.stands) c.in-len1-up.len_at_least c.in-Some.ensures.stands is)
    c.fronted.ensures
