use Rattle.std.proofs.Common.{◌≡◌, ◌-◌, length, take, drop, get_or, true, false, sym, subst, arith}
use Rattle.std.specs.Prelude.{IfOk}
use Rattle.tx_model.specs.Scanner.{gives_nothing}
use Rattle.tx_scan.specs.Scans.{category_by, IsPlain}
use Rattle.tx_scan.proofs.PlainLemmas.{front-split, rest-short}
use Rattle.tx_scan.proofs.Scanning.{found-behind, found-there}
use Rattle.tx_scan.proofs.plain.+plain.Goals as goal

pub plain-requires : goal.plain-requires
plain-requires t c =
    let short = rest-short (category_by c.args.cats.now) c.args.line.now c.as_slice.result.now c.in_ok-front.front c.as_slice.ensures c.in_ok-front.ensures c.in-len1-up.len_at_least in
    (omega (arith, c.decreases), tt)

pub returns-then-gives_nothing : goal.returns-then-gives_nothing
returns-then-gives_nothing t c =
    let none : gives_nothing c.args.state (category_by c.args.cats.now (get_or c.as_slice.result.now 0 0)) ≡ true = cc in
    subst (λ f. IfOk c.plain.result (λ found. IsPlain f found))
    (sym
    (found-behind (category_by c.args.cats.now) c.args.state c.args.line.now (get_or c.as_slice.result.now 0 0) (take (length c.as_slice.result.now - 1) (drop 1 c.as_slice.result.now))
    (front-split (category_by c.args.cats.now) c.args.line.now c.as_slice.result.now c.in_ok-front.front c.as_slice.ensures c.in_ok-front.ensures c.in-len1-up.len_at_least) none))
    c.plain.ensures

pub returns : goal.returns
returns t c =
    let gives : gives_nothing c.args.state (category_by c.args.cats.now (get_or c.as_slice.result.now 0 0)) ≡ false = cc in
    subst (λ f. IfOk c.token.result (λ found. IsPlain f found))
    (sym
    (found-there (category_by c.args.cats.now) c.args.state c.args.line.now (get_or c.as_slice.result.now 0 0) (take (length c.as_slice.result.now - 1) (drop 1 c.as_slice.result.now))
    (front-split (category_by c.args.cats.now) c.args.line.now c.as_slice.result.now c.in_ok-front.front c.as_slice.ensures c.in_ok-front.ensures c.in-len1-up.len_at_least) gives))
    c.token.ensures
