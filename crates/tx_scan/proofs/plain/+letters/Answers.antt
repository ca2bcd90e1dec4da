use Rattle.std.proofs.Common.{◌≡◌, ◌-◌, ◌∷◌, length, take, drop, get_or, true, false, sym, ap, ◌∙◌, arith}
use Rattle.tx_model.specs.Scanner.{Run, is_letter}
use Rattle.tx_scan.specs.Scans.{category_by}
use Rattle.tx_scan.proofs.PlainLemmas.{front-split, rest-short}
use Rattle.tx_scan.proofs.Scanning.{letters-more, letters-end}
use Rattle.tx_scan.proofs.plain.+letters.Goals as goal

pub letters-requires : goal.letters-requires
letters-requires t c =
    let short = rest-short (category_by c.args.cats.now) c.args.line.now c.as_slice.result.now c.in_ok-front.front c.as_slice.ensures c.in_ok-front.ensures c.in-len1-up.len_at_least in
    (omega (arith, c.decreases), tt)

pub returns-then-is_letter : goal.returns-then-is_letter
returns-then-is_letter t c =
    let letter : is_letter (category_by c.args.cats.now (get_or c.as_slice.result.now 0 0)) ≡ true = cc in
    let run =
    letters-more (category_by c.args.cats.now) c.args.line.now (get_or c.as_slice.result.now 0 0) (take (length c.as_slice.result.now - 1) (drop 1 c.as_slice.result.now))
    (front-split (category_by c.args.cats.now) c.args.line.now c.as_slice.result.now c.in_ok-front.front c.as_slice.ensures c.in_ok-front.ensures c.in-len1-up.len_at_least) letter
    in (
      c.in_ok-letters-in-len1-up.ensures
          ∙ ap (λ l. get_or c.as_slice.result.now 0 0 ∷ l) (c.as_slice-then-is_letter.ensures ∙ c.in_ok-run-in-len1-up.ensures.0)
          ∙ sym (ap (λ (r : Run). r.letters) run),
      c.in_ok-run-in-len1-up.ensures.1 ∙ sym (ap (λ (r : Run). r.behind) run),
    )

pub returns : goal.returns
returns t c =
    let other : is_letter (category_by c.args.cats.now (get_or c.as_slice.result.now 0 0)) ≡ false = cc in
    let run =
    letters-end (category_by c.args.cats.now) c.args.line.now (get_or c.as_slice.result.now 0 0) (take (length c.as_slice.result.now - 1) (drop 1 c.as_slice.result.now))
    (front-split (category_by c.args.cats.now) c.args.line.now c.as_slice.result.now c.in_ok-front.front c.as_slice.ensures c.in_ok-front.ensures c.in-len1-up.len_at_least) other
    in
    (c.new-else-is_letter.ensures ∙ sym (ap (λ (r : Run). r.letters) run), c.in_ok-behind-in-len1-up.ensures ∙ sym (ap (λ (r : Run). r.behind) run))
