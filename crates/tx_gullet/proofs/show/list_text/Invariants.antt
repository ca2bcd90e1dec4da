-- the tokens printed so far and those that follow
use Rattle.std.proofs.Common.{◌≡◌, ◌++◌, drop, pos}
use Rattle.std.specs.List.{flat_map}
use Rattle.tx_model.specs.Shown.{shown_in_list}
use Rattle.tx_scan.specs.Scans.{category_by}
use Rattle.tx_tok.specs.Tokens.{tokens_in}
use Rattle.tx_names.specs.Names.{Naming, Agrees}
use Rattle.tx_gullet.proofs.show.list_text.Given as goal

abbrev pub invariant-loop-token : goal.invariant-loop-token
invariant-loop-token l =
    (naming : Naming) → Agrees naming l.names → l.out.items ++ flat_map (shown_in_list (category_by l.cats) (pos 92)) (tokens_in naming (drop l.token-index l.tokens)) ≡ flat_map (shown_in_list (category_by l.cats) (pos 92)) (tokens_in naming l.tokens)
