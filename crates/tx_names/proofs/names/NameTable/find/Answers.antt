use Rattle.std.proofs.Common.{◌+◌, sym, ◌∙◌, ap}
use Rattle.std.specs.Option.{option_map}
use Rattle.tx_names.specs.Names.{number_of}
use Rattle.tx_names.proofs.TextLemmas.{number_of-map}
use Rattle.tx_names.proofs.names.NameTable.find.Goals as goal

pub returns-in_err-place : goal.returns-in_err-place
returns-in_err-place c =
    c.from_residual.ensures
    ∙ ap (option_map (λ i. c.self.inside.first + i)) c.in_err-place.ensures.index
    ∙ sym (number_of-map (λ v. v.items) c.self.inside.first c.self.inside.texts.keys c.args.text.now)
    ∙ ap (λ names. number_of names c.args.text.now) c.self.view_is

pub returns : goal.returns
returns c =
    ap (option_map (λ i. c.self.inside.first + i)) c.in_ok-place.ensures.index
    ∙ sym (number_of-map (λ v. v.items) c.self.inside.first c.self.inside.texts.keys c.args.text.now)
    ∙ ap (λ names. number_of names c.args.text.now) c.self.view_is
