use Rattle.std.proofs.Common.{◌∷◌, [], sym, ◌∙◌, ap, subst}
use Rattle.tx_private.specs.Readings as private
use Rattle.tx_private.specs.Errors.{plain}
use Rattle.tx_private.specs.Meanings as meaning
use Rattle.tx_private.specs.Quantities.{byte_first, gives, codes_of}
use Rattle.tx_opens.specs.Opens.{given}
use Rattle.tx_assign.specs.Assigned.{if_register, if_codes}
use Rattle.tx_frames.specs.declared.frame.Frame.TheVariants as frame
use Rattle.tx_frames.specs.Values.{item_in}
use Rattle.tx_frames.specs.Frames.{open_of}
use Rattle.tx_frames.specs.Answers.{Becomes}
use Rattle.tx_frames.proofs.quantity.quantity_given.Goals as goal

pub returns-in-Some-clause-becomes : goal.returns-in-Some-clause-becomes
returns-in-Some-clause-becomes c view w =
    let i = item_in view c.args.item in
    let o = given (open_of view (frame.Quantity c.args.token c.args.assignment)) i in
    let other = codes_of c.args.assignment (λ table. byte_first 16 (λ b rest v. gives (meaning.OfCode table b) v) (i ∷ []) w) (private.Bad (plain 63) w) in
    subst (λ m. Becomes view o m w c.register_given.result)
    (sym (c.register.ensures (λ kind. byte_first 15 (λ n rest v. gives (meaning.OfRegister kind n) v) (i ∷ []) w) other ∙ ap (λ r. if_register r (λ kind. byte_first 15 (λ n rest v. gives (meaning.OfRegister kind n) v) (i ∷ []) w) other) c.in-Some.is))
    (c.register_given.ensures.becomes view o w)

pub returns-in-Some-codes-clause-becomes : goal.returns-in-Some-codes-clause-becomes
returns-in-Some-codes-clause-becomes c view w =
    let i = item_in view c.args.item in
    let o = given (open_of view (frame.Quantity c.args.token c.args.assignment)) i in
    let other = codes_of c.args.assignment (λ table. byte_first 16 (λ b rest v. gives (meaning.OfCode table b) v) (i ∷ []) w) (private.Bad (plain 63) w) in
    subst (λ m. Becomes view o m w c.code_given.result)
    (sym (
    c.register.ensures (λ kind. byte_first 15 (λ n rest v. gives (meaning.OfRegister kind n) v) (i ∷ []) w) other
    ∙ ap (λ r. if_register r (λ kind. byte_first 15 (λ n rest v. gives (meaning.OfRegister kind n) v) (i ∷ []) w) other) c.in-None.is
    ∙ c.codes.ensures (λ table. byte_first 16 (λ b rest v. gives (meaning.OfCode table b) v) (i ∷ []) w) (private.Bad (plain 63) w)
    ∙ ap (λ r. if_codes r (λ table. byte_first 16 (λ b rest v. gives (meaning.OfCode table b) v) (i ∷ []) w) (private.Bad (plain 63) w)) c.in-Some-codes.is
    ))
    (c.code_given.ensures.becomes view o w)

pub returns-in-Some-clause-knows : goal.returns-in-Some-clause-knows
returns-in-Some-clause-knows c known = c.register_given.ensures.knows known

pub returns-in-Some-codes-clause-knows : goal.returns-in-Some-codes-clause-knows
returns-in-Some-codes-clause-knows c known = c.code_given.ensures.knows known
