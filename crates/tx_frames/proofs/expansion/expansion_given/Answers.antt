use Rattle.std.proofs.Common.{sym, subst}
use Rattle.tx_frames.specs.declared.frame.Frame.TheVariants as frame
use Rattle.tx_frames.specs.declared.frame.Stage.TheVariants as stage
use Rattle.tx_frames.specs.Answers.{BecomesGiven}
use Rattle.tx_opens.specs.Opens.{given}
use Rattle.tx_frames.specs.Values.{item_in}
use Rattle.tx_frames.specs.Frames.{open_of}
use Rattle.tx_frames.proofs.expansion.expansion_given.Goals as goal

pub returns-in-The-clause-becomes : goal.returns-in-The-clause-becomes
returns-in-The-clause-becomes c view w =
    subst (λ s. BecomesGiven view (frame.Expansion c.args.text s) c.args.item w c.the_given.result) (sym c.in-The.is) (c.the_given.ensures.becomes view w)

pub returns-in-TheRegister-clause-becomes : goal.returns-in-TheRegister-clause-becomes
returns-in-TheRegister-clause-becomes c view w =
    subst (λ s. BecomesGiven view (frame.Expansion c.args.text s) c.args.item w c.register_given.result) (sym c.in-TheRegister.is) (c.register_given.ensures.becomes view (given (open_of view (frame.Expansion c.args.text stage.TheRegister)) (item_in view c.args.item)) w)

pub returns-in-TheQuantity-clause-becomes : goal.returns-in-TheQuantity-clause-becomes
returns-in-TheQuantity-clause-becomes c view w =
    subst (λ s. BecomesGiven view (frame.Expansion c.args.text s) c.args.item w c.quantity_given.result) (sym c.in-TheQuantity.is) (c.quantity_given.ensures.becomes view w)

pub returns-in-Number-clause-becomes : goal.returns-in-Number-clause-becomes
returns-in-Number-clause-becomes c view w =
    subst (λ s. BecomesGiven view (frame.Expansion c.args.text s) c.args.item w c.number_given.result) (sym c.in-Number.is) (c.number_given.ensures.becomes view w)

pub returns-in-Roman-clause-becomes : goal.returns-in-Roman-clause-becomes
returns-in-Roman-clause-becomes c view w =
    subst (λ s. BecomesGiven view (frame.Expansion c.args.text s) c.args.item w c.roman_given.result) (sym c.in-Roman.is) (c.roman_given.ensures.becomes view w)

pub returns-in-String-clause-becomes : goal.returns-in-String-clause-becomes
returns-in-String-clause-becomes c view w =
    subst (λ s. BecomesGiven view (frame.Expansion c.args.text s) c.args.item w c.string_given.result) (sym c.in-String.is) (c.string_given.ensures.becomes view w)

pub returns-in-Meaning-clause-becomes : goal.returns-in-Meaning-clause-becomes
returns-in-Meaning-clause-becomes c view w =
    subst (λ s. BecomesGiven view (frame.Expansion c.args.text s) c.args.item w c.meaning_given.result) (sym c.in-Meaning.is) (c.meaning_given.ensures.becomes view w)

pub returns-in-The-clause-knows : goal.returns-in-The-clause-knows
returns-in-The-clause-knows c known i = c.the_given.ensures.knows known i

pub returns-in-TheRegister-clause-knows : goal.returns-in-TheRegister-clause-knows
returns-in-TheRegister-clause-knows c known i = c.register_given.ensures.knows known

pub returns-in-TheQuantity-clause-knows : goal.returns-in-TheQuantity-clause-knows
returns-in-TheQuantity-clause-knows c known i = c.quantity_given.ensures.knows known

pub returns-in-Number-clause-knows : goal.returns-in-Number-clause-knows
returns-in-Number-clause-knows c known i = c.number_given.ensures.knows known

pub returns-in-Roman-clause-knows : goal.returns-in-Roman-clause-knows
returns-in-Roman-clause-knows c known i = c.roman_given.ensures.knows known

pub returns-in-String-clause-knows : goal.returns-in-String-clause-knows
returns-in-String-clause-knows c known i = c.string_given.ensures.knows known i

pub returns-in-Meaning-clause-knows : goal.returns-in-Meaning-clause-knows
returns-in-Meaning-clause-knows c known i = c.meaning_given.ensures.knows known i
