use Rattle.tx_run.specs.declared.run.Run.{Run}
use Rattle.tx_run.proofs.MoreLemmas.{more-start, more-described}
use Rattle.tx_run.proofs.KnowledgeLemmas.{in-place, below-out}
use Rattle.tx_run.specs.Knowledge.{known_by, known_in, KnowsDoing, KnowsBehind, KnowsRun, KnowsAfter}
use Rattle.std.proofs.Common.{refl, sym, subst}
use Rattle.tx_eqtb.specs.Meanings.{meanings}
use Rattle.tx_run.specs.declared.doing.Doing.TheVariants as doing
use Rattle.tx_run.specs.declared.op.Op.TheVariants as op
use Rattle.tx_describe.specs.Descriptions.{text_in}
use Rattle.tx_run.specs.Runs.{Does}
use Rattle.tx_run.proofs.RunLemmas.{leads-map}
use Rattle.tx_run.proofs.WishLemmas.{means-does, sound-as, waits-as, asks-same, asks-leads, asks-sound, asks-keeps, asks-asked}
use Rattle.tx_run.proofs.TextLemmas.{sound-first, told-kept}
use Rattle.tx_run.proofs.run.Run.go.Goals as goal

pub returns-in-Wishes-clause-leads : goal.returns-in-Wishes-clause-leads
returns-in-Wishes-clause-leads c = λ g is.
    means-does g (meanings c.args.format.now.frozen) c.args.self.now doing.Wishes c.wishes.result c.wishes.new.self (sym c.in-Wishes.ensures.value) (c.wishes.ensures.leads g is)

pub wishes-requires-clause-sound : goal.wishes-requires-clause-sound
wishes-requires-clause-sound c = sound-as (meanings c.args.format.now.frozen) c.args.self.now doing.Wishes (sym c.in-Wishes.ensures.value) c.requires.sound

pub wishes-requires-clause-waits : goal.wishes-requires-clause-waits
wishes-requires-clause-waits c = waits-as c.args.self.now doing.Wishes (sym c.in-Wishes.ensures.value) c.requires.waits

pub returns-in-Restarts-clause-leads : goal.returns-in-Restarts-clause-leads
returns-in-Restarts-clause-leads c = λ g is.
    means-does g (meanings c.args.format.now.frozen) c.args.self.now doing.Restarts c.control.result c.control.new.self (sym c.in-Restarts.ensures.value) (c.control.ensures.leads g is)

pub control-requires-clause-sound : goal.control-requires-clause-sound
control-requires-clause-sound c = sound-as (meanings c.args.format.now.frozen) c.args.self.now doing.Restarts (sym c.in-Restarts.ensures.value) c.requires.sound

pub control-requires-clause-empty : goal.control-requires-clause-empty
control-requires-clause-empty c = waits-as c.args.self.now doing.Restarts (sym c.in-Restarts.ensures.value) c.requires.waits

pub returns-in-Begins-clause-leads : goal.returns-in-Begins-clause-leads
returns-in-Begins-clause-leads c = λ g is.
    means-does g (meanings c.args.format.now.frozen) c.args.self.now (doing.Begins c.in-Begins.begun) c.begins.result c.begins.new.self (sym c.in-Begins.ensures.value) (c.begins.ensures.leads g is)

pub begins-requires-clause-sound : goal.begins-requires-clause-sound
begins-requires-clause-sound c = sound-as (meanings c.args.format.now.frozen) c.args.self.now (doing.Begins c.in-Begins.begun) (sym c.in-Begins.ensures.value) c.requires.sound

pub begins-requires-clause-waits : goal.begins-requires-clause-waits
begins-requires-clause-waits c = waits-as c.args.self.now (doing.Begins c.in-Begins.begun) (sym c.in-Begins.ensures.value) c.requires.waits

pub returns-in-Gives-clause-leads : goal.returns-in-Gives-clause-leads
returns-in-Gives-clause-leads c = λ g is.
    means-does g (meanings c.args.format.now.frozen) c.args.self.now (doing.Gives c.in-Gives.value) c.gives.result c.gives.new.self (sym c.in-Gives.ensures.value) (c.gives.ensures.leads g is)

pub gives-requires-clause-sound : goal.gives-requires-clause-sound
gives-requires-clause-sound c = sound-as (meanings c.args.format.now.frozen) c.args.self.now (doing.Gives c.in-Gives.value) (sym c.in-Gives.ensures.value) c.requires.sound

pub gives-requires-clause-waits : goal.gives-requires-clause-waits
gives-requires-clause-waits c = waits-as c.args.self.now (doing.Gives c.in-Gives.value) (sym c.in-Gives.ensures.value) c.requires.waits

pub returns-in-GivesList-clause-leads : goal.returns-in-GivesList-clause-leads
returns-in-GivesList-clause-leads c = λ g is.
    means-does g (meanings c.args.format.now.frozen) c.args.self.now (doing.GivesList c.in-GivesList.list) c.gives_list.result c.gives_list.new.self (sym c.in-GivesList.ensures.value) (c.gives_list.ensures.leads g is)

pub gives_list-requires-clause-sound : goal.gives_list-requires-clause-sound
gives_list-requires-clause-sound c = sound-as (meanings c.args.format.now.frozen) c.args.self.now (doing.GivesList c.in-GivesList.list) (sym c.in-GivesList.ensures.value) c.requires.sound

pub gives_list-requires-clause-waits : goal.gives_list-requires-clause-waits
gives_list-requires-clause-waits c = waits-as c.args.self.now (doing.GivesList c.in-GivesList.list) (sym c.in-GivesList.ensures.value) c.requires.waits

pub returns-in-Full-clause-leads : goal.returns-in-Full-clause-leads
returns-in-Full-clause-leads c = λ g is.
    means-does g (meanings c.args.format.now.frozen) c.args.self.now (doing.Full c.in-Full.limit) c.full.result c.full.new.self (sym c.in-Full.ensures.value) (c.full.ensures.leads g is)

pub full-requires : goal.full-requires
full-requires c = record {
  sound = sound-as (meanings c.args.format.now.frozen) c.args.self.now (doing.Full c.in-Full.limit) (sym c.in-Full.ensures.value) c.requires.sound;
}

pub returns-in-Took-clause-leads : goal.returns-in-Took-clause-leads
returns-in-Took-clause-leads c = λ g is.
    means-does g (meanings c.args.format.now.frozen) c.args.self.now (doing.Took c.in-Took.taker c.in-Took.token) c.took.result c.took.new.self (sym c.in-Took.ensures.value) (c.took.ensures.leads g is)

pub took-requires-clause-sound : goal.took-requires-clause-sound
took-requires-clause-sound c = sound-as (meanings c.args.format.now.frozen) c.args.self.now (doing.Took c.in-Took.taker c.in-Took.token) (sym c.in-Took.ensures.value) c.requires.sound

pub took-requires-clause-plain : goal.took-requires-clause-plain
took-requires-clause-plain c = (waits-as c.args.self.now (doing.Took c.in-Took.taker c.in-Took.token) (sym c.in-Took.ensures.value) c.requires.waits).0

pub took-requires-clause-waits : goal.took-requires-clause-waits
took-requires-clause-waits c = (waits-as c.args.self.now (doing.Took c.in-Took.taker c.in-Took.token) (sym c.in-Took.ensures.value) c.requires.waits).1

pub returns-in-Lettered-clause-leads : goal.returns-in-Lettered-clause-leads
returns-in-Lettered-clause-leads c = λ g is.
    means-does g (meanings c.args.format.now.frozen) c.args.self.now (doing.Lettered c.in-Lettered.token c.in-Lettered.letter) c.given.result c.given.new.self (sym c.in-Lettered.ensures.value) (c.given.ensures.leads g is)

pub given-requires-clause-sound : goal.given-requires-clause-sound
given-requires-clause-sound c = sound-as (meanings c.args.format.now.frozen) c.args.self.now (doing.Lettered c.in-Lettered.token c.in-Lettered.letter) (sym c.in-Lettered.ensures.value) c.requires.sound

pub given-requires-clause-plain : goal.given-requires-clause-plain
given-requires-clause-plain c = (waits-as c.args.self.now (doing.Lettered c.in-Lettered.token c.in-Lettered.letter) (sym c.in-Lettered.ensures.value) c.requires.waits).0

pub given-requires-clause-waits : goal.given-requires-clause-waits
given-requires-clause-waits c = (waits-as c.args.self.now (doing.Lettered c.in-Lettered.token c.in-Lettered.letter) (sym c.in-Lettered.ensures.value) c.requires.waits).1

pub returns-in-Copies-clause-leads : goal.returns-in-Copies-clause-leads
returns-in-Copies-clause-leads c = λ g is.
    means-does g (meanings c.args.format.now.frozen) c.args.self.now (doing.Copies c.in-Copies.begun c.in-Copies.how c.in-Copies.tokens) c.uses.result c.uses.new.self (sym c.in-Copies.ensures.value) (c.uses.ensures.leads (meanings c.args.format.now.frozen) g is.ground)

pub returns-in-Copies-clause-sound : goal.returns-in-Copies-clause-sound
returns-in-Copies-clause-sound c = c.uses.ensures.sound (meanings c.args.format.now.frozen) (sound-as (meanings c.args.format.now.frozen) c.args.self.now (doing.Copies c.in-Copies.begun c.in-Copies.how c.in-Copies.tokens) (sym c.in-Copies.ensures.value) c.requires.sound)

pub uses-requires : goal.uses-requires
uses-requires c = record {
  waits = waits-as c.args.self.now (doing.Copies c.in-Copies.begun c.in-Copies.how c.in-Copies.tokens) (sym c.in-Copies.ensures.value) c.requires.waits;
}

pub returns-in-Prints-clause-leads : goal.returns-in-Prints-clause-leads
returns-in-Prints-clause-leads c = λ g is.
    means-does g (meanings c.args.format.now.frozen) c.args.self.now (doing.Prints c.in-Prints.begun c.in-Prints.description) c.printing.result c.printing.new.self (sym c.in-Prints.ensures.value) (c.printing.ensures.leads g is)

pub printing-requires-clause-sound : goal.printing-requires-clause-sound
printing-requires-clause-sound c = sound-as (meanings c.args.format.now.frozen) c.args.self.now (doing.Prints c.in-Prints.begun c.in-Prints.description) (sym c.in-Prints.ensures.value) c.requires.sound

pub printing-requires-clause-waits : goal.printing-requires-clause-waits
printing-requires-clause-waits c = waits-as c.args.self.now (doing.Prints c.in-Prints.begun c.in-Prints.description) (sym c.in-Prints.ensures.value) c.requires.waits

pub returns-in-Tells-clause-leads : goal.returns-in-Tells-clause-leads
returns-in-Tells-clause-leads c = λ g is.
    let run = c.args.self.now in
    let frozen = meanings c.args.format.now.frozen in
    let told = c.in-Tells.told in
    let d = c.in-Tells.description in
    means-does g frozen run (doing.Tells told d) c.telling.result c.telling.new.self (sym c.in-Tells.ensures.value)
    (leads-map (Does g frozen (doing.Tells told d) (record run { doing = c.replace.new.dest })) (Does g frozen (doing.Tells told d) run) g frozen c.telling.result c.telling.new.self
    (λ r p. told-kept g frozen told (text_in g.view run.scene.environment.cats d) run c.replace.new.dest run.moves r p)
    (c.telling.ensures.leads g is))

pub telling-requires-clause-sound : goal.telling-requires-clause-sound
telling-requires-clause-sound c = sound-as (meanings c.args.format.now.frozen) c.args.self.now (doing.Tells c.in-Tells.told c.in-Tells.description) (sym c.in-Tells.ensures.value) c.requires.sound

pub telling-requires-clause-waits : goal.telling-requires-clause-waits
telling-requires-clause-waits c = waits-as c.args.self.now (doing.Tells c.in-Tells.told c.in-Tells.description) (sym c.in-Tells.ensures.value) c.requires.waits

pub returns-in-Assigns-clause-leads : goal.returns-in-Assigns-clause-leads
returns-in-Assigns-clause-leads c = λ g is.
    means-does g (meanings c.args.format.now.frozen) c.args.self.now (doing.Assigns c.in-Assigns.prefixes c.in-Assigns.place c.in-Assigns.meaning) c.assigns.result c.assigns.new.self (sym c.in-Assigns.ensures.value) (c.assigns.ensures.leads g is)

pub assigns-requires-clause-sound : goal.assigns-requires-clause-sound
assigns-requires-clause-sound c = sound-as (meanings c.args.format.now.frozen) c.args.self.now (doing.Assigns c.in-Assigns.prefixes c.in-Assigns.place c.in-Assigns.meaning) (sym c.in-Assigns.ensures.value) c.requires.sound

pub assigns-requires-clause-empty : goal.assigns-requires-clause-empty
assigns-requires-clause-empty c = waits-as c.args.self.now (doing.Assigns c.in-Assigns.prefixes c.in-Assigns.place c.in-Assigns.meaning) (sym c.in-Assigns.ensures.value) c.requires.waits

pub returns-in-Closes-clause-leads : goal.returns-in-Closes-clause-leads
returns-in-Closes-clause-leads c = λ g is.
    means-does g (meanings c.args.format.now.frozen) c.args.self.now doing.Closes c.closes.result c.closes.new.self (sym c.in-Closes.ensures.value) (c.closes.ensures.leads (meanings c.args.format.now.frozen) g is.ground)

pub returns-in-Closes-clause-sound : goal.returns-in-Closes-clause-sound
returns-in-Closes-clause-sound c = c.closes.ensures.sound (meanings c.args.format.now.frozen) (sound-as (meanings c.args.format.now.frozen) c.args.self.now doing.Closes (sym c.in-Closes.ensures.value) c.requires.sound).0

pub closes-requires-clause-empty : goal.closes-requires-clause-empty
closes-requires-clause-empty c = waits-as c.args.self.now doing.Closes (sym c.in-Closes.ensures.value) c.requires.waits

pub closes-requires-clause-open : goal.closes-requires-clause-open
closes-requires-clause-open c = (sound-as (meanings c.args.format.now.frozen) c.args.self.now doing.Closes (sym c.in-Closes.ensures.value) c.requires.sound).1

pub closes-requires-clause-fits : goal.closes-requires-clause-fits
closes-requires-clause-fits c = (sound-as (meanings c.args.format.now.frozen) c.args.self.now doing.Closes (sym c.in-Closes.ensures.value) c.requires.sound).0.fits

pub returns-in-Straightens-clause-leads : goal.returns-in-Straightens-clause-leads
returns-in-Straightens-clause-leads c = λ g is.
    means-does g (meanings c.args.format.now.frozen) c.args.self.now doing.Straightens c.straightens.result c.straightens.new.self (sym c.in-Straightens.ensures.value) (c.straightens.ensures.leads (meanings c.args.format.now.frozen) g is.ground)

pub returns-in-Straightens-clause-sound : goal.returns-in-Straightens-clause-sound
returns-in-Straightens-clause-sound c = c.straightens.ensures.sound (meanings c.args.format.now.frozen) (sound-as (meanings c.args.format.now.frozen) c.args.self.now doing.Straightens (sym c.in-Straightens.ensures.value) c.requires.sound)

pub straightens-requires-clause-empty : goal.straightens-requires-clause-empty
straightens-requires-clause-empty c = waits-as c.args.self.now doing.Straightens (sym c.in-Straightens.ensures.value) c.requires.waits

pub returns-in-NoMemory-clause-sound : goal.returns-in-NoMemory-clause-sound
returns-in-NoMemory-clause-sound c = sound-first (meanings c.args.format.now.frozen) c.args.self.now.doing c.args.self.now.scene c.requires.sound

pub returns-in-Finds-clause-leads : goal.returns-in-Finds-clause-leads
returns-in-Finds-clause-leads c = λ g is.
    asks-leads g (meanings c.args.format.now.frozen) c.args.self.now c.asks.new.self op.Find c.asks.result (asks-same c.args.self.now c.asks.new.self (doing.Finds c.in-Finds.taker) (sym c.in-Finds.ensures.value) c.asks.ensures.becomes) c.asks.ensures.asks

pub returns-in-Finds-clause-sound : goal.returns-in-Finds-clause-sound
returns-in-Finds-clause-sound c =
    asks-sound (meanings c.args.format.now.frozen) c.args.self.now c.asks.new.self op.Find c.asks.result (asks-same c.args.self.now c.asks.new.self (doing.Finds c.in-Finds.taker) (sym c.in-Finds.ensures.value) c.asks.ensures.becomes) c.asks.ensures.asks c.requires.sound c.requires.waits

pub returns-in-Finds-clause-keeps : goal.returns-in-Finds-clause-keeps
returns-in-Finds-clause-keeps c = asks-keeps c.args.self.now c.asks.new.self (asks-same c.args.self.now c.asks.new.self (doing.Finds c.in-Finds.taker) (sym c.in-Finds.ensures.value) c.asks.ensures.becomes)

pub returns-in-Finds-clause-asked : goal.returns-in-Finds-clause-asked
returns-in-Finds-clause-asked c =
    asks-asked c.args.self.now c.asks.new.self (doing.Finds c.in-Finds.taker) op.Find c.asks.result (asks-same c.args.self.now c.asks.new.self (doing.Finds c.in-Finds.taker) (sym c.in-Finds.ensures.value) c.asks.ensures.becomes) c.asks.ensures.asks (sym c.in-Finds.ensures.value) c.requires.fallen refl

pub returns-in-Interns-clause-leads : goal.returns-in-Interns-clause-leads
returns-in-Interns-clause-leads c = λ g is.
    asks-leads g (meanings c.args.format.now.frozen) c.args.self.now c.asks-in-Interns.new.self op.Intern c.asks-in-Interns.result (asks-same c.args.self.now c.asks-in-Interns.new.self (doing.Interns c.in-Interns.taker) (sym c.in-Interns.ensures.value) c.asks-in-Interns.ensures.becomes) c.asks-in-Interns.ensures.asks

pub returns-in-Interns-clause-sound : goal.returns-in-Interns-clause-sound
returns-in-Interns-clause-sound c =
    asks-sound (meanings c.args.format.now.frozen) c.args.self.now c.asks-in-Interns.new.self op.Intern c.asks-in-Interns.result (asks-same c.args.self.now c.asks-in-Interns.new.self (doing.Interns c.in-Interns.taker) (sym c.in-Interns.ensures.value) c.asks-in-Interns.ensures.becomes) c.asks-in-Interns.ensures.asks c.requires.sound c.requires.waits

pub returns-in-Interns-clause-keeps : goal.returns-in-Interns-clause-keeps
returns-in-Interns-clause-keeps c = asks-keeps c.args.self.now c.asks-in-Interns.new.self (asks-same c.args.self.now c.asks-in-Interns.new.self (doing.Interns c.in-Interns.taker) (sym c.in-Interns.ensures.value) c.asks-in-Interns.ensures.becomes)

pub returns-in-Interns-clause-asked : goal.returns-in-Interns-clause-asked
returns-in-Interns-clause-asked c =
    asks-asked c.args.self.now c.asks-in-Interns.new.self (doing.Interns c.in-Interns.taker) op.Intern c.asks-in-Interns.result (asks-same c.args.self.now c.asks-in-Interns.new.self (doing.Interns c.in-Interns.taker) (sym c.in-Interns.ensures.value) c.asks-in-Interns.ensures.becomes) c.asks-in-Interns.ensures.asks (sym c.in-Interns.ensures.value) c.requires.fallen refl

pub returns-in-Letter-clause-leads : goal.returns-in-Letter-clause-leads
returns-in-Letter-clause-leads c = λ g is.
    asks-leads g (meanings c.args.format.now.frozen) c.args.self.now c.asks-in-Letter.new.self (op.Text c.in-Letter.number) c.asks-in-Letter.result (asks-same c.args.self.now c.asks-in-Letter.new.self (doing.Letter c.in-Letter.number) (sym c.in-Letter.ensures.value) c.asks-in-Letter.ensures.becomes) c.asks-in-Letter.ensures.asks

pub returns-in-Letter-clause-sound : goal.returns-in-Letter-clause-sound
returns-in-Letter-clause-sound c =
    asks-sound (meanings c.args.format.now.frozen) c.args.self.now c.asks-in-Letter.new.self (op.Text c.in-Letter.number) c.asks-in-Letter.result (asks-same c.args.self.now c.asks-in-Letter.new.self (doing.Letter c.in-Letter.number) (sym c.in-Letter.ensures.value) c.asks-in-Letter.ensures.becomes) c.asks-in-Letter.ensures.asks c.requires.sound c.requires.waits

pub returns-in-Letter-clause-keeps : goal.returns-in-Letter-clause-keeps
returns-in-Letter-clause-keeps c = asks-keeps c.args.self.now c.asks-in-Letter.new.self (asks-same c.args.self.now c.asks-in-Letter.new.self (doing.Letter c.in-Letter.number) (sym c.in-Letter.ensures.value) c.asks-in-Letter.ensures.becomes)

pub returns-in-Letter-clause-asked : goal.returns-in-Letter-clause-asked
returns-in-Letter-clause-asked c =
    asks-asked c.args.self.now c.asks-in-Letter.new.self (doing.Letter c.in-Letter.number) (op.Text c.in-Letter.number) c.asks-in-Letter.result (asks-same c.args.self.now c.asks-in-Letter.new.self (doing.Letter c.in-Letter.number) (sym c.in-Letter.ensures.value) c.asks-in-Letter.ensures.becomes) c.asks-in-Letter.ensures.asks (sym c.in-Letter.ensures.value) c.requires.fallen refl

pub returns-in-Reads-clause-leads : goal.returns-in-Reads-clause-leads
returns-in-Reads-clause-leads c = λ g is.
    asks-leads g (meanings c.args.format.now.frozen) c.args.self.now c.asks-in-Reads.new.self (op.Read c.in-Reads.id) c.asks-in-Reads.result (asks-same c.args.self.now c.asks-in-Reads.new.self (doing.Reads c.in-Reads.begun c.in-Reads.how c.in-Reads.id) (sym c.in-Reads.ensures.value) c.asks-in-Reads.ensures.becomes) c.asks-in-Reads.ensures.asks

pub returns-in-Reads-clause-sound : goal.returns-in-Reads-clause-sound
returns-in-Reads-clause-sound c =
    asks-sound (meanings c.args.format.now.frozen) c.args.self.now c.asks-in-Reads.new.self (op.Read c.in-Reads.id) c.asks-in-Reads.result (asks-same c.args.self.now c.asks-in-Reads.new.self (doing.Reads c.in-Reads.begun c.in-Reads.how c.in-Reads.id) (sym c.in-Reads.ensures.value) c.asks-in-Reads.ensures.becomes) c.asks-in-Reads.ensures.asks c.requires.sound c.requires.waits

pub returns-in-Reads-clause-keeps : goal.returns-in-Reads-clause-keeps
returns-in-Reads-clause-keeps c = asks-keeps c.args.self.now c.asks-in-Reads.new.self (asks-same c.args.self.now c.asks-in-Reads.new.self (doing.Reads c.in-Reads.begun c.in-Reads.how c.in-Reads.id) (sym c.in-Reads.ensures.value) c.asks-in-Reads.ensures.becomes)

pub returns-in-Reads-clause-asked : goal.returns-in-Reads-clause-asked
returns-in-Reads-clause-asked c =
    asks-asked c.args.self.now c.asks-in-Reads.new.self (doing.Reads c.in-Reads.begun c.in-Reads.how c.in-Reads.id) (op.Read c.in-Reads.id) c.asks-in-Reads.result (asks-same c.args.self.now c.asks-in-Reads.new.self (doing.Reads c.in-Reads.begun c.in-Reads.how c.in-Reads.id) (sym c.in-Reads.ensures.value) c.asks-in-Reads.ensures.becomes) c.asks-in-Reads.ensures.asks (sym c.in-Reads.ensures.value) c.requires.fallen refl

pub returns-in-Shares-clause-leads : goal.returns-in-Shares-clause-leads
returns-in-Shares-clause-leads c = λ g is.
    asks-leads g (meanings c.args.format.now.frozen) c.args.self.now c.asks-in-Shares.new.self op.Share c.asks-in-Shares.result (asks-same c.args.self.now c.asks-in-Shares.new.self (doing.Shares c.in-Shares.prefixes c.in-Shares.place c.in-Shares.stored c.in-Shares.tokens) (sym c.in-Shares.ensures.value) c.asks-in-Shares.ensures.becomes) c.asks-in-Shares.ensures.asks

pub returns-in-Shares-clause-sound : goal.returns-in-Shares-clause-sound
returns-in-Shares-clause-sound c =
    asks-sound (meanings c.args.format.now.frozen) c.args.self.now c.asks-in-Shares.new.self op.Share c.asks-in-Shares.result (asks-same c.args.self.now c.asks-in-Shares.new.self (doing.Shares c.in-Shares.prefixes c.in-Shares.place c.in-Shares.stored c.in-Shares.tokens) (sym c.in-Shares.ensures.value) c.asks-in-Shares.ensures.becomes) c.asks-in-Shares.ensures.asks c.requires.sound c.requires.waits

pub returns-in-Shares-clause-keeps : goal.returns-in-Shares-clause-keeps
returns-in-Shares-clause-keeps c = asks-keeps c.args.self.now c.asks-in-Shares.new.self (asks-same c.args.self.now c.asks-in-Shares.new.self (doing.Shares c.in-Shares.prefixes c.in-Shares.place c.in-Shares.stored c.in-Shares.tokens) (sym c.in-Shares.ensures.value) c.asks-in-Shares.ensures.becomes)

pub returns-in-Shares-clause-asked : goal.returns-in-Shares-clause-asked
returns-in-Shares-clause-asked c =
    asks-asked c.args.self.now c.asks-in-Shares.new.self (doing.Shares c.in-Shares.prefixes c.in-Shares.place c.in-Shares.stored c.in-Shares.tokens) op.Share c.asks-in-Shares.result (asks-same c.args.self.now c.asks-in-Shares.new.self (doing.Shares c.in-Shares.prefixes c.in-Shares.place c.in-Shares.stored c.in-Shares.tokens) (sym c.in-Shares.ensures.value) c.asks-in-Shares.ensures.becomes) c.asks-in-Shares.ensures.asks (sym c.in-Shares.ensures.value) c.requires.fallen refl

pub returns-in-Takes-clause-leads : goal.returns-in-Takes-clause-leads
returns-in-Takes-clause-leads c = λ g is.
    asks-leads g (meanings c.args.format.now.frozen) c.args.self.now c.asks-in-Takes.new.self (op.Take c.in-Takes.id) c.asks-in-Takes.result (asks-same c.args.self.now c.asks-in-Takes.new.self (doing.Takes c.in-Takes.prefixes c.in-Takes.place c.in-Takes.meaning c.in-Takes.id) (sym c.in-Takes.ensures.value) c.asks-in-Takes.ensures.becomes) c.asks-in-Takes.ensures.asks

pub returns-in-Takes-clause-sound : goal.returns-in-Takes-clause-sound
returns-in-Takes-clause-sound c =
    asks-sound (meanings c.args.format.now.frozen) c.args.self.now c.asks-in-Takes.new.self (op.Take c.in-Takes.id) c.asks-in-Takes.result (asks-same c.args.self.now c.asks-in-Takes.new.self (doing.Takes c.in-Takes.prefixes c.in-Takes.place c.in-Takes.meaning c.in-Takes.id) (sym c.in-Takes.ensures.value) c.asks-in-Takes.ensures.becomes) c.asks-in-Takes.ensures.asks c.requires.sound c.requires.waits

pub returns-in-Takes-clause-keeps : goal.returns-in-Takes-clause-keeps
returns-in-Takes-clause-keeps c = asks-keeps c.args.self.now c.asks-in-Takes.new.self (asks-same c.args.self.now c.asks-in-Takes.new.self (doing.Takes c.in-Takes.prefixes c.in-Takes.place c.in-Takes.meaning c.in-Takes.id) (sym c.in-Takes.ensures.value) c.asks-in-Takes.ensures.becomes)

pub returns-in-Takes-clause-asked : goal.returns-in-Takes-clause-asked
returns-in-Takes-clause-asked c =
    asks-asked c.args.self.now c.asks-in-Takes.new.self (doing.Takes c.in-Takes.prefixes c.in-Takes.place c.in-Takes.meaning c.in-Takes.id) (op.Take c.in-Takes.id) c.asks-in-Takes.result (asks-same c.args.self.now c.asks-in-Takes.new.self (doing.Takes c.in-Takes.prefixes c.in-Takes.place c.in-Takes.meaning c.in-Takes.id) (sym c.in-Takes.ensures.value) c.asks-in-Takes.ensures.becomes) c.asks-in-Takes.ensures.asks (sym c.in-Takes.ensures.value) c.requires.fallen refl

pub returns-in-Prints-clause-knows : goal.returns-in-Prints-clause-knows
returns-in-Prints-clause-knows c names format knows =
    let run = c.args.self.now in
    let d = doing.Prints c.in-Prints.begun c.in-Prints.description in
    let known = known_in names run.scene d in
    let by = known_by names run.scene in
    let below = below-out names run.scene d (λ id. refl) in
    let there = subst (λ x. KnowsDoing (known_in names run.scene x) x) (sym c.in-Prints.ensures.value) knows.doing in
    c.printing.ensures.knows names format knows.scene (subst (λ x. KnowsBehind by x run.frames run.command) (sym c.in-Prints.ensures.value) knows.behind)
    (more-start known by below c.in-Prints.begun there.0) (more-described known by below c.in-Prints.description there.1)

pub returns-in-Finds-clause-knows : goal.returns-in-Finds-clause-knows
returns-in-Finds-clause-knows c names format knows =
    let run = c.args.self.now in
    let d = doing.Finds c.in-Finds.taker in
    subst (λ t. KnowsAfter names t c.asks.new.self) (sym c.asks.ensures.asks)
    (subst (λ (r : Run). KnowsRun names r) (sym c.asks.ensures.becomes) (in-place names run d d run.moves (sym c.in-Finds.ensures.value) knows (λ h. h) (λ h. h)))

pub returns-in-Interns-clause-knows : goal.returns-in-Interns-clause-knows
returns-in-Interns-clause-knows c names format knows =
    let run = c.args.self.now in
    let d = doing.Interns c.in-Interns.taker in
    subst (λ t. KnowsAfter names t c.asks-in-Interns.new.self) (sym c.asks-in-Interns.ensures.asks)
    (subst (λ (r : Run). KnowsRun names r) (sym c.asks-in-Interns.ensures.becomes) (in-place names run d d run.moves (sym c.in-Interns.ensures.value) knows (λ h. h) (λ h. h)))

pub returns-in-Letter-clause-knows : goal.returns-in-Letter-clause-knows
returns-in-Letter-clause-knows c names format knows =
    let run = c.args.self.now in
    let d = doing.Letter c.in-Letter.number in
    subst (λ t. KnowsAfter names t c.asks-in-Letter.new.self) (sym c.asks-in-Letter.ensures.asks)
    (subst (λ (r : Run). KnowsRun names r) (sym c.asks-in-Letter.ensures.becomes) (in-place names run d d run.moves (sym c.in-Letter.ensures.value) knows (λ h. h) (λ h. h)))

pub returns-in-Reads-clause-knows : goal.returns-in-Reads-clause-knows
returns-in-Reads-clause-knows c names format knows =
    let run = c.args.self.now in
    let d = doing.Reads c.in-Reads.begun c.in-Reads.how c.in-Reads.id in
    subst (λ t. KnowsAfter names t c.asks-in-Reads.new.self) (sym c.asks-in-Reads.ensures.asks)
    (subst (λ (r : Run). KnowsRun names r) (sym c.asks-in-Reads.ensures.becomes) (in-place names run d d run.moves (sym c.in-Reads.ensures.value) knows (λ h. h) (λ h. h)))
