use Rattle.tx_region.proofs.SessionLemmas.{wants-memory, closes-broken, ended, cut}
use Rattle.tx_region.proofs.TellsLemmas.{stays-same}
use Rattle.tx_region.proofs.once.serve_frame.Goals as goal

pub returns-in-End-clause-turn : goal.returns-in-End-clause-turn
returns-in-End-clause-turn c d map stands =
    ended d.args.had d.args.before map d.in-End.field-0 (c.I.Told.tells d.args.input.now) (c.I.Told.tells d.read_request.new.from) (c.O.Told.tells d.args.output.now) d.requires.few d.in-End.ensures.read

pub returns-in-Bad-clause-turn : goal.returns-in-Bad-clause-turn
returns-in-Bad-clause-turn c d map stands =
    let r = d.in-Bad.ensures.read in
    closes-broken d.args.had d.args.before map r.2.bytes d.in-Bad.place (c.I.Told.tells d.args.input.now) (c.I.Told.tells d.read_request.new.from) (c.O.Told.tells d.args.output.now) (c.O.Told.tells d.refuse.new.output) d.refuse.result d.requires.few r.2.next
    (record { within = r.0; at = r.1; breaks = r.2.breaks; to = r.2.to }) d.refuse.ensures

pub returns-in-ReadFault-clause-turn : goal.returns-in-ReadFault-clause-turn
returns-in-ReadFault-clause-turn c d map stands =
    cut d.args.had d.args.before map (c.I.Told.tells d.args.input.now) (c.I.Told.tells d.read_request.new.from) (c.O.Told.tells d.args.output.now) d.requires.few d.in-ReadFault.ensures.read

pub returns-in-Memory-clause-turn : goal.returns-in-Memory-clause-turn
returns-in-Memory-clause-turn c d map stands =
    let r = d.in-Memory.ensures.read in
    wants-memory d.args.had d.args.before map r.0 (c.I.Told.tells d.args.input.now) (c.I.Told.tells d.read_request.new.from) (c.O.Told.tells d.args.output.now) (c.O.Told.tells d.args.output.now) d.requires.few r.1 (stays-same (c.O.Told.tells d.args.output.now))
