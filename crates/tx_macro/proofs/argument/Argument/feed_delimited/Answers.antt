use Rattle.std.proofs.Common.{rules, take, drop, ◌++◌}
use Rattle.tx_macro.specs.Outcome.{delimited}
use Rattle.tx_macro.specs.Matching.{delimited_piece}
use Rattle.tx_macro.proofs.SettlingLemmas.{delimited-push}
use Rattle.tx_macro.proofs.TakingLemmas.{takes-settles}
use Rattle.tx_macro.proofs.argument.Argument.feed_delimited.Goals as goal

pub returns-in-Ok : goal.returns-in-Ok
returns-in-Ok c =
    takes-settles (delimited_piece c.args.rule c.args.delimiter.now) c.args.delimiter.now c.args.self.now
    (λ later. delimited c.args.rule c.args.delimiter.now c.args.self.now.place.depth (take c.args.self.now.place.known c.push.new.self.items) (drop c.args.self.now.place.known c.push.new.self.items ++ later)) c.args.t c.settle.result c.settle.new.self
    (λ later. delimited-push c.args.rule c.args.delimiter.now c.args.self.now.place.depth c.args.self.now.place.known c.args.self.now.taken.items c.push.new.self.items c.args.t (search rules) c.in-Ok.ensures.items later) c.settle.ensures
