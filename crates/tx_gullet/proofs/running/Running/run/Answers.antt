use Rattle.std.proofs.Common.{subst, sym}
use Rattle.tx_gullet.specs.Outcomes.{IsUnfinished}
use Rattle.tx_gullet.specs.States.{Answered}
use Rattle.tx_gullet.specs.Runs.{state_of}
use Rattle.tx_gullet.proofs.StateLemmas.{rest-left, answered-left, given-back-left, gave-back-old}
use Rattle.tx_gullet.proofs.running.Running.run.Goals as goal

pub returns-in-Ok-clause-rest : goal.returns-in-Ok-clause-rest
returns-in-Ok-clause-rest c =
    rest-left c.args.self.now c.begin.new.self c.go.new.self c.args.text c.args.budget c.len-known.result c.requires.rest c.in_ok-begin.ensures.state c.in_ok-begin.ensures.begins c.in-Ok.ensures.kept c.in-Ok.ensures.extends c.len-known.ensures c.end.new.self c.in-Ok.outcome c.in-Ok.ensures.known c.end.ensures.ended

pub returns-in-Ok-clause-answered : goal.returns-in-Ok-clause-answered
returns-in-Ok-clause-answered c =
    subst (λ o. Answered (state_of c.args.self.now) c.args.text c.args.budget o (state_of c.end.new.self)) (sym c.end.ensures.same)
    (answered-left c.args.self.now c.begin.new.self c.go.new.self c.args.text c.args.budget c.len-known.result c.requires.rest c.in_ok-begin.ensures.state c.in_ok-begin.ensures.begins c.in-Ok.ensures.kept c.in-Ok.ensures.extends c.len-known.ensures c.end.new.self c.in-Ok.outcome c.has_naming.ensures.naming c.in-Ok.ensures.comes c.end.ensures.ended)

pub returns-in-Ok-clause-given_back : goal.returns-in-Ok-clause-given_back
returns-in-Ok-clause-given_back c back =
    given-back-left c.args.self.now c.begin.new.self c.go.new.self c.args.text c.args.budget c.len-known.result c.requires.rest c.in_ok-begin.ensures.state c.in_ok-begin.ensures.begins c.in-Ok.ensures.kept c.in-Ok.ensures.extends c.len-known.ensures c.end.new.self c.in-Ok.outcome c.end.ensures.ended (subst IsUnfinished c.end.ensures.same back)

pub returns-in-Err-clause-rest : goal.returns-in-Err-clause-rest
returns-in-Err-clause-rest c =
    (gave-back-old c.args.self.now c.begin.new.self c.go.new.self c.args.text c.args.budget c.len-known.result c.requires.rest c.in_ok-begin.ensures.state c.in_ok-begin.ensures.begins c.in-Err.ensures.kept c.in-Err.ensures.extends c.len-known.ensures c.give_back.new.self c.give_back.ensures).0

pub returns-in-Err-clause-given_back : goal.returns-in-Err-clause-given_back
returns-in-Err-clause-given_back c back =
    (gave-back-old c.args.self.now c.begin.new.self c.go.new.self c.args.text c.args.budget c.len-known.result c.requires.rest c.in_ok-begin.ensures.state c.in_ok-begin.ensures.begins c.in-Err.ensures.kept c.in-Err.ensures.extends c.len-known.ensures c.give_back.new.self c.give_back.ensures).1
