use Rattle.std.proofs.Common.{sym, subst}
use Rattle.tx_format.specs.declared.state.Engineless.{Engineless}
use Rattle.tx_format.specs.Formats.{IsFreezable}
use Rattle.tx_run.specs.Knowledge.{KnowsFormat}
use Rattle.tx_engine.specs.Agreement.{known_names}
use Rattle.tx_session.proofs.SessionLemmas.{knows-format}
use Rattle.tx_session.proofs.begin.begin_session.Goals as goal

-- the names in the format's lists are among its names, which the session knows
pub returns-clause-serves : goal.returns-clause-serves
returns-clause-serves g c =
    let session = g.S.Store.session c.args.store.now in
    let new = c.requires in
    c.new.ensures.serves session new
    (subst (λ (f : Engineless). KnowsFormat (known_names session) f) new.format (knows-format session new.sound (subst (λ (f : Engineless). IsFreezable f) (sym new.format) c.is_sound.ensures)))
