use Rattle.std.proofs.Common.{refl}
use Rattle.tx_store.specs.Plain.{all_names, session_of}
use Rattle.tx_session.proofs.ReadingLemmas.{reading-of}
use Rattle.tx_session.proofs.laws.has_reading.Goals as goal

-- the names of a plain store are a list
pub returns : goal.returns
returns c = reading-of (session_of c.args.store.now) (all_names c.args.store.now) c.is_sound.ensures (λ n. refl)
