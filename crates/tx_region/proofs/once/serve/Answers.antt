use Rattle.std.proofs.Common.{arith}
use Rattle.tx_region.proofs.SessionLemmas.{one-more}
use Rattle.tx_region.proofs.once.serve.Goals as goal

pub frames-preserved : goal.frames-preserved
frames-preserved c d = (
  omega (arith, d.in-Served.ensures.within.1),
  omega (arith, d.in-Served.ensures.within.0, d.frames.invariant.1),
  λ map stands.
      let so-far = d.frames.invariant.2 map stands in
      let served = d.in-Served.ensures.turn so-far.0 so-far.1 in (
        served.after,
        served.stands,
        λ input_end r output_end goes.
            so-far.2 input_end r output_end
            (one-more d.frames.had d.frames.before d.in-Served.len so-far.0 (c.I.Told.tells d.frames.input) (c.I.Told.tells d.serve_frame.new.input) input_end (c.O.Told.tells d.frames.output) (c.O.Told.tells d.serve_frame.new.output) output_end d.serve_frame.new.engine r served goes),
      ),
)

pub returns-in-Ended : goal.returns-in-Ended
returns-in-Ended c d map stands =
    let so-far = d.frames.invariant.2 map stands in
    so-far.2 (c.I.Told.tells d.serve_frame.new.input) d.in-Ended.run' (c.O.Told.tells d.serve_frame.new.output) (d.in-Ended.ensures.turn so-far.0 so-far.1)
