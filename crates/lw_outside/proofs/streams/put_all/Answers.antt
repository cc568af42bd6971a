use Rattle.std.proofs.Common.{◌∙◌}
use Rattle.lw_outside.proofs.SinkLemmas.{sink_more}
use Rattle.lw_outside.proofs.streams.put_all.Goals as goal

pub loop-done-preserved : goal.loop-done-preserved
loop-done-preserved g c =
    let K = g.K.Sink in
    record {
      quiet = c.in_ok-done.ensures.quiet ∙ c.loop-done.invariant.quiet;
      within = c.in_ok-done.ensures.some.1;
      took = sink_more (K.state c.args.sink.now).taken (K.state c.loop-done.sink).taken (K.state c.put_from.new.sink).taken c.args.bytes.now c.loop-done.done c.in_ok-done.field-0 c.loop-done.invariant.within c.loop-done.invariant.took c.in_ok-done.ensures.took;
    }
