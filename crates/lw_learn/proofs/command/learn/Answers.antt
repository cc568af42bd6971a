use Rattle.std.proofs.Common.{inl}
use Rattle.lw_learn.proofs.command.learn.Goals as goal

pub returns-clause-run : goal.returns-clause-run
returns-clause-run g c =
    let E = g.E.Sink in
    let told = c.learn_logged-end.new.world.err in
    record { told = E.state told; ends = c.learn_logged-end.ensures.ends; log = inl c.say_log.ensures }
