use Rattle.std.proofs.Common.{◌≡◌}
use Rattle.lw_pool.specs.bodies.Engaged.{Working}
use Rattle.lw_pool.specs.Pool.{Same}
use Rattle.lw_pool.proofs.worker.Worker.work.Given as goal

abbrev pub invariant-loop : goal.invariant-loop
invariant-loop g l =
    (goal.iterator-loop g).can_next l.iterator' × (goal.iterator-loop g).is_finite l.iterator'
    × (record {
      ours : l.pass.turnstile ≡ l.turnstile;
      working : Working l.fn.self.seen l.self.seen l.pass.knows l.reply;
      session : Same l.fn.self.seen l.self.seen;
      opening : l.pass.knows.opening ≡ l.fn.engaged.pass.knows.opening;
      number : l.pass.knows.number ≡ l.fn.engaged.pass.knows.number;
      made : l.pass.knows.made ≡ l.fn.engaged.pass.knows.made;
      ended : l.pass.knows.ended ≡ l.fn.engaged.pass.knows.ended;
    })
