use Rattle.std.proofs.Common.{◌≡◌, [], All, map, subst}
use Rattle.lw_sessions_tests.specs.TestTrial.{seat_by}
use Rattle.lw_sessions_tests.specs.declared.tests.desk.trial.Standing.{Standing}
use Rattle.lw_sessions_tests.proofs.TestTrials.{trial_idle, none_held}
use Rattle.lw_sessions_tests.proofs.tests.desk.trial.Trial.finish.Goals as goal

pub finish-requires : goal.finish-requires
finish-requires g c =
    let t = c.self.inside in
    record {
      idle = trial_idle t.desk t.words.items t.free (map (λ x. seat_by x.held x.ended x.own.items) t.seats.items) c.self.invariant c.actors.ensures.legal.lists
          (none_held (λ (x : Standing). seat_by x.held x.ended x.own.items) t.seats.items (subst (All (λ (x : Standing). x.held ≡ [])) c.deref.ensures.value (c.nothing_held.ensures c.if-assert.false)));
    }
