use Rattle.std.proofs.Common.{◌≡◌, ◌≤◌, length, None, vec_capacity, vec_len}
use Rattle.lw_system.specs.Spawners.{StartsLinks}
use Rattle.lw_children.specs.Crews.{HasBegun}
use Rattle.lw_children.proofs.starting.start_all.Given as goal

-- so many sessions were made
abbrev pub invariant-loop-instance : goal.invariant-loop-instance
invariant-loop-instance g l =
    ((length l.sessions.items ≡ l.instance) × (vec_len l.sessions ≡ l.instance) × (l.workers ≤ vec_capacity l.sessions))
    × StartsLinks l.command.words
    (g.P.Spawner.state l.fn.spawner)
    (g.P.Spawner.state l.spawner) (length l.sessions.items)
    × HasBegun g.P.Link.Link.state l.command.inputs l.command.outputs
    (g.P.Spawner.state l.fn.spawner)
    l.sessions.items None
