use Rattle.std.proofs.Common.{◌≤◌, ◌-◌, ◌++◌, ℕ, List, length, take, ap, ◌∙◌, arith}
use Rattle.std.proofs.lemmas.List.{length-take-le}
use Rattle.lw_line.proofs.Pieces.{held_more}
use Rattle.lw_line.proofs.inbox.Inbox.take_from.Goals as goal

pub returns-clause-took : goal.returns-clause-took
returns-clause-took g c =
    let inside = c.self.inside in
    let room : List ℕ = c.take.new.buffer in
    let n : ℕ = c.in_ok-count.count in
    let few : n ≤ length room = c.in_ok-count.ensures.bound in (
      take n room,
      length-take-le n room few,
      held_more inside.held n (256 - inside.held) inside.bytes room (omega arith) few ∙ ap (λ (l : List ℕ). l ++ take n room) c.self.view_is,
      c.in_ok-count.ensures.took,
    )
