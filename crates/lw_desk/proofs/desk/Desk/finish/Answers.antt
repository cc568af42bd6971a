use Rattle.std.proofs.Common.{subst}
use Rattle.lw_desk.specs.Desk.{DeskHistory, Finishes}
use Rattle.lw_desk.specs.History.{Replays, opened}
use Rattle.lw_desk.specs.bodies.DeskBody.{entries_in, opening_of}
use Rattle.lw_desk.proofs.DeskLemmas.{desk_finishes}
use Rattle.lw_desk.proofs.desk.Desk.finish.Goals as goal

pub returns : goal.returns
returns c =
    let d = c.self.inside in
    let o = opening_of d.cache_then.value.kept d.names_then.value d.board.batch d.actors in
    let made = c.into_parts.ensures in
    subst (λ (h : DeskHistory). Finishes h c.into_parts.result) c.self.view_is
    (desk_finishes o (entries_in d.history.items) d.board c.self.invariant
    (λ t r. c.requires.idle t (subst (λ (h : DeskHistory). Replays h.opening (opened h.opening) h.entries t) c.self.view_is r))
    c.into_parts.result made.kept made.claims made.naming made.stop)
