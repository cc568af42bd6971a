-- A system that is lent to a closure for one call alone: nothing is seen of it at the end.
use Rattle.std.proofs.Common.{Bool, true, false}
use denote.Exit.{if_kept, unseen}
use denote.Param.Send.{Quiet}

pub nothing_seen : {D : Type 0} (b : Bool) → Quiet {D = D} (if_kept b unseen unseen)
nothing_seen true x w = tt
nothing_seen false x w = tt
