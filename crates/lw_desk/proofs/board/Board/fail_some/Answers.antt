use Rattle.std.proofs.Common.{Option, subst}
use Rattle.lw_desk.specs.History.{failed_places}
use Rattle.lw_desk.specs.bodies.Board.{AreHeld}
use Rattle.lw_desk.specs.declared.ask.Failed.{Failed}
use Rattle.lw_desk.proofs.board.Board.fail_some.Goals as goal

pub fail-requires : goal.fail-requires
fail-requires c = record {
  held = subst (λ (f : Option Failed). AreHeld c.args.self.now.claimed (failed_places f)) c.in-Some.is c.requires.held;
}
