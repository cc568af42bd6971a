use Rattle.std.proofs.Common.{◌≡◌, ℕ, None, length}
use Rattle.lw_desk.specs.Step.{DeskState}
use Rattle.lw_desk.specs.bodies.Board.{Agrees}
use Rattle.lw_desk.proofs.TurnLemmas.{TakesFront}
use Rattle.lw_desk.proofs.board.Board.take.Given as goal

abbrev pub invariant-loop : goal.invariant-loop
invariant-loop l = record {
  takes : (actor : ℕ) (s : DeskState) → Agrees l.fn.self s → (t : DeskState) × TakesFront l.fn.self.batch actor l.wanted l.places s t × Agrees l.self t;
  long : length l.places ≡ l.counter;
  live : l.self.stop ≡ None;
  naming : l.self.naming ≡ l.fn.self.naming;
  batch : l.self.batch ≡ l.fn.self.batch;
}
