use Rattle.std.proofs.Common.{◌≡◌, ◌++◌, map, is_some}
use Rattle.std.specs.Vec.Iter.{into_iter_items}
use Rattle.lw_names.specs.Naming.{own_names}
use Rattle.lw_desk.specs.Step.{DeskState, GivesAll}
use Rattle.lw_desk.specs.History.{MayGiveAll}
use Rattle.lw_desk.specs.bodies.Board.{Agrees, AreHeld, without_numbers}
use Rattle.lw_desk.proofs.board.Board.give_all.Given as goal

abbrev pub invariant-loop-answer : goal.invariant-loop-answer
invariant-loop-answer l = record {
  can : (goal.iterator-loop-answer).can_next l.answer-iterator;
  ends : (goal.iterator-loop-answer).is_finite l.answer-iterator;
  rest : l.fn.answers.items ≡ l.yielded ++ into_iter_items l.answer-iterator;
  gives : (s : DeskState) → Agrees l.fn.self s → (t : DeskState) × GivesAll l.fn.self.batch l.actor l.yielded s t × Agrees l.self t;
  claimed : l.self.claimed ≡ without_numbers (map (λ g. g.place) l.yielded) l.fn.self.claimed;
  held : AreHeld l.self.claimed (map (λ g. g.place) (into_iter_items l.answer-iterator));
  may : MayGiveAll l.fn.self.batch (is_some l.fn.self.naming.brought) (own_names l.self.naming l.actor) (into_iter_items l.answer-iterator);
  kind : is_some l.self.naming.brought ≡ is_some l.fn.self.naming.brought;
  batch : l.self.batch ≡ l.fn.self.batch;
}
