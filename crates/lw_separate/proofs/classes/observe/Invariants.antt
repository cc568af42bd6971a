use Rattle.std.specs.Bool.{OnFalse}
use Rattle.lw_separate.specs.bodies.Classes.{Observes, AllEqual}
use Rattle.lw_separate.proofs.classes.observe.Given as goal

abbrev pub invariant-loop-q : goal.invariant-loop-q
invariant-loop-q l = record {
  observes : Observes l.column l.first l.q l.fn.ends.items l.ends.items l.outputs.items;
  equal : OnFalse l.differ (AllEqual l.first l.q l.outputs.items);
}
