use Rattle.std.proofs.Common.{subst}
use Rattle.std.specs.List.{All}
use Rattle.lw_words.specs.First.{FailsFirst}
use Rattle.lw_words.proofs.Lists.{within-map_more}
use Rattle.lw_mealy.specs.Machine.{Row}
use Rattle.lw_mealy.specs.CellHalf.{IsBelow}
use Rattle.lw_mealy.proofs.RowLemmas.{cell_fails}
use Rattle.lw_mealy.proofs.mealy.first_in_rows.Goals as goal

pub returns-in-Some-clause-some : goal.returns-in-Some-clause-some
returns-in-Some-clause-some c =
    let here : FailsFirst (IsBelow c.args.half c.args.bound) c.index-rows-state.result.items c.in-Some.letter =
    subst (λ (r : Row). FailsFirst (IsBelow c.args.half c.args.bound) r c.in-Some.letter) c.deref.ensures.value c.in-Some.ensures.some in
    cell_fails (λ r. r.items) (IsBelow c.args.half c.args.bound) c.args.rows.now c.loop-state.state c.in-Some.letter c.index-rows-state.result c.loop-state-test.true c.index-rows-state.is c.loop-state.invariant here

pub loop-state-preserved : goal.loop-state-preserved
loop-state-preserved c =
    let here : All (IsBelow c.args.half c.args.bound) c.index-rows-state.result.items =
    subst (λ (r : Row). All (IsBelow c.args.half c.args.bound) r) c.deref.ensures.value c.in_default.ensures.none in
    within-map_more (λ r. r.items) (λ r. All (IsBelow c.args.half c.args.bound) r) c.args.rows.now c.loop-state.state c.index-rows-state.result c.loop-state-test.true c.index-rows-state.is here c.loop-state.invariant
