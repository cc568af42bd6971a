use Rattle.std.proofs.Common.{ℕ, List, [], length, map, slice_index_or, subst, sym, ◌<◌}
use Rattle.std.specs.List.{All}
use Rattle.std.proofs.lemmas.List.{length-map}
use Rattle.lw_words.specs.First.{FailsFirst}
use Rattle.lw_words.proofs.Lists.{read-map, within-map_more}
use Rattle.lw_json.proofs.EachLemmas.{fails_here}
use Rattle.lw_accept.proofs.reader.first_in_rows.Goals as goal

pub returns-in-Some-clause-some : goal.returns-in-Some-clause-some
returns-in-Some-clause-some c =
    let rows = c.args.rows.now in
    let row = c.index-rows-state.result in
    let lt = c.loop-state-test.true in
    let here : FailsFirst (λ t. t < length rows) row.items c.in-Some.letter = subst (λ (r : List ℕ). FailsFirst (λ t. t < length rows) r c.in-Some.letter) c.deref.ensures.value c.in-Some.ensures.some in
    subst (λ (n : ℕ). FailsFirst (λ r. All (λ t. t < n) r) (map (λ r. r.items) rows) c.loop-state.state × FailsFirst (λ t. t < n) (slice_index_or (map (λ r. r.items) rows) c.loop-state.state []) c.in-Some.letter) (sym (length-map rows (λ r. r.items))) (
      fails_here (λ r. r.items) (λ r. All (λ t. t < length rows) r) rows c.loop-state.state row lt c.index-rows-state.is (λ all. here.fails 0 (all c.in-Some.letter 0 here.within)) c.loop-state.invariant,
      subst (λ (r : List ℕ). FailsFirst (λ t. t < length rows) r c.in-Some.letter) (sym (read-map (λ r. r.items) rows c.loop-state.state row [] lt c.index-rows-state.is)) here,
    )

pub loop-state-preserved : goal.loop-state-preserved
loop-state-preserved c =
    let rows = c.args.rows.now in
    let here : All (λ t. t < length rows) c.index-rows-state.result.items = subst (λ (r : List ℕ). All (λ t. t < length rows) r) c.deref.ensures.value c.in_default.ensures.none in
    within-map_more (λ r. r.items) (λ r. All (λ t. t < length rows) r) rows c.loop-state.state c.index-rows-state.result c.loop-state-test.true c.index-rows-state.is here c.loop-state.invariant
