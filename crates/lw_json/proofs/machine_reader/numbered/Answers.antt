use Rattle.std.proofs.Common.{◌≡◌, ◌∙◌, ◌∷◌, [], ap, map, Some}
use Rattle.std.specs.List.{All}
use Rattle.std.proofs.lemmas.List.{map-append}
use Rattle.lw_words.proofs.Lists.{within-map_more}
use Rattle.lw_json.specs.Formats.{each_of, NamedRow, numbered_cell}
use Rattle.lw_json.specs.MachineFault.{HasOutputIn}
use Rattle.lw_json.specs.bodies.MachineParts.{UnknownAt}
use Rattle.lw_json.proofs.EachLemmas.{going_more}
use Rattle.lw_json.proofs.MachineFaults.{unknown_at, all_known}
use Rattle.lw_json.proofs.Faults.{handed_on}
use Rattle.lw_json.proofs.machine_reader.numbered.Goals as goal

pub returns-in_err-numbered_row-clause-err : goal.returns-in_err-numbered_row-clause-err
returns-in_err-numbered_row-clause-err c =
    let told : UnknownAt c.args.outputs.now (map (λ w. map (λ k. (k.0, k.1.now)) w.items) c.args.rows.now) c.in_err-numbered_row.field-0.0 =
    unknown_at (λ w. map (λ k. (k.0, k.1.now)) w.items) c.args.outputs.now c.args.rows.now c.loop-state.state c.index-rows-state.result c.in_err-numbered_row.field-0.0 c.loop-state-test.true c.index-rows-state.is c.loop-state.invariant.known
    (rw c.deref.ensures.value at c.in_err-numbered_row.ensures.err) in
    handed_on (UnknownAt c.args.outputs.now (map (λ w. map (λ k. (k.0, k.1.now)) w.items) c.args.rows.now)) c.from_residual-in_err-numbered_row.result c.in_err-numbered_row.field-0.0 c.from_residual-in_err-numbered_row.ensures.1 told

pub loop-state-preserved : goal.loop-state-preserved
loop-state-preserved c =
    let row : NamedRow = map (λ k. (k.0, k.1.now)) c.index-rows-state.result.items in
    let found : each_of (numbered_cell c.args.outputs.now) row ≡ Some c.in_ok-numbered_row.field-0.items = rw c.deref.ensures.value at c.in_ok-numbered_row.ensures.ok in
    record {
      so_far = going_more (λ w. map (λ k. (k.0, k.1.now)) w.items) (each_of (numbered_cell c.args.outputs.now)) (map (λ r. r.items) c.loop-state.all.items) (map (λ r. r.items) c.push.new.self.items) c.args.rows.now c.loop-state.state
          c.index-rows-state.result c.in_ok-numbered_row.field-0.items c.loop-state-test.true c.index-rows-state.is found
          (ap (map (λ r. r.items)) c.in_ok-push.ensures.items ∙ map-append (λ r. r.items) c.loop-state.all.items (c.in_ok-numbered_row.field-0 ∷ [])) c.loop-state.invariant.so_far;
      known = within-map_more (λ w. map (λ k. (k.0, k.1.now)) w.items) (All (HasOutputIn c.args.outputs.now)) c.args.rows.now c.loop-state.state c.index-rows-state.result c.loop-state-test.true c.index-rows-state.is
          (all_known c.args.outputs.now row c.in_ok-numbered_row.field-0.items found) c.loop-state.invariant.known;
    }
