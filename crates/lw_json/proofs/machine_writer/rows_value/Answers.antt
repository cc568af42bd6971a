use Rattle.std.proofs.Common.{◌∙◌, ◌<◌, ◌≤◌, [], length, ap, rules, refl}
use Rattle.serde_json.specs.Data.{array}
use Rattle.serde_json.specs.View.{view, items_of}
use Rattle.serde_json.proofs.Views.{view-Array}
use Rattle.lw_mealy.specs.Machine.{row}
use Rattle.lw_json.specs.MachineText.{row_data}
use Rattle.lw_json.proofs.EachLemmas.{written_more, written_all}
use Rattle.lw_json.proofs.machine_writer.rows_value.Goals as goal

pub loop-state-preserved : goal.loop-state-preserved
loop-state-preserved c =
    let lt : c.loop-state.state < length c.args.mealy.now.rows = search rules in
    written_more view (row_data c.args.outputs.now) c.loop-state.rows.items c.push.new.self.items c.in_ok-row_value.field-0 c.args.mealy.now.rows c.loop-state.state (row c.args.mealy.now.rows c.loop-state.state) []
    c.in_ok-push.ensures.items c.in_ok-row_value.ensures lt refl c.loop-state.invariant

pub returns-clause-value : goal.returns-clause-value
returns-clause-value c =
    let stop : length c.args.mealy.now.rows ≤ c.loop-state.state = search rules in
    view-Array c.loop-state.rows ∙ ap (λ l. array (items_of l)) (written_all view (row_data c.args.outputs.now) c.loop-state.rows.items c.args.mealy.now.rows c.loop-state.state stop c.loop-state.invariant)
