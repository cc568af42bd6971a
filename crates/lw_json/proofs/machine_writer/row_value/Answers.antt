use Rattle.std.proofs.Common.{◌∙◌, ◌<◌, ◌≤◌, length, ap, rules, sym}
use Rattle.serde_json.specs.Data.{array}
use Rattle.serde_json.specs.View.{view, items_of}
use Rattle.serde_json.proofs.Views.{view-Array}
use Rattle.lw_mealy.specs.Machine.{row}
use Rattle.lw_json.specs.MachineText.{cell_data}
use Rattle.lw_json.proofs.EachLemmas.{written_more, written_all}
use Rattle.lw_json.proofs.machine_writer.row_value.Goals as goal

pub loop-letter-preserved : goal.loop-letter-preserved
loop-letter-preserved c =
    let lt : c.loop-letter.letter < length (row c.args.mealy.now.rows c.args.state) = search rules in
    written_more view (cell_data c.args.outputs.now) c.loop-letter.cells.items c.push.new.self.items c.in_ok-cell_value.field-0 (row c.args.mealy.now.rows c.args.state) c.loop-letter.letter c.step.result (0, 0)
    c.in_ok-push.ensures.items c.in_ok-cell_value.ensures lt (sym c.step.ensures.value) c.loop-letter.invariant

pub returns : goal.returns
returns c =
    let stop : length (row c.args.mealy.now.rows c.args.state) ≤ c.loop-letter.letter = search rules in
    view-Array c.loop-letter.cells ∙ ap (λ l. array (items_of l)) (written_all view (cell_data c.args.outputs.now) c.loop-letter.cells.items (row c.args.mealy.now.rows c.args.state) c.loop-letter.letter stop c.loop-letter.invariant)
