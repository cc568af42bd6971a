use Rattle.lw_plain_run.proofs.ListLemmas.{map_ended}
use Rattle.std.proofs.Common.{ℕ, List}
use Rattle.lw_mealy.specs.Machine.{Row}
use Rattle.lw_plain.specs.Table.{machine_of, transitions_of}
use Rattle.lw_plain.proofs.MachineLemmas.{machine_within, within_as}
use Rattle.lw_plain_run.proofs.hypothesis.hypothesis_of.Goals as goal

pub of_rows-requires : goal.of_rows-requires
of_rows-requires c =
    let within = machine_within c.args.m.now.inputs c.args.m.now.outputs c.args.m.now.rows c.inputs.ensures.complete c.args.table.now c.requires.over c.requires.few c.requires.closed in
    let f : List ℕ → Row = transitions_of c.args.m.now.inputs c.args.m.now.rows c.args.table.now in
    let rows = map_ended f c.as_slice-access-items.result.now c.loop-access.access-index _ _ c.loop-access-test.false c.loop-access.invariant in
    within_as c.args.m.now.inputs c.args.m.now.outputs _ _ (machine_of c.args.m.now.inputs c.args.m.now.rows c.args.table.now) _ c.inputs.ensures.value c.outputs.ensures.value rows within
