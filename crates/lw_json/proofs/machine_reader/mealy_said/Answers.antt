use Rattle.std.proofs.Common.{◌≡◌, ◌∙◌, ap, map, sym, Some}
use Rattle.lw_mealy.specs.Machine.{MealyMachine, mealy_of}
use Rattle.lw_json.specs.Formats.{WrittenMachine, numbered_rows}
use Rattle.lw_json.specs.MachineFault.{SaysMachineFault}
use Rattle.lw_json.specs.bodies.Found.{named_row}
use Rattle.lw_json.specs.bodies.MachineParts.{written, IsFaultOfRows}
use Rattle.lw_json.specs.bodies.Told.{Told}
use Rattle.lw_json.specs.declared.fault.JsonFault.TheVariants.{Mealy}
use Rattle.lw_json.proofs.Faults.{handed_on, fault_holds, value_holds}
use Rattle.lw_json.proofs.MachineFaults.{unknown_fault, rows_fault}
use Rattle.lw_json.proofs.machine_reader.mealy_said.Goals as goal

pub returns-in_err-rows-clause-err : goal.returns-in_err-rows-clause-err
returns-in_err-rows-clause-err c =
    let w : WrittenMachine = written c.args.inputs.now c.args.outputs.now (map (λ r. named_row r.items) c.args.rows.now) in
    handed_on (SaysMachineFault w) c.from_residual.result c.in_err-rows.field-0.0 c.from_residual.ensures.1 (unknown_fault w c.in_err-rows.field-0.0 c.requires.inputs c.requires.outputs c.in_err-rows.ensures.err)

pub returns-clause-rows : goal.returns-clause-rows
returns-clause-rows c =
    value_holds (λ m. m ≡ mealy_of c.len.result c.len-2.result (map (λ r. r.items) c.in_ok-rows.rows.items)) (λ m. numbered_rows c.args.outputs.now (map (λ r. named_row r.items) c.args.rows.now) ≡ Some m.rows) c.mealy_of.result
    (λ m is. c.in_ok-rows.ensures.ok ∙ ap (λ (m : MealyMachine). Some m.rows) (sym is)) c.mealy_of.ensures.ok

pub returns-clause-err : goal.returns-clause-err
returns-clause-err c =
    let w : WrittenMachine = written c.args.inputs.now c.args.outputs.now (map (λ r. named_row r.items) c.args.rows.now) in
    fault_holds (Told Mealy (IsFaultOfRows c.len.result c.len-2.result (map (λ r. r.items) c.in_ok-rows.rows.items))) (SaysMachineFault w) c.mealy_of.result
    (λ told h. rows_fault w told c.len.result c.len-2.result (map (λ r. r.items) c.in_ok-rows.rows.items) c.requires.inputs c.requires.outputs c.len.ensures.value c.len-2.ensures.value c.in_ok-rows.ensures.ok h) c.mealy_of.ensures.err
