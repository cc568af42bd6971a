use Rattle.lw_json.proofs.FilesFirstFault.{machines, setups, all_answers}
use Rattle.lw_json.proofs.laws.a_first_fault_is_one.Goals as goal

pub returns : goal.returns
returns c = record { machines = machines; setups = setups; answers = all_answers }
