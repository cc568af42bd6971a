use Rattle.lw_json.proofs.FilesNoFault.{machines, setups, all_answers}
use Rattle.lw_json.proofs.laws.files_have_no_fault.Goals as goal

pub returns : goal.returns
returns c = record { machines = machines; setups = setups; answers = all_answers }
