use Rattle.lw_outside.proofs.NameLemmas.{no_text_no_number}
use Rattle.lw_outside.proofs.player.number_of_bytes.Goals as goal

pub returns-in-Err : goal.returns-in-Err
returns-in-Err c = no_text_no_number c.args.name.now c.args.inputs.now c.len-names.ensures.names c.in-Err.ensures.cases.0
