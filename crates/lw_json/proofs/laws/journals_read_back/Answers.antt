use Rattle.lw_json.proofs.JournalBack.{ended, journals_read_back}
use Rattle.lw_json.proofs.laws.journals_read_back.Goals as goal

pub returns : goal.returns
returns c = record { read_back = journals_read_back; ended = ended }
