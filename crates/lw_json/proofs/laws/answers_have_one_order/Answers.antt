use Rattle.lw_json.proofs.WrittenOrder.{one_written_order}
use Rattle.lw_json.proofs.laws.answers_have_one_order.Goals as goal

pub returns : goal.returns
returns c = one_written_order
