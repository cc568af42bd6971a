use Rattle.lw_words.proofs.Orders.{is_order}
use Rattle.lw_words.proofs.order.shortlex_is_an_order.Goals as goal

pub returns : goal.returns
returns c = is_order
