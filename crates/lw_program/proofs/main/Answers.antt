use denote.Exit.{no}
use denote.Param.Send.{param_send, arg_send}
use Rattle.lw_adapters.proofs.Crossing.{real_link_send}
use Rattle.lw_program.proofs.main.Goals as goal

pub run-requires-send-P-Link : goal.run-requires-send-P-Link
run-requires-send-P-Link g c κs = param_send 8 _ (arg_send _ no _ real_link_send)
