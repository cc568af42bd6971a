use Rattle.std.proofs.Common.{length}
use Rattle.lw_accept.proofs.UnviewLemmas as unviewed
use Rattle.lw_accept.proofs.ViewLemmas as viewed
use Rattle.lw_accept.proofs.laws.views_are_machines.Goals as goal

pub returns : goal.returns
returns c = record {
  machines = λ a m is. (viewed.machine a m is, viewed.states a m is);
  limits = λ m named. viewed.within (length m.inputs) m.automaton named.acceptor named.inputs.1 named.few;
  views = unviewed.views_are_views;
  differ = unviewed.views_differ;
}
