use Rattle.std.proofs.Common.{option_map, ap}
use Rattle.lw_learn.proofs.ProbeLemmas.{none_probed}
use Rattle.lw_learn.proofs.probing.probe_named.Goals as goal

pub returns-in-None : goal.returns-in-None
returns-in-None g c = none_probed c.args.role (option_map (λ n. n.now) c.args.name) (g.F.Files.state c.args.files.now) (ap (option_map (λ n. n.now)) c.in-None.is)
