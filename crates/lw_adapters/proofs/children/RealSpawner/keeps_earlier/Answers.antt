use Rattle.std.proofs.Common.{◌<◌}
use Rattle.std.proofs.lemmas.List.Elements.{All-map}
use Rattle.lw_outside.specs.Links.{LinkState}
use Rattle.lw_adapters.proofs.children.RealSpawner.keeps_earlier.Goals as goal

pub returns : goal.returns
returns g c = All-map (λ (r : LinkState). r.number < c.args.self.now.started) _ c.args.self.now.retired.items c.args.self.now.earlier
