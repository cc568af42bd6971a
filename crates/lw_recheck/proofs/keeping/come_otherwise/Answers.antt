use Rattle.std.proofs.Common.{ℕ, Option, Some, ap}
use Rattle.lw_cache.specs.declared.stops.Clash.{Clash}
use Rattle.lw_recheck.proofs.keeping.come_otherwise.Goals as goal

pub returns-in-Ok-clause-kept : goal.returns-in-Ok-clause-kept
returns-in-Ok-clause-kept g c = (
  ap (λ (n : ℕ). let one : Clash = record { first = c.args.other.number; second = n; place = c.args.other.place } in let found : Option Clash = Some one in found) c.len.ensures,
  c.in-Ok.ensures.names,
  c.in-Ok.ensures.ok,
)
