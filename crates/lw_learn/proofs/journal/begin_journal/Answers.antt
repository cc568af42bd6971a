use Rattle.std.proofs.Common.{inl, refl}
use Rattle.lw_learn.proofs.journal.begin_journal.Goals as goal

pub returns-in_default-clause-begun : goal.returns-in_default-clause-begun
returns-in_default-clause-begun g c = (c.args.arguments.prior, inl refl, refl)

pub returns-else-eq-clause-begun : goal.returns-else-eq-clause-begun
returns-else-eq-clause-begun g c = (c.args.arguments.prior, inl refl, refl)
