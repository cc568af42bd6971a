use Rattle.std.proofs.Common.{ℕ, sym, subst}
use Rattle.lw_mealy.specs.Machine.{IsMinimal}
use Rattle.lw_separate.specs.Canonical.{IsCanonical}
use Rattle.lw_separate.proofs.MergeLemmas.{merges_itself}
use Rattle.lw_separate.proofs.canonical_form.renumbered.Goals as goal

pub returns-clause-canonical : goal.returns-clause-canonical
returns-clause-canonical c = c.in_ok-c.ensures.numbers c.args.m.now.rows (merges_itself c.args.m.now.inputs c.args.m.now.rows c.in_ok-c.ensures.limits.machine c.requires.minimal)

pub returns-clause-minimal : goal.returns-clause-minimal
returns-clause-minimal c =
    let whole : IsCanonical c.args.m.now.inputs c.args.m.now.rows c.in_ok-c.c.rows = returns-clause-canonical c in
    subst (λ (a : ℕ). IsMinimal a c.in_ok-c.c.rows) (sym c.in_ok-c.ensures.alphabets.0) whole.minimal
