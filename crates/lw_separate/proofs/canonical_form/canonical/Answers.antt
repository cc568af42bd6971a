use Rattle.std.proofs.Common.{ℕ, sym, ◌∙◌, subst}
use Rattle.lw_mealy.specs.Machine.{IsMinimal}
use Rattle.lw_separate.specs.Canonical.{IsCanonical}
use Rattle.lw_separate.specs.bodies.Renaming.{Merges}
use Rattle.lw_separate.proofs.canonical_form.canonical.Goals as goal

pub returns-clause-canonical : goal.returns-clause-canonical
returns-clause-canonical c =
    let same = c.in_ok-h.ensures.alphabets.0 in
    let g : Merges c.in_ok-h.h.inputs c.args.m.now.rows c.in_ok-h.h.rows = subst (λ (a : ℕ). Merges a c.args.m.now.rows c.in_ok-h.h.rows) (sym same) c.in_ok-h.ensures.merges in
    subst (λ (a : ℕ). IsCanonical a c.args.m.now.rows c.in_ok-c.c.rows) same (c.in_ok-c.ensures.numbers c.args.m.now.rows g)

pub returns-clause-minimal : goal.returns-clause-minimal
returns-clause-minimal c =
    let whole : IsCanonical c.args.m.now.inputs c.args.m.now.rows c.in_ok-c.c.rows = returns-clause-canonical c in
    subst (λ (a : ℕ). IsMinimal a c.in_ok-c.c.rows) (sym (c.in_ok-c.ensures.alphabets.0 ∙ c.in_ok-h.ensures.alphabets.0)) whole.minimal
