use Rattle.std.proofs.Common.{◌≡◌, ℕ, subst, sym, ap, ◌∙◌}
use Rattle.lw_mealy.specs.Machine.{Differ, after}
use Rattle.lw_separate.specs.Canonical.{IsSeparatingWord}
use Rattle.lw_apart.proofs.ExistenceMissing.{states_differ}
use Rattle.lw_apart.proofs.apart.separating_suffix.Goals as goal

pub unreachable-requires : goal.unreachable-requires
unreachable-requires c =
    let m = c.args.h.now in
    let none : ¬ Differ m.inputs m.rows c.after-p.result c.after-q.result =
    subst (IsSeparatingWord m.inputs m.rows c.after-p.result c.after-q.result) c.in_default.is c.in_ok-found.ensures in
    let p : c.after-p.result ≡ after m.rows 0 c.args.one.now = c.after-p.ensures.value ∙ ap (λ (s : ℕ). after m.rows s c.args.one.now) c.initial.ensures.value in
    let q : c.after-q.result ≡ after m.rows 0 c.args.other.now = c.after-q.ensures.value ∙ ap (λ (s : ℕ). after m.rows s c.args.other.now) c.initial-2.ensures.value in
    none (states_differ m.inputs m.rows c.requires.minimal c.after-p.result c.after-q.result c.after-p.ensures.state c.after-q.ensures.state (λ same. c.requires.differ (sym p ∙ (same ∙ q))))
