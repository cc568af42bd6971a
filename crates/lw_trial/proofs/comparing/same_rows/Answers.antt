use Rattle.std.proofs.Common.{rules, ◌≡◌, ◌<◌, ℕ, length, subst}
use Rattle.lw_mealy.specs.Machine.{row}
use Rattle.lw_trial.proofs.CompareLemmas.{rows_same}
use Rattle.lw_trial.proofs.comparing.same_rows.Goals as goal

pub returns-clause-yes : goal.returns-clause-yes
returns-clause-yes c _ =
    let one = c.args.one.now.rows in
    let other = c.args.other.now.rows in
    let past : c.loop-state.state ≡ length one = search rules in
    let long : length one ≡ length other = search rules in
    rows_same one other long (subst (λ (n : ℕ). (q : ℕ) → q < n → row one q ≡ row other q) past c.loop-state.invariant.same)
