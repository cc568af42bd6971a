use Rattle.std.proofs.Common.{rules, ◌≡◌, ◌<◌, ℕ, subst}
use Rattle.lw_mealy.specs.Machine.{IsMachine, cell}
use Rattle.lw_trial.proofs.CompareLemmas.{row_same}
use Rattle.lw_trial.proofs.comparing.same_row.Goals as goal

pub returns-clause-yes : goal.returns-clause-yes
returns-clause-yes c _ =
    let one = c.args.one.now in
    let other = c.args.other.now in
    let past : c.loop-letter.letter ≡ one.inputs = search rules in
    let machine : IsMachine one.inputs other.rows = subst (λ (a : ℕ). IsMachine a other.rows) c.requires.alphabets c.requires.complete.machine in
    let each : (x : ℕ) → x < one.inputs → cell one.rows c.args.state x ≡ cell other.rows c.args.state x =
    subst (λ (n : ℕ). (x : ℕ) → x < n → cell one.rows c.args.state x ≡ cell other.rows c.args.state x) past c.loop-letter.invariant.same in
    row_same one.inputs c.args.state one.rows other.rows c.inputs-letter-end.ensures.complete.machine machine c.requires.state.0 c.requires.state.1 each
