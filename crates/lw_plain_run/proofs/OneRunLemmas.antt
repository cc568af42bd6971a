-- The slow learner has one answer at most, since the learner of the definition comes to one end at most.
use Rattle.std.proofs.Common.{◌≡◌, ℕ, List, ap, sym, ◌∙◌}
use Rattle.lw_mealy.specs.Machine.{Rows, MealyMachine}
use Rattle.lw_plain.specs.Ends.{Learned, Crowd, TooLarge}
use Rattle.lw_plain.proofs.OneLemmas.{one_plain_end}
use Rattle.lw_plain_run.specs.Run.{task_of, IsAlike, OnePlainRun}
use Rattle.lw_plain_run.specs.declared.run.PlainRun.TheVariants as run

-- models of one machine's letters and outputs are one where their rows are
one_model : (m c d : MealyMachine) → IsAlike m c → IsAlike m d → c.rows ≡ d.rows → c ≡ d
one_model m c d p q rows =
    let inputs : c.inputs ≡ d.inputs = p.0 ∙ sym q.0 in
    let outputs : c.outputs ≡ d.outputs = p.1 ∙ sym q.1 in
    ap (λ (n : ℕ). record c { inputs = n }) inputs
    ∙ (ap (λ (n : ℕ). let e : MealyMachine = record { inputs = d.inputs; outputs = n; rows = c.rows } in e) outputs
    ∙ ap (λ (n : Rows). let e : MealyMachine = record { inputs = d.inputs; outputs = d.outputs; rows = n } in e) rows)

same_learned : (c d : Rows) (i j : ℕ) (p q : List (List (List ℕ))) → Learned c i p ≡ Learned d j q → (c ≡ d) × (i ≡ j) × (p ≡ q)
same_learned c d i j p q e = (cc, cc, cc)

same_crowd : (u v : List (List ℕ)) (p q : List (List (List ℕ))) → Crowd u p ≡ Crowd v q → (u ≡ v) × (p ≡ q)
same_crowd u v p q e = (cc, cc)

same_large : (c d : Rows) (i j : ℕ) (p q : List (List (List ℕ))) → TooLarge c i p ≡ TooLarge d j q → (c ≡ d) × (i ≡ j) × (p ≡ q)
same_large c d i j p q e = (cc, cc, cc)

pub one_plain_run : OnePlainRun
one_plain_run m extra most given (run.Learned c i p) (run.Learned d j q) f g =
    let same = same_learned c.rows d.rows i j p q (one_plain_end (task_of m extra most) given (Learned c.rows i p) (Learned d.rows j q) f.1 g.1) in
    let model : c ≡ d = one_model m c d f.0 g.0 same.0 in
    let count : i ≡ j = same.1 in
    let batches : p ≡ q = same.2 in
    cc
one_plain_run m extra most given (run.Learned c i p) (run.Crowd v q) f g =
    let e : Learned c.rows i p ≡ Crowd v q = one_plain_end (task_of m extra most) given (Learned c.rows i p) (Crowd v q) f.1 g in absurd (cc)
one_plain_run m extra most given (run.Learned c i p) (run.TooLarge d j q) f g =
    let e : Learned c.rows i p ≡ TooLarge d.rows j q = one_plain_end (task_of m extra most) given (Learned c.rows i p) (TooLarge d.rows j q) f.1 g.1 in absurd (cc)
one_plain_run m extra most given (run.Crowd u p) (run.Learned d j q) f g =
    let e : Crowd u p ≡ Learned d.rows j q = one_plain_end (task_of m extra most) given (Crowd u p) (Learned d.rows j q) f g.1 in absurd (cc)
one_plain_run m extra most given (run.Crowd u p) (run.Crowd v q) f g =
    let same = same_crowd u v p q (one_plain_end (task_of m extra most) given (Crowd u p) (Crowd v q) f g) in
    let words : u ≡ v = same.0 in
    let batches : p ≡ q = same.1 in
    cc
one_plain_run m extra most given (run.Crowd u p) (run.TooLarge d j q) f g =
    let e : Crowd u p ≡ TooLarge d.rows j q = one_plain_end (task_of m extra most) given (Crowd u p) (TooLarge d.rows j q) f g.1 in absurd (cc)
one_plain_run m extra most given (run.TooLarge c i p) (run.Learned d j q) f g =
    let e : TooLarge c.rows i p ≡ Learned d.rows j q = one_plain_end (task_of m extra most) given (TooLarge c.rows i p) (Learned d.rows j q) f.1 g.1 in absurd (cc)
one_plain_run m extra most given (run.TooLarge c i p) (run.Crowd v q) f g =
    let e : TooLarge c.rows i p ≡ Crowd v q = one_plain_end (task_of m extra most) given (TooLarge c.rows i p) (Crowd v q) f.1 g in absurd (cc)
one_plain_run m extra most given (run.TooLarge c i p) (run.TooLarge d j q) f g =
    let same = same_large c.rows d.rows i j p q (one_plain_end (task_of m extra most) given (TooLarge c.rows i p) (TooLarge d.rows j q) f.1 g.1) in
    let model : c ≡ d = one_model m c d f.0 g.0 same.0 in
    let count : i ≡ j = same.1 in
    let batches : p ≡ q = same.2 in
    cc
