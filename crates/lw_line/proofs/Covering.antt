-- How many lines runs take.
use Rattle.std.proofs.Common.{◌≡◌, ◌⊎◌, ⊎_elim, ℕ, ◌+◌, ◌<◌, List, [], ◌∷◌, length, Bool, true, false, cond, Option, Some, None, inl, inr, refl, ap, sym, ◌∙◌, subst, codes, arith}
use Rattle.std.specs.Str.{bytes_eq}
use Rattle.std.specs.Str.Lines.{strip_carriage_return}
use Rattle.std.proofs.lemmas.Bool.{false≢true}
use Rattle.std.proofs.lemmas.List.{length_push}
use Rattle.std.proofs.lemmas.List.Sums.{sum_by-append, sum_by-cons}
use Rattle.std.proofs.lemmas.Option.{none-some, same_Some}
use Rattle.std.proofs.lemmas.Slice.Eq.{bytes_eq-Decides}
use Rattle.lw_sul.specs.Runs.{after_reset, after_step, stepped}
use Rattle.lw_sul.specs.declared.runs.Run.{Run}
use Rattle.lw_outside.specs.Protocol.{reset_line, ready_line}
use Rattle.lw_line.specs.Transcripts.{exchanged, lines_taken_by, number_behind, ready_runs, stepped_runs}
use Rattle.lw_line.specs.bodies.Standing.{BeginsWell, Spells}

reset_lines : (rs : List Run) → lines_taken_by (after_reset rs) ≡ lines_taken_by rs + 1
reset_lines rs = sum_by-append (λ (r : Run). 1 + length r.word) rs (record { word = []; outs = [] } ∷ []) ∙ ap (λ (n : ℕ). lines_taken_by rs + n) (sum_by-cons (λ (r : Run). 1 + length r.word) (record { word = []; outs = [] }) [])

step_lines : (x y : ℕ) (rs : List Run) → 0 < length rs → (lines_taken_by (after_step x y rs) ≡ lines_taken_by rs + 1) × (0 < length (after_step x y rs))
step_lines x y [] lt = absurd (omega (arith, lt))
step_lines x y (r ∷ []) lt =
    (omega (arith, sum_by-cons (λ (q : Run). 1 + length q.word) (stepped r x y) [], sum_by-cons (λ (q : Run). 1 + length q.word) r [], length_push r.word x), omega arith)
step_lines x y (r ∷ s ∷ rs) lt =
    (omega (arith, (step_lines x y (s ∷ rs) (omega arith)).0, sum_by-cons (λ (q : Run). 1 + length q.word) r (after_step x y (s ∷ rs)), sum_by-cons (λ (q : Run). 1 + length q.word) r (s ∷ rs)), omega arith)

-- a good answer adds a line
exchange_lines : (inputs names : List (List ℕ)) (rs : List Run) (sent answer : List ℕ) (mid : List Run) → exchanged inputs names rs sent answer ≡ Some mid → (0 < length rs) ⊎ (sent ≡ reset_line) → (lines_taken_by mid ≡ lines_taken_by rs + 1) × (0 < length mid)
exchange_lines inputs names rs sent answer mid is well = by (bytes_eq sent reset_line) refl is
  where
    ready : (b : Bool) → cond b (Some (after_reset rs)) None ≡ Some mid → (lines_taken_by mid ≡ lines_taken_by rs + 1) × (0 < length mid)
    ready true e =
        subst (λ (l : List Run). (lines_taken_by l ≡ lines_taken_by rs + 1) × (0 < length l)) (same_Some (after_reset rs) mid e)
        (reset_lines rs, omega (arith, length_push rs (record { word = []; outs = [] })))
    ready false e = absurd (none-some mid e)

    steps : (x y : Option ℕ) → 0 < length rs → stepped_runs rs x y ≡ Some mid → (lines_taken_by mid ≡ lines_taken_by rs + 1) × (0 < length mid)
    steps (Some x) (Some y) lt e = subst (λ (l : List Run). (lines_taken_by l ≡ lines_taken_by rs + 1) × (0 < length l)) (same_Some (after_step x y rs) mid e) (step_lines x y rs lt)
    steps (Some x) None lt e = absurd (none-some mid e)
    steps None y lt e = absurd (none-some mid e)

    by : (b : Bool) → bytes_eq sent reset_line ≡ b → cond b (ready_runs rs answer) (stepped_runs rs (number_behind (codes "in ") inputs sent) (number_behind (codes "out ") names answer)) ≡ Some mid → (lines_taken_by mid ≡ lines_taken_by rs + 1) × (0 < length mid)
    by true t e = ready (bytes_eq answer ready_line) e
    by false t e =
        ⊎_elim (λ (lt : 0 < length rs). steps (number_behind (codes "in ") inputs sent) (number_behind (codes "out ") names answer) lt e)
        (λ (same : sent ≡ reset_line). absurd (false≢true (sym t ∙ (bytes_eq-Decides sent reset_line).1 same)))
        well

-- lines with their answers, after some runs or from a reset on
spelled_lines : (inputs names : List (List ℕ)) (rs : List Run) (ss rr : List (List ℕ)) (now : List Run) → Spells inputs names rs ss rr now → (0 < length rs) ⊎ BeginsWell false ss → lines_taken_by now ≡ lines_taken_by rs + length ss
spelled_lines inputs names rs [] [] now h well = omega (arith, ap (λ (l : List Run). lines_taken_by l) h)
spelled_lines inputs names rs [] (r ∷ rr) now h well = absurd h
spelled_lines inputs names rs (s ∷ ss) [] now h well = absurd h
spelled_lines inputs names rs (s ∷ ss) (r ∷ rr) now h well =
    let one = exchange_lines inputs names rs s (strip_carriage_return r) h.0 h.1 well in
    omega (arith, one.0, spelled_lines inputs names h.0 ss rr now h.2 (inl one.1))

begins_anyhow : (started : Bool) (lines : List (List ℕ)) → BeginsWell started lines → BeginsWell false lines
begins_anyhow false lines well = well
begins_anyhow true [] well = tt
begins_anyhow true (l ∷ ls) well = well

-- the runs of lines that are all answered take as many lines
pub all_covered : (inputs names : List (List ℕ)) (started : Bool) (lines answers : List (List ℕ)) (runs : List Run) → BeginsWell started lines → Spells inputs names [] lines answers runs → lines_taken_by runs ≡ length lines
all_covered inputs names started lines answers runs well h =
    let e = spelled_lines inputs names [] lines answers runs h (inr (begins_anyhow started lines well)) in
    omega (arith, e)
