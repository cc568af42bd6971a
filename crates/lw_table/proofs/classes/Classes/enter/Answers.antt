use Rattle.std.proofs.Common.{rules, ◌≢◌, ◌<◌, ◌+◌, ℕ, List, [], length, append-nil, sym, subst}
use Rattle.std.specs.HashMap.{get}
use Rattle.std.specs.List.{All}
use Rattle.lw_table.specs.bodies.Classes.{HasEntered}
use Rattle.lw_table.specs.bodies.Steps.{step_eq, made, rows_of}
use Rattle.lw_table.specs.declared.classes.Step.{Step}
use Rattle.lw_table.proofs.NumberedLemmas.{found_at, not_found}
use Rattle.lw_table.proofs.StepLemmas.{new_row, entered}
use Rattle.lw_table.proofs.classes.Classes.enter.Goals as goal

pub overflow_add-result : goal.overflow_add-result
overflow_add-result c =
    let s : Step = record { class = c.args.class; outputs = c.args.outputs } in
    let at = found_at step_eq c.self.inside.steps.items (get step_eq c.self.inside.places) s c.in-Some.place.now c.self.invariant.1 c.in-Some.ensures.value in
    search (rules, at.0)

pub returns-in-Some-clause-entered : goal.returns-in-Some-clause-entered
returns-in-Some-clause-entered c =
    let s : Step = record { class = c.args.class; outputs = c.args.outputs } in
    let steps = c.self.inside.steps.items in
    let within : s.class < length (rows_of steps) = subst (λ (rows : List (List (List ℕ))). s.class < length rows) (sym c.self.view_is) c.requires.class in
    let at = found_at step_eq steps (get step_eq c.self.inside.places) s c.in-Some.place.now c.self.invariant.1 c.in-Some.ensures.value in
    subst (λ (rows : List (List (List ℕ))). HasEntered rows rows s.class s.outputs.items (c.in-Some.place.now + 1)) c.self.view_is
    (entered steps steps s c.in-Some.place.now c.self.invariant.0 within [] (sym (append-nil steps)) at.0 at.1)

pub add-requires-clause-new : goal.add-requires-clause-new
add-requires-clause-new c =
    let s : Step = record { class = c.args.class; outputs = c.args.outputs } in
    let steps = c.self.inside.steps.items in
    let within : s.class < length (rows_of steps) = subst (λ (rows : List (List (List ℕ))). s.class < length rows) (sym c.self.view_is) c.requires.class in
    subst (λ (rows : List (List (List ℕ))). All (λ row. row ≢ made rows s) rows) c.self.view_is
    (new_row steps s c.self.invariant.0 within (not_found step_eq steps (get step_eq c.self.inside.places) s c.self.invariant.1 c.in_default.ensures.value))
