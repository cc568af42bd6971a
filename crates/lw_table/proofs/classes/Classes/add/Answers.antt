use Rattle.std.proofs.Common.{rules, ◌≡◌, ◌≢◌, ℕ, ◌<◌, List, [], ◌∷◌, ◌++◌, length, nat_eq, ◌&&◌, cond, Some, ap, sym, ◌∙◌, subst}
use Rattle.std.specs.HashMap.{get}
use Rattle.std.specs.List.{All}
use Rattle.std.specs.Str.{bytes_eq}
use Rattle.lw_table.specs.bodies.Classes.{HasEntered}
use Rattle.lw_table.specs.bodies.Numbered.{AreNumbered}
use Rattle.lw_table.specs.bodies.Steps.{step_eq, made, rows_of, AreClasses}
use Rattle.lw_table.specs.declared.classes.Step.{Step}
use Rattle.lw_table.proofs.NumberedLemmas.{numbered_more}
use Rattle.lw_table.proofs.StepLemmas.{one_more, entered_last}
use Rattle.lw_table.proofs.classes.Classes.add.Goals as goal

pub invariant_of-self-2 : goal.invariant_of-self-2
invariant_of-self-2 c =
    let s = c.args.step in
    let steps = c.self.inside.steps.items in
    let grown : c.push_reserved.new.self.items ≡ steps ++ s ∷ [] = c.push_reserved.ensures.items ∙ ap (λ (l : List Step). l ++ s ∷ []) c.reserve.ensures.items in
    let within : s.class < length (rows_of steps) = subst (λ (rows : List (List (List ℕ))). s.class < length rows) (sym c.self.view_is) c.requires.class in
    let new = subst (λ (rows : List (List (List ℕ))). All (λ row. row ≢ made rows s) rows) (sym c.self.view_is) c.requires.new in
    let key : Step = record { class = s.class; outputs = c.in_ok-to_vec.field-0 } in
    let copied : key.outputs.items ≡ s.outputs.items = search rules in
    let last : c.len.result ≡ length steps = search rules in (
      subst AreClasses (sym grown) (one_more steps s c.self.invariant.0 within new),
      subst (λ (l : List Step). AreNumbered step_eq l (get step_eq c.insert.new.self)) (sym grown)
          (numbered_more step_eq steps (get step_eq c.self.inside.places) (get step_eq c.insert.new.self) key s c.self.invariant.1 (λ q. ap (λ (o : List ℕ). nat_eq s.class q.class && bytes_eq o q.outputs.items) copied)
          (λ q. c.in_ok-insert.ensures.updates.0 q ∙ ap (λ (n : ℕ). cond (step_eq key q) (Some n) (get step_eq c.self.inside.places q)) last)),
    )

pub returns-clause-entered : goal.returns-clause-entered
returns-clause-entered c =
    let s = c.args.step in
    let steps = c.self.inside.steps.items in
    let grown : c.push_reserved.new.self.items ≡ steps ++ s ∷ [] = c.push_reserved.ensures.items ∙ ap (λ (l : List Step). l ++ s ∷ []) c.reserve.ensures.items in
    let within : s.class < length (rows_of steps) = subst (λ (rows : List (List (List ℕ))). s.class < length rows) (sym c.self.view_is) c.requires.class in
    let new = subst (λ (rows : List (List (List ℕ))). All (λ row. row ≢ made rows s) rows) (sym c.self.view_is) c.requires.new in
    let now = c.push_reserved.new.self.items in
    let last : c.len-2.result ≡ length now = search rules in
    subst (λ (rows : List (List (List ℕ))). HasEntered rows (rows_of now) s.class s.outputs.items c.len-2.result) c.self.view_is
    (subst (HasEntered (rows_of steps) (rows_of now) s.class s.outputs.items) (sym last) (entered_last steps now s (subst AreClasses (sym grown) (one_more steps s c.self.invariant.0 within new)) within grown))

pub returns-clause-differ : goal.returns-clause-differ
returns-clause-differ c =
    let s = c.args.step in
    let steps = c.self.inside.steps.items in
    let grown : c.push_reserved.new.self.items ≡ steps ++ s ∷ [] = c.push_reserved.ensures.items ∙ ap (λ (l : List Step). l ++ s ∷ []) c.reserve.ensures.items in
    let within : s.class < length (rows_of steps) = subst (λ (rows : List (List (List ℕ))). s.class < length rows) (sym c.self.view_is) c.requires.class in
    let new = subst (λ (rows : List (List (List ℕ))). All (λ row. row ≢ made rows s) rows) (sym c.self.view_is) c.requires.new in
    (subst AreClasses (sym grown) (one_more steps s c.self.invariant.0 within new)).differ
