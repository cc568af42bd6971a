use Rattle.std.proofs.Common.{rules, ◌≡◌, ◌-◌, ℕ, List, length, get_or, set, ap, sym, ◌∙◌, subst, arith}
use Rattle.std.proofs.lemmas.List.{get_or_default}
use Rattle.lw_table.specs.bodies.Classes.{row_of, InSingles}
use Rattle.lw_table.proofs.StepLemmas.{class_some, step_within, cell_is, passed, written}
use Rattle.lw_table.proofs.classes.Classes.singles.Goals.{then-place-count, else-place-count}
use Rattle.lw_table.proofs.classes.Classes.singles.Goals as goal

pub overflow_sub-class : goal.overflow_sub-class
overflow_sub-class c =
    let l = c.loop-place in
    let so = subst (λ (rows : List (List (List ℕ))). InSingles rows (row_of c.args.self.now c.args.class) c.args.count l.place l.class l.outputs.items) (sym c.self.view_is) l.invariant in
    let some = class_some c.self.inside.steps.items c.self.invariant.0 (row_of c.args.self.now c.args.class) c.args.count l.place l.class l.outputs.items c.loop-place-test.true so in
    search (rules, some)

pub index-step-requires : goal.index-step-requires
index-step-requires c =
    let l = c.loop-place in
    let so = subst (λ (rows : List (List (List ℕ))). InSingles rows (row_of c.args.self.now c.args.class) c.args.count l.place l.class l.outputs.items) (sym c.self.view_is) l.invariant in
    let inside = step_within c.self.inside.steps.items c.self.invariant.0 (row_of c.args.self.now c.args.class) c.args.count l.place l.class l.outputs.items c.loop-place-test.true so in
    search (rules, inside)

pub index-requires : goal.index-requires
index-requires c =
    let l = c.loop-place in
    let so = subst (λ (rows : List (List (List ℕ))). InSingles rows (row_of c.args.self.now c.args.class) c.args.count l.place l.class l.outputs.items) (sym c.self.view_is) l.invariant in
    let cell = cell_is c.self.inside.steps.items c.self.invariant.0 (row_of c.args.self.now c.args.class) c.args.count l.place l.class l.outputs.items c.loop-place-test.true so c.index-step.result.now c.index-step.ensures in
    let one : length c.index-step.result.now.outputs.items ≡ 1 = ap (λ (o : List ℕ). length o) (sym cell) ∙ c.requires.each (l.place - 1) c.if-place-count.true in
    search (rules, one)

pub loop-place-preserved : goal.loop-place-preserved
loop-place-preserved c =
    let l = c.loop-place in
    let row = row_of c.args.self.now c.args.class in
    let so = subst (λ (rows : List (List (List ℕ))). InSingles rows row c.args.count l.place l.class l.outputs.items) (sym c.self.view_is) l.invariant in
    elim c.if-place-count.branch [
      | then-place-count w ↦
          let t = c.index-step.result.now in
          let cell = cell_is c.self.inside.steps.items c.self.invariant.0 row c.args.count l.place l.class l.outputs.items c.loop-place-test.true so t c.index-step.ensures in
          let one : length t.outputs.items ≡ 1 = ap (λ (o : List ℕ). length o) (sym cell) ∙ c.requires.each (l.place - 1) w.if-place-count.true in
          let value : get_or t.outputs.items 0 0 ≡ w.index.result.now = get_or_default t.outputs.items 0 0 w.index.result.now (omega (arith, one)) ∙ sym w.index.ensures in
          let is : c.if-place-count.outputs.items ≡ set l.outputs.items (l.place - 1) (get_or t.outputs.items 0 0) = search (rules, value, w.outputs-is, w.index_mut.ensures.writes_back) in
          subst (λ (rows : List (List (List ℕ))). InSingles rows row c.args.count (l.place - 1) t.class c.if-place-count.outputs.items) c.self.view_is
          (written c.self.inside.steps.items c.self.invariant.0 row c.args.count l.place l.class l.outputs.items c.loop-place-test.true so t c.index-step.ensures c.if-place-count.outputs.items w.if-place-count.true one is)
      | else-place-count w ↦ subst (λ (rows : List (List (List ℕ))). InSingles rows row c.args.count (l.place - 1) c.index-step.result.now.class c.if-place-count.outputs.items) c.self.view_is
          (rw w.outputs-is (passed c.self.inside.steps.items c.self.invariant.0 row c.args.count l.place l.class l.outputs.items c.loop-place-test.true so c.index-step.result.now c.index-step.ensures w.if-place-count.false))
    ]
