use Rattle.std.proofs.Common.{rules, ◌≡◌, ◌∙◌, ◌<◌, ℕ, List, length, map, ap, subst, arith, get_or, sym}
use Rattle.lw_mealy.specs.Machine.{cell, MealyMachine, IsWithinLimits}
use Rattle.lw_mealy.proofs.RowLemmas.{is_row, read_row, read_cell, target_below, output_below}
use Rattle.lw_mealy.proofs.mealy.Mealy.step.Goals as goal

pub index-requires-2 : goal.index-requires-2
index-requires-2 c =
    let t : MealyMachine = c.args.self.now in
    let table : IsWithinLimits t = subst (λ (s : MealyMachine). IsWithinLimits s) c.self.view_is c.self.invariant in
    let rows : map (λ r. r.items) c.self.inside.rows.items ≡ t.rows = ap (λ (s : MealyMachine). s.rows) c.self.view_is in
    let at : c.index.result.now ≡ get_or c.self.inside.rows.items c.args.q c.index.result.now = c.index.ensures ∙ ap (λ (i : ℕ). get_or c.self.inside.rows.items i c.index.result.now) c.from.ensures in
    let e : length c.index.result.now.items ≡ t.inputs = ap (λ (r : List (ℕ × ℕ)). length r) (read_row (λ r. r.items) t.rows c.self.inside.rows.items c.args.q c.index.result.now rows c.requires.state at) ∙ (is_row t.inputs t.rows c.args.q table.machine c.requires.state).0 in
    grind (arith, rules)

pub returns : goal.returns
returns c =
    let t : MealyMachine = c.args.self.now in
    let table : IsWithinLimits t = subst (λ (s : MealyMachine). IsWithinLimits s) c.self.view_is c.self.invariant in
    let rows : map (λ r. r.items) c.self.inside.rows.items ≡ t.rows = ap (λ (s : MealyMachine). s.rows) c.self.view_is in
    let at : c.index.result.now ≡ get_or c.self.inside.rows.items c.args.q c.index.result.now = c.index.ensures ∙ ap (λ (i : ℕ). get_or c.self.inside.rows.items i c.index.result.now) c.from.ensures in
    let then : c.index-2.result.now ≡ get_or c.index.result.now.items c.args.x c.index-2.result.now = c.index-2.ensures ∙ ap (λ (i : ℕ). get_or c.index.result.now.items i c.index-2.result.now) c.from-2.ensures in
    let value : c.index-2.result.now ≡ cell t.rows c.args.q c.args.x = read_cell (λ r. r.items) t.inputs t.rows c.self.inside.rows.items c.args.q c.args.x c.index.result.now c.index-2.result.now table.machine rows c.requires.state c.requires.letter at then in
    record {
      value = value;
      state = subst (λ (d : ℕ × ℕ). d.0 < length t.rows) (sym value) (target_below t.inputs t.rows c.args.q c.args.x table.machine c.requires.state c.requires.letter);
      output = subst (λ (d : ℕ × ℕ). d.1 < t.outputs) (sym value) (output_below t c.args.q c.args.x table c.requires.state c.requires.letter);
    }
