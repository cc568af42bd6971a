use Rattle.std.proofs.Common.{rules, ◌≡◌, ℕ, List, [], ◌∷◌, ◌++◌, length, map, ap, sym, ◌∙◌, subst}
use Rattle.std.proofs.lemmas.List.{map-append}
use Rattle.lw_mealy.specs.Machine.{MealyMachine}
use Rattle.lw_tree.specs.Tree.{TreeState, IsTree, IsMachineOf}
use Rattle.lw_tree.specs.bodies.Nodes.{tree_of}
use Rattle.lw_tree.specs.bodies.Transitions.{AreStates}
use Rattle.lw_tree.proofs.MachineLemmas.{states_more, is_machine_of, within_limits}
use Rattle.lw_tree.proofs.tree.DiscriminationTree.machine.Goals as goal

pub loop-state-preserved : goal.loop-state-preserved
loop-state-preserved c =
    let l = c.loop-state in
    let grown : c.push.new.self.items ≡ l.rows.items ++ c.in_ok-steps.field-0 ∷ [] = search rules in
    states_more c.args.self.now l.state c.in_ok-steps.field-0.items (map (λ r. r.items) l.rows.items) (map (λ r. r.items) c.push.new.self.items) l.invariant c.in_ok-steps.ensures
    (ap (λ (rs : List _). map (λ r. r.items) rs) grown ∙ map-append (λ r. r.items) l.rows.items (c.in_ok-steps.field-0 ∷ []))

pub of_rows-requires : goal.of_rows-requires
of_rows-requires c =
    let l = c.loop-state in
    let s = c.self.inside in
    let rows = map (λ r. r.items) l.rows.items in
    let done : l.state ≡ length s.access = search rules in
    let t : TreeState = tree_of s.inputs s.outputs s.most s.access s.nodes.items s.leaves.items s.places.items s.spanning.items s.refinements in
    let all : AreStates t (length t.access) rows = subst (λ (n : ℕ). AreStates t n rows) done (subst (λ (v : TreeState). AreStates v l.state rows) (sym c.self.view_is) l.invariant) in
    within_limits t rows c.self.invariant.tree all

pub returns : goal.returns
returns c =
    let l = c.loop-state in
    let s = c.self.inside in
    let rows = map (λ r. r.items) l.rows.items in
    let done : l.state ≡ length s.access = search rules in
    let u : TreeState = c.args.self.now in
    let g : IsTree u = subst (λ (v : TreeState). IsTree v) c.self.view_is c.self.invariant.tree in
    let count : l.state ≡ length u.access = done ∙ ap (λ (v : TreeState). length v.access) c.self.view_is in
    let all : AreStates u (length u.access) rows = subst (λ (n : ℕ). AreStates u n rows) count l.invariant in
    let is = c.of_rows.ensures in
    record {
      value = subst (λ (m : MealyMachine). IsMachineOf u m.rows) (sym is) (is_machine_of u rows g all);
      inputs = ap (λ (m : MealyMachine). m.inputs) is ∙ ap (λ (v : TreeState). v.inputs) c.self.view_is;
      outputs = ap (λ (m : MealyMachine). m.outputs) is ∙ ap (λ (v : TreeState). v.outputs) c.self.view_is;
    }
