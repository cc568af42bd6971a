use Rattle.std.proofs.Common.{List, ℕ, sym, subst}
use Rattle.lw_separate.specs.bodies.Renaming.{Renames, Merges, IsAllStates, NamesStates}
use Rattle.lw_separate.proofs.MergeLemmas.{can_merge, merges, if_ok_map}
use Rattle.lw_separate.proofs.canonical_form.merged.Goals as goal

pub rename-requires : goal.rename-requires
rename-requires c = record {
  can =
      let all : IsAllStates c.args.m.now.rows c.as_slice.result.now = subst (λ (l : List ℕ). IsAllStates c.args.m.now.rows l) (sym c.as_slice.ensures.value) c.in_ok-states.ensures.states in
      let named : NamesStates c.args.m.now.inputs c.args.m.now.rows c.as_slice-2.result.now = subst (λ (l : List ℕ). NamesStates c.args.m.now.inputs c.args.m.now.rows l) (sym c.as_slice-2.ensures.value) c.in_ok-levels.ensures.whole in
      can_merge c.args.m.now.inputs c.args.m.now.rows c.as_slice.result.now c.as_slice-2.result.now c.in_ok-states.ensures.complete.machine c.in_ok-states.ensures.complete.few all named;
}

pub returns-clause-merges : goal.returns-clause-merges
returns-clause-merges c =
    let all : IsAllStates c.args.m.now.rows c.as_slice.result.now = subst (λ (l : List ℕ). IsAllStates c.args.m.now.rows l) (sym c.as_slice.ensures.value) c.in_ok-states.ensures.states in
    let named : NamesStates c.args.m.now.inputs c.args.m.now.rows c.as_slice-2.result.now = subst (λ (l : List ℕ). NamesStates c.args.m.now.inputs c.args.m.now.rows l) (sym c.as_slice-2.ensures.value) c.in_ok-levels.ensures.whole in
    if_ok_map (λ h. Renames c.args.m.now.inputs c.args.m.now.rows c.as_slice.result.now c.as_slice-2.result.now h.rows) (λ h. Merges c.args.m.now.inputs c.args.m.now.rows h.rows) c.rename.result
    (λ h r. merges c.args.m.now.inputs c.args.m.now.rows c.as_slice.result.now c.as_slice-2.result.now h.rows c.in_ok-states.ensures.complete.machine all named r)
    c.rename.ensures.renames
