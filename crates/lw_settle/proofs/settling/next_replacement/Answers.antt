use Rattle.std.proofs.Common.{ℕ, ◌≤◌, ◌<◌, List, length, sym, subst}
use Rattle.lw_tree.specs.Tree.{TreeState, IsTree}
use Rattle.lw_settle.specs.bodies.Parting.{number_at, AreRoots, AreLeast, AreAllAlike}
use Rattle.lw_settle.proofs.BlockLemmas.{few_roots}
use Rattle.lw_settle.proofs.ChoiceLemmas.{nothing_parted}
use Rattle.lw_settle.proofs.PickedLemmas.{picked, picked_members, picked_parting, picked_block}
use Rattle.lw_settle.proofs.settling.next_replacement.Goals as goal

pub least_states-requires : goal.least_states-requires
least_states-requires c =
    let t : TreeState = c.args.tree.now in
    let g : IsTree t = c.access.ensures.tree in
    let roots : List ℕ = c.in_ok-roots.roots.items in
    let are : AreRoots t roots = c.in_ok-roots.ensures in
    subst (λ (l : List ℕ). length l ≤ 1024) (sym c.deref.ensures.value) (few_roots t roots g are)

pub returns-in_default : goal.returns-in_default
returns-in_default c =
    let t : TreeState = c.args.tree.now in
    let g : IsTree t = c.access.ensures.tree in
    let roots : List ℕ = c.in_ok-roots.roots.items in
    let are : AreRoots t roots = c.in_ok-roots.ensures in
    let least : List ℕ = c.in_ok-least.least.items in
    let first : AreLeast roots least = subst (λ (l : List ℕ). AreLeast l least) c.deref.ensures.value c.in_ok-least.ensures in
    nothing_parted t g roots are least first
    (subst (λ (l : List ℕ). (q : ℕ) → q < length t.access → AreAllAlike t roots (number_at l q) q) c.deref-3.ensures.value
    (subst (λ (l : List ℕ). (q : ℕ) → q < length t.access → AreAllAlike t l (number_at c.deref-3.result.now q) q) c.deref-2.ensures.value c.in_default.ensures))

pub members_of-requires : goal.members_of-requires
members_of-requires c =
    let t : TreeState = c.args.tree.now in
    let g : IsTree t = c.access.ensures.tree in
    let roots : List ℕ = c.in_ok-roots.roots.items in
    let are : AreRoots t roots = c.in_ok-roots.ensures in
    subst (λ (l : List ℕ). length l ≤ 1024) (sym c.deref-4.ensures.value) (few_roots t roots g are)

pub parting_word-requires-clause-members : goal.parting_word-requires-clause-members
parting_word-requires-clause-members c =
    let w = picked c.in-Some.parting c.access.ensures.tree c.in_ok-roots.ensures c.deref-2.ensures.value c.in-Some.ensures c.from.ensures c.index-root.ensures c.deref-4.ensures.value c.in_ok-members.ensures in
    (c.index-root.result.now, picked_members w c.deref-5.ensures.value)

pub parting_word-requires-clause-parting : goal.parting_word-requires-clause-parting
parting_word-requires-clause-parting c =
    let w = picked c.in-Some.parting c.access.ensures.tree c.in_ok-roots.ensures c.deref-2.ensures.value c.in-Some.ensures c.from.ensures c.index-root.ensures c.deref-4.ensures.value c.in_ok-members.ensures in
    picked_parting w c.deref-5.ensures.value

pub returns : goal.returns
returns c =
    let w = picked c.in-Some.parting c.access.ensures.tree c.in_ok-roots.ensures c.deref-2.ensures.value c.in-Some.ensures c.from.ensures c.index-root.ensures c.deref-4.ensures.value c.in_ok-members.ensures in
    record {
      block = picked_block w c.requires.closed;
      members = w.of;
      chosen = c.in_ok-word.ensures c.index-root.result.now (picked_members w c.deref-5.ensures.value);
    }
