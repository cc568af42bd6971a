use Rattle.std.proofs.Common.{rules, ◌≡◌, ℕ, ◌<◌, true, subst}
use Rattle.lw_tree.specs.Blocks.{IsMember}
use Rattle.lw_tree.specs.Tree.{TreeState, node_at, is_temporary}
use Rattle.lw_learner_tests.proofs.MayLemmas.{letter_may}
use Rattle.lw_learner_tests.proofs.tests.tree.replacing.may_replace.Goals as goal

pub returns : goal.returns
returns c told ks read =
    let u : TreeState = c.args.tree.now in
    let x = c.args.letter in
    let found = c.closed_has_machine.ensures u c.states-states.ensures.tree c.requires.closed in
    let small : x < u.inputs = search rules in
    let root : c.class_root-root.result ≡ 0 = search rules in
    let other_root : c.class_root.result ≡ 0 = search rules in
    let temporary : is_temporary (node_at u.nodes 0).content ≡ true = search rules in
    letter_may ks u found.0 x found.1 read small c.args.one c.args.other temporary
    (subst (λ (r : ℕ). IsMember u r c.args.one) root c.class_root-root.ensures)
    (subst (λ (r : ℕ). IsMember u r c.args.other) other_root c.class_root.ensures)
    (c.differ.ensures told found.0 found.1)
