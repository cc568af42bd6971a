use Rattle.std.proofs.Common.{rules, ◌≡◌, ◌<◌, ℕ, length, ap, ◌∙◌, subst}
use Rattle.std.proofs.lemmas.List.Elements.{All-contains}
use Rattle.lw_tree.specs.Tree.{leaf_at}
use Rattle.lw_settle.proofs.BlockLemmas.{IsForkTo, fork_first, fork_more, fork_ends}
use Rattle.lw_settle.proofs.parting.fork_of_targets.Goals as goal

pub loop-member-init : goal.loop-member-init
loop-member-init c = record {
  live = c.leaf-fork.ensures.live;
  fork = λ m is. fork_first c.args.tree.now m c.access.ensures.tree is c.args.members.now c.args.letter c.requires.letter c.requires.members c.args.one c.leaf-fork.result (c.leaf-fork.ensures.value ∙ ap (leaf_at c.args.tree.now.leaves) (c.step.ensures.step m is).0);
}

pub loop-member-preserved : goal.loop-member-preserved
loop-member-preserved c =
    let l = c.loop-member in
    let t = c.args.tree.now in
    let members = c.args.members.now in
    let one : c.args.one < length t.access = All-contains (λ q. q < length t.access) members c.args.one c.requires.members c.requires.one in
    let lt : l.member-index < length members = search rules in
    record {
      live = c.fork-fork.ensures.live;
      fork = λ m is. fork_more t m c.access.ensures.tree is members c.args.letter c.requires.letter c.requires.members c.args.one l.member-index l.fork c.leaf.result c.fork-fork.result one lt
          (c.leaf.ensures.value ∙ ap (leaf_at t.leaves) (c.step-in-loop-member.ensures.step m is).0) (l.invariant.fork m is) c.fork-fork.ensures.fork;
    }

pub returns-clause-fork : goal.returns-clause-fork
returns-clause-fork c m is =
    let l = c.loop-member in
    let t = c.args.tree.now in
    let members = c.args.members.now in
    let all : l.member-index ≡ length members = search rules in
    fork_ends t m c.access.ensures.tree is members c.args.letter c.requires.letter c.requires.members c.args.one l.fork c.requires.one (subst (λ (n : ℕ). IsForkTo t m members c.args.letter c.args.one n l.fork) all (l.invariant.fork m is))
