use Rattle.std.proofs.Common.{rules, ◌≡◌, ◌∷◌, ℕ}
use Rattle.lw_tree.specs.Tree.{discriminator, node_at}
use Rattle.lw_settle.proofs.ChoiceLemmas.{letter_chosen, fork_inner, fork_chosen}
use Rattle.lw_settle.proofs.parting.parting_word.Goals as goal

pub returns-then-answers_differ : goal.returns-then-answers_differ
returns-then-answers_differ c r are =
    let p = c.args.parting in
    let found = c.answers_differ.ensures.differ c.if-answers_differ.true in
    letter_chosen c.args.tree.now c.access.ensures.tree c.requires.closed c.args.members.now p c.requires.parting found.0 r c.push.new.self (search rules) found.1 found.2 are

pub discriminator-requires : goal.discriminator-requires
discriminator-requires c =
    let same = c.answers_differ.ensures.same c.if-answers_differ.false in
    fork_inner c.args.tree.now c.access.ensures.tree c.requires.closed c.args.members.now c.args.parting c.requires.parting c.requires.members.0 c.fork_of_targets-fork.result c.requires.members.1 same c.fork_of_targets-fork.ensures.fork c.fork_of_targets-fork.ensures.live

pub returns : goal.returns
returns c r are =
    let n : ℕ = c.fork_of_targets-fork.result in
    let same = c.answers_differ.ensures.same c.if-answers_differ.false in
    let word : c.extend.new.self ≡ c.args.parting.letter ∷ discriminator (node_at c.args.tree.now.nodes n).content = search rules in
    fork_chosen c.args.tree.now c.access.ensures.tree c.requires.closed c.args.members.now c.args.parting c.requires.parting r n c.extend.new.self word same c.fork_of_targets-fork.ensures.fork c.fork_of_targets-fork.ensures.live are
