use Rattle.std.proofs.Common.{◌∙◌}
use Rattle.lw_tree.proofs.BranchLemmas.{branches_more}
use Rattle.test_tree.proofs.TrialLemmas.{kept_words, steps_kept}
use Rattle.test_tree.proofs.trial.split_by_known.Goals as goal

pub against-requires : goal.against-requires
against-requires g c = kept_words (g.O.Oracle.state c.args.oracle.now) c.in_ok-model.model.inputs (c.in_ok-model.ensures.inputs ∙ c.requires.ready.inputs) c.cache.ensures.keeps c.cache.ensures.kept

pub split-requires-clause-steps : goal.split-requires-clause-steps
split-requires-clause-steps g c =
    let h = c.in_ok-model.model in
    steps_kept (g.O.Oracle.state c.args.oracle.now) c.args.tree.now h.inputs h.rows c.machine_gives_steps.ensures c.access.ensures.tree c.requires.ready c.cache.ensures.keeps c.in_ok-model.ensures.inputs c.in_ok-model.ensures.value c.access.ensures.value

pub split-requires-2-clause-read : goal.split-requires-2-clause-read
split-requires-2-clause-read g c =
    let o = g.O.Oracle.state c.args.oracle.now in
    let n = g.O.Oracle.state c.split.new.oracle in
    let leaves = c.in_ok-cut.ensures.leaves in
    branches_more o.kept leaves.gained n.kept c.args.tree.now leaves.at_end c.requires.ready.read
