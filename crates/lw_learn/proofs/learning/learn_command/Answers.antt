use Rattle.std.proofs.Common.{length, refl}
use Rattle.lw_learn.proofs.FoundLemmas.{enough_for, plain_for}
use Rattle.lw_learn.proofs.learning.learn_command.Goals as goal

pub returns-clause-enough : goal.returns-clause-enough
returns-clause-enough g c =
    let s = c.settings-settings in
    enough_for s.result.testing c.args.arguments.now.testing (length c.args.command.now.inputs) (length c.args.command.now.inputs) s.result.extra c.args.arguments.now.extra c.learn_children.result.kept.answers c.learn_children.result.learned s.ensures.testing refl s.ensures.extra c.learn_children.ensures.enough

pub returns-clause-plainly : goal.returns-clause-plainly
returns-clause-plainly g c =
    let s = c.settings-settings in
    let letters = length c.args.command.now.inputs in
    plain_for s.result.kind c.args.arguments.now.learner s.result.testing c.args.arguments.now.testing letters letters s.result.extra c.args.arguments.now.extra s.result.max_states c.args.arguments.now.max_states
    c.args.start.words c.learn_children.result.learned c.args.start.cache.kept c.learn_children.result.kept.answers s.ensures.kind s.ensures.testing refl s.ensures.extra s.ensures.states c.learn_children.ensures.plainly
