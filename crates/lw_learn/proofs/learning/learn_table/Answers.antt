use Rattle.std.proofs.Common.{length}
use Rattle.lw_learn.proofs.FoundLemmas.{enough_for, plain_for}
use Rattle.lw_learn.proofs.learning.learn_table.Goals as goal

pub returns-clause-enough : goal.returns-clause-enough
returns-clause-enough g c =
    let s = c.settings-settings in
    enough_for s.result.testing c.args.arguments.now.testing c.args.machine.now.mealy.inputs (length c.args.machine.now.inputs) s.result.extra c.args.arguments.now.extra c.learn_machine.result.kept.answers c.learn_machine.result.learned s.ensures.testing c.args.machine.now.named.0 s.ensures.extra c.learn_machine.ensures.enough

pub returns-clause-plainly : goal.returns-clause-plainly
returns-clause-plainly g c =
    let s = c.settings-settings in
    plain_for s.result.kind c.args.arguments.now.learner s.result.testing c.args.arguments.now.testing c.args.machine.now.mealy.inputs (length c.args.machine.now.inputs) s.result.extra c.args.arguments.now.extra s.result.max_states c.args.arguments.now.max_states
    c.args.start.words c.learn_machine.result.learned c.args.start.cache.kept c.learn_machine.result.kept.answers s.ensures.kind s.ensures.testing c.args.machine.now.named.0 s.ensures.extra s.ensures.states c.learn_machine.ensures.plainly
