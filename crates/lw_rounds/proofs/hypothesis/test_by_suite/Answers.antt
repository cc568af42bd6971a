use Rattle.lw_words.specs.Word.{answers_of}
use Rattle.lw_rounds.proofs.LearnerLemmas.{has_crowd}
use Rattle.lw_rounds.proofs.PlainLemmas.{told_by_form}
use Rattle.lw_rounds.proofs.hypothesis.test_by_suite.Goals as goal

pub test_with-requires-clause-crowd : goal.test_with-requires-clause-crowd
test_with-requires-clause-crowd g c = has_crowd (answers_of (g.O.Oracle.state c.args.oracle.now).kept) c.args.learner.now c.args.hypothesis.now.rows c.access.ensures.learner c.requires.read c.requires.machine

pub test_with-requires-in-Wp-clause-crowd : goal.test_with-requires-in-Wp-clause-crowd
test_with-requires-in-Wp-clause-crowd g c = has_crowd (answers_of (g.O.Oracle.state c.args.oracle.now).kept) c.args.learner.now c.args.hypothesis.now.rows c.access.ensures.learner c.requires.read c.requires.machine

pub test_with-requires-in-H-clause-crowd : goal.test_with-requires-in-H-clause-crowd
test_with-requires-in-H-clause-crowd g c = has_crowd (answers_of (g.O.Oracle.state c.args.oracle.now).kept) c.args.learner.now c.args.hypothesis.now.rows c.access.ensures.learner c.requires.read c.requires.machine

pub returns-in-W-clause-plainly : goal.returns-in-W-clause-plainly
returns-in-W-clause-plainly g c =
    told_by_form c.args.hypothesis.now c.args.settings.testing c.args.settings.extra c.in_ok-model.model (g.O.Oracle.state c.args.oracle.now) (g.O.Oracle.state c.test_with.new.oracle) c.in_ok-model.ensures.alphabets.0 c.in_ok-model.ensures.canonical c.test_with.result c.test_with.ensures.plainly

pub returns-in-Wp-clause-plainly : goal.returns-in-Wp-clause-plainly
returns-in-Wp-clause-plainly g c =
    told_by_form c.args.hypothesis.now c.args.settings.testing c.args.settings.extra c.in_ok-model.model (g.O.Oracle.state c.args.oracle.now) (g.O.Oracle.state c.test_with-in-Wp.new.oracle) c.in_ok-model.ensures.alphabets.0 c.in_ok-model.ensures.canonical c.test_with-in-Wp.result c.test_with-in-Wp.ensures.plainly

pub returns-in-H-clause-plainly : goal.returns-in-H-clause-plainly
returns-in-H-clause-plainly g c =
    told_by_form c.args.hypothesis.now c.args.settings.testing c.args.settings.extra c.in_ok-model.model (g.O.Oracle.state c.args.oracle.now) (g.O.Oracle.state c.test_with-in-H.new.oracle) c.in_ok-model.ensures.alphabets.0 c.in_ok-model.ensures.canonical c.test_with-in-H.result c.test_with-in-H.ensures.plainly
