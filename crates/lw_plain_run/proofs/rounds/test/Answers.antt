use Rattle.std.proofs.Common.{Some}
use Rattle.lw_plain.specs.Tested.{TestsWords}
use Rattle.lw_plain_run.specs.Run.{task_of}
use Rattle.lw_plain.proofs.RoundLemmas.{suite_refines}
use Rattle.lw_plain_run.proofs.RoundLemmas.{failed_word}
use Rattle.lw_plain_run.proofs.rounds.test.Goals as goal

pub test_suite-requires-clause-letters : goal.test_suite-requires-clause-letters
test_suite-requires-clause-letters c = c.suite_is_of_words.ensures c.args.m.now.inputs c.args.model.rows c.args.limits.extra c.args.suite.now c.requires.made.of_model

pub refine-requires-clause-letters : goal.refine-requires-clause-letters
refine-requires-clause-letters c =
    let m = c.args.m.now.rows in
    let h = c.args.h.now.rows in
    let a = c.args.m.now.inputs in
    let tests : TestsWords m h c.args.suite.now c.args.table.now c.test_suite.new.table (Some c.in-Some.word) = rw c.in-Some.is at c.in_ok-word.ensures.tests in
    failed_word a m h c.args.suite.now (c.suite_is_of_words.ensures a c.args.model.rows c.args.limits.extra c.args.suite.now c.requires.made.of_model) c.in-Some.word tests.asked tests.comes

pub returns-in_ok-refine-in-Some-clause-round : goal.returns-in_ok-refine-in-Some-clause-round
returns-in_ok-refine-in-Some-clause-round c =
    let m = c.args.m.now.rows in
    let h = c.args.h.now.rows in
    let tests : TestsWords m h c.args.suite.now c.args.table.now c.test_suite.new.table (Some c.in-Some.word) = rw c.in-Some.is at c.in_ok-word.ensures.tests in
    suite_refines (task_of c.args.m.now c.args.limits.extra c.args.limits.most) h c.args.table.now c.requires.rows c.requires.ready c.args.model.rows c.args.suite.now c.requires.made c.in-Some.word c.test_suite.new.table tests
    c.refine.new.table c.in_ok-refine-in-Some.ensures.refined
