use Rattle.std.proofs.Common.{None, rules}
use Rattle.lw_words.specs.Word.{answers_of}
use Rattle.std.specs.Prelude.{⊤}
use Rattle.lw_cache.proofs.SettlingLemmas.{leaves_then}
use Rattle.lw_rounds.specs.Learner.{inputs_of, outputs_of, most_of}
use Rattle.lw_rounds.specs.Stops.{of_growth}
use Rattle.lw_rounds.specs.bodies.Rounds.{StopsFrom}
use Rattle.lw_rounds.proofs.StopLemmas.{leaves_learn_grown}
use Rattle.lw_rounds.proofs.RoundLemmas.{growth_as, few_tested, ready_more, is_learned, tested_stops, told_stops}
use Rattle.lw_rounds.proofs.PlainLemmas.{goes_by_suite, ends_by_suite}
use Rattle.lw_rounds.proofs.rounds.round_by_suite.Goals as goal

pub refine-requires-clause-ready : goal.refine-requires-clause-ready
refine-requires-clause-ready g c = ready_more (g.O.Oracle.state c.args.oracle.now) (g.O.Oracle.state c.test_by_suite.new.oracle) c.args.learner.now c.in_ok-word.ensures.leaves c.requires.ready

pub returns-in_err-refine-in-Differs-clause-leaves : goal.returns-in_err-refine-in-Differs-clause-leaves
returns-in_err-refine-in-Differs-clause-leaves g c =
    leaves_learn_grown ⊤ (g.O.Oracle.state c.args.oracle.now) (g.O.Oracle.state c.refine.new.oracle) c.in_err-refine-in-Differs.field-0.0 c.from_residual-in_err-refine-in-Differs.result
    (leaves_then (g.O.Oracle.state c.args.oracle.now) (g.O.Oracle.state c.test_by_suite.new.oracle) (g.O.Oracle.state c.refine.new.oracle) _ c.in_ok-word.ensures.leaves c.in_err-refine-in-Differs.ensures.leaves) (search rules)

pub returns-in_ok-refine-in-Differs-clause-leaves : goal.returns-in_ok-refine-in-Differs-clause-leaves
returns-in_ok-refine-in-Differs-clause-leaves g c =
    leaves_then (g.O.Oracle.state c.args.oracle.now) (g.O.Oracle.state c.test_by_suite.new.oracle) (g.O.Oracle.state c.refine.new.oracle) None c.in_ok-word.ensures.leaves c.in_ok-refine-in-Differs.ensures.leaves

pub returns-in-Sure-clause-ready : goal.returns-in-Sure-clause-ready
returns-in-Sure-clause-ready g c = ready_more (g.O.Oracle.state c.args.oracle.now) (g.O.Oracle.state c.test_by_suite.new.oracle) c.args.learner.now c.in_ok-word.ensures.leaves c.requires.ready

pub returns-in-Sure-clause-goes : goal.returns-in-Sure-clause-goes
returns-in-Sure-clause-goes g c =
    let before = g.O.Oracle.state c.args.oracle.now in
    let now = g.O.Oracle.state c.test_by_suite.new.oracle in
    let l = c.args.learner.now in
    is_learned now l c.args.hypothesis.now c.in-Sure.model c.args.settings.testing c.args.settings.extra (ready_more before now l c.in_ok-word.ensures.leaves c.requires.ready) c.requires.settled
    c.requires.machine c.inputs.ensures.complete.machine c.requires.inputs c.requires.outputs (rw c.in-Sure.is at c.in_ok-word.ensures.tested)

pub returns-in_err-refine-in-Differs-clause-stops : goal.returns-in_err-refine-in-Differs-clause-stops
returns-in_err-refine-in-Differs-clause-stops g c =
    let l = c.args.learner.now in
    let ks = answers_of (g.O.Oracle.state c.refine.new.oracle).kept in
    let stop = c.in_err-refine-in-Differs.field-0.0 in
    told_stops (StopsFrom l c.args.settings.extra ks) (of_growth stop) c.from_residual-in_err-refine-in-Differs.result (search rules) (growth_as (inputs_of l) (outputs_of l) c.args.settings.extra (most_of l) ks stop c.in_err-refine-in-Differs.ensures.stops)

pub returns-in_err-word-clause-stops : goal.returns-in_err-word-clause-stops
returns-in_err-word-clause-stops g c =
    let l = c.args.learner.now in
    let h = c.args.hypothesis.now in
    let ks = answers_of (g.O.Oracle.state c.test_by_suite.new.oracle).kept in
    let stop = c.in_err-word.field-0.0 in
    told_stops (StopsFrom l c.args.settings.extra ks) stop c.from_residual.result (search rules)
    (tested_stops h l c.args.settings.extra ks stop c.requires.inputs c.requires.outputs (few_tested l h.rows c.requires.ready.learner c.requires.machine) c.in_err-word.ensures.stops)

pub returns-in_ok-refine-in-Differs-clause-plainly : goal.returns-in_ok-refine-in-Differs-clause-plainly
returns-in_ok-refine-in-Differs-clause-plainly g c =
    let o = g.O.Oracle.state c.args.oracle.now in
    let b = g.O.Oracle.state c.test_by_suite.new.oracle in
    let n = g.O.Oracle.state c.refine.new.oracle in
    let done = c.in_ok-refine-in-Differs.ensures in
    goes_by_suite c.args.hypothesis.now c.args.learner.now c.args.settings.testing c.args.settings.extra o b c.requires.ready c.requires.machine c.requires.inputs c.requires.gives c.in-Differs.word c.refine.new.learner n done.leaves.gained
    (rw c.in-Differs.is at c.in_ok-word.ensures.plainly) c.in_ok-word.ensures.leaves.same.exact done.leaves.at_end done.plainly

pub returns-in-Sure-clause-plainly : goal.returns-in-Sure-clause-plainly
returns-in-Sure-clause-plainly g c =
    let o = g.O.Oracle.state c.args.oracle.now in
    let b = g.O.Oracle.state c.test_by_suite.new.oracle in
    ends_by_suite c.args.hypothesis.now c.args.learner.now c.args.settings.testing c.args.settings.extra o b c.requires.ready c.requires.machine c.requires.inputs c.requires.gives c.in-Sure.model
    (rw c.in-Sure.is at c.in_ok-word.ensures.plainly)
