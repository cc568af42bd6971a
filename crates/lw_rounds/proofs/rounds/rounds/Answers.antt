use Rattle.std.proofs.Common.{Option, None, rules}
use Rattle.lw_words.specs.Word.{answers_of}
use Rattle.lw_mealy.specs.Machine.{MealyMachine}
use Rattle.lw_cache.proofs.SettlingLemmas.{leaves_nothing, leaves_then}
use Rattle.lw_rounds.specs.bodies.Rounds.{StopsFrom}
use Rattle.lw_rounds.proofs.RoundLemmas.{alike_then, stops_alike, told_stops}
use Rattle.lw_rounds.proofs.StopLemmas.{leaves_learn_handed}
use Rattle.lw_rounds.proofs.PlainLemmas.{goes_nowhere, goes_then, ends_then}
use Rattle.lw_rounds.proofs.rounds.rounds.Goals as goal

pub returns-in_err-model-clause-leaves : goal.returns-in_err-model-clause-leaves
returns-in_err-model-clause-leaves g c =
    leaves_learn_handed (Option MealyMachine) (g.O.Oracle.state c.args.oracle.now) (g.O.Oracle.state c.round.new.oracle) c.in_err-model.field-0.0 c.from_residual.result
    (leaves_then (g.O.Oracle.state c.args.oracle.now) (g.O.Oracle.state c.loop-model.oracle) (g.O.Oracle.state c.round.new.oracle) _ c.loop-model.invariant.leaves c.in_err-model.ensures.leaves) (search rules)

pub returns-in-Some-clause-leaves : goal.returns-in-Some-clause-leaves
returns-in-Some-clause-leaves g c =
    leaves_then (g.O.Oracle.state c.args.oracle.now) (g.O.Oracle.state c.loop-model.oracle) (g.O.Oracle.state c.round.new.oracle) None c.loop-model.invariant.leaves c.in_ok-model.ensures.leaves

pub returns-in_err-model-clause-stops : goal.returns-in_err-model-clause-stops
returns-in_err-model-clause-stops g c =
    let l = c.args.learner.now in
    let ks = answers_of (g.O.Oracle.state c.round.new.oracle).kept in
    let stop = c.in_err-model.field-0.0 in
    told_stops (StopsFrom l c.args.settings.extra ks) stop c.from_residual.result (search rules) (stops_alike l c.loop-model.learner c.args.settings.extra ks stop c.loop-model.invariant.alike c.in_err-model.ensures.stops)

pub loop-model-init : goal.loop-model-init
loop-model-init g c =
    record {
      ready = c.requires.ready;
      alike = search rules;
      plainly = goes_nowhere c.args.learner.now c.args.settings.testing c.args.settings.extra (g.O.Oracle.state c.args.oracle.now);
      leaves = leaves_nothing (g.O.Oracle.state c.args.oracle.now) c.requires.ready.keeps c.requires.ready.may;
      can = c.requires.can;
    }

pub loop-model-preserved : goal.loop-model-preserved
loop-model-preserved g c =
    let i = c.loop-model.invariant in
    record {
      ready = c.in_ok-model.ensures.ready;
      alike = alike_then c.args.learner.now c.loop-model.learner c.round.new.learner i.alike c.round.ensures.alike;
      plainly = goes_then c.args.learner.now c.loop-model.learner c.round.new.learner c.args.settings.testing c.args.settings.extra (g.O.Oracle.state c.args.oracle.now) (g.O.Oracle.state c.loop-model.oracle) (g.O.Oracle.state c.round.new.oracle) c.in_ok-model.ensures.leaves.gained
          i.alike i.leaves.same.exact c.in_ok-model.ensures.leaves.at_end i.plainly (rw c.in_default.is at c.in_ok-model.ensures.plainly);
      leaves = leaves_then (g.O.Oracle.state c.args.oracle.now) (g.O.Oracle.state c.loop-model.oracle) (g.O.Oracle.state c.round.new.oracle) None i.leaves c.in_ok-model.ensures.leaves;
      can = c.in_ok-model.ensures.can;
    }

pub returns-in-Some-clause-plainly : goal.returns-in-Some-clause-plainly
returns-in-Some-clause-plainly g c =
    let i = c.loop-model.invariant in
    ends_then c.args.learner.now c.loop-model.learner c.round.new.learner c.args.settings.testing c.args.settings.extra (g.O.Oracle.state c.args.oracle.now) (g.O.Oracle.state c.loop-model.oracle) (g.O.Oracle.state c.round.new.oracle) c.in_ok-model.ensures.leaves.gained
    i.alike i.leaves.same.exact c.in_ok-model.ensures.leaves.at_end i.plainly c.in-Some.model.rows (rw c.in-Some.is at c.in_ok-model.ensures.plainly)
