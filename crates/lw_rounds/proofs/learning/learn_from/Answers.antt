use Rattle.std.proofs.Common.{List, Result, Ok, Err, IfOk, IfErr, ℕ, rules}
use Rattle.std.specs.Prelude.{⊤}
use Rattle.lw_words.specs.Word.{Answer, answers_of}
use Rattle.lw_mealy.specs.Machine.{MealyMachine}
use Rattle.lw_cache.proofs.SettlingLemmas.{leaves_then}
use Rattle.lw_rounds.specs.declared.settings.Testing.{Testing}
use Rattle.lw_rounds.specs.Learner.{inputs_of, outputs_of, most_of}
use Rattle.lw_rounds.specs.Stops.{of_growth, learn_stop}
use Rattle.lw_rounds.specs.bodies.Rounds.{IsAlike, IsLearnedFrom, StopsFrom}
use Rattle.lw_rounds.specs.declared.learner.Learner.{Learner}
use Rattle.lw_rounds.specs.declared.stops.LearnStop.{LearnStop}
use Rattle.lw_rounds.proofs.StopLemmas.{leaves_learn_grown}
use Rattle.lw_rounds.proofs.RoundLemmas.{growth_as, learned_alike, ready_after, stops_alike, told_stops}
use Rattle.lw_rounds.proofs.PlainLemmas.{learned_from_new}
use Rattle.lw_rounds.proofs.learning.learn_from.Goals as goal

module _ (l m n : Learner) (testing : Testing) (k : ℕ) (ks : List Answer) (alike : IsAlike l m) where
  learned_since : (result : Result MealyMachine LearnStop) → IfOk result (λ model. IsLearnedFrom m testing k ks model n) → IfOk result (λ model. IsLearnedFrom l testing k ks model n)
  learned_since (Ok model) is = learned_alike l m n testing k ks model alike is
  learned_since (Err stop) is = tt

  stops_since : (result : Result MealyMachine LearnStop) → IfErr result (StopsFrom m k ks) → IfErr result (StopsFrom l k ks)
  stops_since (Ok model) is = tt
  stops_since (Err stop) is = stops_alike l m k ks stop alike is

pub returns-in_err-close-clause-stops : goal.returns-in_err-close-clause-stops
returns-in_err-close-clause-stops g c =
    let ks = answers_of (g.O.Oracle.state c.close.new.oracle).kept in
    let l = c.args.learner.now in
    let stop = c.in_err-close.field-0.0 in
    told_stops (StopsFrom l c.args.settings.extra ks) (of_growth stop) c.from_residual.result (search rules) (growth_as (inputs_of l) (outputs_of l) c.args.settings.extra (most_of l) ks stop c.in_err-close.ensures.grows.stops)

pub returns-in_err-close-clause-leaves : goal.returns-in_err-close-clause-leaves
returns-in_err-close-clause-leaves g c =
    leaves_learn_grown ⊤ (g.O.Oracle.state c.args.oracle.now) (g.O.Oracle.state c.close.new.oracle) c.in_err-close.field-0.0 c.from_residual.result c.in_err-close.ensures.leaves (search rules)

pub rounds-requires-clause-ready : goal.rounds-requires-clause-ready
rounds-requires-clause-ready g c =
    ready_after (g.O.Oracle.state c.args.oracle.now) (g.O.Oracle.state c.close.new.oracle) c.args.learner.now c.close.new.self (Ok c.in_ok-close.field-0) c.in_ok-close.ensures.leaves c.in_ok-close.ensures.grows
    c.requires.inputs c.requires.outputs c.requires.nothing

pub returns : goal.returns
returns g c =
    let ks = answers_of (g.O.Oracle.state c.rounds.new.oracle).kept in
    let l = c.args.learner.now in
    let alike = c.in_ok-close.ensures.grows.alike in
    record {
      learned = learned_since l c.close.new.self c.rounds.new.learner c.args.settings.testing c.args.settings.extra ks alike c.rounds.result c.rounds.ensures.learned;
      plainly = learned_from_new l c.close.new.self c.rounds.new.learner c.args.settings.testing c.args.settings.extra (g.O.Oracle.state c.args.oracle.now) (g.O.Oracle.state c.close.new.oracle) (g.O.Oracle.state c.rounds.new.oracle) c.rounds.ensures.leaves.gained
          alike c.in_ok-close.ensures.plainly c.in_ok-close.ensures.leaves.same.exact c.rounds.ensures.leaves.at_end c.rounds.result c.rounds.ensures.plainly;
      stops = stops_since l c.close.new.self c.rounds.new.learner c.args.settings.testing c.args.settings.extra ks alike c.rounds.result c.rounds.ensures.stops;
      leaves = leaves_then (g.O.Oracle.state c.args.oracle.now) (g.O.Oracle.state c.close.new.oracle) (g.O.Oracle.state c.rounds.new.oracle) (learn_stop c.rounds.result) c.in_ok-close.ensures.leaves c.rounds.ensures.leaves;
      can = c.rounds.ensures.can;
    }
