use Rattle.std.proofs.Common.{◌∙◌, length, Err, ap, sym, subst}
use Rattle.lw_words.specs.Word.{answers_of}
use Rattle.lw_cache.specs.Settling.{Leaves}
use Rattle.lw_cache.proofs.SettlingLemmas.{kept_are_answers, leaves_nothing}
use Rattle.lw_rounds.specs.Stops.{learn_stop}
use Rattle.lw_rounds.specs.bodies.Rounds.{StopsTest}
use Rattle.lw_rounds.specs.declared.hypothesis.Tested.{Tested}
use Rattle.lw_rounds.specs.declared.stops.LearnStop.{LearnStop}
use Rattle.lw_rounds.proofs.HypothesisLemmas.{without_suite_stops, without_suite_leaves}
use Rattle.lw_rounds.proofs.PlainLemmas.{told_by_suite}
use Rattle.lw_rounds.proofs.hypothesis.test_with.Goals as goal

pub returns-in-Err-clause-stops : goal.returns-in-Err-clause-stops
returns-in-Err-clause-stops g c =
    let before = g.O.Oracle.state c.args.oracle.now in
    let h = c.args.hypothesis.now in
    let model = c.args.model in
    subst (StopsTest h.inputs h.outputs c.args.settings.extra (length h.rows) (answers_of before.kept)) (sym c.without_suite.ensures)
    (without_suite_stops h model (answers_of before.kept) c.args.settings.extra c.inputs.ensures.complete.machine c.requires.alphabets.0 c.requires.alphabets.1 c.states.ensures.complete
    c.requires.canonical (kept_are_answers before h.inputs c.requires.inputs c.requires.keeps) c.requires.gives
    c.requires.crowd c.in-Err.fault (λ number is. c.requires.large number (c.in-Err.is ∙ ap Err is)))

pub returns-in-Err-clause-leaves : goal.returns-in-Err-clause-leaves
returns-in-Err-clause-leaves g c =
    let before = g.O.Oracle.state c.args.oracle.now in
    subst (λ (stop : LearnStop). Leaves before before (learn_stop {X = Tested} (Err stop))) (sym c.without_suite.ensures)
    (without_suite_leaves Tested before c.args.model c.in-Err.fault (leaves_nothing before c.requires.keeps c.requires.may))

pub returns-in-Ok-clause-plainly : goal.returns-in-Ok-clause-plainly
returns-in-Ok-clause-plainly g c =
    told_by_suite c.args.hypothesis.now.rows c.args.settings.testing c.args.settings.extra c.args.model (g.S.Chunks.left c.in-Ok.suite) (g.O.Oracle.state c.args.oracle.now) (g.O.Oracle.state c.settle_and_certify.new.oracle)
    (rw c.in-Ok.is at c.requires.suite) (rw c.in-Ok.is at c.requires.size) c.settle_and_certify.result c.settle_and_certify.ensures.plainly
