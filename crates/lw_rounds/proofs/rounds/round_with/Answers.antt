use Rattle.std.proofs.Common.{List, Some, None, Ok, IfOk, ◌∙◌, sym, subst, rules}
use Rattle.std.specs.Prelude.{⊤}
use Rattle.lw_words.specs.Word.{answers_of}
use Rattle.lw_words.specs.declared.kept.KeptAnswer.{KeptAnswer}
use Rattle.lw_mealy.specs.Machine.{Gives}
use Rattle.lw_cache.specs.Against.{DiffersFirst}
use Rattle.lw_cache.specs.Settling.{OracleState}
use Rattle.lw_cache.proofs.SettlingLemmas.{kept_are_answers, leaves_then}
use Rattle.lw_settle.specs.declared.settling.Settled.{Settled}
use Rattle.lw_rounds.specs.Learner.{inputs_of, outputs_of, most_of}
use Rattle.lw_rounds.specs.Stops.{of_growth, learn_stop}
use Rattle.lw_rounds.specs.bodies.Rounds.{StopsFrom}
use Rattle.lw_rounds.proofs.StopLemmas.{leaves_learn_grown}
use Rattle.lw_rounds.proofs.ConformanceLemmas.{none_differs}
use Rattle.lw_rounds.proofs.HypothesisLemmas.{kept_words}
use Rattle.lw_rounds.proofs.RoundLemmas.{growth_as, ready_after, more_finals, told_stops}
use Rattle.lw_rounds.specs.bodies.Plain.{RoundsAsPlain}
use Rattle.lw_rounds.specs.declared.learner.Learner.{Learner}
use Rattle.lw_rounds.proofs.PlainLemmas.{goes_by_known, replaced_goes}
use Rattle.lw_rounds.proofs.rounds.round_with.Goals as goal

pub against-requires : goal.against-requires
against-requires g c =
    let ready = c.requires.ready in
    kept_words (g.O.Oracle.state c.args.oracle.now) c.args.hypothesis.now.inputs c.cache.result.now.kept (c.requires.inputs ∙ ready.inputs) c.cache.ensures.kept ready.keeps

pub settle-requires-clause-gives : goal.settle-requires-clause-gives
settle-requires-clause-gives g c =
    let before = g.O.Oracle.state c.args.oracle.now in
    let h = c.args.hypothesis.now in
    let ready = c.requires.ready in (
      h.rows,
      c.requires.machine,
      none_differs h.inputs h.rows (answers_of before.kept) (kept_are_answers before h.inputs (c.requires.inputs ∙ ready.inputs) ready.keeps) ready.nothing
          (subst (λ (kept : List KeptAnswer). DiffersFirst h.rows (answers_of kept) None) c.cache.ensures.kept (rw c.in_default.is at c.in_ok-word.ensures)),
    )

pub returns-in-Replaced-clause-ready : goal.returns-in-Replaced-clause-ready
returns-in-Replaced-clause-ready g c =
    let ready = c.requires.ready in
    ready_after (g.O.Oracle.state c.args.oracle.now) (g.O.Oracle.state c.settle.new.oracle) c.args.learner.now c.settle.new.self (Ok c.in_ok-settle.field-0) c.in_ok-settle.ensures.leaves c.in_ok-settle.ensures.grows
    ready.inputs ready.outputs ready.nothing

pub returns-in-Replaced-clause-goes : goal.returns-in-Replaced-clause-goes
returns-in-Replaced-clause-goes g c =
    let grows = c.in_ok-settle.ensures.grows in
    more_finals c.args.learner.now c.settle.new.self grows.learner grows.alike.most (rw c.in-Replaced.is at c.in_ok-settle.ensures.settles) grows.longer

pub round_by_suite-requires-clause-ready : goal.round_by_suite-requires-clause-ready
round_by_suite-requires-clause-ready g c =
    let ready = c.requires.ready in
    ready_after (g.O.Oracle.state c.args.oracle.now) (g.O.Oracle.state c.settle.new.oracle) c.args.learner.now c.settle.new.self (Ok c.in_ok-settle.field-0) c.in_ok-settle.ensures.leaves c.in_ok-settle.ensures.grows
    ready.inputs ready.outputs ready.nothing

pub round_by_suite-requires-clause-gives : goal.round_by_suite-requires-clause-gives
round_by_suite-requires-clause-gives g c =
    let before = g.O.Oracle.state c.args.oracle.now in
    let h = c.args.hypothesis.now in
    let ready = c.requires.ready in
    subst (λ (o : OracleState). Gives h.rows (answers_of o.kept)) (sym (c.in_ok-settle.ensures.unasked c.in-NoBlock.is))
    (none_differs h.inputs h.rows (answers_of before.kept) (kept_are_answers before h.inputs (c.requires.inputs ∙ ready.inputs) ready.keeps) ready.nothing
    (subst (λ (kept : List KeptAnswer). DiffersFirst h.rows (answers_of kept) None) c.cache.ensures.kept (rw c.in_default.is at c.in_ok-word.ensures)))

pub returns-in-NoBlock-clause-leaves : goal.returns-in-NoBlock-clause-leaves
returns-in-NoBlock-clause-leaves g c =
    leaves_then (g.O.Oracle.state c.args.oracle.now) (g.O.Oracle.state c.settle.new.oracle) (g.O.Oracle.state c.round_by_suite.new.oracle) (learn_stop c.round_by_suite.result) c.in_ok-settle.ensures.leaves c.round_by_suite.ensures.leaves

pub returns-in_err-refine-clause-stops : goal.returns-in_err-refine-clause-stops
returns-in_err-refine-clause-stops g c =
    let l = c.args.learner.now in
    let ks = answers_of (g.O.Oracle.state c.refine.new.oracle).kept in
    let stop = c.in_err-refine.field-0.0 in
    told_stops (StopsFrom l c.args.settings.extra ks) (of_growth stop) c.from_residual-in_err-refine.result (search rules) (growth_as (inputs_of l) (outputs_of l) c.args.settings.extra (most_of l) ks stop c.in_err-refine.ensures.stops)

pub returns-in_err-settle-clause-stops : goal.returns-in_err-settle-clause-stops
returns-in_err-settle-clause-stops g c =
    let l = c.args.learner.now in
    let ks = answers_of (g.O.Oracle.state c.settle.new.oracle).kept in
    let stop = c.in_err-settle.field-0.0 in
    told_stops (StopsFrom l c.args.settings.extra ks) (of_growth stop) c.from_residual-in_err-settle.result (search rules) (growth_as (inputs_of l) (outputs_of l) c.args.settings.extra (most_of l) ks stop c.in_err-settle.ensures.grows.stops)

pub returns-in_err-refine-clause-leaves : goal.returns-in_err-refine-clause-leaves
returns-in_err-refine-clause-leaves g c =
    leaves_learn_grown ⊤ (g.O.Oracle.state c.args.oracle.now) (g.O.Oracle.state c.refine.new.oracle) c.in_err-refine.field-0.0 c.from_residual-in_err-refine.result c.in_err-refine.ensures.leaves (search rules)

pub returns-in_err-settle-clause-leaves : goal.returns-in_err-settle-clause-leaves
returns-in_err-settle-clause-leaves g c =
    leaves_learn_grown Settled (g.O.Oracle.state c.args.oracle.now) (g.O.Oracle.state c.settle.new.oracle) c.in_err-settle.field-0.0 c.from_residual-in_err-settle.result c.in_err-settle.ensures.leaves (search rules)

pub returns-in-Some-clause-plainly : goal.returns-in-Some-clause-plainly
returns-in-Some-clause-plainly g c =
    let o = g.O.Oracle.state c.args.oracle.now in
    let n = g.O.Oracle.state c.refine.new.oracle in
    let h = c.args.hypothesis.now.rows in
    let done = c.in_ok-refine.ensures in
    goes_by_known h c.in-Some.word c.args.learner.now c.refine.new.learner c.args.settings.testing c.args.settings.extra o n done.leaves.gained c.requires.ready c.requires.machine
    (subst (λ (kept : List KeptAnswer). DiffersFirst h (answers_of kept) (Some c.in-Some.word)) c.cache.ensures.kept (rw c.in-Some.is at c.in_ok-word.ensures)) done.leaves.at_end done.plainly

pub returns-in-Replaced-clause-plainly : goal.returns-in-Replaced-clause-plainly
returns-in-Replaced-clause-plainly g c =
    replaced_goes c.args.learner.now c.settle.new.self c.args.settings.testing c.args.settings.extra (g.O.Oracle.state c.args.oracle.now) (g.O.Oracle.state c.settle.new.oracle) c.in_ok-settle.ensures.grows.alike (rw c.in-Replaced.is at c.in_ok-settle.ensures.settles)

pub returns-in-NoBlock-clause-plainly : goal.returns-in-NoBlock-clause-plainly
returns-in-NoBlock-clause-plainly g c =
    let o = g.O.Oracle.state c.args.oracle.now in
    let b = g.O.Oracle.state c.settle.new.oracle in
    let n = g.O.Oracle.state c.round_by_suite.new.oracle in
    let testing = c.args.settings.testing in
    let k = c.args.settings.extra in
    let settled = rw c.in-NoBlock.is at c.in_ok-settle.ensures.settles in
    subst (λ (l : Learner). IfOk c.round_by_suite.result (λ found. RoundsAsPlain l c.round_by_suite.new.learner testing k found o n)) settled.1
    (subst (λ (p : OracleState). IfOk c.round_by_suite.result (λ found. RoundsAsPlain c.settle.new.self c.round_by_suite.new.learner testing k found p n)) (c.in_ok-settle.ensures.unasked c.in-NoBlock.is) c.round_by_suite.ensures.plainly)
