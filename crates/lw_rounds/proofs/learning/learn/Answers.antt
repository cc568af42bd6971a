use Rattle.std.proofs.Common.{rules, refl}
use Rattle.lw_words.specs.Word.{answers_of}
use Rattle.lw_mealy.specs.Machine.{MealyMachine}
use Rattle.lw_rounds.specs.Learned.{StopsAs}
use Rattle.lw_rounds.proofs.StopLemmas.{leaves_learn_handed}
use Rattle.lw_rounds.proofs.RoundLemmas.{told_stops, enough_from, learned_from, new_as, stops_from}
use Rattle.lw_rounds.proofs.PlainLemmas.{learned_of_kind}
use Rattle.lw_rounds.proofs.learning.learn.Goals as goal

pub learn_from-requires-clause-read : goal.learn_from-requires-clause-read
learn_from-requires-clause-read g c = c.in_ok-learner.ensures.is_new.read (answers_of (g.O.Oracle.state c.args.oracle.now).kept)

pub returns-in_err-model-clause-leaves : goal.returns-in_err-model-clause-leaves
returns-in_err-model-clause-leaves g c =
    leaves_learn_handed MealyMachine (g.O.Oracle.state c.args.oracle.now) (g.O.Oracle.state c.learn_from.new.oracle) c.in_err-model.field-0.0 c.from_residual-in_err-model.result c.in_err-model.ensures.leaves (search rules)

pub returns-in_err-model-clause-stops : goal.returns-in_err-model-clause-stops
returns-in_err-model-clause-stops g c =
    let ks = answers_of (g.O.Oracle.state c.learn_from.new.oracle).kept in
    let stop = c.in_err-model.field-0.0 in
    let l = c.in_ok-learner.learner in
    let o = g.O.Oracle.state c.args.oracle.now in
    let new = new_as c.args.settings.kind c.inputs-inputs.result c.outputs-outputs.result o.inputs o.outputs c.args.settings.max_states l c.inputs-inputs.ensures c.outputs-outputs.ensures c.in_ok-learner.ensures.is_new in
    told_stops (StopsAs o.inputs o.outputs c.args.settings.extra c.args.settings.max_states ks) stop c.from_residual-in_err-model.result (search rules)
    (stops_from c.args.settings.kind o.inputs o.outputs c.args.settings.extra c.args.settings.max_states ks l l stop new (record { kind = refl; inputs = refl; outputs = refl; most = refl }) c.in_err-model.ensures.stops)

pub returns-clause-learned : goal.returns-clause-learned
returns-clause-learned g c =
    let ks = answers_of (g.O.Oracle.state c.learn_from.new.oracle).kept in
    let l = c.in_ok-learner.learner in
    let o = g.O.Oracle.state c.args.oracle.now in
    let new = new_as c.args.settings.kind c.inputs-inputs.result c.outputs-outputs.result o.inputs o.outputs c.args.settings.max_states l c.inputs-inputs.ensures c.outputs-outputs.ensures c.in_ok-learner.ensures.is_new in
    learned_from c.args.settings.kind c.args.settings.testing o.inputs o.outputs c.args.settings.extra c.args.settings.max_states ks l l c.learn_from.new.learner c.in_ok-model.model new (record { kind = refl; inputs = refl; outputs = refl; most = refl }) c.in_ok-model.ensures.learned

pub returns-clause-enough : goal.returns-clause-enough
returns-clause-enough g c =
    let ks = answers_of (g.O.Oracle.state c.learn_from.new.oracle).kept in
    let l = c.in_ok-learner.learner in
    let o = g.O.Oracle.state c.args.oracle.now in
    let new = new_as c.args.settings.kind c.inputs-inputs.result c.outputs-outputs.result o.inputs o.outputs c.args.settings.max_states l c.inputs-inputs.ensures c.outputs-outputs.ensures c.in_ok-learner.ensures.is_new in
    enough_from c.args.settings.kind c.args.settings.testing o.inputs o.outputs c.args.settings.extra c.args.settings.max_states ks l l c.learn_from.new.learner c.in_ok-model.model new (record { kind = refl; inputs = refl; outputs = refl; most = refl }) c.in_ok-model.ensures.learned

pub returns-clause-plainly : goal.returns-clause-plainly
returns-clause-plainly g c =
    let o = g.O.Oracle.state c.args.oracle.now in
    let n = g.O.Oracle.state c.learn_from.new.oracle in
    learned_of_kind c.args.settings.kind c.args.settings.testing c.inputs-inputs.result c.outputs-outputs.result o.inputs c.args.settings.extra c.args.settings.max_states c.in_ok-learner.learner c.learn_from.new.learner c.in_ok-model.model.rows o n
    c.inputs-inputs.ensures c.in_ok-learner.ensures.table c.in_ok-model.ensures.plainly
