use Rattle.std.proofs.Common.{List, ℕ, None, Ok, rules, sym, subst}
use Rattle.lw_words.specs.Word.{answers_of}
use Rattle.lw_cache.specs.Cut.{AreAccess, StepsAreRead}
use Rattle.lw_cache.proofs.SettlingLemmas.{kept_are_answers, leaves_then}
use Rattle.lw_rounds.specs.Learner.{inputs_of, access_of}
use Rattle.lw_rounds.proofs.LearnerLemmas.{access_leads, read_more, steps_are_read}
use Rattle.lw_rounds.proofs.RoundLemmas.{ready_more, ready_after, refined_goes}
use Rattle.std.specs.Prelude.{⊤}
use Rattle.lw_rounds.proofs.StopLemmas.{leaves_grown_on}
use Rattle.lw_rounds.proofs.PlainLemmas.{refined_by_word}
use Rattle.lw_rounds.proofs.rounds.refine.Goals as goal

pub split-requires-clause-access : goal.split-requires-clause-access
split-requires-clause-access g c =
    let l = c.args.learner.now in
    let h = c.args.hypothesis.now in
    subst (λ (access : List (List ℕ)). AreAccess h.inputs h.rows access) (sym c.access.ensures.value)
    (subst (λ (a : ℕ). AreAccess a h.rows (access_of l)) (sym c.requires.inputs) (access_leads l h.rows c.requires.ready.learner c.requires.machine))

pub split-requires-clause-steps : goal.split-requires-clause-steps
split-requires-clause-steps g c =
    let before = g.O.Oracle.state c.args.oracle.now in
    let l = c.args.learner.now in
    let h = c.args.hypothesis.now in
    let ready = c.requires.ready in
    subst (λ (access : List (List ℕ)). StepsAreRead (answers_of before.kept) h.inputs h.rows access) (sym c.access.ensures.value)
    (subst (λ (a : ℕ). StepsAreRead (answers_of before.kept) a h.rows (access_of l)) (sym c.requires.inputs)
    (steps_are_read (answers_of before.kept) l h.rows ready.learner (kept_are_answers before (inputs_of l) ready.inputs ready.keeps) ready.read ready.closed c.requires.machine))

pub refine-requires-clause-read : goal.refine-requires-clause-read
refine-requires-clause-read g c =
    let leaves = c.in_ok-cut.ensures.leaves in
    read_more (g.O.Oracle.state c.args.oracle.now).kept leaves.gained (g.O.Oracle.state c.split.new.oracle).kept c.args.learner.now leaves.at_end c.requires.ready.read

pub returns-clause-ready : goal.returns-clause-ready
returns-clause-ready g c =
    let between = g.O.Oracle.state c.split.new.oracle in
    let now = g.O.Oracle.state c.refine.new.oracle in
    let ready = ready_more (g.O.Oracle.state c.args.oracle.now) between c.args.learner.now c.in_ok-cut.ensures.leaves c.requires.ready in
    ready_after between now c.args.learner.now c.refine.new.self (Ok c.in_ok-refine.field-0) c.in_ok-refine.ensures.leaves c.in_ok-refine.ensures.grows ready.inputs ready.outputs ready.nothing

pub returns-clause-goes : goal.returns-clause-goes
returns-clause-goes g c =
    refined_goes (answers_of (g.O.Oracle.state c.refine.new.oracle).kept) c.args.learner.now c.refine.new.self (Ok c.in_ok-refine.field-0) c.in_ok-refine.ensures.grows c.in_ok-refine.ensures.more

pub returns-clause-leaves : goal.returns-clause-leaves
returns-clause-leaves g c =
    leaves_then (g.O.Oracle.state c.args.oracle.now) (g.O.Oracle.state c.split.new.oracle) (g.O.Oracle.state c.refine.new.oracle) None c.in_ok-cut.ensures.leaves c.in_ok-refine.ensures.leaves

pub returns-in_err-refine-clause-leaves : goal.returns-in_err-refine-clause-leaves
returns-in_err-refine-clause-leaves g c =
    leaves_grown_on ⊤ (g.O.Oracle.state c.args.oracle.now) (g.O.Oracle.state c.refine.new.oracle) c.in_err-refine.field-0.0 c.from_residual-in_err-refine.result
    (leaves_then (g.O.Oracle.state c.args.oracle.now) (g.O.Oracle.state c.split.new.oracle) (g.O.Oracle.state c.refine.new.oracle) _ c.in_ok-cut.ensures.leaves c.in_err-refine.ensures.leaves) (search rules)

pub returns-clause-plainly : goal.returns-clause-plainly
returns-clause-plainly g c =
    refined_by_word c.args.hypothesis.now.rows c.args.word.now c.in_ok-cut.cut.suffix c.args.learner.now c.refine.new.self c.access.result.now (g.O.Oracle.state c.args.oracle.now) (g.O.Oracle.state c.split.new.oracle) (g.O.Oracle.state c.refine.new.oracle) c.in_ok-refine.ensures.leaves.gained
    c.access.ensures.value c.in_ok-cut.ensures.plainly c.in_ok-refine.ensures.plainly c.in_ok-cut.ensures.leaves.same.exact c.in_ok-refine.ensures.leaves.at_end
