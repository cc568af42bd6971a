use Rattle.std.proofs.Common.{rules, ◌≡◌, ℕ, List, map, refl, sym, subst}
use Rattle.lw_words.specs.Word.{AreAnswers, answers_of}
use Rattle.lw_words.specs.declared.kept.KeptAnswer.{KeptAnswer}
use Rattle.lw_cache.specs.Known.{IsKnown}
use Rattle.lw_cache.proofs.SettlingLemmas.{kept_are_answers, leaves_nothing, leaves_own}
use Rattle.lw_plain.specs.Turns.{AsksBatch}
use Rattle.lw_plain.proofs.TurnLemmas.{settled_is_asked}
use Rattle.lw_table.specs.bodies.Plain.{open_from}
use Rattle.lw_table.specs.declared.rows.Row.{Row}
use Rattle.lw_table.proofs.AskLemmas.{asked_cells}
use Rattle.lw_table.proofs.FillLemmas.{rows_known}
use Rattle.lw_table.proofs.steps.answered.Goals as goal

pub returns-in_err-batch-clause-leaves : goal.returns-in_err-batch-clause-leaves
returns-in_err-batch-clause-leaves g c =
    let state = g.O.Oracle.state c.args.oracle.now in
    leaves_own state state c.from_residual.result (leaves_nothing state c.requires.keeps c.requires.may) (search rules)

pub fill_rows-requires-clause-answers : goal.fill_rows-requires-clause-answers
fill_rows-requires-clause-answers g c =
    let state = g.O.Oracle.state c.settle.new.self in
    (state.inputs, subst (λ (kept : List KeptAnswer). AreAnswers state.inputs (answers_of kept)) (sym c.cache-cache.ensures.kept) (kept_are_answers state state.inputs refl c.cache-cache.ensures.keeps))

pub fill_rows-requires-clause-known : goal.fill_rows-requires-clause-known
fill_rows-requires-clause-known g c =
    rows_known (IsKnown (answers_of c.cache-cache.result.now.kept)) c.in_ok-batch.batch c.args.inputs c.args.access.now c.args.suffixes.now c.args.rows.now c.args.first _ c.in_ok-batch.ensures.each (search rules)

pub returns-in_err-settle-clause-asks : goal.returns-in_err-settle-clause-asks
returns-in_err-settle-clause-asks g c =
    asked_cells c.args.inputs c.args.access.now c.args.suffixes.now c.in_ok-batch.batch _ (g.O.Oracle.state c.args.oracle.now).kept (g.O.Oracle.state c.settle.new.self).kept c.in_ok-batch.ensures.cells (search rules) c.settle.ensures.settles.gains

pub returns-in_err-fill_rows-clause-asks : goal.returns-in_err-fill_rows-clause-asks
returns-in_err-fill_rows-clause-asks g c =
    asked_cells c.args.inputs c.args.access.now c.args.suffixes.now c.in_ok-batch.batch _ (g.O.Oracle.state c.args.oracle.now).kept (g.O.Oracle.state c.settle.new.self).kept c.in_ok-batch.ensures.cells (search rules) c.settle.ensures.settles.gains

pub returns-clause-asks : goal.returns-clause-asks
returns-clause-asks g c =
    asked_cells c.args.inputs c.args.access.now c.args.suffixes.now c.in_ok-batch.batch _ (g.O.Oracle.state c.args.oracle.now).kept (g.O.Oracle.state c.settle.new.self).kept c.in_ok-batch.ensures.cells (search rules) c.settle.ensures.settles.gains

pub returns-clause-plainly : goal.returns-clause-plainly
returns-clause-plainly g c =
    let o = g.O.Oracle.state c.args.oracle.now in
    let n = g.O.Oracle.state c.settle.new.self in
    let batch : List (List ℕ) = open_from c.args.inputs c.args.access.now c.args.suffixes.now (map (λ (r : Row). r.cells) c.args.rows.now) c.args.first in
    let same : c.as_slice.result.now ≡ batch = search rules in
    subst (λ (ws : List (List ℕ)). AsksBatch ws o n) same (settled_is_asked c.as_slice.result.now o n c.in_ok-settle.ensures.settles)
