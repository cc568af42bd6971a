use Rattle.std.proofs.Common.{sym, subst, OnOk}
use Rattle.std.specs.Prelude.{⊤}
use Rattle.lw_words.specs.Word.{answers_of}
use Rattle.lw_rounds.specs.declared.learner.Learner.{Learner}
use Rattle.lw_rounds.specs.declared.learner.Learner.TheVariants.{Table, Tree}
use Rattle.lw_rounds.specs.bodies.Rounds.{Grows}
use Rattle.lw_rounds.specs.bodies.Plain.{ClosesAsPlain}
use Rattle.lw_rounds.proofs.PlainLemmas.{any_ok, closes_table}
use Rattle.lw_rounds.proofs.LearnerLemmas.{table_grows, tree_grows, as_many_finals}
use Rattle.lw_rounds.proofs.learner.Learner.close.Goals as goal

pub returns-in-Table-clause-grows : goal.returns-in-Table-clause-grows
returns-in-Table-clause-grows g c =
    let ks = answers_of (g.O.Oracle.state c.close.new.oracle).kept in
    let closes = c.close.ensures.closes in
    subst (λ (l : Learner). Grows ks l (Table c.close.new.self) c.close.result) (sym c.in-Table.is)
    (table_grows ks c.in-Table.table c.close.new.self c.close.result closes.grown closes.closed closes.crowd)

pub returns-in-Table-clause-plainly : goal.returns-in-Table-clause-plainly
returns-in-Table-clause-plainly g c =
    let o = g.O.Oracle.state c.args.oracle.now in
    let n = g.O.Oracle.state c.close.new.oracle in
    subst (λ (l : Learner). OnOk c.close.result (ClosesAsPlain l (Table c.close.new.self) o n)) (sym c.in-Table.is)
    (closes_table c.in-Table.table c.close.new.self o n c.close.result c.close.ensures.plainly c.close.ensures.closes.refinements)

pub returns-in-Tree-clause-plainly : goal.returns-in-Tree-clause-plainly
returns-in-Tree-clause-plainly g c =
    let o = g.O.Oracle.state c.args.oracle.now in
    let n = g.O.Oracle.state c.close-in-Tree.new.oracle in
    subst (λ (l : Learner). OnOk c.close-in-Tree.result (ClosesAsPlain l (Tree c.close-in-Tree.new.self) o n)) (sym c.in-Tree.is) (any_ok c.close-in-Tree.result)

pub returns-in-Tree-clause-grows : goal.returns-in-Tree-clause-grows
returns-in-Tree-clause-grows g c =
    let ks = answers_of (g.O.Oracle.state c.close-in-Tree.new.oracle).kept in
    let closes = c.close-in-Tree.ensures.closes in
    subst (λ (l : Learner). Grows ks l (Tree c.close-in-Tree.new.self) c.close-in-Tree.result) (sym c.in-Tree.is)
    (tree_grows ⊤ ks c.in-Tree.tree c.close-in-Tree.new.self c.close-in-Tree.result closes.grown (as_many_finals c.in-Tree.tree c.close-in-Tree.new.self closes.keeps.finals) closes.closed closes.crowd)
