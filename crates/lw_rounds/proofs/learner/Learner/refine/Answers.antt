use Rattle.std.proofs.Common.{sym, subst, OnOk}
use Rattle.std.specs.Prelude.{⊤}
use Rattle.lw_words.specs.Word.{answers_of}
use Rattle.lw_tree.specs.Grown.{cut_word}
use Rattle.lw_tree.specs.Tree.{leaf_at}
use Rattle.lw_rounds.specs.declared.learner.Learner.{Learner}
use Rattle.lw_rounds.specs.declared.learner.Learner.TheVariants.{Table, Tree}
use Rattle.lw_rounds.specs.bodies.Rounds.{Grows}
use Rattle.lw_rounds.specs.bodies.Plain.{RefinesAsPlain}
use Rattle.lw_rounds.proofs.PlainLemmas.{any_ok, refines_table}
use Rattle.lw_rounds.proofs.LearnerLemmas.{table_grows, tree_grows, split_finals}
use Rattle.lw_rounds.proofs.learner.Learner.refine.Goals as goal

pub returns-in-Table-clause-grows : goal.returns-in-Table-clause-grows
returns-in-Table-clause-grows g c =
    let ks = answers_of (g.O.Oracle.state c.refine.new.oracle).kept in
    let refines = c.refine.ensures.refines in
    subst (λ (l : Learner). Grows ks l (Table c.refine.new.self) c.refine.result) (sym c.in-Table.is)
    (table_grows ks c.in-Table.table c.refine.new.self c.refine.result refines.grown refines.closed refines.crowd)

pub returns-in-Table-clause-plainly : goal.returns-in-Table-clause-plainly
returns-in-Table-clause-plainly g c =
    let o = g.O.Oracle.state c.args.oracle.now in
    let n = g.O.Oracle.state c.refine.new.oracle in
    let suffix = c.args.cut.now.suffix in
    subst (λ (l : Learner). OnOk c.refine.result (RefinesAsPlain suffix l (Table c.refine.new.self) o n)) (sym c.in-Table.is)
    (refines_table suffix c.in-Table.table c.refine.new.self o n c.refine.result c.refine.ensures.plainly c.refine.ensures.refines.refined)

pub returns-in-Tree-clause-plainly : goal.returns-in-Tree-clause-plainly
returns-in-Tree-clause-plainly g c =
    let o = g.O.Oracle.state c.args.oracle.now in
    let n = g.O.Oracle.state c.split.new.oracle in
    subst (λ (l : Learner). OnOk c.split.result (RefinesAsPlain c.args.cut.now.suffix l (Tree c.split.new.self) o n)) (sym c.in-Tree.is) (any_ok c.split.result)

pub returns-in-Tree-clause-grows : goal.returns-in-Tree-clause-grows
returns-in-Tree-clause-grows g c =
    let ks = answers_of (g.O.Oracle.state c.split.new.oracle).kept in
    let splits = c.split.ensures.splits in
    subst (λ (l : Learner). Grows ks l (Tree c.split.new.self) c.split.result) (sym c.in-Tree.is)
    (tree_grows ⊤ ks c.in-Tree.tree c.split.new.self c.split.result splits.grown (split_finals (cut_word c.in-Tree.tree.access c.args.cut.now) c.args.cut.now.suffix (leaf_at c.in-Tree.tree.leaves c.args.cut.now.target) c.in-Tree.tree c.split.new.self c.split.result splits.split splits.left) splits.closed splits.crowd)
