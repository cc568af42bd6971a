use Rattle.std.proofs.Common.{sym, subst, Ok, IfOk}
use Rattle.lw_words.specs.Word.{answers_of}
use Rattle.lw_rounds.specs.declared.learner.Learner.{Learner}
use Rattle.lw_rounds.specs.declared.learner.Learner.TheVariants.{Tree}
use Rattle.lw_rounds.specs.bodies.Rounds.{Grows, SettlesBlock}
use Rattle.lw_rounds.proofs.LearnerLemmas.{table_stays, tree_grows, settled_finals, tree_settles}
use Rattle.lw_rounds.specs.Learner.{IsLearner, IsRead, IsClosedLearner}
use Rattle.lw_settle.specs.declared.settling.Settled.{Settled}
use Rattle.lw_settle.specs.declared.settling.Settled.TheVariants.{NoBlock}
use Rattle.lw_cache.proofs.SettlingLemmas.{leaves_nothing}
use Rattle.lw_rounds.proofs.learner.Learner.settle.Goals as goal

pub returns-in-Table-clause-grows : goal.returns-in-Table-clause-grows
returns-in-Table-clause-grows g c =
    let ks = answers_of (g.O.Oracle.state c.args.oracle.now).kept in
    let is = c.in-Table.is in
    subst (λ (l : Learner). Grows ks l l (Ok NoBlock)) (sym is)
    (table_stays ks c.in-Table.field-0 NoBlock (subst IsLearner is c.requires.learner) (subst (IsRead ks) is c.requires.read) (subst IsClosedLearner is c.requires.closed))

pub returns-in-Table-clause-leaves : goal.returns-in-Table-clause-leaves
returns-in-Table-clause-leaves g c = leaves_nothing (g.O.Oracle.state c.args.oracle.now) c.requires.keeps c.requires.may

pub returns-in-Tree-clause-grows : goal.returns-in-Tree-clause-grows
returns-in-Tree-clause-grows g c =
    let ks = answers_of (g.O.Oracle.state c.settle_block.new.oracle).kept in
    let settles = c.settle_block.ensures.settles in
    subst (λ (l : Learner). Grows ks l (Tree c.settle_block.new.tree) c.settle_block.result) (sym c.in-Tree.is)
    (tree_grows Settled ks c.in-Tree.tree c.settle_block.new.tree c.settle_block.result settles.grown (settled_finals ks c.in-Tree.tree c.settle_block.new.tree c.settle_block.result settles.settled settles.left) settles.closed settles.crowd)

pub returns-in-Tree-clause-settles : goal.returns-in-Tree-clause-settles
returns-in-Tree-clause-settles g c =
    subst (λ (l : Learner). IfOk c.settle_block.result (SettlesBlock l (Tree c.settle_block.new.tree))) (sym c.in-Tree.is)
    (tree_settles c.in-Tree.tree c.settle_block.new.tree c.settle_block.result c.settle_block.ensures.settles.settled)
