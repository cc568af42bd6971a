use Rattle.std.proofs.Common.{subst}
use Rattle.lw_mealy.specs.Machine.{MealyMachine, IsMachine}
use Rattle.lw_wp.specs.bodies.Tables.{numbers_in}
use Rattle.lw_wp.specs.bodies.Cursors.{words_of}
use Rattle.lw_wp.proofs.WpTableLemmas.{made_wp_suite, wp_is_table}
use Rattle.lw_wp.proofs.wp_suite.parts_of.Goals as goal

pub returns-clause-words : goal.returns-clause-words
returns-clause-words c =
    let m = c.args.m.now in
    let machine : IsMachine m.inputs m.rows = subst (λ (n : MealyMachine). IsMachine n.inputs n.rows) c.in_ok-parts.ensures.machine c.in_ok-parts.ensures.parts.machine in
    made_wp_suite m.inputs m.rows c.args.extra c.args.access c.in_ok-by.by.words (words_of c.in_ok-parts.parts) (numbers_in c.in_ok-table.table)
    machine c.requires.least c.in_ok-by.ensures.separating c.in_ok-table.ensures c.in_ok-parts.ensures.words

pub parts_by-requires-clause-table : goal.parts_by-requires-clause-table
parts_by-requires-clause-table c = wp_is_table c.args.m.now.rows c.in_ok-by.by.words (numbers_in c.in_ok-table.table) c.in_ok-table.ensures
