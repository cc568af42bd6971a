use Rattle.std.proofs.Common.{subst}
use Rattle.lw_mealy.specs.Machine.{MealyMachine, IsMachine}
use Rattle.lw_wp.specs.bodies.Tables.{numbers_in}
use Rattle.lw_wp.specs.bodies.Cursors.{words_of}
use Rattle.lw_wp.proofs.GreedySuiteLemmas.{greedy_is_h_suite}
use Rattle.lw_wp.proofs.HTableLemmas.{h_is_table}
use Rattle.lw_wp.proofs.h_suite.parts_of.Goals as goal

pub returns-clause-words : goal.returns-clause-words
returns-clause-words c =
    let made = c.in_ok-table.ensures in
    record {
      access = c.args.access;
      ends = c.in_ok-by.by.words;
      own = made.own;
      table = numbers_in c.in_ok-table.table;
      least = c.requires.least;
      separating = c.in_ok-by.ensures.separating;
      greedy = made.greedy;
      rows = made.rows;
      words = c.in_ok-parts.ensures.words;
    }

pub returns-clause-suite : goal.returns-clause-suite
returns-clause-suite c =
    let m = c.args.m.now in
    let machine : IsMachine m.inputs m.rows = subst (λ (n : MealyMachine). IsMachine n.inputs n.rows) c.in_ok-parts.ensures.machine c.in_ok-parts.ensures.parts.machine in
    greedy_is_h_suite m.inputs m.rows c.args.extra (words_of c.in_ok-parts.parts) machine (returns-clause-words c)

pub parts_by-requires-clause-table : goal.parts_by-requires-clause-table
parts_by-requires-clause-table c =
    let made = c.in_ok-table.ensures in
    h_is_table c.args.m.now.inputs c.args.m.now.rows c.in_ok-by.by.words made.own made.greedy c.args.extra (numbers_in c.in_ok-table.table) made.rows
