use Rattle.std.proofs.Common.{rules, ◌≡◌, ◌<◌, ◌≤◌, ◌++◌, ℕ, List, drop, length, map, Contains, arith}
use Rattle.std.proofs.lemmas.List.{get_or-map, length-map}
use Rattle.lw_plain.specs.Table.{row_words, row_cells}
use Rattle.lw_table.specs.bodies.Rows.{no_cells, cells_at}
use Rattle.lw_table.specs.declared.rows.Row.{Row}
use Rattle.lw_table.proofs.AskLemmas.{row_word_is}
use Rattle.lw_table.proofs.FillLemmas.{each_row_more, contained_more}
use Rattle.lw_table.proofs.OpenLemmas.{length-row_words, row_word_at, open_more, open_end}
use Rattle.lw_table.proofs.filling.unfilled.Goals as goal

pub loop-row-preserved : goal.loop-row-preserved
loop-row-preserved c =
    let l = c.loop-row in
    let a = c.args.inputs in
    let access = c.args.access.now in
    let suffixes = c.args.suffixes.now in
    let rows = c.args.rows.now in
    let counts : List ℕ = map (λ (r : Row). r.cells) rows in
    let word = c.in_ok-word.word in
    let inside : l.row < length rows = search rules in
    let count : length counts ≡ length rows = length-map rows (λ (r : Row). r.cells) in
    let size : length (row_words a access) ≡ length rows = omega (arith, length-row_words a access, c.requires.rows) in
    let added : c.add_cells.new.words ≡ l.words ++ row_cells (drop (cells_at rows l.row) suffixes) word = search rules in
    record {
      left = open_more suffixes (row_words a access) counts l.words c.add_cells.new.words _ l.row word (cells_at rows l.row) (omega (arith, inside, size)) (omega (arith, inside, count))
          (row_word_at a access l.row word c.in_ok-word.ensures.word) (get_or-map (λ (r : Row). r.cells) rows l.row no_cells 0 inside) added l.invariant.left;
      each = each_row_more (Contains l.words) (Contains c.add_cells.new.words) a access suffixes rows c.args.first l.row word
          (contained_more l.words c.add_cells.new.words c.add_cells.ensures.more) l.invariant.each c.in_ok-word.ensures.word (search rules);
      cells = c.add_cells.ensures.cells a access (row_word_is a access l.row word c.in_ok-word.ensures.word) l.invariant.cells;
      letters = c.add_cells.ensures.letters a c.in_ok-word.ensures.letters c.requires.suffixes l.invariant.letters;
    }

pub returns-clause-each : goal.returns-clause-each
returns-clause-each c = λ j w le lt is k low high. c.loop-row.invariant.each j w le (omega (arith, lt, c.loop-row-test.false)) is k low high

pub returns-clause-left_open : goal.returns-clause-left_open
returns-clause-left_open c =
    let a = c.args.inputs in
    let access = c.args.access.now in
    let size : length (row_words a access) ≡ length c.args.rows.now = omega (arith, length-row_words a access, c.requires.rows) in
    let past : length c.args.rows.now ≤ c.loop-row.row = omega (arith, c.loop-row-test.false) in
    open_end c.args.suffixes.now (row_words a access) (map (λ (r : Row). r.cells) c.args.rows.now) c.loop-row.words _ c.loop-row.row (omega (arith, size, past)) c.loop-row.invariant.left
