use Rattle.std.proofs.Common.{rules, ◌≡◌, ◌++◌, ◌∷◌, [], sym}
use Rattle.std.proofs.lemmas.Option.{get_or_from_slice_get}
use Rattle.lw_cache.specs.Cut.{word_at}
use Rattle.lw_table.proofs.AskLemmas.{cell_word_more}
use Rattle.lw_table.proofs.FillLemmas.{cell_added, letters_added, more_then}
use Rattle.lw_table.proofs.OpenLemmas.{cell_more, cell_end}
use Rattle.lw_table.proofs.filling.add_cells.Goals as goal

pub loop-cell-preserved : goal.loop-cell-preserved
loop-cell-preserved c =
    let l = c.loop-cell in
    let at : c.get.result.now ≡ word_at c.args.suffixes.now l.cell = sym (get_or_from_slice_get c.args.suffixes.now l.cell c.get.result.now [] c.get.ensures) in
    let asked = c.in_ok-join.field-0 in
    let is : asked ≡ c.args.word.now ++ word_at c.args.suffixes.now l.cell = search (rules, at) in
    let grown : c.push.new.self ≡ l.words ++ asked ∷ [] = search rules in
    record {
      more = more_then c.args.words.now l.words c.push.new.self (asked ∷ []) l.invariant.more grown;
      row = cell_more c.args.suffixes.now l.words c.push.new.self _ c.args.word.now asked l.cell (search rules) grown is l.invariant.row;
      each = cell_added l.words c.push.new.self c.args.suffixes.now c.args.word.now asked c.args.from l.cell grown is l.invariant.each;
      cells = λ a access of_row was. cell_word_more a access c.args.suffixes.now l.words c.push.new.self c.args.word.now (word_at c.args.suffixes.now l.cell) asked of_row (search rules) is grown (l.invariant.cells a access of_row was);
      letters = λ a letters each was. letters_added l.words c.push.new.self c.args.suffixes.now c.args.word.now asked a l.cell grown is (search rules) letters each (l.invariant.letters a letters each was);
    }

pub returns-clause-row : goal.returns-clause-row
returns-clause-row c = cell_end c.args.suffixes.now c.loop-cell.words _ c.args.word.now c.loop-cell.cell (search rules) c.loop-cell.invariant.row
