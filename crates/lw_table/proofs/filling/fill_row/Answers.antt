use Rattle.std.proofs.Common.{rules, ◌≡◌, ◌++◌, ◌∷◌, [], ap, sym, List, ℕ, length, subst, arith}
use Rattle.std.proofs.lemmas.List.{length-append}
use Rattle.std.proofs.lemmas.Option.{get_or_from_slice_get}
use Rattle.lw_words.specs.Word.{answers_of}
use Rattle.lw_cache.specs.Cut.{word_at}
use Rattle.lw_cache.specs.Known.{IsKnown}
use Rattle.lw_table.specs.bodies.Classes.{row_of}
use Rattle.lw_table.specs.bodies.Filling.{IsCellOf}
use Rattle.lw_table.proofs.FillLemmas.{goes_further, more_then}
use Rattle.lw_table.proofs.filling.fill_row.Goals as goal

pub read_cell-requires-clause-known : goal.read_cell-requires-clause-known
read_cell-requires-clause-known c =
    let l = c.loop-cell in
    let at : c.get.result.now ≡ word_at c.args.suffixes.now l.cell = sym (get_or_from_slice_get c.args.suffixes.now l.cell c.get.result.now [] c.get.ensures) in
    subst (λ (e : List ℕ). IsKnown (answers_of c.args.cache.now.kept) (c.args.word.now ++ e)) (sym at) (c.requires.known l.cell (search rules) (search rules))

pub loop-cell-preserved : goal.loop-cell-preserved
loop-cell-preserved c =
    let l = c.loop-cell in
    let ks = answers_of c.args.cache.now.kept in
    let entered = c.in_ok-class.ensures.entered in
    let now = row_of l.classes l.class in
    let at : c.get.result.now ≡ word_at c.args.suffixes.now l.cell = sym (get_or_from_slice_get c.args.suffixes.now l.cell c.get.result.now [] c.get.ensures) in
    let cell : IsCellOf ks c.args.word.now (word_at c.args.suffixes.now l.cell) c.in_ok-outputs.outputs.items = subst (λ (e : List ℕ). IsCellOf ks c.args.word.now e c.in_ok-outputs.outputs.items) at c.in_ok-outputs.ensures in
    let long = length-append now (c.in_ok-outputs.outputs.items ∷ []) in
    record {
      more = more_then c.args.classes.now l.classes c.enter.new.self entered.more l.invariant.more entered.stay;
      differ = c.enter.ensures.differ;
      within = entered.within;
      cells = omega (arith, ap (λ (r : List (List ℕ)). length r) entered.row, long, l.invariant.cells);
      goes_on = goes_further ks c.args.suffixes.now c.args.word.now (row_of c.args.classes.now c.args.row.class) now (row_of c.enter.new.self c.in_ok-class.class) c.in_ok-outputs.outputs.items l.cell l.invariant.goes_on l.invariant.cells cell entered.row;
    }
