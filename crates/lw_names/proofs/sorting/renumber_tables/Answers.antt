use Rattle.std.proofs.Common.{ℕ, ◌<◌, List, length, drop, get_or, map, vec_capacity, Vec, Global, sym, ap, ◌∙◌, arith}
use Rattle.std.proofs.lemmas.List.{take_at}
use Rattle.lw_words.specs.Renumbering.{renumbered}
use Rattle.lw_names.proofs.NameOrder.{item_below, items_more, rooms_same}
use Rattle.lw_names.proofs.sorting.renumber_tables.Goals as goal

abbrev items : Vec ℕ Global → List ℕ
items t = t.items

abbrev capacity : Vec ℕ Global → ℕ
capacity t = vec_capacity t

pub renumber-requires : goal.renumber-requires
renumber-requires c =
    let i : ℕ = c.loop-table.table-index in
    let x = c.table-item.result in
    let within : i < length c.loop-table.tables = omega arith in
    item_below items capacity c.args.to.now (map items c.args.tables.now) c.loop-table.tables i x within c.table-item.is c.loop-table.invariant.items c.requires c.as_mut_slice.result.now
    (c.as_mut_slice.ensures.value ∙ ap items (sym c.table-item.is))

pub loop-table-preserved : goal.loop-table-preserved
loop-table-preserved c =
    let i : ℕ = c.loop-table.table-index in
    let x = c.table-item.result in
    let within : i < length c.loop-table.tables = omega arith in
    let old : Vec ℕ Global = get_or c.loop-table.tables i x in
    record {
      items = items_more items capacity c.args.to.now (map items c.args.tables.now) c.loop-table.tables i x within c.table-item.is c.loop-table.invariant.items _
          (take_at c.renumber.new.numbers (drop (length c.renumber.new.numbers) old.items) old.len (omega arith) ∙ (c.renumber.ensures ∙ ap (renumbered c.args.to.now) (c.as_mut_slice.ensures.value ∙ ap items (sym c.table-item.is))));
      capacities = rooms_same items capacity c.args.to.now (map items c.args.tables.now) c.loop-table.tables i x within c.table-item.is c.loop-table.invariant.items _
          (ap capacity (sym c.table-item.is)) ∙ c.loop-table.invariant.capacities;
    }
