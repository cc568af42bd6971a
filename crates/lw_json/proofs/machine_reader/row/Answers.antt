use Rattle.std.proofs.Common.{◌∙◌, ◌∷◌, [], ap, sym, map}
use Rattle.std.proofs.lemmas.List.{map-append}
use Rattle.serde_json.specs.View.{view}
use Rattle.lw_json.specs.Formats.{cell_of}
use Rattle.lw_json.proofs.EachLemmas.{going_more}
use Rattle.lw_json.proofs.machine_reader.row.Goals as goal

pub loop-item-preserved : goal.loop-item-preserved
loop-item-preserved c =
    going_more view cell_of (map (λ k. (k.0, k.1.now)) c.loop-item.cells.items) (map (λ k. (k.0, k.1.now)) c.push.new.self.items) c.deref-item-items.result.now c.loop-item.item-index c.item-item.result (c.in-Some-cell.pair.0, c.in-Some-cell.pair.1.now)
    c.loop-item-test.true c.item-item.is (sym c.in-Some-cell.ensures)
    (ap (map (λ k. (k.0, k.1.now))) c.in_ok-push.ensures.items ∙ map-append (λ k. (k.0, k.1.now)) c.loop-item.cells.items (c.in-Some-cell.pair ∷ []))
    c.loop-item.invariant
