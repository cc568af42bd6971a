use Rattle.std.proofs.Common.{◌≡◌, ◌∙◌, ◌∷◌, [], ap, map, rules, Some, None}
use Rattle.std.proofs.lemmas.List.{map-append}
use Rattle.serde_json.specs.View.{view}
use Rattle.lw_json.specs.Formats.{row_of}
use Rattle.lw_json.specs.bodies.Found.{named_row}
use Rattle.lw_json.proofs.EachLemmas.{going_more, going_none}
use Rattle.lw_json.proofs.machine_reader.rows.Goals as goal

pub returns-in_default : goal.returns-in_default
returns-in_default c =
    let none : row_of (view c.item-item.result) ≡ None = search rules in
    going_none view row_of (map (λ w. named_row w.items) c.loop-item.all.items) c.args.items.now c.loop-item.item-index c.item-item.result c.loop-item-test.true c.item-item.is none c.loop-item.invariant

pub loop-item-preserved : goal.loop-item-preserved
loop-item-preserved c =
    let found : row_of (view c.item-item.result) ≡ Some (named_row c.in-Some.cells.items) = search rules in
    going_more view row_of (map (λ w. named_row w.items) c.loop-item.all.items) (map (λ w. named_row w.items) c.push.new.self.items) c.args.items.now c.loop-item.item-index c.item-item.result (named_row c.in-Some.cells.items)
    c.loop-item-test.true c.item-item.is found
    (ap (map (λ w. named_row w.items)) c.in_ok-push.ensures.items ∙ map-append (λ w. named_row w.items) c.loop-item.all.items (c.in-Some.cells ∷ []))
    c.loop-item.invariant
