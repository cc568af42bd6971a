use Rattle.std.proofs.Common.{◌≡◌, ◌∙◌, ◌++◌, ◌∷◌, [], map, take, ap}
use Rattle.std.proofs.lemmas.List.{map-append}
use Rattle.lw_words.proofs.Lists.{take-map_more}
use Rattle.lw_mealy.specs.Machine.{Rows, Row}
use Rattle.lw_mealy.proofs.mealy.copy_rows.Goals as goal

pub loop-row-preserved : goal.loop-row-preserved
loop-row-preserved c =
    let same : c.in_ok-from_slice.field-0.items ≡ c.row-item.result.items = c.in_ok-from_slice.ensures.items ∙ c.deref.ensures.value in
    ap (map (λ r. r.items)) c.in_ok-push.ensures.items
    ∙ (map-append (λ r. r.items) c.loop-row.copies.items (c.in_ok-from_slice.field-0 ∷ [])
    ∙ (ap (λ (rows : Rows). rows ++ c.in_ok-from_slice.field-0.items ∷ []) c.loop-row.invariant
    ∙ (ap (λ (r : Row). take c.loop-row.row-index (map (λ r. r.items) c.args.rows.now) ++ r ∷ []) same
    ∙ take-map_more (λ r. r.items) c.args.rows.now c.loop-row.row-index c.row-item.result c.loop-row-test.true c.row-item.is)))
