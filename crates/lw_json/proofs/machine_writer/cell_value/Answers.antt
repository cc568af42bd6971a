use Rattle.std.proofs.Common.{◌≡◌, ◌∙◌, ◌++◌, ◌∷◌, [], List, ap, map, refl, slice_index_or, sym}
use Rattle.std.proofs.lemmas.Option.{get_or_from_slice_get}
use Rattle.serde_json.specs.Data.{array, string, number, unsigned}
use Rattle.serde_json.specs.View.{view, items_of}
use Rattle.serde_json.specs.declared.value.Value.{Value}
use Rattle.serde_json.proofs.Views.{view-Array}
use Rattle.lw_json.proofs.machine_writer.cell_value.Goals as goal

pub returns : goal.returns
returns c =
    let items : c.push_reserved-2.new.self.items ≡ c.from.result ∷ c.in_ok-try_from_str.field-0 ∷ [] =
    c.push_reserved-2.ensures.items ∙ ap (λ (l : List Value). l ++ c.in_ok-try_from_str.field-0 ∷ []) (c.push_reserved.ensures.items ∙ ap (λ (l : List Value). l ++ c.from.result ∷ []) c.in_ok-pair.ensures.items) in
    let target : view c.from.result ≡ number (unsigned c.args.cell.0) = c.from.ensures in
    let name : view c.in_ok-try_from_str.field-0 ≡ string (slice_index_or c.args.outputs.now c.args.cell.1 []) =
    c.in_ok-try_from_str.ensures ∙ ap string (sym (get_or_from_slice_get c.args.outputs.now c.args.cell.1 c.name.result.now [] c.name.ensures.value)) in
    view-Array c.push_reserved-2.new.self ∙ (ap (λ (l : List Value). array (items_of (map view l))) items ∙ rw (target, name) refl)
