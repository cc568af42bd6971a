use Rattle.std.proofs.Common.{◌∙◌, ◌<◌, ◌≤◌, ◌⊎◌, ⊎_elim, inl, inr, length, map, option_and_then, sym, ap, arith}
use Rattle.std.proofs.lemmas.List.{length-map}
use Rattle.serde_json.specs.View.{view}
use Rattle.lw_json.specs.Formats.{cell_of_two}
use Rattle.lw_json.proofs.EachLemmas.{short_no_pair, long_no_pair}
use Rattle.lw_json.proofs.machine_reader.cell.Goals as goal
use Rattle.lw_json.proofs.machine_reader.cell.Goals.{in_default-via-then-as_slice-lt2, in_default-via-else-as_slice-lt2+else-this-lt3}

pub returns-in_default : goal.returns-in_default
returns-in_default c =
    let long = length-map c.in_ok-list.field-0.now.items view in
    let same = ap length c.as_slice.ensures.value in
    let few : (length c.in_ok-list.field-0.now.items < 2) ⊎ (3 ≤ length c.in_ok-list.field-0.now.items) = elim c.in_default.branch [
      | in_default-via-then-as_slice-lt2 w ↦ let lt : length c.as_slice.result.now < 2 = grind (arith, w) in inl (omega arith)
      | in_default-via-else-as_slice-lt2+else-this-lt3 w ↦ let le : 3 ≤ length c.as_slice.result.now = grind (arith, w) in inr (omega arith)
    ] in
    ⊎_elim
    (λ lt. sym (short_no_pair (map view c.in_ok-list.field-0.now.items) (omega arith)) ∙ ap (option_and_then cell_of_two) c.in_ok-list.ensures)
    (λ le. sym (long_no_pair (map view c.in_ok-list.field-0.now.items) (omega arith)) ∙ ap (option_and_then cell_of_two) c.in_ok-list.ensures)
    few
