use Rattle.std.proofs.Common.{◌≡◌, ℕ, List, [], length, Bool, true, sym, ap, ◌∙◌}
use Rattle.std.specs.List.{position_or_len}
use Rattle.lw_plain.specs.Table.{has_same_row}
use Rattle.lw_plain_run.proofs.ListLemmas.{first_place, no_place}
use Rattle.lw_plain_run.proofs.hypothesis.state_of.Goals as goal

pub returns-then-have_same_row : goal.returns-then-have_same_row
returns-then-have_same_row c =
    let p : List ℕ → Bool = has_same_row c.args.m.now.rows c.args.table.now.suffixes c.args.word.now in
    let here : p c.access-item.result ≡ true = ap (λ (es : List (List ℕ)). has_same_row c.args.m.now.rows es c.args.word.now c.access-item.result) (sym c.suffixes.ensures) ∙ sym c.if-have_same_row.ensures in
    let items : c.as_slice-access-items.result.now ≡ c.args.table.now.access = c.as_slice-access-items.ensures ∙ c.access.ensures in
    first_place p c.as_slice-access-items.result.now c.loop-state.state c.access-item.result [] c.loop-state-test.true c.access-item.is c.loop-state.invariant here
    ∙ ap (λ (us : List (List ℕ)). position_or_len p us) items

pub returns : goal.returns
returns c =
    let p : List ℕ → Bool = has_same_row c.args.m.now.rows c.args.table.now.suffixes c.args.word.now in
    let items : c.as_slice-access-items.result.now ≡ c.args.table.now.access = c.as_slice-access-items.ensures ∙ c.access.ensures in
    let long : c.len.result ≡ length c.as_slice-access-items.result.now = c.len.ensures ∙ ap (λ (us : List (List ℕ)). length us) (c.access-2.ensures ∙ sym items) in
    long ∙ (no_place p c.as_slice-access-items.result.now c.loop-state.state [] c.loop-state-test.false c.loop-state.invariant
    ∙ ap (λ (us : List (List ℕ)). position_or_len p us) items)
