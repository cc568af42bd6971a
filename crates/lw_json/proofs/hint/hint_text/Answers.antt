use Rattle.std.proofs.Common.{◌∙◌, ◌++◌, List, ℕ, ap, append_assoc, arith, codes}
use Rattle.std.specs.List.{flat_map}
use Rattle.std.proofs.lemmas.List.{take_all}
use Rattle.lw_json.specs.Hint.{printed}
use Rattle.lw_json.proofs.hint.hint_text.Goals as goal

pub returns : goal.returns
returns c =
    let name : List ℕ = c.args.name.now in
    let front : List ℕ = codes "unknown member \"" in
    let end : List ℕ = codes "\" in setup\n" in
    let all = take_all c.loop-byte.byte-index name (omega (arith, c.loop-byte-test.false)) in
    c.in_ok-extend_from_slice-2.ensures.items
    ∙ (ap (λ (l : List ℕ). l ++ end) (c.loop-byte.invariant ∙ ap (λ (w : List ℕ). front ++ flat_map printed w) all) ∙ append_assoc front (flat_map printed name) end)
