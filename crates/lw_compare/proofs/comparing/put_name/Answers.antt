use Rattle.std.proofs.Common.{rules, ◌≡◌, ◌∙◌, List, ℕ, [], ◌∷◌, ◌++◌, map, get_or, string_bytes, ap, sym}
use Rattle.std.proofs.lemmas.List.{map-append}
use Rattle.std.proofs.lemmas.Option.{get_or_from_slice_get}
use Rattle.lw_compare.proofs.comparing.put_name.Goals as goal

pub returns : goal.returns
returns c =
    let bytes : string_bytes c.in_ok-from_str.field-0 ≡ c.name.result.now = search rules in
    let name : get_or c.args.names.now c.args.number [] ≡ c.name.result.now = get_or_from_slice_get c.args.names.now c.args.number c.name.result.now [] c.name.ensures.value in
    ap (map (λ s. string_bytes s)) c.in_ok-push.ensures.items
    ∙ (map-append (λ s. string_bytes s) c.args.texts.now.items (c.in_ok-from_str.field-0 ∷ [])
    ∙ ap (λ (n : List ℕ). map (λ s. string_bytes s) c.args.texts.now.items ++ n ∷ []) (bytes ∙ sym name))
