use Rattle.std.proofs.Common.{◌≡◌, ◌<◌, ◌∙◌, length, map, slice_get, Some, ap, sym, subst, List, ℕ, string_bytes, arith}
use Rattle.std.proofs.lemmas.List.{length-map}
use Rattle.lw_words.proofs.Lists.{slice_get-map_at}
use Rattle.lw_words.specs.Word.{IsNames}
use Rattle.lw_words.proofs.NumberLemmas.{number_at_place}
use Rattle.lw_words.proofs.names.Names.name.Goals as goal

at_place : (c : goal.After-as_str) → slice_get c.args.self.now c.args.n ≡ Some c.as_str.result.now
at_place c =
    let texts : List (List ℕ) = map (λ s. string_bytes s) c.self.inside.names.items in
    let long : length texts ≡ length c.self.inside.names.items = length-map c.self.inside.names.items (λ s. string_bytes s) in
    let here : length texts ≡ length c.args.self.now = ap (λ (l : List (List ℕ)). length l) c.self.view_is in
    let lt : c.from.result < length c.self.inside.names.items = omega (arith, c.from.ensures, c.requires) in
    ap (λ (l : List (List ℕ)). slice_get l c.args.n) (sym c.self.view_is)
    ∙ (ap (slice_get texts) (sym c.from.ensures)
    ∙ (slice_get-map_at (λ s. string_bytes s) c.self.inside.names.items c.from.result c.index.result.now lt c.index.ensures ∙ ap (λ (b : List ℕ). Some b) (sym c.as_str.ensures.value)))

pub returns-clause-inverse : goal.returns-clause-inverse
returns-clause-inverse c =
    let names : IsNames c.args.self.now = subst (λ (n : List (List ℕ)). IsNames n) c.self.view_is c.self.invariant.0 in
    number_at_place c.args.self.now c.args.n c.as_str.result.now names.differ (at_place c)
