use Rattle.std.proofs.Common.{◌≡◌, ℕ, ◌+◌, ◌≤◌, ◌∙◌, sym, ap, List, [], ◌∷◌, ◌++◌, map, take, length, slice_get, Some, None, string_bytes, arith, subst, length-take}
use Rattle.std.specs.HashMap.{get_by_text}
use Rattle.std.specs.Map.{update}
use Rattle.std.specs.Str.{bytes_eq}
use Rattle.std.proofs.lemmas.List.{get_or_default, length-map, take_all}
use Rattle.std.proofs.lemmas.Map.Text.{hash_map_updates_text}
use Rattle.lw_words.specs.bodies.Numbers.{AreNumbers}
use Rattle.lw_words.proofs.Lists.{take-map_more, slice_get-map_at}
use Rattle.lw_words.proofs.NumberLemmas.{none_before, numbers_more}
use Rattle.lw_words.proofs.names.numbered.Goals as goal

pub loop-place-preserved : goal.loop-place-preserved
loop-place-preserved c =
    let texts : List (List ℕ) = map (λ t. t.now) c.args.names.now in
    let name : List ℕ = string_bytes c.in_ok-name.name in
    let lt = c.loop-place-test.true in
    let at = get_or_default c.args.names.now c.loop-place.place (record { ref_ptr = (0, 0); now = [] }) _ lt in
    let here : slice_get texts c.loop-place.place ≡ Some name =
    slice_get-map_at (λ t. t.now) c.args.names.now c.loop-place.place _ lt at ∙ ap (λ (b : List ℕ). Some b) (sym c.in_ok-name.ensures.ok) in
    let none : get_by_text c.loop-place.numbers name ≡ None = none_before c.loop-place.numbers texts name c.loop-place.place c.loop-place.invariant c.requires.differ here in
    let long : length texts ≡ length c.args.names.now = length-map c.args.names.now (λ t. t.now) in
    let next : length (take c.loop-place.place texts) ≡ c.loop-place.place = length-take c.loop-place.place texts ∙ omega arith in
    let more : take c.loop-place.place texts ++ name ∷ [] ≡ take (c.loop-place.place + 1) texts =
    ap (λ (b : List ℕ). take c.loop-place.place texts ++ b ∷ []) c.in_ok-name.ensures.ok ∙ take-map_more (λ t. t.now) c.args.names.now c.loop-place.place _ lt at in
    subst (λ (l : List (List ℕ)). AreNumbers c.insert.new.self l) more (numbers_more c.loop-place.numbers (take c.loop-place.place texts) name c.insert.new.self c.loop-place.invariant none
    (λ text. hash_map_updates_text name c.loop-place.numbers c.insert.new.self _ c.in_ok-insert.ensures.updates text ∙ ap (λ (i : ℕ). update bytes_eq (get_by_text c.loop-place.numbers) name (Some i) text) (sym next)))

pub returns : goal.returns
returns c =
    let long : length (map (λ t. t.now) c.args.names.now) ≡ length c.args.names.now = length-map c.args.names.now (λ t. t.now) in
    let past : length c.args.names.now ≤ c.loop-place.place = c.loop-place-test.false in
    subst (λ (l : List (List ℕ)). AreNumbers c.loop-place.numbers l) (take_all c.loop-place.place (map (λ t. t.now) c.args.names.now) (omega arith)) c.loop-place.invariant
