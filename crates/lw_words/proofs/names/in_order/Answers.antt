use Rattle.std.proofs.Common.{◌≡◌, ℕ, ◌+◌, ◌∙◌, sym, ap, List, [], ◌∷◌, ◌++◌, true, false, map, take, slice_get, Some, string_bytes, arith, subst, length}
use Rattle.std.specs.List.{list_any}
use Rattle.std.specs.Str.{bytes_eq}
use Rattle.std.proofs.lemmas.Bool.{not-true, not-false}
use Rattle.std.proofs.lemmas.List.{length-map}
use Rattle.lw_words.specs.Word.{AllDiffer}
use Rattle.lw_words.proofs.Lists.{take-map_more, slice_get-map_at}
use Rattle.lw_words.proofs.NumberLemmas.{added, stays, stored_at, differ_more, repeats}
use Rattle.lw_words.proofs.names.in_order.Goals as goal

pub returns-then-not-is_new-clause-err : goal.returns-then-not-is_new-clause-err
returns-then-not-is_new-clause-err c =
    let texts : List (List ℕ) = map (λ s. string_bytes s) c.args.list.now in
    let name : List ℕ = c.as_str.result.now in
    let stored = c.in_ok-first.ensures.stored in
    let any : list_any (λ y. bytes_eq name y.now) c.loop-place.names.keys ≡ true = not-false _ (sym c.in_ok-first.ensures.added ∙ c.if-not-is_new.true) in
    let long : length texts ≡ length c.args.list.now = length-map c.args.list.now (λ s. string_bytes s) in
    let there : slice_get (take c.loop-place.place texts) c.in_ok-first.first ≡ Some name =
    ap (λ (l : List (List ℕ)). slice_get l c.in_ok-first.first) (sym (ap (map (λ t. t.now)) (stays (λ t. t.now) c.loop-place.names.keys c.insert_full.new.self.keys c.as_str.result c.in_ok-first.ensures.keys any) ∙ c.loop-place.invariant.so_far))
    ∙ stored_at (λ t. t.now) c.insert_full.new.self.keys c.as_str.result stored.0 c.in_ok-first.first stored.1 stored.2 in
    let here : slice_get texts c.loop-place.place ≡ Some name =
    slice_get-map_at (λ s. string_bytes s) c.args.list.now c.loop-place.place c.index-list-place.result c.loop-place-test.true c.index-list-place.is ∙ ap (λ (b : List ℕ). Some b) (sym c.as_str.ensures.value) in
    (λ limit few. (omega arith, c.requires.each, repeats texts c.in_ok-first.first c.loop-place.place name (omega arith) here there c.loop-place.invariant.differ))

pub loop-place-preserved : goal.loop-place-preserved
loop-place-preserved c =
    let texts : List (List ℕ) = map (λ s. string_bytes s) c.args.list.now in
    let name : List ℕ = c.as_str.result.now in
    let none : list_any (λ y. bytes_eq name y.now) c.loop-place.names.keys ≡ false = not-true _ (sym c.in_ok-first.ensures.added ∙ c.if-not-is_new.false) in
    let more : take c.loop-place.place texts ++ name ∷ [] ≡ take (c.loop-place.place + 1) texts =
    ap (λ (b : List ℕ). take c.loop-place.place texts ++ b ∷ []) c.as_str.ensures.value
    ∙ take-map_more (λ s. string_bytes s) c.args.list.now c.loop-place.place c.index-list-place.result c.loop-place-test.true c.index-list-place.is in
    let so_far : map (λ t. t.now) c.loop-place.names.keys ++ name ∷ [] ≡ take (c.loop-place.place + 1) texts = ap (λ (l : List (List ℕ)). l ++ name ∷ []) c.loop-place.invariant.so_far ∙ more in
    record {
      so_far = added (λ t. t.now) c.loop-place.names.keys c.insert_full.new.self.keys c.as_str.result c.in_ok-first.ensures.keys none ∙ so_far;
      differ = subst (λ (l : List (List ℕ)). AllDiffer l) so_far
          (differ_more (λ t. t.now) c.loop-place.names.keys c.as_str.result none (subst (λ (l : List (List ℕ)). AllDiffer l) (sym c.loop-place.invariant.so_far) c.loop-place.invariant.differ));
    }
