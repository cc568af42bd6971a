-- The outputs that appear in answers over names are names.
use Rattle.std.proofs.Common.{◌≡◌, ◌≢◌, ◌∙◌, ℕ, ◌<◌, List, [], ◌∷◌, Bool, true, false, not, cond, Option, Some, unwrap_or, length, map, get_or, refl, sym, ap, subst, arith, true≢false}
use Rattle.std.specs.List.{All, AllPairs, filter, flat_map}
use Rattle.std.specs.Str.{bytes_eq}
use Rattle.std.proofs.lemmas.List.{get_or-map, length-map}
use Rattle.std.proofs.lemmas.List.Elements.{All-append, All-cons, All-filter, All-head, All-map, All-nil, All-tail}
use Rattle.std.proofs.lemmas.List.Kept.{AllPairs-cons, AllPairs-filter}
use Rattle.std.proofs.lemmas.Option.{slice_get-get_or}
use Rattle.std.proofs.lemmas.Slice.Eq.{bytes_eq-Decides}
use Rattle.lw_words.specs.Word.{AllDiffer, IsName, IsNames, IsWord, name_at, named, number_in, number_of}
use Rattle.lw_words.specs.declared.kept.KeptAnswer.{KeptAnswer}
use Rattle.lw_words.proofs.NumberLemmas.{number_at_place}
use Rattle.lw_words.proofs.Pigeonhole.{no_more_than}
use Rattle.lw_json.specs.Formats.{without_repeats}
use Rattle.lw_json.specs.JournalText.{appearing}
use Rattle.lw_json.specs.KeptOver.{AreKeptOver, IsKeptOver}

-- what stays without repeats
all_stay : (P : List ℕ → Type 0) (xs : List (List ℕ)) → All P xs → All P (without_repeats xs)
all_stay P [] h = All-nil P
all_stay P (x ∷ xs) h = All-cons P x _ (All-head P x xs h) (All-filter (λ y. not (bytes_eq y x)) P (without_repeats xs) (all_stay P xs (All-tail P x xs h)))

others-cons : (x y : List ℕ) (rest : List (List ℕ)) (b : Bool) → bytes_eq y x ≡ b → All (λ z. x ≢ z) rest → All (λ z. x ≢ z) (cond (not b) (y ∷ rest) rest)
others-cons x y rest true e h = h
others-cons x y rest false e h = All-cons (λ z. x ≢ z) y rest (λ is. true≢false (sym ((bytes_eq-Decides y x).1 (sym is)) ∙ e)) h

others : (x : List ℕ) (ys : List (List ℕ)) → All (λ z. x ≢ z) (filter (λ y. not (bytes_eq y x)) ys)
others x [] = All-nil (λ z. x ≢ z)
others x (y ∷ ys) = others-cons x y (filter (λ y. not (bytes_eq y x)) ys) (bytes_eq y x) refl (others x ys)

differ : (xs : List (List ℕ)) → AllDiffer (without_repeats xs)
differ [] = λ i j d lt below. absurd (omega arith)
differ (x ∷ xs) = AllPairs-cons (λ a b. a ≢ b) x _ (others x (without_repeats xs)) (AllPairs-filter (λ a b. a ≢ b) (λ y. not (bytes_eq y x)) (without_repeats xs) (differ xs))

module _ (outputs : List (List ℕ)) (fit : IsNames outputs) where
  -- one of the names
  record IsKnown (name : List ℕ) : Type 0 where
    pub fits : IsName name
    pub below : number_in outputs name < length outputs
    pub back : name_at outputs (number_in outputs name) ≡ name

  known : (x : ℕ) → x < length outputs → IsKnown (name_at outputs x)
  known x lt =
      let at : number_of (name_at outputs x) outputs ≡ Some x = number_at_place outputs x (name_at outputs x) fit.differ (slice_get-get_or outputs x [] lt) in
      let is : number_in outputs (name_at outputs x) ≡ x = ap (λ (o : Option ℕ). unwrap_or o 0) at in
      record { fits = fit.each x [] lt; below = subst (λ (n : ℕ). n < length outputs) (sym is) lt; back = ap (name_at outputs) is }

  all_known : (a : ℕ) (ks : List KeptAnswer) → AreKeptOver a (length outputs) ks → All IsKnown (flat_map (λ k. named outputs k.outs) ks)
  all_known a [] over = All-nil IsKnown
  all_known a (k ∷ ks) over =
      let P = IsKeptOver a (length outputs) in
      let word : IsWord (length outputs) k.outs = (All-head P k ks over).outs in
      All-append IsKnown (named outputs k.outs) (flat_map (λ k. named outputs k.outs) ks) (All-map IsKnown (name_at outputs) k.outs (λ i d lt. known _ (word i d lt))) (all_known a ks (All-tail P k ks over))

  numbers_differ : (names : List (List ℕ)) → All IsKnown names → AllDiffer names → AllPairs (λ m n. m ≢ n) (map (number_in outputs) names)
  numbers_differ names each apart i j d lt below same =
      let long : length (map (number_in outputs) names) ≡ length names = length-map names (number_in outputs) in
      let first = get_or-map (number_in outputs) names i [] d (omega arith) in
      let second = get_or-map (number_in outputs) names j [] d (omega arith) in
      let numbers : number_in outputs (get_or names i []) ≡ number_in outputs (get_or names j []) = sym first ∙ (same ∙ second) in
      apart i j [] lt (omega arith) (sym (each i [] (omega arith)).back ∙ (ap (name_at outputs) numbers ∙ (each j [] (omega arith)).back))

  pub appearing_names : (a : ℕ) (ks : List KeptAnswer) → AreKeptOver a (length outputs) ks → 0 < length (appearing outputs ks) → IsNames (appearing outputs ks)
  appearing_names a ks over some =
      let names : List (List ℕ) = appearing outputs ks in
      let each : All IsKnown names = all_stay IsKnown (flat_map (λ k. named outputs k.outs) ks) (all_known a ks over) in
      let apart : AllDiffer names = differ (flat_map (λ k. named outputs k.outs) ks) in
      let long : length (map (number_in outputs) names) ≡ length names = length-map names (number_in outputs) in
      let few = no_more_than (length outputs) (map (number_in outputs) names) (All-map (λ n. n < length outputs) (number_in outputs) names (λ i d lt. (each i d lt).below)) (numbers_differ names each apart) in
      let most = fit.few in
      record { some = some; few = omega arith; each = λ i d lt. (each i d lt).fits; differ = apart }
