-- The least word to which two machines answer otherwise.
use Rattle.std.proofs.Common.{◌≡◌, ◌≢◌, ◌⊎◌, inl, inr, ⊎_elim, ℕ, ◌+◌, ◌<◌, ◌≤◌, List, [], ◌∷◌, ◌++◌, length, take, drop, get_or, Option, Some, None, ap, sym, ◌∙◌, subst, arith, Contains}
use Rattle.std.proofs.lemmas.List.{length-take-le, get_or-take, take-append-le, take-append-drop, take-take, take_all}
use Rattle.std.proofs.lemmas.List.Elements.{Contains-append_left, Contains-push, Contains-push_cases}
use Rattle.std.proofs.lemmas.Bool.{cases_lt}
use Rattle.std.proofs.Math.Nat.{eq-or-lt_of_le}
use Rattle.std.specs.declared.cmp.Ordering.TheVariants.{Less}
use Rattle.lw_words.specs.Word.{IsPrefix, shortlex_cmp}
use Rattle.lw_mealy.specs.Machine.{Rows, answer}
use Rattle.lw_mealy.proofs.WordLemmas.{length-out, out-take}
use Rattle.lw_separate.specs.Canonical.{LeastWord}
use Rattle.lw_separate.specs.bodies.Search.{AtMost}
use Rattle.lw_separate.proofs.Before.{at_most_trans, of_cases, at_most_not_behind, not_behind_at_most}
use Rattle.lw_plain.specs.Rounds.{AgreesOn, IsShortest, Reveals}
use Rattle.lw_plain_run.specs.bodies.Differences.{IsLesser, IsLeast}

-- a front of a word is its first letters
front_is : (w v : List ℕ) → IsPrefix w v → w ≡ take (length w) v
front_is w v (u, is) =
    let front : take (length w) (w ++ u) ≡ take (length w) w = take-append-le (length w) w u (omega arith) in
    sym (ap (λ (x : List ℕ). take (length w) x) is ∙ (front ∙ take_all (length w) w (omega arith)))

module _ (m h : Rows) where
  -- a machine that agrees for so many letters agrees on the fronts of these
  front_agrees : (n k : ℕ) (v : List ℕ) → take k (answer h v) ≡ take k (answer m v) → n ≤ k → answer h (take n v) ≡ answer m (take n v)
  front_agrees n k v same le =
      let mine : take n (take k (answer h v)) ≡ take n (answer h v) = take-take n k (answer h v) le in
      let other : take n (take k (answer m v)) ≡ take n (answer m v) = take-take n k (answer m v) le in
      out-take h 0 n v ∙ (sym mine ∙ (ap (λ (o : List ℕ). take n o) same ∙ (other ∙ sym (out-take m 0 n v))))

  prefix_agrees : (w v : List ℕ) → AgreesOn m h v → IsPrefix w v → AgreesOn m h w
  prefix_agrees w v same front =
      let at = front_is w v front in
      subst (AgreesOn m h) (sym at) (out-take h 0 (length w) v ∙ (ap (λ (o : List ℕ). take (length w) o) same ∙ sym (out-take m 0 (length w) v)))

  module _ (words : List (List ℕ)) (v : List ℕ) where
    more_reveals : (w : List ℕ) → Reveals m h words w → Reveals m h (words ++ v ∷ []) w
    more_reveals w r = record { whole = r.whole; asked = Contains-append_left words (v ∷ []) r.whole r.asked; front = r.front; differ = r.differ }

    reveals_cases : (w : List ℕ) → Reveals m h (words ++ v ∷ []) w → Reveals m h words w ⊎ (IsPrefix w v × (answer h w ≢ answer m w))
    reveals_cases w r =
        ⊎_elim
        (λ (old : Contains words r.whole). inl (record { whole = r.whole; asked = old; front = r.front; differ = r.differ }))
        (λ (new : v ≡ r.whole). inr (subst (IsPrefix w) (sym new) r.front, r.differ))
        (Contains-push_cases words v r.whole r.asked)

    -- a word on which the machine agrees reveals nothing
    pub best_stays : (best : Option (List ℕ)) → AgreesOn m h v → IsLeast m h words best → IsLeast m h (words ++ v ∷ []) best
    best_stays best same =
        let old : (w : List ℕ) → Reveals m h (words ++ v ∷ []) w → Reveals m h words w =
        λ w r. ⊎_elim (λ (o : Reveals m h words w). o) (λ (n : IsPrefix w v × (answer h w ≢ answer m w)). absurd (n.1 (prefix_agrees w v same n.0))) (reveals_cases w r) in
        elim best as (λ b. IsLeast m h words b → IsLeast m h (words ++ v ∷ []) b) [
          | None ↦ λ none. λ w r. none w (old w r)
          | Some b ↦ λ is. record { does = more_reveals b is.does; least = λ w r. is.least w (old w r) }
        ]

    module _ (front : List ℕ) (short : IsShortest m h v front) where
      inside : short.place + 1 ≤ length v
      inside = let lt = short.first.within in omega (arith, lt, length-out h 0 v)

      front_length : length front ≡ short.place + 1
      front_length = ap (λ (w : List ℕ). length w) short.is ∙ length-take-le (short.place + 1) v inside

      front_differs : answer h front ≢ answer m front
      front_differs same =
          let n = short.place + 1 in
          let at : take n (answer h v) ≡ take n (answer m v) =
          sym (out-take h 0 n v) ∙ (ap (λ (w : List ℕ). answer h w) (sym short.is) ∙ (same ∙ (ap (λ (w : List ℕ). answer m w) short.is ∙ out-take m 0 n v))) in
          short.first.here
          (sym (get_or-take n (answer h v) short.place 0 (omega arith))
          ∙ (ap (λ (o : List ℕ). get_or o short.place 0) at ∙ get_or-take n (answer m v) short.place 0 (omega arith)))

      front_reveals : Reveals m h (words ++ v ∷ []) front
      front_reveals = record {
        whole = v;
        asked = Contains-push words v;
        front = (drop (short.place + 1) v, sym (ap (λ (w : List ℕ). w ++ drop (short.place + 1) v) short.is ∙ take-append-drop (short.place + 1) v));
        differ = front_differs;
      }

      -- the other fronts that differ are longer
      longer_by : (w : List ℕ) → w ≡ take (length w) v → answer h w ≢ answer m w → (length w ≤ short.place) ⊎ ((length w ≡ short.place + 1) ⊎ (short.place + 1 < length w)) → AtMost front w
      longer_by w at differ by =
          ⊎_elim
          (λ (few : length w ≤ short.place). absurd (differ (subst (AgreesOn m h) (sym at) (front_agrees (length w) short.place v short.first.before few))))
          (λ (more : (length w ≡ short.place + 1) ⊎ (short.place + 1 < length w)). ⊎_elim
          (λ (same : length w ≡ short.place + 1). inl (short.is ∙ (ap (λ (n : ℕ). take n v) (sym same) ∙ sym at)))
          (λ (lt : short.place + 1 < length w). inr (of_cases front w (inl (omega (arith, lt, front_length)))))
          more)
          by

      three : (n k : ℕ) → (n ≤ k) ⊎ ((n ≡ k + 1) ⊎ (k + 1 < n))
      three n k =
          ⊎_elim
          (λ (lt : k < n). let le : k + 1 ≤ n = omega (arith, lt) in
          inr (⊎_elim (λ (e : k + 1 ≡ n). inl (sym e)) (λ (more : k + 1 < n). inr more) (eq-or-lt_of_le le)))
          (λ (le : n ≤ k). inl le)
          (cases_lt k n)

      front_least : (w : List ℕ) → IsPrefix w v → answer h w ≢ answer m w → AtMost front w
      front_least w prefix differ = longer_by w (front_is w v prefix) differ (three (length w) short.place)

      -- the least of what was revealed and what this word reveals
      pub least_of : (best : Option (List ℕ)) (now : List ℕ) → IsLesser best front now → IsLeast m h words best → LeastWord (Reveals m h (words ++ v ∷ [])) now
      least_of None now is none = record {
        does = subst (Reveals m h (words ++ v ∷ [])) (sym is) front_reveals;
        least = λ w r. ⊎_elim
            (λ (o : Reveals m h words w). absurd (none w o))
            (λ (n : IsPrefix w v × (answer h w ≢ answer m w)). at_most_not_behind now w (subst (λ (u : List ℕ). AtMost u w) (sym is) (front_least w n.0 n.1)))
            (reveals_cases w r);
      }
      least_of (Some best) now is least =
          ⊎_elim
          (λ (new : (now ≡ front) × (shortlex_cmp front best ≡ Less)).
          let below : (w : List ℕ) → Reveals m h (words ++ v ∷ []) w → AtMost front w =
          λ w r. ⊎_elim
          (λ (o : Reveals m h words w). at_most_trans front best w (inr new.1) (not_behind_at_most w best (least.least w o)))
          (λ (n : IsPrefix w v × (answer h w ≢ answer m w)). front_least w n.0 n.1)
          (reveals_cases w r) in
          subst (LeastWord (Reveals m h (words ++ v ∷ []))) (sym new.0) (record { does = front_reveals; least = λ w r. at_most_not_behind front w (below w r) }))
          (λ (old : (now ≡ best) × (shortlex_cmp front best ≢ Less)).
          let below : (w : List ℕ) → Reveals m h (words ++ v ∷ []) w → AtMost best w =
          λ w r. ⊎_elim
          (λ (o : Reveals m h words w). not_behind_at_most w best (least.least w o))
          (λ (n : IsPrefix w v × (answer h w ≢ answer m w)). at_most_trans best front w (not_behind_at_most front best old.1) (front_least w n.0 n.1))
          (reveals_cases w r) in
          subst (LeastWord (Reveals m h (words ++ v ∷ []))) (sym old.0) (record { does = more_reveals best least.does; least = λ w r. at_most_not_behind best w (below w r) }))
          is
