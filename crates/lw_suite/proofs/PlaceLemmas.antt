-- The words at the places of a suite.
use Rattle.std.proofs.Common.{◌≡◌, ℕ, ◌+◌, ◌-◌, ◌*◌, ◌/◌, ◌%◌, ◌<◌, ◌≤◌, List, [], ◌∷◌, ◌++◌, length, get_or, take, drop, slice_get, Some, sym, ap, ap₂, ◌∙◌, arith, ⊎_elim}
use Rattle.std.proofs.lemmas.Bool.{cases_lt}
use Rattle.std.proofs.lemmas.List.{take_more, get_or-drop, length-drop}
use Rattle.std.proofs.lemmas.Option.{get_or_from_slice_get}
use Rattle.std.proofs.Math.Nat.{mul-le-mul_right}
use Rattle.lw_chunks.specs.Middle.{words_up_to}
use Rattle.lw_suite.specs.bodies.Places.{fronts, ends, all_words, number_of, IsPlace, IsFront}
use Rattle.lw_suite.specs.declared.parts.Parts.{Parts}
use Rattle.lw_chunks.specs.declared.chunks.Place.{Place}
use Rattle.lw_chunks.proofs.EachLemmas.{length-each, each_at}
use Rattle.lw_chunks.proofs.SizeLemmas.{length-words_up_to}
use Rattle.lw_chunks.proofs.FrontLemmas.{front_at_number}

module _ (p : Parts) where
  pub length-fronts : length (fronts p) ≡ length p.access * p.middles
  length-fronts = length-each (λ (u v : List ℕ). u ++ v) p.access (words_up_to p.inputs p.longest) ∙ ap (λ (l : ℕ). length p.access * l) (length-words_up_to p.inputs p.longest ∙ sym p.counted)

  -- a word that is cleared, and gets an access word and a middle word
  pub front_spelled : (number : ℕ) (cleared word slice begun front : List ℕ) → number < length p.access * p.middles → cleared ≡ [] → slice_get p.access (number / p.middles) ≡ Some word → slice ≡ word → begun ≡ cleared ++ slice
      → front ≡ begun ++ get_or (words_up_to p.inputs p.longest) (number % p.middles) [] → front ≡ get_or (fronts p) number []
  front_spelled number cleared word slice begun front lt empty at same first second =
      let h = front_at_number p.inputs p.longest p.middles number p.access p.counted lt in
      let w : get_or p.access (number / p.middles) [] ≡ word = get_or_from_slice_get p.access (number / p.middles) word [] at in
      let b : begun ≡ get_or p.access (number / p.middles) [] = first ∙ (ap₂ (λ (u v : List ℕ). u ++ v) empty (same ∙ sym w)) in
      second ∙ (ap (λ (u : List ℕ). u ++ get_or (words_up_to p.inputs p.longest) (number % p.middles) []) b ∙ sym h.2)

  pub length-all : length (all_words p) ≡ length p.access * p.middles * length (ends p)
  length-all = length-each (λ (u v : List ℕ). u ++ v) (fronts p) (ends p) ∙ ap (λ (l : ℕ). l * length (ends p)) length-fronts

  -- where a word is left, the place has a front
  pub front_left : (at : Place) → IsPlace p at → number_of p at < length p.access * p.middles * length (ends p) → at.front < length p.access * p.middles
  front_left at is lt = ⊎_elim (λ (l : at.front < length p.access * p.middles). l)
      (λ (ge : length p.access * p.middles ≤ at.front). let m = mul-le-mul_right (length (ends p)) ge in absurd (omega arith))
      (cases_lt at.front (length p.access * p.middles))

  -- the next word with the same front, and the first one with the next
  pub next_end : (at : Place) → at.end < length p.ends → at.front < length p.access * p.middles → number_of p at + 1 ≤ length p.access * p.middles * length (ends p)
  next_end at lt some =
      let le : at.front + 1 ≤ length p.access * p.middles = omega arith in
      let m = mul-le-mul_right (length (ends p)) le in
      omega arith

  pub next_front : (at : Place) → at.end < length (ends p) → length p.ends ≤ at.end → (at.front + 1) * length (ends p) + 0 ≡ number_of p at + 1
  next_front at lt ge = omega arith

  pub front_within : (at : Place) → at.front < length p.access * p.middles → (at.front + 1) * length (ends p) + 0 ≤ length p.access * p.middles * length (ends p)
  front_within at some =
      let le : at.front + 1 ≤ length p.access * p.middles = omega arith in
      let m = mul-le-mul_right (length (ends p)) le in
      omega arith

  -- the word at a place
  pub word_at : (at : Place) (front : List ℕ) → IsPlace p at → at.front < length p.access * p.middles → IsFront p at front
      → get_or (all_words p) (number_of p at) [] ≡ front ++ get_or (ends p) at.end []
  word_at at front is lt here =
      each_at (λ (u v : List ℕ). u ++ v) (fronts p) (ends p) at.front at.end [] [] [] (rw length-fronts lt) is.end
      ∙ ap (λ (u : List ℕ). u ++ get_or (ends p) at.end []) (sym (here lt))

  -- a chunk that is filled so far, from a place on
  pub record Filled (start : ℕ) (index : ℕ) (at : Place) (front : List ℕ) (chunk : List (List ℕ)) : Type 0 where
    pub place : IsPlace p at
    pub number : number_of p at ≡ start + index
    pub here : IsFront p at front
    pub words : take index chunk ≡ take index (drop start (all_words p))
    pub long : index ≤ length chunk

  pub filled_left : (start index count : ℕ) (at : Place) (front : List ℕ) (chunk : List (List ℕ)) → Filled start index at front chunk → index < count → start + count ≤ length p.access * p.middles * length (ends p)
      → at.front < length p.access * p.middles
  filled_left start index count at front chunk h lt within =
      let n = h.number in
      front_left at h.place (omega arith)

  pub filled_words : (start index count : ℕ) (at : Place) (front end : List ℕ) (chunk more : List (List ℕ)) → Filled start index at front chunk → index < count → start + count ≤ length p.access * p.middles * length (ends p)
      → end ≡ get_or (ends p) at.end [] → take (index + 1) more ≡ take index chunk ++ (front ++ end) ∷ [] → take (index + 1) more ≡ take (index + 1) (drop start (all_words p))
  filled_words start index count at front end chunk more h lt within is put =
      let left = filled_left start index count at front chunk h lt within in
      let l : length (all_words p) ≡ length p.access * p.middles * length (ends p) = length-all in
      let d : length (drop start (all_words p)) ≡ length (all_words p) - start = length-drop start (all_words p) in
      let inside : index < length (drop start (all_words p)) = omega arith in
      let word : get_or (drop start (all_words p)) index [] ≡ front ++ end =
      get_or-drop start (all_words p) index [] ∙ (ap (λ (k : ℕ). get_or (all_words p) k []) (sym h.number) ∙ (word_at at front h.place left h.here ∙ ap (λ (e : List ℕ). front ++ e) (sym is))) in
      put ∙ (ap₂ (λ (t : List (List ℕ)) (w : List ℕ). t ++ w ∷ []) h.words (sym word) ∙ sym (take_more (drop start (all_words p)) index [] inside))

  pub stepped_end : (at : Place) → at.end < length p.ends → at.front < length p.access * p.middles → IsPlace p (record { front = at.front; end = at.end + 1 })
  stepped_end at lt some = let h = next_end at lt some in record { end = omega arith; within = omega arith }

  pub stepped_front : (at : Place) → at.end < length (ends p) → length p.ends ≤ at.end → at.front < length p.access * p.middles
      → IsPlace p (record { front = at.front + 1; end = 0 }) × ((at.front + 1) * length (ends p) + 0 ≡ number_of p at + 1)
  stepped_front at lt ge some = (record { end = omega arith; within = front_within at some }, next_front at lt ge)
