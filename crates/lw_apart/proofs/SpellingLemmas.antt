-- The words that are to be known, by number.
use Rattle.std.proofs.Common.{◌≡◌, ℕ, suc, ◌+◌, ◌-◌, ◌*◌, ◌/◌, ◌%◌, ◌^◌, ◌<◌, ◌≤◌, List, [], ◌++◌, length, get_or, slice_get, Some, sym, ap, ap₂, ◌∙◌, arith}
use Rattle.std.proofs.lemmas.List.{get_or-append-add}
use Rattle.std.proofs.lemmas.Option.{get_or_from_slice_get}
use Rattle.lw_chunks.specs.Size.{powers}
use Rattle.lw_chunks.specs.Middle.{words_of_length, words_up_to}
use Rattle.lw_chunks.proofs.EachLemmas.{length-each}
use Rattle.lw_chunks.proofs.FrontLemmas.{front_at_number}
use Rattle.lw_chunks.proofs.SizeLemmas.{length-words_of, length-words_up_to}
use Rattle.lw_apart.specs.bodies.Stages.{all_fronts}
use Rattle.lw_apart.specs.declared.fronts.Fronts.{Fronts}

module _ (f : Fronts) where
  pub count_fronts : length (all_fronts f) ≡ length f.access * f.middles
  count_fronts = length-each (λ (u v : List ℕ). u ++ v) f.access (words_up_to f.inputs f.longest) ∙ ap (λ (l : ℕ). length f.access * l) (length-words_up_to f.inputs f.longest ∙ sym f.counted)

  -- a word that is cleared, and gets an access word and a middle word
  pub front_spelled : (number : ℕ) (cleared word slice begun front : List ℕ) → number < length (all_fronts f) → cleared ≡ [] → slice_get f.access (number / f.middles) ≡ Some word → slice ≡ word → begun ≡ cleared ++ slice
      → front ≡ begun ++ get_or (words_up_to f.inputs f.longest) (number % f.middles) [] → front ≡ get_or (all_fronts f) number []
  front_spelled number cleared word slice begun front lt empty at same first second =
      let h = front_at_number f.inputs f.longest f.middles number f.access f.counted (omega (arith, lt, count_fronts)) in
      let w : get_or f.access (number / f.middles) [] ≡ word = get_or_from_slice_get f.access (number / f.middles) word [] at in
      let b : begun ≡ get_or f.access (number / f.middles) [] = first ∙ (ap₂ (λ (u v : List ℕ). u ++ v) empty (same ∙ sym w)) in
      second ∙ (ap (λ (u : List ℕ). u ++ get_or (words_up_to f.inputs f.longest) (number % f.middles) []) b ∙ sym h.2)

  pub front_parts : (number : ℕ) → number < length (all_fronts f) → (number / f.middles < length f.access) × (number % f.middles < f.middles)
  front_parts number lt = let h = front_at_number f.inputs f.longest f.middles number f.access f.counted (omega (arith, lt, count_fronts)) in (h.0, h.1)

-- the words of the greatest length are the last ones of all
module _ (a n : ℕ) (some : 1 ≤ n) where
  up : suc (n - 1) ≡ n
  up = omega (arith, some)

  -- as many as there are more than of one letter less
  pub count_longest : powers a n ≡ powers a (n - 1) + length (words_of_length a n)
  count_longest =
      ap (powers a) (sym up)
      ∙ (ap (λ (m : ℕ). powers a (n - 1) + a ^ m) up ∙ ap (λ (m : ℕ). powers a (n - 1) + m) (sym (length-words_of a n)))

  pub longest_at : (number : ℕ) → get_or (words_up_to a n) (powers a (n - 1) + number) [] ≡ get_or (words_of_length a n) number []
  longest_at number =
      ap (λ (m : ℕ). get_or (words_up_to a m) (powers a (n - 1) + number) []) (sym up)
      ∙ (ap (λ (m : ℕ). get_or (words_up_to a (n - 1) ++ words_of_length a (suc (n - 1))) (m + number) []) (sym (length-words_up_to a (n - 1)))
      ∙ (get_or-append-add (words_up_to a (n - 1)) (words_of_length a (suc (n - 1))) number [] ∙ ap (λ (m : ℕ). get_or (words_of_length a m) number []) up))

  -- a word that is cleared, and gets the one with this number behind the shorter ones
  pub longest_spelled : (number shorter : ℕ) (cleared word : List ℕ) → shorter ≡ powers a (n - 1) → cleared ≡ [] → word ≡ cleared ++ get_or (words_up_to a n) (shorter + number) [] → word ≡ get_or (words_of_length a n) number []
  longest_spelled number shorter cleared word before empty is =
      is
      ∙ (ap₂ (λ (u : List ℕ) (m : ℕ). u ++ get_or (words_up_to a n) (m + number) []) empty before ∙ longest_at number)
