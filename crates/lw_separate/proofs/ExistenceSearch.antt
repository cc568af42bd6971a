-- A finished search of a machine exists: its steps, as a construction.
use Rattle.std.proofs.Common.{◌≡◌, ℕ, zero, suc, ◌+◌, ◌<◌, ◌≤◌, ◌⊎◌, inl, inr, ⊎_elim, List, [], ◌∷◌, ◌++◌, length, get_or, replicate, Option, Some, None, refl, subst, arith}
use Rattle.std.proofs.Math.ListN.{set}
use Rattle.std.proofs.lemmas.Bool.{cases_lt}
use Rattle.std.proofs.lemmas.Grind.{common_steps}
use Rattle.lw_mealy.specs.Machine.{Rows, IsMachine, next}
use Rattle.lw_separate.specs.bodies.Search.{IsSearch}
use Rattle.lw_separate.proofs.SearchLemmas.{word_done, letter_known, letter_found, length-push}

pub known_or_new : (o : Option ℕ) → ((k : ℕ) × (o ≡ Some k)) ⊎ (o ≡ None)
known_or_new None = inr refl
known_or_new (Some k) = inl (k, refl)

module _ (a : ℕ) (m : Rows) where
  -- a search up to the letter x of the i-th word, which was found
  record SearchedWord (i x : ℕ) : Type 0 where
    words : List (List ℕ)
    states : List ℕ
    places : List (Option ℕ)
    search : IsSearch a m words states places i x
    there : i < length words

  -- a search that is over
  pub record SearchedAll : Type 0 where
    pub words : List (List ℕ)
    pub states : List ℕ
    pub places : List (Option ℕ)
    pub search : IsSearch a m words states places (length words) 0

  letter_searched : (i x : ℕ) → x < a → SearchedWord i x → SearchedWord i (x + 1)
  letter_searched i x xa r =
      ⊎_elim
      (λ (o : (k : ℕ) × (get_or r.places (next m (get_or r.states i 0) x) None ≡ Some k)). record {
        words = r.words;
        states = r.states;
        places = r.places;
        search = letter_known a m r.words r.states r.places i x r.search r.there o.0 o.1;
        there = r.there;
      })
      (λ (new : get_or r.places (next m (get_or r.states i 0) x) None ≡ None). record {
        words = r.words ++ (get_or r.words i [] ++ x ∷ []) ∷ [];
        states = r.states ++ next m (get_or r.states i 0) x ∷ [];
        places = set r.places (next m (get_or r.states i 0) x) (Some (length r.states));
        search = letter_found a m r.words r.states r.places i x r.search r.there xa new _ _ _ refl refl refl;
        there = omega (arith, length-push r.words (get_or r.words i [] ++ x ∷ []), r.there);
      })
      (known_or_new (get_or r.places (next m (get_or r.states i 0) x) None))

  word_searched : (i left x : ℕ) → x + left ≡ a → SearchedWord i x → SearchedWord i a
  word_searched i zero x end r = subst (λ (y : ℕ). SearchedWord i y) (omega (arith, end)) r
  word_searched i (suc left) x end r = word_searched i left (x + 1) (omega arith) (letter_searched i x (omega arith) r)

  search_from : (left i : ℕ) (ws : List (List ℕ)) (ss : List ℕ) (ps : List (Option ℕ)) → IsSearch a m ws ss ps i 0 → i ≤ length ws → length m < i + left → SearchedAll
  search_from zero i ws ss ps s within few = absurd (omega (arith, s.left, s.paired))
  search_from (suc left) i ws ss ps s within few =
      ⊎_elim
      (λ (lt : i < length ws).
      let r = word_searched i a 0 (omega arith) (record { words = ws; states = ss; places = ps; search = s; there = lt }) in
      search_from left (i + 1) r.words r.states r.places (word_done a m r.words r.states r.places i a r.search r.there refl) (omega (arith, r.there)) (omega arith))
      (λ (end : length ws ≤ i). record { words = ws; states = ss; places = ps; search = subst (λ (j : ℕ). IsSearch a m ws ss ps j 0) (omega arith) s })
      (cases_lt i (length ws))

  module _ (machine : IsMachine a m) where
    start : IsSearch a m ([] ∷ []) (0 ∷ []) (set (replicate (length m) None) 0 (Some 0)) 0 0
    start = grind (arith, common_steps)

    pub searched : SearchedAll
    searched = search_from (length m + 1) 0 ([] ∷ []) (0 ∷ []) (set (replicate (length m) None) 0 (Some 0)) start (omega arith) (omega arith)
