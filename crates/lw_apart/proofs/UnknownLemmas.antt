-- The least word of a list that isn't known, word by word.
use Rattle.std.proofs.Common.{◌≡◌, ◌≢◌, ◌⊎◌, ℕ, ◌+◌, ◌<◌, ◌≤◌, inl, inr, ⊎_elim, List, [], length, get_or, Option, Some, None, MatchOption, sym, ◌∙◌, subst, arith}
use Rattle.std.specs.List.{Contains}
use Rattle.std.specs.declared.cmp.Ordering.TheVariants.{Less}
use Rattle.std.proofs.lemmas.Bool.{cases_lt}
use Rattle.std.proofs.lemmas.List.{get_or_default}
use Rattle.std.proofs.lemmas.List.Elements.{Contains-get_or}
use Rattle.lw_words.specs.Word.{Answer, shortlex_cmp}
use Rattle.lw_separate.proofs.Before.{before_trans, before_apart}
use Rattle.lw_cache.specs.Known.{IsKnown}
use Rattle.lw_apart.specs.bodies.Stages.{LeastUnknown, IsFirstOf, IsBestWith}

module _ (ks : List Answer) (words : List (List ℕ)) where
  -- the least of the first n words that isn't known
  pub record LeastTo (n : ℕ) (word : List ℕ) : Type 0 where
    pub inside : Contains words word
    pub unknown : ¬ IsKnown ks word
    pub least : (i : ℕ) → i < n → ¬ IsKnown ks (get_or words i []) → shortlex_cmp (get_or words i []) word ≢ Less

  abbrev pub BestTo : ℕ → Option (List ℕ) → Type 0
  BestTo n best = MatchOption best ((i : ℕ) → i < n → IsKnown ks (get_or words i [])) (LeastTo n)

  pub best_start : BestTo 0 None
  best_start i lt = absurd (omega (arith, lt))

  last : (n i : ℕ) → i < n + 1 → (i < n) ⊎ (n ≡ i)
  last n i below = ⊎_elim (λ (l : i < n). inl l) (λ (ge : n ≤ i). inr (omega (arith, below, ge))) (cases_lt i n)

  module _ (n : ℕ) (lt : n < length words) (word : List ℕ) (is : word ≡ get_or words n []) where
    here : Contains words word
    here = subst (Contains words) (sym is) (Contains-get_or words n [] lt)

    known_more : (best : Option (List ℕ)) → BestTo n best → IsKnown ks word → BestTo (n + 1) best
    known_more None was known = λ i below.
        ⊎_elim (λ (l : i < n). was i l) (λ (e : n ≡ i). subst (λ (m : ℕ). IsKnown ks (get_or words m [])) e (subst (IsKnown ks) is known)) (last n i below)
    known_more (Some best) was known = record {
      inside = was.inside;
      unknown = was.unknown;
      least = λ i below other. ⊎_elim
          (λ (l : i < n). was.least i l other)
          (λ (e : n ≡ i). absurd (other (subst (λ (m : ℕ). IsKnown ks (get_or words m [])) e (subst (IsKnown ks) is known))))
          (last n i below);
    }

    -- the word itself doesn't come before it, and the earlier ones don't
    least_here : (earlier : (i : ℕ) → i < n → ¬ IsKnown ks (get_or words i []) → shortlex_cmp (get_or words i []) word ≢ Less) → ¬ IsKnown ks word → LeastTo (n + 1) word
    least_here earlier unknown = record {
      inside = here;
      unknown = unknown;
      least = λ i below other. ⊎_elim
          (λ (l : i < n). earlier i l other)
          (λ (e : n ≡ i). subst (λ (m : ℕ). shortlex_cmp (get_or words m []) word ≢ Less) e (subst (λ (v : List ℕ). shortlex_cmp v word ≢ Less) is (before_apart word)))
          (last n i below);
    }

    unknown_more : (best now : Option (List ℕ)) → BestTo n best → ¬ IsKnown ks word → IsFirstOf best word now → BestTo (n + 1) now
    unknown_more None now was unknown e =
        subst (BestTo (n + 1)) (sym e) (least_here (λ i lt other. absurd (other (was i lt))) unknown)
    unknown_more (Some best) now was unknown f =
        ⊎_elim
        (λ (r : (now ≡ Some word) × (shortlex_cmp word best ≡ Less)).
        subst (BestTo (n + 1)) (sym r.0) (least_here (λ i lt other less. was.least i lt other (before_trans (get_or words i []) word best less r.1)) unknown))
        (λ (r : (now ≡ Some best) × (shortlex_cmp word best ≢ Less)).
        subst (BestTo (n + 1)) (sym r.0) (record {
          inside = was.inside;
          unknown = was.unknown;
          least = λ i below other. ⊎_elim
              (λ (l : i < n). was.least i l other)
              (λ (e : n ≡ i). subst (λ (m : ℕ). shortlex_cmp (get_or words m []) best ≢ Less) e (subst (λ (v : List ℕ). shortlex_cmp v best ≢ Less) is r.1))
              (last n i below);
        }))
        f

    pub best_more : (best now : Option (List ℕ)) → BestTo n best → IsBestWith ks best word now → BestTo (n + 1) now
    best_more best now was f =
        ⊎_elim
        (λ (r : IsKnown ks word × (now ≡ best)). subst (BestTo (n + 1)) (sym r.1) (known_more best was r.0))
        (λ (r : (¬ IsKnown ks word) × IsFirstOf best word now). unknown_more best now was r.0 r.1)
        f

  pub best_all : (n : ℕ) (best : Option (List ℕ)) → length words ≤ n → BestTo n best → LeastUnknown ks words best
  best_all n None past was = λ k d lt. subst (IsKnown ks) (get_or_default words k [] d lt) (was k (omega (arith, lt, past)))
  best_all n (Some best) past was = record {
    does = (was.inside, was.unknown);
    least = λ v does. subst (λ (w : List ℕ). shortlex_cmp w best ≢ Less) (get_or_default words does.0.0 [] v does.0.1 ∙ does.0.2)
        (was.least does.0.0 (omega (arith, does.0.1, past)) (λ known. does.1 (subst (IsKnown ks) (get_or_default words does.0.0 [] v does.0.1 ∙ does.0.2) known)));
  }
