-- What a batch needs, word by word, and in order.
use Rattle.std.proofs.Common.{◌≡◌, ◌≢◌, ◌⊎◌, inl, inr, ⊎_elim, ℕ, ◌+◌, ◌<◌, ◌≤◌, List, [], ◌∷◌, ◌++◌, length, get_or, drop, All, AllPairs, Contains, Bool, false, cond, eqb, refl, ap, sym, ◌∙◌, subst, arith, Ordering, Less, Equal, Greater, true, is_lt, nat_cmp}
use Rattle.std.specs.List.{sum_by, sum, starts_with}
use Rattle.std.specs.Prelude.{IsTrue, ◌↔◌}
use Rattle.std.specs.Cmp.{unsigned_Decides, IsStrictWeakOrder, IsTotalOrder}
use Rattle.std.proofs.lemmas.Slice.Eq.{starts_is}
use Rattle.std.specs.List.Sorted.{IsPermutation}
use Rattle.std.specs.Ordering.{ordering_then, ordering_reverse}
use Rattle.std.proofs.lemmas.Cmp.{then_total, on_total, back_total, nat_cmp_total, nat_list_cmp_total}
use Rattle.std.proofs.lemmas.Bool.Decides.{nat_tests}
use Rattle.std.proofs.lemmas.Bool.{cases_lt, cases_eq, cases_order, true≢false, false≢true}
use Rattle.std.proofs.lemmas.List.{get_or_append_left, get_or_push, length_push, drop_more}
use Rattle.std.proofs.lemmas.List.Elements.{All-head, All-tail, All-push, All-weaker, All-contains, Contains-get_or, Contains-push, Contains-append_left}
use Rattle.std.proofs.lemmas.List.Quantifiers.{all_pairs_push}
use Rattle.std.proofs.lemmas.List.Sorted.{All-permutation, Contains-permutation, length_permutation, sum_by-IsPermutation}
use Rattle.std.proofs.lemmas.List.Sums.{sum_by-cons, sum_by_push, sum-map, get_or-le-sum_by}
use Rattle.lw_words.specs.Word.{answers_of, IsPrefix}
use Rattle.lw_words.specs.declared.kept.KeptAnswer.{KeptAnswer}
use Rattle.lw_cache.specs.Caching.{Claim}
use Rattle.lw_cache.specs.Known.{IsKnown}
use Rattle.lw_cache.specs.Standing.{Stands}
use Rattle.lw_cache.specs.declared.known.Known.{Known}
use Rattle.lw_cache.specs.declared.known.Known.TheVariants.{Yes, Pending, No}
use Rattle.lw_names.proofs.Pairs.{pairs_first, pairs_rest}
use Rattle.lw_desk.specs.Step.{word_at_place, ComesBefore}
use Rattle.lw_desk.specs.bodies.Board.{AreInOrder, AreWhole, IsAtHand, letters_of}
use Rattle.lw_desk.specs.bodies.Gathering.{IsGathered, IsUpTo, by_words, StandsBefore, AreByWords, BeginsNext, AreWholeOf, NotAfter, ComeBefore, IsReady}
use Rattle.lw_names.proofs.Members.{In, in_contains, contains_in, in_either, in_left, in_right, is_same, is_other}
use Rattle.lw_desk.specs.lemmas.StepLemmas.{prefix_whole}
use Rattle.lw_desk.specs.lemmas.CoverLemmas.{prefix_of_prefix}
use Rattle.lw_names.proofs.Bringing.{map_agree}
use Rattle.lw_desk.proofs.WordOrder.{cmp_less, cmp_equal, cmp_greater, up_to_both, up_to_through, up_to_prefix, between, up_to_cmp, cmp_up_to}

-- where nothing is claimed, a word that isn't free is known
pub known_of : (kept : List KeptAnswer) (claims : List Claim) (w : List ℕ) (known : Known) → claims ≡ [] → known ≢ No → Stands (answers_of kept) claims w known → IsKnown (answers_of kept) w
known_of kept claims w Yes none other stands = stands
known_of kept claims w (Pending n) none other stands = absurd (omega (arith, stands.1.1, ap (λ (l : List Claim). length l) none))
known_of kept claims w No none other stands = absurd (other refl)

pub unknown_of : (kept : List KeptAnswer) (claims : List Claim) (w : List ℕ) → Stands (answers_of kept) claims w No → ¬ IsKnown (answers_of kept) w
unknown_of kept claims w stands = stands.0

-- one word more
module _ (kept : List KeptAnswer) (batch words : List (List ℕ)) (places : List ℕ) (is : IsGathered kept batch words places) (w : List ℕ) where
  batch_at : (p : ℕ) → p < length batch → word_at_place (batch ++ w ∷ []) p ≡ word_at_place batch p
  batch_at p lt = get_or_append_left batch (w ∷ []) [] p lt

  batch_last : word_at_place (batch ++ w ∷ []) (length batch) ≡ w
  batch_last = get_or_push batch w [] (length batch) refl

  hand_more : (v : List ℕ) → All (IsAtHand (batch ++ w ∷ []) (words ++ v ∷ [])) places
  hand_more v = All-weaker (IsAtHand batch words) (IsAtHand (batch ++ w ∷ []) (words ++ v ∷ [])) (λ p h. record {
    within = omega (arith, h.within, length_push batch w);
    word = get_or_append_left words (v ∷ []) [] p (omega (arith, h.within, is.size)) ∙ (h.word ∙ sym (batch_at p h.within));
  }) places is.at_hand

  unknown_more : All (λ p. ¬ IsKnown (answers_of kept) (word_at_place (batch ++ w ∷ []) p)) places
  unknown_more k d lt known = is.unknown k d lt (subst (IsKnown (answers_of kept)) (batch_at (get_or places k d) (is.at_hand k d lt).within) known)

  covered_more : (places_now : List ℕ) → ((p : ℕ) → Contains places p → Contains places_now p) → Contains places_now (length batch) ⊎ IsKnown (answers_of kept) w → (p : ℕ) → p < length (batch ++ w ∷ []) → Contains places_now p ⊎ IsKnown (answers_of kept) (word_at_place (batch ++ w ∷ []) p)
  covered_more places_now grown last p lt =
      ⊎_elim
      (λ (before : p < length batch). ⊎_elim
      (λ (c : Contains places p). inl (grown p c))
      (λ (k : IsKnown (answers_of kept) (word_at_place batch p)). inr (subst (IsKnown (answers_of kept)) (sym (batch_at p before)) k))
      (is.covered p before))
      (λ (from : length batch ≤ p).
      let here : length batch ≡ p = omega (arith, from, lt, length_push batch w) in
      subst (λ (q : ℕ). Contains places_now q ⊎ IsKnown (answers_of kept) (word_at_place (batch ++ w ∷ []) q)) here
      (⊎_elim
      (λ (c : Contains places_now (length batch)). inl c)
      (λ (k : IsKnown (answers_of kept) w). inr (subst (IsKnown (answers_of kept)) (sym batch_last) k))
      last))
      (cases_lt p (length batch))

  pub gathered_known : IsKnown (answers_of kept) w → IsGathered kept (batch ++ w ∷ []) (words ++ [] ∷ []) places
  gathered_known known = record {
    size = omega (arith, is.size, length_push batch w, length_push words []);
    at_hand = hand_more [];
    unknown = unknown_more;
    rising = is.rising;
    count = omega (arith, is.count, length_push batch w);
    covered = covered_more places (λ p c. c) (inr known);
  }

  pub gathered_unknown : ¬ IsKnown (answers_of kept) w → IsGathered kept (batch ++ w ∷ []) (words ++ w ∷ []) (places ++ length words ∷ [])
  gathered_unknown new =
      let last : word_at_place (batch ++ w ∷ []) (length words) ≡ w = ap (word_at_place (batch ++ w ∷ [])) is.size ∙ batch_last in
      record {
        size = omega (arith, is.size, length_push batch w, length_push words w);
        at_hand = All-push (IsAtHand (batch ++ w ∷ []) (words ++ w ∷ [])) places (length words) (hand_more w) (record {
          within = omega (arith, is.size, length_push batch w);
          word = get_or_push words w [] (length words) refl ∙ sym last;
        });
        unknown = All-push (λ p. ¬ IsKnown (answers_of kept) (word_at_place (batch ++ w ∷ []) p)) places (length words) unknown_more (λ known. new (subst (IsKnown (answers_of kept)) last known));
        rising = all_pairs_push (λ p q. p < q) places (length words) is.rising (λ k d lt. let h : IsAtHand batch words (get_or places k d) = is.at_hand k d lt in omega (arith, h.within, is.size));
        count = omega (arith, is.count, length_push batch w, length_push places (length words));
        covered = covered_more (places ++ length words ∷ []) (λ p c. Contains-append_left places (length words ∷ []) p c) (inl (subst (Contains (places ++ length words ∷ [])) is.size (Contains-push places (length words))));
      }

-- how often a number stands in a list
abbrev times : ℕ → List ℕ → ℕ
times p xs = sum_by (λ x. cond (eqb p x) 1 0) xs

one_time : (p x : ℕ) → p ≡ x → ◌≡◌ {A = ℕ} (cond (eqb p x) 1 0) 1
one_time p x same = ap (λ (b : Bool). cond b 1 0) (is_same p x same)

no_time : (p x : ℕ) → p ≢ x → ◌≡◌ {A = ℕ} (cond (eqb p x) 1 0) 0
no_time p x other = ap (λ (b : Bool). cond b 1 0) (is_other p x other)

never : (p : ℕ) (xs : List ℕ) → All (λ x. p < x) xs → times p xs ≡ 0
never p [] all = refl
never p (x ∷ xs) all =
    let lt : p < x = All-head (λ y. p < y) x xs all in
    omega (arith, sum_by-cons (λ (y : ℕ). cond (eqb p y) 1 0) x xs, no_time p x (λ e. omega (arith, e, lt)), never p xs (All-tail (λ y. p < y) x xs all))

once : (p : ℕ) (xs : List ℕ) → AllPairs (λ x y. x < y) xs → times p xs ≤ 1
once p [] rising = omega arith
once p (x ∷ xs) rising =
    ⊎_elim
    (λ (same : p ≡ x).
    let rest : times p xs ≡ 0 = never p xs (subst (λ (q : ℕ). All (λ y. q < y) xs) (sym same) (pairs_first (λ a b. a < b) x xs rising)) in
    omega (arith, sum_by-cons (λ (y : ℕ). cond (eqb p y) 1 0) x xs, one_time p x same, rest))
    (λ (other : p ≡ x → ⊥). omega (arith, sum_by-cons (λ (y : ℕ). cond (eqb p y) 1 0) x xs, no_time p x other, once p xs (pairs_rest (λ a b. a < b) x xs rising)))
    (cases_eq p x)

not_again : (x : ℕ) (xs : List ℕ) → times x (x ∷ xs) ≤ 1 → (k : ℕ) (d : ℕ) → k < length xs → x ≢ get_or xs k d
not_again x xs few k d lt same =
    let there = get_or-le-sum_by (λ (y : ℕ). cond (eqb x y) 1 0) xs k d lt in
    absurd (omega (arith, few, sum_by-cons (λ (y : ℕ). cond (eqb x y) 1 0) x xs, one_time x x refl, one_time x (get_or xs k d) same, there))

-- places in order
in_order : (batch words : List (List ℕ)) (xs : List ℕ) → All (IsAtHand batch words) xs → ComeBefore words xs → ((p : ℕ) → times p xs ≤ 1) → AreInOrder batch xs
in_order batch words [] hand order few = tt
in_order batch words (x ∷ xs) hand order few =
    let here : IsAtHand batch words x = All-head (IsAtHand batch words) x xs hand in
    let rest : All (IsAtHand batch words) xs = All-tail (IsAtHand batch words) x xs hand in (
      λ k d lt.
          let there : IsAtHand batch words (get_or xs k d) = rest k d lt in
          strict x (get_or xs k d) here.word there.word (pairs_first (NotAfter words) x xs order k d lt) (not_again x xs (few x) k d lt),
      in_order batch words xs rest (pairs_rest (NotAfter words) x xs order) (λ p. omega (arith, few p, sum_by-cons (λ (y : ℕ). cond (eqb p y) 1 0) x xs)),
    )
  where
    strict : (p q : ℕ) → word_at_place words p ≡ word_at_place batch p → word_at_place words q ≡ word_at_place batch q → NotAfter words p q → p ≢ q → ComesBefore batch p q
    strict p q at_p at_q not_after other =
        let len_p : length (word_at_place words p) ≡ length (word_at_place batch p) = ap (λ (l : List ℕ). length l) at_p in
        let len_q : length (word_at_place words q) ≡ length (word_at_place batch q) = ap (λ (l : List ℕ). length l) at_q in
        ⊎_elim
        (λ (l : length (word_at_place words q) < length (word_at_place words p)). inl (omega (arith, l, len_p, len_q)))
        (λ (l : (length (word_at_place words p) ≡ length (word_at_place words q)) × (p ≤ q)). inr (omega (arith, l.0, len_p, len_q), omega (arith, l.1, other)))
        not_after

-- the places whose words begin no next one's
module _ (words : List (List ℕ)) where
  whole_in : (xs whole : List ℕ) → AreWholeOf words xs whole → (q : ℕ) → In q whole → In q xs
  whole_in [] whole none q i = subst (In q) none i
  whole_in (x ∷ xs) whole h q i =
      ⊎_elim
      (λ (d : BeginsNext words x xs × AreWholeOf words xs whole). inr (whole_in xs whole d.1 q i))
      (λ (k : (¬ BeginsNext words x xs) × ((rest : List ℕ) × (whole ≡ rest ++ x ∷ []) × AreWholeOf words xs rest)). ⊎_elim
      (λ (j : In q k.1.0). inr (whole_in xs k.1.0 k.1.2 q j))
      (λ (j : In q (x ∷ [])). ⊎_elim (λ (e : q ≡ x). inl e) (λ (no_one : ⊥). absurd no_one) j)
      (in_either q k.1.0 (x ∷ []) (subst (In q) k.1.1 i)))
      h

  whole_times : (p : ℕ) (xs whole : List ℕ) → AreWholeOf words xs whole → times p whole ≤ times p xs
  whole_times p [] whole none = omega (arith, ap (times p) none)
  whole_times p (x ∷ xs) whole h =
      let f : ℕ → ℕ = λ y. cond (eqb p y) 1 0 in
      ⊎_elim
      (λ (d : BeginsNext words x xs × AreWholeOf words xs whole). omega (arith, whole_times p xs whole d.1, sum_by-cons f x xs))
      (λ (k : (¬ BeginsNext words x xs) × ((rest : List ℕ) × (whole ≡ rest ++ x ∷ []) × AreWholeOf words xs rest)).
      omega (arith, whole_times p xs k.1.0 k.1.2, sum_by-cons f x xs, sum_by_push f k.1.0 x, ap (times p) k.1.1))
      h

  pub whole_long : (xs whole : List ℕ) → AreWholeOf words xs whole → length whole ≤ length xs
  whole_long [] whole none = omega (arith, ap (λ (l : List ℕ). length l) none)
  whole_long (x ∷ xs) whole h =
      ⊎_elim
      (λ (d : BeginsNext words x xs × AreWholeOf words xs whole). omega (arith, whole_long xs whole d.1))
      (λ (k : (¬ BeginsNext words x xs) × ((rest : List ℕ) × (whole ≡ rest ++ x ∷ []) × AreWholeOf words xs rest)).
      omega (arith, whole_long xs k.1.0 k.1.2, length_push k.1.0 x, ap (λ (l : List ℕ). length l) k.1.1))
      h

  abbrev IsBegun : List ℕ → ℕ → Type 0
  IsBegun whole p = (q : ℕ) × In q whole × IsPrefix (word_at_place words p) (word_at_place words q)

  -- each of the places begins one of them
  whole_covers : (xs whole : List ℕ) → AreWholeOf words xs whole → (p : ℕ) → In p xs → IsBegun whole p
  whole_covers [] whole none p i = absurd i
  whole_covers (x ∷ xs) whole h p i =
      ⊎_elim
      (λ (d : BeginsNext words x xs × AreWholeOf words xs whole). ⊎_elim
      (λ (e : p ≡ x). subst (IsBegun whole) (sym e) (by xs d.0 (λ n j. whole_covers xs whole d.1 n j)))
      (λ (j : In p xs). whole_covers xs whole d.1 p j)
      i)
      (λ (k : (¬ BeginsNext words x xs) × ((rest : List ℕ) × (whole ≡ rest ++ x ∷ []) × AreWholeOf words xs rest)). ⊎_elim
      (λ (e : p ≡ x). (x, subst (In x) (sym k.1.1) (in_right x k.1.0 (x ∷ []) (inl refl)), subst (λ (q : ℕ). IsPrefix (word_at_place words q) (word_at_place words x)) (sym e) (prefix_whole (word_at_place words x))))
      (λ (j : In p xs). let r = whole_covers xs k.1.0 k.1.2 p j in (r.0, subst (In r.0) (sym k.1.1) (in_left r.0 k.1.0 (x ∷ []) r.1), r.2))
      i)
      h
    where
      by : (ys : List ℕ) → BeginsNext words x ys → ((n : ℕ) → In n ys → IsBegun whole n) → IsBegun whole x
      by [] none rest = absurd none
      by (n ∷ ns) begins rest = let r = rest n (inl refl) in (r.0, r.1, prefix_of_prefix (word_at_place words x) (word_at_place words n) (word_at_place words r.0) begins r.2)

  -- a place whose word begins a later one's begins the next one's, where they stand by their words
  begins_one : (x : ℕ) (xs : List ℕ) → AllPairs (StandsBefore words) (x ∷ xs) → (r : ℕ) → In r xs → IsPrefix (word_at_place words x) (word_at_place words r) → BeginsNext words x xs
  begins_one x [] sorted r i pre = absurd i
  begins_one x (n ∷ ns) sorted r i pre =
      ⊎_elim
      (λ (e : r ≡ n). subst (λ (q : ℕ). IsPrefix (word_at_place words x) (word_at_place words q)) e pre)
      (λ (j : In r ns).
      let next : StandsBefore words x n = All-head (StandsBefore words x) n ns (pairs_first (StandsBefore words) x (n ∷ ns) sorted) in
      let later : StandsBefore words n r = All-contains (StandsBefore words n) ns r (pairs_first (StandsBefore words) n ns (pairs_rest (StandsBefore words) x (n ∷ ns) sorted)) (in_contains r ns j) in
      between (word_at_place words x) (word_at_place words n) (word_at_place words r) pre next.0 later.0)
      i

  abbrev IsLeastAlike : ℕ → ℕ → Type 0
  IsLeastAlike q r = (word_at_place words r ≡ word_at_place words q) × (q ≤ r)

  -- one of them begins no other word, and has the least place of its own
  whole_apart : (xs whole : List ℕ) → AllPairs (StandsBefore words) xs → AreWholeOf words xs whole → (q r : ℕ) → In q whole → In r xs → IsPrefix (word_at_place words q) (word_at_place words r) → IsLeastAlike q r
  whole_apart [] whole sorted none q r i j pre = absurd j
  whole_apart (x ∷ xs) whole sorted h q r i j pre =
      ⊎_elim
      (λ (d : BeginsNext words x xs × AreWholeOf words xs whole). ⊎_elim
      (λ (e : r ≡ x). first (whole_in xs whole d.1 q i) e)
      (λ (l : In r xs). whole_apart xs whole rest_sorted d.1 q r i l pre)
      j)
      (λ (k : (¬ BeginsNext words x xs) × ((rest : List ℕ) × (whole ≡ rest ++ x ∷ []) × AreWholeOf words xs rest)). ⊎_elim
      (λ (m : In q k.1.0). ⊎_elim
      (λ (e : r ≡ x). first (whole_in xs k.1.0 k.1.2 q m) e)
      (λ (l : In r xs). whole_apart xs k.1.0 rest_sorted k.1.2 q r m l pre)
      j)
      (λ (m : In q (x ∷ [])). ⊎_elim
      (λ (own : q ≡ x). ⊎_elim
      (λ (e : r ≡ x). (ap (word_at_place words) (e ∙ sym own), omega (arith, e, own)))
      (λ (l : In r xs). absurd (k.0 (begins_one x xs sorted r l (subst (λ (y : ℕ). IsPrefix (word_at_place words y) (word_at_place words r)) own pre))))
      j)
      (λ (no_one : ⊥). absurd no_one)
      m)
      (in_either q k.1.0 (x ∷ []) (subst (In q) k.1.1 i)))
      h
    where
      rest_sorted : AllPairs (StandsBefore words) xs
      rest_sorted = pairs_rest (StandsBefore words) x xs sorted

      first : In q xs → r ≡ x → IsLeastAlike q r
      first m e =
          let before : StandsBefore words x q = All-contains (StandsBefore words x) xs q (pairs_first (StandsBefore words) x xs sorted) (in_contains q xs m) in
          let back : IsUpTo (word_at_place words q) (word_at_place words x) = up_to_prefix (word_at_place words q) (word_at_place words x) (subst (λ (y : ℕ). IsPrefix (word_at_place words q) (word_at_place words y)) e pre) in
          let same : word_at_place words x ≡ word_at_place words q = up_to_both (word_at_place words x) (word_at_place words q) before.0 back in
          (ap (word_at_place words) e ∙ same, omega (arith, before.1 same, e))

-- places whose words begin no other's
whole_list : (batch : List (List ℕ)) (xs : List ℕ) → ((p q : ℕ) → In p xs → In q xs → IsPrefix (word_at_place batch q) (word_at_place batch p) → p ≡ q) → ((p : ℕ) → times p xs ≤ 1) → AreWhole batch xs
whole_list batch [] apart few = tt
whole_list batch (x ∷ xs) apart few = (
  λ k d lt pre. not_again x xs (few x) k d lt (apart x (get_or xs k d) (inl refl) (inr (contains_in (get_or xs k d) xs (Contains-get_or xs k d lt))) pre),
  whole_list batch xs (λ p q i j pre. apart p q (inr i) (inr j) pre) (λ p. omega (arith, few p, sum_by-cons (λ (y : ℕ). cond (eqb p y) 1 0) x xs)),
)

all_in : (xs : List ℕ) → All (λ x. In x xs) xs
all_in xs k d lt = contains_in (get_or xs k d) xs (Contains-get_or xs k d lt)

module _ (kept : List KeptAnswer) (batch words : List (List ℕ)) (places sorted whole ready : List ℕ) (letters : ℕ) (is : IsGathered kept batch words places) (moved : IsPermutation places sorted) (by_words : AreByWords words sorted) (are : AreWholeOf words sorted whole) (last : IsPermutation whole ready) (order : ComeBefore words ready) (sum_is : letters ≡ letters_of words ready) where
  sorted_hand : All (IsAtHand batch words) sorted
  sorted_hand = All-permutation (IsAtHand batch words) places sorted moved is.at_hand

  hand_at : (p : ℕ) → In p sorted → IsAtHand batch words p
  hand_at p i = All-contains (IsAtHand batch words) sorted p sorted_hand (in_contains p sorted i)

  to_whole : (p : ℕ) → In p ready → In p whole
  to_whole p i = All-contains (λ x. In x whole) ready p (All-permutation (λ x. In x whole) whole ready last (all_in whole)) (in_contains p ready i)

  to_sorted : (p : ℕ) → In p ready → In p sorted
  to_sorted p i = whole_in words sorted whole are p (to_whole p i)

  from_places : (p : ℕ) → Contains places p → In p sorted
  from_places p c = contains_in p sorted (Contains-permutation places sorted p moved c)

  few_times : (p : ℕ) → times p ready ≤ 1
  few_times p = omega (arith, once p places is.rising, sum_by-IsPermutation (λ (x : ℕ). cond (eqb p x) 1 0) places sorted moved, whole_times words p sorted whole are, sum_by-IsPermutation (λ (x : ℕ). cond (eqb p x) 1 0) whole ready last)

  ready_hand : All (IsAtHand batch words) ready
  ready_hand k d lt = hand_at (get_or ready k d) (to_sorted (get_or ready k d) (all_in ready k d lt))

  -- by the words of the batch
  least_alike : (q r : ℕ) → In q ready → In r sorted → IsPrefix (word_at_place batch q) (word_at_place batch r) → IsLeastAlike words q r
  least_alike q r i j pre =
      whole_apart words sorted whole by_words are q r (to_whole q i) j
      (subst (λ (w : List ℕ). IsPrefix w (word_at_place words r)) (sym (hand_at q (to_sorted q i)).word) (subst (IsPrefix (word_at_place batch q)) (sym (hand_at r j).word) pre))

  pub ready_is : IsReady kept batch words ready letters
  ready_is = record {
    size = is.size;
    at_hand = ready_hand;
    unknown = λ k d lt. unknown (get_or ready k d) (all_in ready k d lt);
    least = λ k d lt q below same.
        let p : ℕ = get_or ready k d in
        let i : In p ready = all_in ready k d lt in
        ⊎_elim
        (λ (c : Contains places q). (least_alike p q i (from_places q c) (subst (IsPrefix (word_at_place batch p)) (sym same) (prefix_whole (word_at_place batch p)))).1)
        (λ (known : IsKnown (answers_of kept) (word_at_place batch q)). absurd (unknown p i (subst (IsKnown (answers_of kept)) same known)))
        (is.covered q below);
    order = in_order batch words ready ready_hand order few_times;
    whole = whole_list batch ready (λ p q i j pre.
        let a : IsLeastAlike words q p = least_alike q p j (to_sorted p i) pre in
        let back : word_at_place batch q ≡ word_at_place batch p = sym (hand_at q (to_sorted q j)).word ∙ (sym a.0 ∙ (hand_at p (to_sorted p i)).word) in
        let b : IsLeastAlike words p q = least_alike p q i (to_sorted q j) (subst (IsPrefix (word_at_place batch p)) (sym back) (prefix_whole (word_at_place batch p))) in
        omega (arith, a.1, b.1)) few_times;
    count = omega (arith, is.count, length_permutation places sorted moved, whole_long words sorted whole are, length_permutation whole ready last);
    letters_sum =
        let f : ℕ → ℕ = λ p. length (word_at_place batch p) in
        let g : ℕ → ℕ = λ p. length (word_at_place words p) in
        sym (sum-map f ready)
        ∙ (ap sum (map_agree (IsAtHand batch words) f g (λ p h. ap (λ (l : List ℕ). length l) (sym h.word)) ready ready_hand)
        ∙ (sum-map g ready ∙ sym sum_is));
    covered = λ p below. ⊎_elim
        (λ (c : Contains places p).
        let i : In p sorted = from_places p c in
        let r = whole_covers words sorted whole are p i in
        inl (
          r.0,
          Contains-permutation whole ready r.0 last (in_contains r.0 whole r.1),
          subst (λ (w : List ℕ). IsPrefix w (word_at_place batch r.0)) (hand_at p i).word (subst (IsPrefix (word_at_place words p)) (hand_at r.0 (whole_in words sorted whole are r.0 r.1)).word r.2),
        ))
        (λ (k : IsKnown (answers_of kept) (word_at_place batch p)). inr k)
        (is.covered p below);
  }
    where
      unknown : (p : ℕ) → In p ready → ¬ IsKnown (answers_of kept) (word_at_place batch p)
      unknown p i = All-contains (λ x. ¬ IsKnown (answers_of kept) (word_at_place batch x)) sorted p (All-permutation (λ x. ¬ IsKnown (answers_of kept) (word_at_place batch x)) places sorted moved is.unknown) (in_contains p sorted (to_sorted p i))

-- neighbours in the order of their keys
pub not_after : (a b p q : ℕ) → is_lt (ordering_then (nat_cmp a b) (nat_cmp q p)) ≡ false → (b < a) ⊎ ((a ≡ b) × (p ≤ q))
not_after a b p q less =
    ⊎_elim
    (λ (same : a ≡ b). inr (
      same,
      ⊎_elim
          (λ (below : q < p). absurd (true≢false (sym (ap (λ (o : Ordering). is_lt (ordering_then o (nat_cmp q p))) (cmp_equal a b same) ∙ ap is_lt (cmp_less q p below)) ∙ less)))
          (λ (le : p ≤ q). le)
          (cases_lt q p),
    ))
    (λ (o : (a < b) ⊎ (b < a)). ⊎_elim
    (λ (below : a < b). absurd (true≢false (sym (ap (λ (c : Ordering). is_lt (ordering_then c (nat_cmp q p))) (cmp_less a b below)) ∙ less)))
    (λ (above : b < a). inl above)
    o)
    (cases_order a b)
  where
    cmp_less : (x y : ℕ) → x < y → nat_cmp x y ≡ Less
    cmp_less x y lt = grind (arith, nat_tests)

    cmp_equal : (x y : ℕ) → x ≡ y → nat_cmp x y ≡ Equal
    cmp_equal x y same = grind (arith, nat_tests)

pub through_after : (words : List (List ℕ)) (p q r : ℕ) → NotAfter words p q → NotAfter words q r → NotAfter words p r
through_after words p q r one two =
    ⊎_elim
    (λ (l : length (word_at_place words q) < length (word_at_place words p)). ⊎_elim
    (λ (m : length (word_at_place words r) < length (word_at_place words q)). inl (omega (arith, l, m)))
    (λ (m : (length (word_at_place words q) ≡ length (word_at_place words r)) × (q ≤ r)). inl (omega (arith, l, m.0)))
    two)
    (λ (l : (length (word_at_place words p) ≡ length (word_at_place words q)) × (p ≤ q)). ⊎_elim
    (λ (m : length (word_at_place words r) < length (word_at_place words q)). inl (omega (arith, l.0, m)))
    (λ (m : (length (word_at_place words q) ≡ length (word_at_place words r)) × (q ≤ r)). inr (l.0 ∙ m.0, omega (arith, l.1, m.1)))
    two)
    one

-- places in the order of their words
pub stands_before : (words : List (List ℕ)) (p q : ℕ) → is_lt (by_words words q p) ≡ false → StandsBefore words p q
stands_before words p q less =
    let r = up_to_cmp (word_at_place words p) (word_at_place words q) (nat_cmp p q) less in
    (r.0, λ same. not_less (r.1 same))
  where
    not_less : is_lt (nat_cmp p q) ≡ false → q ≤ p
    not_less is =
        ⊎_elim
        (λ (below : p < q). absurd (true≢false (sym (ap is_lt (cmp_less p q below)) ∙ is)))
        (λ (le : q ≤ p). le)
        (cases_lt p q)

falls_not : (words : List (List ℕ)) (p q : ℕ) → StandsBefore words p q → is_lt (by_words words q p) ≡ false
falls_not words p q before = cmp_up_to (word_at_place words p) (word_at_place words q) (nat_cmp p q) before.0 (λ same. not_less (before.1 same))
  where
    not_less : q ≤ p → is_lt (nat_cmp p q) ≡ false
    not_less le =
        ⊎_elim
        (λ (same : p ≡ q). ap is_lt (cmp_equal p q same))
        (λ (other : p ≡ q → ⊥). ap is_lt (cmp_greater p q (omega (arith, le, other))))
        (cases_eq p q)

pub through_before : (words : List (List ℕ)) (p q r : ℕ) → StandsBefore words p q → StandsBefore words q r → StandsBefore words p r
through_before words p q r one two = (
  up_to_through (word_at_place words p) (word_at_place words q) (word_at_place words r) one.0 two.0,
  λ same.
      let back : word_at_place words q ≡ word_at_place words p = up_to_both (word_at_place words q) (word_at_place words p) (subst (IsUpTo (word_at_place words q)) (sym same) two.0) one.0 in
      omega (arith, one.1 (sym back), two.1 (back ∙ same)),
)

pub words_rank : (words : List (List ℕ)) → IsStrictWeakOrder (λ p q. is_lt (by_words words p q))
words_rank words = record {
  one_way = λ p q less. not_both (by_words words p q) (by_words words q p) (total.antisymm p q) less;
  chain = λ p q r one two. falls_not words r p (through_before words r q p (stands_before words r q two) (stands_before words q p one));
}
  where
    total : IsTotalOrder (by_words words)
    total = then_total (on_total (word_at_place words) nat_list_cmp_total) (back_total nat_cmp_total)

    not_both : (r s : Ordering) → r ≡ ordering_reverse s → is_lt r ≡ true → is_lt s ≡ false
    not_both r s = elim s as (λ s. r ≡ ordering_reverse s → is_lt r ≡ true → is_lt s ≡ false) [
      | Less ↦ λ e less. absurd (true≢false (sym less ∙ ap is_lt e))
      | Equal ↦ λ e less. refl
      | Greater ↦ λ e less. refl
    ]

-- a place is one of them, from the last one on
pub whole_keeps : (words : List (List ℕ)) (places : List ℕ) (at p : ℕ) (whole : List ℕ) → (lt : at < length places) → p ≡ get_or places at 0 → ¬ BeginsNext words (get_or places at 0) (drop (at + 1) places) → AreWholeOf words (drop (at + 1) places) whole → AreWholeOf words (drop at places) (whole ++ p ∷ [])
whole_keeps words places at p whole lt here begins are =
    subst (λ (q : ℕ). AreWholeOf words (drop at places) (whole ++ q ∷ [])) (sym here)
    (subst (λ (l : List ℕ). AreWholeOf words l (whole ++ get_or places at 0 ∷ [])) (sym (drop_more places at 0 lt)) (inr (begins, (whole, refl, are))))

-- whether the word of a place begins that of the next one
pub begins_is : (words : List (List ℕ)) (places : List ℕ) (at : ℕ) → at + 1 < length places → (long short : List ℕ) → long ≡ word_at_place words (get_or places (at + 1) 0) → short ≡ word_at_place words (get_or places at 0) → (r : Bool) → r ≡ starts_with eqb long short → IsTrue r ↔ BeginsNext words (get_or places at 0) (drop (at + 1) places)
begins_is words places at lt long short long_is short_is r value =
    let p : ℕ = get_or places at 0 in
    let next : drop (at + 1) places ≡ get_or places (at + 1) 0 ∷ drop (at + 1 + 1) places = drop_more places (at + 1) 0 lt in
    let s = starts_is unsigned_Decides long short r value in (
      λ told. subst (BeginsNext words p) (sym next) (drop (length short) long, sym long_is ∙ (s.0 told ∙ ap (λ (w : List ℕ). w ++ drop (length short) long) short_is)),
      λ begins.
          let pre : IsPrefix (word_at_place words p) (word_at_place words (get_or places (at + 1) 0)) = subst (BeginsNext words p) next begins in
          s.1 pre.0 (long_is ∙ (pre.1 ∙ ap (λ (w : List ℕ). w ++ pre.0) (sym short_is))),
    )

pub not_told : (r : Bool) → r ≡ false → IsTrue r → ⊥
not_told true told is = true≢false told
not_told false told is = false≢true is
