-- What the steps of a board keep.
use Rattle.std.proofs.Common.{◌≡◌, ◌≢◌, ◌⊎◌, inl, inr, ⊎_elim, ℕ, zero, suc, ◌+◌, ◌<◌, ◌≤◌, ◌==◌, not, List, [], ◌∷◌, ◌++◌, length, map, filter, take, drop, get_or, set, All, Contains, Bool, true, false, cond, Option, None, refl, ap, sym, ◌∙◌, subst, arith, ◌^◌, append-nil}
use Rattle.std.proofs.lemmas.Bool.{false≢true, cases_eq}
use Rattle.std.proofs.lemmas.List.{get_or-map, get_or_default, get_or_append_left, length-append, get_or-set_other, drop_more, length-map, length-set, map_push, nil_from_length}
use Rattle.std.proofs.lemmas.List.Elements.{All-head, All-tail, All-push, All-weaker, All-filter, All-contains, Contains-get_or, Contains-push_cases, Contains-push, Contains-append_left}
use Rattle.std.proofs.lemmas.List.Sums.{sum_by-cons}
use Rattle.lw_words.specs.Word.{answers_of, IsPrefix}
use Rattle.lw_words.specs.declared.kept.KeptAnswer.{KeptAnswer}
use Rattle.lw_cache.specs.Caching.{Claim, claim_of, claim_at, IsClaimOf, IsClaimedBy, IsUnused, without_claim}
use Rattle.lw_cache.specs.Known.{IsKnown}
use Rattle.lw_cache.specs.Standing.{Stands}
use Rattle.lw_cache.specs.declared.known.Known.TheVariants.{No}
use Rattle.lw_cache.specs.declared.stops.AskStop.{AskStop}
use Rattle.lw_cache.proofs.GainLemmas.{known_stays}
use Rattle.lw_desk.specs.Step.{word_at_place, ComesBefore}
use Rattle.lw_desk.specs.bodies.Board.{numbers_of, without_number, without_numbers, without_all, AreHeld, IsTaken, AreApart, AreInOrder, AreWhole, IsLeast, BeginsOne, IsAtHand, IsPlaces, Waits, letters_of, IsBoard}
use Rattle.lw_names.proofs.Members.{In, in_contains, contains_in, in_filter, in_filter_of, is_same, is_other}
use Rattle.lw_desk.specs.lemmas.CoverLemmas.{known_prefix, prefix_of_prefix}
use Rattle.lw_desk.specs.bodies.Gathering.{IsReady}
use Rattle.lw_desk.proofs.TidyLemmas.{known_in_more}

-- numbers that are left out
pub map-filter : {X : Type 0} (f : X → ℕ) (q : ℕ → Bool) (xs : List X) → map f (filter (λ x. q (f x)) xs) ≡ filter q (map f xs)
map-filter f q [] = refl
map-filter f q (x ∷ xs) = by (q (f x)) (map-filter f q xs)
  where
    by : (b : Bool) → map f (filter (λ x. q (f x)) xs) ≡ filter q (map f xs) → map f (cond b (x ∷ filter (λ x. q (f x)) xs) (filter (λ x. q (f x)) xs)) ≡ cond b (f x ∷ filter q (map f xs)) (filter q (map f xs))
    by true rest = ap (λ (l : List ℕ). f x ∷ l) rest
    by false rest = rest

pub numbers_without : (p : ℕ) (claims : List Claim) → numbers_of (without_claim p claims) ≡ without_number p (numbers_of claims)
numbers_without p claims = map-filter (λ (c : Claim). c.number) (λ n. not (n == p)) claims

pub in_without : (p n : ℕ) (ns : List ℕ) → Contains (without_number p ns) n → Contains ns n × (n ≢ p)
in_without p n ns c =
    let t = in_filter (λ m. not (m == p)) n ns (contains_in n (without_number p ns) c) in
    (in_contains n ns t.0, λ same. false≢true (sym (ap not (is_same n p same)) ∙ t.1))

pub in_without_of : (p n : ℕ) (ns : List ℕ) → Contains ns n → n ≢ p → Contains (without_number p ns) n
in_without_of p n ns c other = in_contains n (without_number p ns) (in_filter_of (λ m. not (m == p)) n ns (contains_in n ns c) (ap not (is_other n p other)))

pub apart_without : (p : ℕ) (ns : List ℕ) → AreApart ns → AreApart (without_number p ns)
apart_without p [] apart = tt
apart_without p (n ∷ ns) apart = by (not (n == p)) (apart_without p ns apart.1)
  where
    by : (b : Bool) → AreApart (without_number p ns) → AreApart (cond b (n ∷ without_number p ns) (without_number p ns))
    by true rest = (λ c. apart.0 (in_without p n ns c).0, rest)
    by false rest = rest

pub contains_cons : (n m : ℕ) (ns : List ℕ) → Contains ns m → Contains (n ∷ ns) m
contains_cons n m ns c = (c.0 + 1, omega (arith, c.1), subst (λ (k : ℕ). get_or (n ∷ ns) k m ≡ m) (add_one c.0) c.2)
  where
    add_one : (k : ℕ) → suc k ≡ k + 1
    add_one k = omega arith

pub contains_first : (n m : ℕ) (ns : List ℕ) → n ≡ m → Contains (n ∷ ns) m
contains_first n m ns same = (0, omega arith, same)

pub contains_either : (n m : ℕ) (ns : List ℕ) → Contains (n ∷ ns) m → (n ≡ m) ⊎ Contains ns m
contains_either n m ns c =
    ⊎_elim
    (λ (e : m ≡ n). inl (sym e))
    (λ (i : In m ns). inr (in_contains m ns i))
    (contains_in m (n ∷ ns) c)

pub apart_push : (p : ℕ) (ns : List ℕ) → AreApart ns → ¬ Contains ns p → AreApart (ns ++ p ∷ [])
apart_push p [] apart new = (λ c. absurd (omega (arith, c.1)), tt)
apart_push p (n ∷ ns) apart new = (
  λ c. ⊎_elim
      (λ (i : Contains ns n). apart.0 i)
      (λ (e : p ≡ n). new (contains_first n p ns (sym e)))
      (Contains-push_cases ns p n c),
  apart_push p ns apart.1 (λ c. new (contains_cons n p ns c)),
)

-- a number that is claimed is in use
pub used : (claims : List Claim) (n : ℕ) → Contains (numbers_of claims) n → ¬ IsUnused claims n
used claims n c unused =
    let blank : Claim = record { number = 0; word = [] } in
    let lt : c.0 < length claims = omega (arith, c.1, length-map claims (λ (d : Claim). d.number)) in
    unused c.0 lt (sym (get_or-map (λ (d : Claim). d.number) claims c.0 blank n lt) ∙ c.2)

-- places that are held, one after the other
pub held_first : (ns : List ℕ) (p : ℕ) (ps : List ℕ) → AreHeld ns (p ∷ ps) → Contains ns p
held_first ns p ps h = All-head (Contains ns) p ps h.0

pub held_rest : (ns : List ℕ) (p : ℕ) (ps : List ℕ) → AreHeld ns (p ∷ ps) → AreHeld (without_number p ns) ps
held_rest ns p ps h = (
  λ k d lt. in_without_of p (get_or ps k d) ns (All-tail (Contains ns) p ps h.0 k d lt) (λ same. h.1.0 (subst (Contains ps) same (Contains-get_or ps k d lt))),
  h.1.1,
)

pub held_at : (ns ps : List ℕ) (i : ℕ) → AreHeld ns ps → i < length ps → Contains (without_numbers (take i ps) ns) (get_or ps i 0)
held_at ns [] i h lt = absurd (omega arith)
held_at ns (p ∷ ps) zero h lt = held_first ns p ps h
held_at ns (p ∷ ps) (suc i) h lt = held_at (without_number p ns) ps i (held_rest ns p ps h) (omega arith)

pub numbers_without_all : (ps : List ℕ) (claims : List Claim) → numbers_of (without_all ps claims) ≡ without_numbers ps (numbers_of claims)
numbers_without_all [] claims = refl
numbers_without_all (p ∷ ps) claims = numbers_without_all ps (without_claim p claims) ∙ ap (without_numbers ps) (numbers_without p claims)

pub without_all_more : (ps : List ℕ) (p : ℕ) (claims : List Claim) → without_all (ps ++ p ∷ []) claims ≡ without_claim p (without_all ps claims)
without_all_more [] p claims = refl
without_all_more (q ∷ ps) p claims = without_all_more ps p (without_claim q claims)

-- claims by their numbers
module _ (batch words : List (List ℕ)) (claims : List Claim) (places : All (IsPlaces batch words) claims) where
  abbrev none : Claim
  none = record { number = 0; word = [] }

  number_at : (i : ℕ) → i < length claims → get_or (numbers_of claims) i 0 ≡ (claim_at claims i).number
  number_at i lt = get_or-map (λ (c : Claim). c.number) claims i none 0 lt

  pub number_in : (i n : ℕ) → i < length claims → (claim_at claims i).number ≡ n → Contains (numbers_of claims) n
  number_in i n lt is = subst (Contains (numbers_of claims)) (number_at i lt ∙ is) (Contains-get_or (numbers_of claims) i 0 (omega (arith, lt, length-map claims (λ (c : Claim). c.number))))

  pub number_found : (n : ℕ) → Contains (numbers_of claims) n → (i : ℕ) × (i < length claims) × ((claim_at claims i).number ≡ n) × ((claim_at claims i).word ≡ word_at_place batch n)
  number_found n c =
      let lt : c.0 < length claims = omega (arith, c.1, length-map claims (λ (d : Claim). d.number)) in
      let is : (claim_at claims c.0).number ≡ n = sym (number_at c.0 lt) ∙ (get_or_default (numbers_of claims) c.0 0 n c.1 ∙ c.2) in
      (c.0, lt, is, (places c.0 none lt).word ∙ ap (word_at_place batch) is)

  pub claim_of_place : (n : ℕ) → Contains (numbers_of claims) n → IsClaimOf claims n (word_at_place batch n)
  claim_of_place n c = number_found n c

  pub claimed_at : (n : ℕ) (w : List ℕ) → IsClaimedBy claims w n → Contains (numbers_of claims) n × IsPrefix w (word_at_place batch n)
  claimed_at n w c = (
    number_in c.0 n c.1 c.2,
    subst (IsPrefix w) ((places c.0 none c.1).word ∙ ap (word_at_place batch) c.2) c.3,
  )

  pub unused_of : (n : ℕ) → ¬ Contains (numbers_of claims) n → IsUnused claims n
  unused_of n new i lt is = new (number_in i n lt is)

  -- how a word that isn't taken stands in the cache
  pub free_stands : (kept : List KeptAnswer) (w : List ℕ) → ¬ IsTaken batch kept (numbers_of claims) w → Stands (answers_of kept) claims w No
  free_stands kept w free = (
    λ known. free (inl known),
    λ n by. let c = claimed_at n w by in free (inr (n, c.0, c.1)),
  )

-- what begins a word that is taken is taken
pub taken_prefix : (batch : List (List ℕ)) (kept : List KeptAnswer) (claimed : List ℕ) (u v : List ℕ) → IsPrefix u v → IsTaken batch kept claimed v → IsTaken batch kept claimed u
taken_prefix batch kept claimed u v pre taken =
    ⊎_elim
    (λ (known : IsKnown (answers_of kept) v). inl (known_prefix (answers_of kept) u v pre known))
    (λ (r : (p : ℕ) × Contains claimed p × IsPrefix v (word_at_place batch p)). inr (r.0, r.1, prefix_of_prefix u v (word_at_place batch r.0) pre r.2))
    taken

-- a word that begins one that isn't longer is this one
pub prefix_alike : (u v : List ℕ) → IsPrefix u v → length v ≤ length u → u ≡ v
prefix_alike u v pre le = sym (pre.1 ∙ (ap (λ (l : List ℕ). u ++ l) (nil_from_length pre.0 (omega (arith, le, ap (λ (l : List ℕ). length l) pre.1, length-append u pre.0))) ∙ append-nil u))

prefix_length : (u v : List ℕ) → IsPrefix u v → length u ≤ length v
prefix_length u v pre = omega (arith, ap (λ (l : List ℕ). length l) pre.1, length-append u pre.0)

begins_either : (batch : List (List ℕ)) (p : ℕ) (ps : List ℕ) (w : List ℕ) → BeginsOne batch (p ∷ ps) w → IsPrefix w (word_at_place batch p) ⊎ BeginsOne batch ps w
begins_either batch p ps w r =
    ⊎_elim
    (λ (e : p ≡ r.0). inl (subst (λ (q : ℕ). IsPrefix w (word_at_place batch q)) (sym e) r.2))
    (λ (c : Contains ps r.0). inr (r.0, c, r.2))
    (contains_either p r.0 ps r.1)

-- of words that stand in order none begins another one
pub whole_words : (batch : List (List ℕ)) (ps : List ℕ) → AreInOrder batch ps → AreWhole batch ps → (q r : ℕ) → In q ps → In r ps → IsPrefix (word_at_place batch q) (word_at_place batch r) → word_at_place batch q ≡ word_at_place batch r
whole_words batch [] order whole q r i j pre = absurd i
whole_words batch (p ∷ ps) order whole q r i j pre =
    ⊎_elim
    (λ (e : q ≡ p). ⊎_elim
    (λ (f : r ≡ p). ap (word_at_place batch) (e ∙ sym f))
    (λ (l : In r ps). prefix_alike (word_at_place batch q) (word_at_place batch r) pre (subst (λ (x : ℕ). length (word_at_place batch r) ≤ length (word_at_place batch x)) (sym e) (not_longer p r (All-contains (ComesBefore batch p) ps r order.0 (in_contains r ps l)))))
    j)
    (λ (k : In q ps). ⊎_elim
    (λ (f : r ≡ p). absurd (All-contains (λ x. ¬ IsPrefix (word_at_place batch x) (word_at_place batch p)) ps q whole.0 (in_contains q ps k) (subst (λ (x : ℕ). IsPrefix (word_at_place batch q) (word_at_place batch x)) f pre)))
    (λ (l : In r ps). whole_words batch ps order.1 whole.1 q r k l pre)
    j)
    i
  where
    not_longer : (x y : ℕ) → ComesBefore batch x y → length (word_at_place batch y) ≤ length (word_at_place batch x)
    not_longer x y before =
        ⊎_elim
        (λ (l : length (word_at_place batch y) < length (word_at_place batch x)). omega (arith, l))
        (λ (l : (length (word_at_place batch x) ≡ length (word_at_place batch y)) × (x < y)). omega (arith, l.0))
        before

pub whole_pairs : (batch : List (List ℕ)) (ps : List ℕ) → AreWhole batch ps → (i j : ℕ) → i < j → j < length ps → ¬ IsPrefix (word_at_place batch (get_or ps j 0)) (word_at_place batch (get_or ps i 0))
whole_pairs batch [] whole i j lt within = absurd (omega arith)
whole_pairs batch (p ∷ ps) whole zero zero lt within = absurd (omega arith)
whole_pairs batch (p ∷ ps) whole zero (suc j) lt within = whole.0 j 0 (omega arith)
whole_pairs batch (p ∷ ps) whole (suc i) zero lt within = absurd (omega arith)
whole_pairs batch (p ∷ ps) whole (suc i) (suc j) lt within = whole_pairs batch ps whole.1 i j (omega arith) (omega arith)

-- the first place of the list
module _ (batch : List (List ℕ)) (kept : List KeptAnswer) (claims : List Claim) (stop : Option AskStop) (words : List (List ℕ)) (p : ℕ) (ps : List ℕ) (room letters : ℕ) (is : IsBoard batch kept claims stop words (p ∷ ps) room letters) where
  letters_cons : letters_of batch (p ∷ ps) ≡ length (word_at_place batch p) + letters_of batch ps
  letters_cons = sum_by-cons (λ (q : ℕ). length (word_at_place batch q)) p ps

  first_waits : Waits batch words kept claims p
  first_waits = All-head (Waits batch words kept claims) p ps is.waits

  -- no place before it is free
  none_before : stop ≡ None → (other : ℕ) → other < length batch → ComesBefore batch other p → IsTaken batch kept (numbers_of claims) (word_at_place batch other)
  none_before live other within before =
      ⊎_elim
      (λ (b : BeginsOne batch (p ∷ ps) (word_at_place batch other)). absurd (⊎_elim
      (λ (pre : IsPrefix (word_at_place batch other) (word_at_place batch p)). itself pre)
      (λ (r : BeginsOne batch ps (word_at_place batch other)). later r.0 (All-contains (ComesBefore batch p) ps r.0 is.order.0 r.1) (All-contains (Waits batch words kept claims) ps r.0 (All-tail (Waits batch words kept claims) p ps is.waits) r.1).least r.2)
      (begins_either batch p ps (word_at_place batch other) b)))
      (λ (t : IsTaken batch kept (numbers_of claims) (word_at_place batch other)). t)
      (is.covered live other within)
    where
      itself : IsPrefix (word_at_place batch other) (word_at_place batch p) → ⊥
      itself pre =
          ⊎_elim
          (λ (l : length (word_at_place batch p) < length (word_at_place batch other)). omega (arith, l, prefix_length (word_at_place batch other) (word_at_place batch p) pre))
          (λ (l : (length (word_at_place batch other) ≡ length (word_at_place batch p)) × (other < p)).
          omega (arith, l.1, first_waits.least other within (prefix_alike (word_at_place batch other) (word_at_place batch p) pre (omega (arith, l.0)))))
          before

      later : (q : ℕ) → ComesBefore batch p q → IsLeast batch q → IsPrefix (word_at_place batch other) (word_at_place batch q) → ⊥
      later q behind least pre =
          ⊎_elim
          (λ (l : length (word_at_place batch p) < length (word_at_place batch other)). omega (arith, l, not_longer, prefix_length (word_at_place batch other) (word_at_place batch q) pre))
          (λ (l : (length (word_at_place batch other) ≡ length (word_at_place batch p)) × (other < p)).
          let same : word_at_place batch other ≡ word_at_place batch q = prefix_alike (word_at_place batch other) (word_at_place batch q) pre (omega (arith, l.0, not_longer)) in
          ⊎_elim
          (λ (m : length (word_at_place batch q) < length (word_at_place batch p)). omega (arith, m, l.0, ap (λ (w : List ℕ). length w) same))
          (λ (m : (length (word_at_place batch p) ≡ length (word_at_place batch q)) × (p < q)). omega (arith, m.1, l.1, least other within same))
          behind)
          before
        where
          not_longer : length (word_at_place batch q) ≤ length (word_at_place batch p)
          not_longer =
              ⊎_elim
              (λ (m : length (word_at_place batch q) < length (word_at_place batch p)). omega (arith, m))
              (λ (m : (length (word_at_place batch p) ≡ length (word_at_place batch q)) × (p < q)). omega (arith, m.0))
              behind

  take_first : (room_now letters_now : ℕ) → room_now + 1 ≡ room → letters_now + length (word_at_place batch p) ≡ letters
      → IsBoard batch kept (claims ++ claim_of p (word_at_place batch p) ∷ []) stop words ps room_now letters_now
  take_first room_now letters_now less fewer =
      let new : Claim = claim_of p (word_at_place batch p) in
      let first : Waits batch words kept claims p = first_waits in
      record {
        few = is.few;
        size = is.size;
        places = All-push (IsPlaces batch words) claims new is.places (record { at_hand = first.at_hand; word = refl });
        apart = subst AreApart (sym more) (apart_push p (numbers_of claims) is.apart first.unclaimed);
        waits = waiting (All-tail (Waits batch words kept claims) p ps is.waits);
        order = is.order.1;
        whole = is.whole.1;
        count = omega (arith, is.count);
        room_fits = omega (arith, is.room_fits, less);
        letters_fit = omega (arith, is.letters_fit, letters_cons, fewer);
        covered = λ live q within. ⊎_elim
            (λ (b : BeginsOne batch (p ∷ ps) (word_at_place batch q)). ⊎_elim
            (λ (pre : IsPrefix (word_at_place batch q) (word_at_place batch p)). inr (inr (p, subst (λ (l : List ℕ). Contains l p) (sym more) (Contains-push (numbers_of claims) p), pre)))
            (λ (r : BeginsOne batch ps (word_at_place batch q)). inl r)
            (begins_either batch p ps (word_at_place batch q) b))
            (λ (t : IsTaken batch kept (numbers_of claims) (word_at_place batch q)). inr (⊎_elim
            (λ (known : IsKnown (answers_of kept) (word_at_place batch q)). inl known)
            (λ (r : (n : ℕ) × Contains (numbers_of claims) n × IsPrefix (word_at_place batch q) (word_at_place batch n)).
            inr (r.0, subst (λ (l : List ℕ). Contains l r.0) (sym more) (Contains-append_left (numbers_of claims) (p ∷ []) r.0 r.1), r.2))
            t))
            (is.covered live q within);
      }
    where
      more : numbers_of (claims ++ claim_of p (word_at_place batch p) ∷ []) ≡ numbers_of claims ++ p ∷ []
      more = map_push (λ (c : Claim). c.number) claims (claim_of p (word_at_place batch p))

      either : (n : ℕ) → Contains (numbers_of (claims ++ claim_of p (word_at_place batch p) ∷ [])) n → Contains (numbers_of claims) n ⊎ (p ≡ n)
      either n c = Contains-push_cases (numbers_of claims) p n (subst (λ (l : List ℕ). Contains l n) more c)

      later : (q : ℕ) → Contains ps q → q ≢ p
      later q c same =
          let before : ComesBefore batch p q = All-contains (ComesBefore batch p) ps q is.order.0 c in
          let here : ComesBefore batch p p = subst (ComesBefore batch p) same before in
          ⊎_elim
          (λ (l : length (word_at_place batch p) < length (word_at_place batch p)). omega arith)
          (λ (l : (length (word_at_place batch p) ≡ length (word_at_place batch p)) × (p < p)). omega (arith, l.1))
          here

      waiting : All (Waits batch words kept claims) ps → All (Waits batch words kept (claims ++ claim_of p (word_at_place batch p) ∷ [])) ps
      waiting all k d lt =
          let q : ℕ = get_or ps k d in
          let w : Waits batch words kept claims q = all k d lt in
          record {
            at_hand = w.at_hand;
            least = w.least;
            free = λ taken. ⊎_elim
                (λ (known : IsKnown (answers_of kept) (word_at_place batch q)). w.free (inl known))
                (λ (r : (n : ℕ) × Contains (numbers_of (claims ++ claim_of p (word_at_place batch p) ∷ [])) n × IsPrefix (word_at_place batch q) (word_at_place batch n)). ⊎_elim
                (λ (i : Contains (numbers_of claims) r.0). w.free (inr (r.0, i, r.2)))
                (λ (e : p ≡ r.0). is.whole.0 k d lt (subst (λ (n : ℕ). IsPrefix (word_at_place batch q) (word_at_place batch n)) (sym e) r.2))
                (either r.0 r.1))
                taken;
            unclaimed = λ c. ⊎_elim
                (λ (i : Contains (numbers_of claims) q). w.unclaimed i)
                (λ (e : p ≡ q). later q (Contains-get_or ps k d lt) (sym e))
                (either q c);
          }

-- a claim is gone
module _ (batch : List (List ℕ)) (kept : List KeptAnswer) (claims : List Claim) (stop : Option AskStop) (words : List (List ℕ)) (waiting : List ℕ) (room letters : ℕ) (is : IsBoard batch kept claims stop words waiting room letters) (p : ℕ) where
  rest_places : All (IsPlaces batch words) (without_claim p claims)
  rest_places = All-filter (λ c. not (c.number == p)) (IsPlaces batch words) claims is.places

  rest_apart : AreApart (numbers_of (without_claim p claims))
  rest_apart = subst AreApart (sym (numbers_without p claims)) (apart_without p (numbers_of claims) is.apart)

  rest_in : (n : ℕ) → Contains (numbers_of (without_claim p claims)) n → Contains (numbers_of claims) n × (n ≢ p)
  rest_in n c = in_without p n (numbers_of claims) (subst (λ (l : List ℕ). Contains l n) (numbers_without p claims) c)

  rest_taken : (w : List ℕ) → IsTaken batch kept (numbers_of (without_claim p claims)) w → IsTaken batch kept (numbers_of claims) w
  rest_taken w taken =
      ⊎_elim
      (λ (known : IsKnown (answers_of kept) w). inl known)
      (λ (r : (n : ℕ) × Contains (numbers_of (without_claim p claims)) n × IsPrefix w (word_at_place batch n)). inr (r.0, (rest_in r.0 r.1).0, r.2))
      taken

  rest_waits : All (Waits batch words kept (without_claim p claims)) waiting
  rest_waits = All-weaker (Waits batch words kept claims) (Waits batch words kept (without_claim p claims)) (λ q w. record { at_hand = w.at_hand; least = w.least; free = λ taken. w.free (rest_taken (word_at_place batch q) taken); unclaimed = λ c. w.unclaimed (rest_in q c).0 }) waiting is.waits

  -- it is given up by one who failed
  pub released : (now : Option AskStop) → (now ≡ None → ⊥) → IsBoard batch kept (without_claim p claims) now words waiting room letters
  released now stopped = record {
    few = is.few;
    size = is.size;
    places = rest_places;
    apart = rest_apart;
    waits = rest_waits;
    order = is.order;
    whole = is.whole;
    count = is.count;
    room_fits = is.room_fits;
    letters_fit = is.letters_fit;
    covered = λ live. absurd (stopped live);
  }

  -- it is answered, and its word goes from the list into the answer
  module _ (claimed : Contains (numbers_of claims) p) (new : KeptAnswer) (answers : new.word ≡ word_at_place batch p) (now : Option AskStop) (known : now ≡ None → (stop ≡ None) × IsKnown (answers_of (kept ++ new ∷ [])) (word_at_place batch p)) where
    other_at_hand : (q : ℕ) → q ≢ p → IsAtHand batch words q → IsAtHand batch (set words p []) q
    other_at_hand q other h = record { within = h.within; word = get_or-set_other words p q [] [] other ∙ h.word }

    given_taken : (q : ℕ) → now ≡ None → IsTaken batch kept (numbers_of claims) (word_at_place batch q) → IsTaken batch (kept ++ new ∷ []) (numbers_of (without_claim p claims)) (word_at_place batch q)
    given_taken q live taken =
        ⊎_elim
        (λ (k : IsKnown (answers_of kept) (word_at_place batch q)). inl (known_stays kept new (word_at_place batch q) k))
        (λ (r : (n : ℕ) × Contains (numbers_of claims) n × IsPrefix (word_at_place batch q) (word_at_place batch n)). ⊎_elim
        (λ (same : r.0 ≡ p). inl (known_prefix (answers_of (kept ++ new ∷ [])) (word_at_place batch q) (word_at_place batch p) (subst (λ (n : ℕ). IsPrefix (word_at_place batch q) (word_at_place batch n)) same r.2) (known live).1))
        (λ (other : r.0 ≡ p → ⊥). inr (r.0, subst (λ (l : List ℕ). Contains l r.0) (sym (numbers_without p claims)) (in_without_of p r.0 (numbers_of claims) r.1 other), r.2))
        (cases_eq r.0 p))
        taken

    still_free : (q : ℕ) → ¬ IsTaken batch kept (numbers_of claims) (word_at_place batch q) → ¬ IsTaken batch (kept ++ new ∷ []) (numbers_of (without_claim p claims)) (word_at_place batch q)
    still_free q free taken =
        ⊎_elim
        (λ (known : IsKnown (answers_of (kept ++ new ∷ [])) (word_at_place batch q)). ⊎_elim
        (λ (old : IsKnown (answers_of kept) (word_at_place batch q)). free (inl old))
        (λ (pre : IsPrefix (word_at_place batch q) new.word). free (inr (p, claimed, subst (IsPrefix (word_at_place batch q)) answers pre)))
        (known_in_more kept new (word_at_place batch q) known))
        (λ (r : (n : ℕ) × Contains (numbers_of (without_claim p claims)) n × IsPrefix (word_at_place batch q) (word_at_place batch n)). free (inr (r.0, (rest_in r.0 r.1).0, r.2)))
        taken

    pub given : IsBoard batch (kept ++ new ∷ []) (without_claim p claims) now (set words p []) waiting room letters
    given = record {
      few = is.few;
      size = length-set words p [] ∙ is.size;
      places = λ k d lt.
          let c : Claim = get_or (without_claim p claims) k d in
          let h : IsPlaces batch words c = rest_places k d lt in
          let i : Contains (numbers_of (without_claim p claims)) c.number = number_in batch words (without_claim p claims) rest_places k c.number lt (ap (λ (e : Claim). e.number) (get_or_default (without_claim p claims) k (record { number = 0; word = [] }) d lt)) in
          record { at_hand = other_at_hand c.number (rest_in c.number i).1 h.at_hand; word = h.word };
      apart = rest_apart;
      waits = λ k d lt.
          let w : Waits batch words kept claims (get_or waiting k d) = is.waits k d lt in
          record {
            least = w.least;
            free = still_free (get_or waiting k d) w.free;
            at_hand = other_at_hand (get_or waiting k d) (λ same. w.unclaimed (subst (Contains (numbers_of claims)) (sym same) claimed)) w.at_hand;
            unclaimed = λ c. w.unclaimed (rest_in (get_or waiting k d) c).0;
          };
      order = is.order;
      whole = is.whole;
      count = is.count;
      room_fits = is.room_fits;
      letters_fit = is.letters_fit;
      covered = λ live q within. ⊎_elim
          (λ (b : BeginsOne batch waiting (word_at_place batch q)). inl b)
          (λ (t : IsTaken batch kept (numbers_of claims) (word_at_place batch q)). inr (given_taken q live t))
          (is.covered (known live).0 q within);
    }

-- claims are given up by one who failed
pub restopped : (batch : List (List ℕ)) (kept : List KeptAnswer) (claims : List Claim) (stop now : Option AskStop) (words : List (List ℕ)) (waiting : List ℕ) (room letters : ℕ) → IsBoard batch kept claims stop words waiting room letters → (now ≡ None → ⊥) → IsBoard batch kept claims now words waiting room letters
restopped batch kept claims stop now words waiting room letters is stopped = record {
  few = is.few;
  size = is.size;
  places = is.places;
  apart = is.apart;
  waits = is.waits;
  order = is.order;
  whole = is.whole;
  count = is.count;
  room_fits = is.room_fits;
  letters_fit = is.letters_fit;
  covered = λ live. absurd (stopped live);
}

pub released_all : (batch : List (List ℕ)) (kept : List KeptAnswer) (claims : List Claim) (now : Option AskStop) (words : List (List ℕ)) (waiting : List ℕ) (room letters : ℕ) (ps : List ℕ) → IsBoard batch kept claims now words waiting room letters → (now ≡ None → ⊥) → IsBoard batch kept (without_all ps claims) now words waiting room letters
released_all batch kept claims now words waiting room letters [] is stopped = is
released_all batch kept claims now words waiting room letters (p ∷ ps) is stopped =
    released_all batch kept (without_claim p claims) now words waiting room letters ps (released batch kept claims now words waiting room letters is p now stopped) stopped

pub fail_board : (batch : List (List ℕ)) (kept kept_now : List KeptAnswer) (claims claims_now : List Claim) (stop now : Option AskStop) (words : List (List ℕ)) (waiting : List ℕ) (room letters room_now letters_now : ℕ) (ps : List ℕ) → IsBoard batch kept claims stop words waiting room letters
    → (now ≡ None → ⊥) → kept_now ≡ kept → claims_now ≡ without_all ps claims → room_now ≡ room → letters_now ≡ letters → IsBoard batch kept_now claims_now now words waiting room_now letters_now
fail_board batch kept kept_now claims claims_now stop now words waiting room letters room_now letters_now ps is stopped same_kept gone same_room same_letters =
    subst (λ (l : List KeptAnswer). IsBoard batch l claims_now now words waiting room_now letters_now) (sym same_kept)
    (subst (λ (l : List Claim). IsBoard batch kept l now words waiting room_now letters_now) (sym gone)
    (subst (λ (n : ℕ). IsBoard batch kept (without_all ps claims) now words waiting n letters_now) (sym same_room)
    (subst (λ (n : ℕ). IsBoard batch kept (without_all ps claims) now words waiting room n) (sym same_letters)
    (released_all batch kept claims now words waiting room letters ps (restopped batch kept claims stop now words waiting room letters is stopped) stopped))))

-- the place that comes next
module _ (batch : List (List ℕ)) (kept : List KeptAnswer) (claims : List Claim) (stop : Option AskStop) (words : List (List ℕ)) (order : List ℕ) (next room letters : ℕ) (is : IsBoard batch kept claims stop words (drop next order) room letters) (lt : next < length order) (p : ℕ) (place : p ≡ get_or order next 0) where
  here : IsBoard batch kept claims stop words (p ∷ drop (next + 1) order) room letters
  here =
      subst (λ (n : ℕ). IsBoard batch kept claims stop words (n ∷ drop (next + 1) order) room letters) (sym place)
      (subst (λ (l : List ℕ). IsBoard batch kept claims stop words l room letters) (drop_more order next 0 lt) is)

  pub here_waits : Waits batch words kept claims p
  here_waits = first_waits batch kept claims stop words p (drop (next + 1) order) room letters here

  pub here_free : Stands (answers_of kept) claims (word_at_place batch p) No
  here_free = free_stands batch words claims is.places kept (word_at_place batch p) here_waits.free

  pub here_unused : IsUnused claims p
  here_unused = unused_of batch words claims is.places p here_waits.unclaimed

  pub here_letters : length (word_at_place words p) ≤ letters
  here_letters = omega (arith, here.letters_fit, letters_cons batch kept claims stop words p (drop (next + 1) order) room letters here, ap (λ (w : List ℕ). length w) here_waits.at_hand.word)

  pub here_first : stop ≡ None → (other : ℕ) → other < length batch → ComesBefore batch other p → IsTaken batch kept (numbers_of claims) (word_at_place batch other)
  here_first = none_before batch kept claims stop words p (drop (next + 1) order) room letters here

  pub here_taken : (w : List ℕ) (kept_now : List KeptAnswer) (claims_now : List Claim) (room_now letters_now : ℕ) → w ≡ word_at_place words p → kept_now ≡ kept → claims_now ≡ claims ++ claim_of p w ∷ [] → room_now + 1 ≡ room → letters_now + length w ≡ letters
      → IsBoard batch kept_now claims_now stop words (drop (next + 1) order) room_now letters_now
  here_taken w kept_now claims_now room_now letters_now is_word same_kept more less fewer =
      let word : w ≡ word_at_place batch p = is_word ∙ here_waits.at_hand.word in
      subst (λ (l : List KeptAnswer). IsBoard batch l claims_now stop words (drop (next + 1) order) room_now letters_now) (sym same_kept)
      (subst (λ (l : List Claim). IsBoard batch kept l stop words (drop (next + 1) order) room_now letters_now) (sym (more ∙ ap (λ (v : List ℕ). claims ++ claim_of p v ∷ []) word))
      (take_first batch kept claims stop words p (drop (next + 1) order) room letters here room_now letters_now less (omega (arith, fewer, ap (λ (v : List ℕ). length v) word))))

-- a board that begins
pub begun : (batch : List (List ℕ)) (kept : List KeptAnswer) (claims : List Claim) (words : List (List ℕ)) (places : List ℕ) (room letters sum : ℕ) → length batch < 2 ^ 32 → IsReady kept batch words places sum → claims ≡ [] → length places ≤ room → sum ≤ letters → IsBoard batch kept claims None words places room letters
begun batch kept claims words places room letters sum few is none room_fits letters_fit =
    subst (λ (cs : List Claim). IsBoard batch kept cs None words places room letters) (sym none) (record {
      few = few;
      size = is.size;
      places = λ k d lt. absurd (omega arith);
      apart = tt;
      waits = λ k d lt. record {
        at_hand = is.at_hand k d lt;
        least = is.least k d lt;
        free = λ taken. ⊎_elim
            (λ (known : IsKnown (answers_of kept) (word_at_place batch (get_or places k d))). is.unknown k d lt known)
            (λ (r : (n : ℕ) × Contains [] n × IsPrefix (word_at_place batch (get_or places k d)) (word_at_place batch n)). absurd (omega (arith, r.1.1)))
            taken;
        unclaimed = λ c. absurd (omega (arith, c.1));
      };
      order = is.order;
      whole = is.whole;
      count = is.count;
      room_fits = room_fits;
      letters_fit = omega (arith, letters_fit, is.letters_sum);
      covered = λ live p below. ⊎_elim
          (λ (b : BeginsOne batch places (word_at_place batch p)). inl b)
          (λ (known : IsKnown (answers_of kept) (word_at_place batch p)). inr (inl known))
          (is.covered p below);
    })

-- the word of a claimed place is at hand
pub hand_of : (batch words : List (List ℕ)) (claims : List Claim) → All (IsPlaces batch words) claims → (p : ℕ) → Contains (numbers_of claims) p → IsAtHand batch words p
hand_of batch words claims places p c =
    let f = number_found batch words claims places p c in
    subst (IsAtHand batch words) f.2 (places f.0 (record { number = 0; word = [] }) f.1).at_hand

pub give_board : (batch : List (List ℕ)) (kept kept_now : List KeptAnswer) (claims claims_now : List Claim) (stop now : Option AskStop) (words words_now : List (List ℕ)) (waiting : List ℕ) (room letters room_now letters_now p : ℕ) (new : KeptAnswer) → IsBoard batch kept claims stop words waiting room letters
    → Contains (numbers_of claims) p → new.word ≡ word_at_place batch p → (now ≡ None → (stop ≡ None) × IsKnown (answers_of (kept ++ new ∷ [])) (word_at_place batch p)) → kept_now ≡ kept ++ new ∷ [] → claims_now ≡ without_claim p claims → words_now ≡ set words p [] → room_now ≡ room → letters_now ≡ letters
    → IsBoard batch kept_now claims_now now words_now waiting room_now letters_now
give_board batch kept kept_now claims claims_now stop now words words_now waiting room letters room_now letters_now p new is claimed answers known more gone out same_room same_letters =
    subst (λ (l : List KeptAnswer). IsBoard batch l claims_now now words_now waiting room_now letters_now) (sym more)
    (subst (λ (l : List Claim). IsBoard batch (kept ++ new ∷ []) l now words_now waiting room_now letters_now) (sym gone)
    (subst (λ (l : List (List ℕ)). IsBoard batch (kept ++ new ∷ []) (without_claim p claims) now l waiting room_now letters_now) (sym out)
    (subst (λ (n : ℕ). IsBoard batch (kept ++ new ∷ []) (without_claim p claims) now (set words p []) waiting n letters_now) (sym same_room)
    (subst (λ (n : ℕ). IsBoard batch (kept ++ new ∷ []) (without_claim p claims) now (set words p []) waiting room n) (sym same_letters)
    (given batch kept claims stop words waiting room letters is p claimed new answers now known)))))

-- places that are held, in two parts
pub held_front : (ns xs ys : List ℕ) → AreHeld ns (xs ++ ys) → AreHeld ns xs
held_front ns xs ys h = (
  λ k d lt. subst (Contains ns) (get_or_append_left xs ys d k lt) (h.0 k d (omega (arith, lt, length-append xs ys))),
  front xs h.1,
)
  where
    front : (l : List ℕ) → AreApart (l ++ ys) → AreApart l
    front [] apart = tt
    front (x ∷ l) apart = (λ c. apart.0 (Contains-append_left l ys x c), front l apart.1)

pub held_back : (ns xs ys : List ℕ) → AreHeld ns (xs ++ ys) → AreHeld (without_numbers xs ns) ys
held_back ns [] ys h = h
held_back ns (x ∷ xs) ys h = held_back (without_number x ns) xs ys (held_rest ns x (xs ++ ys) h)
