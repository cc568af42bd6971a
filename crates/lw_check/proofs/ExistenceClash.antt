-- Of a list of answers nothing clashes, or a first clash is there.
use Rattle.std.proofs.Common.{◌≡◌, ℕ, ◌+◌, ◌<◌, ◌≤◌, ◌⊎◌, inl, inr, ⊎_elim, List, [], length, take, min, get_or, refl, sym, ap, ◌∙◌, subst, subst₂, arith}
use Rattle.std.proofs.lemmas.Bool.{cases_lt}
use Rattle.std.proofs.lemmas.List.{length-take, get_or-take, get_or_default, take_all, take-take}
use Rattle.std.proofs.lemmas.List.Elements.{All-take}
use Rattle.lw_words.specs.Word.{Answer, AreAnswers, IsAnswer, answer_at, IsPrefix}
use Rattle.lw_cache.specs.Clash.{Clash, ClashAt, NothingClashes, IsClear}
use Rattle.lw_cache.specs.declared.stops.Clash.{Clash as Found}
use Rattle.lw_cache.proofs.ClashLemmas.{all_are_clear}
use Rattle.lw_cache.proofs.KnownLemmas.{prefix_long, prefix_take, reads_once}
use Rattle.lw_separate.proofs.Decided.{Decided, first_below}
use Rattle.lw_apart.proofs.Decides.{decides_prefix, decides_clash_at, decides_clash}
use Rattle.lw_cache.specs.FirstClash.{IsFirstClash}
use Rattle.lw_check.proofs.DecideLemmas.{begins_with, found_of}

-- one of the numbers below n has it, or each of them has it not
one_or_none : (P : ℕ → Type 0) (n : ℕ) → ((j : ℕ) → Decided (P j)) → ((j : ℕ) × (j < n) × P j) ⊎ ((j : ℕ) → j < n → ¬ P j)
one_or_none P n each =
    ⊎_elim
    (λ (f : (j : ℕ) × (j < n) × P j × ((i : ℕ) → i < j → ¬ P i)). inl (f.0, f.1, f.2))
    (λ (none : (j : ℕ) → j < n → ¬ P j). inr none)
    (first_below P (λ j. ¬ P j) n (λ j lt. each j))

-- an answer clashes at the place with each that has the outputs of one that clashes there
same_clash : (i j k : Answer) (p : ℕ) → p < length i.word → take (p + 1) i.word ≡ take (p + 1) k.word → take (p + 1) i.outs ≡ take (p + 1) j.outs → ClashAt j k p → ClashAt i k p
same_clash i j k p long letters outs c = record {
  first = long;
  second = c.second;
  letters = letters;
  before = sym (take-take p (p + 1) i.outs (omega arith)) ∙ (ap (take p) outs ∙ (take-take p (p + 1) j.outs (omega arith) ∙ c.before));
  here = λ same. c.here (sym (get_or-take (p + 1) j.outs p 0 (omega arith)) ∙ (ap (λ (o : List ℕ). get_or o p 0) (sym outs) ∙ (get_or-take (p + 1) i.outs p 0 (omega arith) ∙ same)));
}

module _ (a : ℕ) (ks : List Answer) (are : AreAnswers a ks) where
  abbrev blank : Answer
  blank = record { word = []; outs = [] }

  -- the answer with this number clashes with one before it
  abbrev ClashesBefore : ℕ → Type 0
  ClashesBefore n = (j : ℕ) × (j < n) × Clash (answer_at ks j) (answer_at ks n)

  abbrev ClashesWithNone : ℕ → Type 0
  ClashesWithNone n = (j : ℕ) → j < n → ¬ Clash (answer_at ks j) (answer_at ks n)

  nothing_clashes : (n : ℕ) → n ≤ length ks → ((m : ℕ) → m < n → ClashesWithNone m) → NothingClashes (take n ks)
  nothing_clashes n le none i j d ij jn clash =
      let long : length (take n ks) ≡ min n (length ks) = length-take n ks in
      let lj : j < n = omega arith in
      let at : (m : ℕ) → m < n → get_or (take n ks) m d ≡ answer_at ks m = λ m lt. get_or-take n ks m d lt ∙ get_or_default ks m d blank (omega arith) in
      none j lj i ij (subst₂ (λ (k l : Answer). Clash k l) (at i (omega arith)) (at j lj) clash)

  module _ (n : ℕ) (lt : n < length ks) (nothing : NothingClashes (take n ks)) where
    abbrev earlier : ℕ → Answer
    earlier j = answer_at (take n ks) j

    abbrev k : Answer
    k = answer_at ks n

    -- some earlier answer clashes with it at this place
    abbrev ClashesAt : ℕ → Type 0
    ClashesAt p = (j : ℕ) × (j < n) × ClashAt (earlier j) k p

    long : length (take n ks) ≡ n
    long = let l : length (take n ks) ≡ min n (length ks) = length-take n ks in omega arith

    clear : (j : ℕ) → j < n → IsClear (take n ks) j
    clear j lj = all_are_clear (take n ks) nothing j (omega (arith, long))

    begins : (j p : ℕ) → ClashAt (earlier j) k p → IsPrefix (take (p + 1) k.word) (earlier j).word
    begins j p c = begins_with (earlier j) k p c

    -- at the first place the clash is with each that begins so
    clashes_too : (p : ℕ) → ClashesAt p → (i : ℕ) → i < n → IsPrefix (take (p + 1) k.word) (earlier i).word → ClashAt (earlier i) k p
    clashes_too p (j, lj, c) i li prefix =
        let w : List ℕ = take (p + 1) k.word in
        let second : p < length k.word = c.second in
        let lw : length w ≡ p + 1 = let l : length (take (p + 1) k.word) ≡ min (p + 1) (length k.word) = length-take (p + 1) k.word in omega arith in
        let outs : take (length w) (earlier i).outs ≡ take (length w) (earlier j).outs = reads_once a (take n ks) w (take (length w) (earlier i).outs) (take (length w) (earlier j).outs) (All-take (IsAnswer a) n ks are) (inr (i, clear i li, prefix, refl)) (inr (j, clear j lj, begins j p c, refl)) in
        same_clash (earlier i) (earlier j) k p (omega (arith, lw, prefix_long w (earlier i).word prefix))
        (prefix_take (p + 1) w (earlier i).word prefix (omega (arith, lw)) ∙ take_all (p + 1) w (omega (arith, lw)))
        (subst (λ (m : ℕ). take m (earlier i).outs ≡ take m (earlier j).outs) lw outs)
        c

    first_one : (p : ℕ) → ClashesAt p → ((q : ℕ) → q < p → (j : ℕ) → j < n → ¬ ClashAt (earlier j) k q) → (before : NothingClashes (take n ks)) → (clash : Found) × IsFirstClash ks clash
    first_one p at least before =
        ⊎_elim
        (λ (f : (i : ℕ) × (i < n) × IsPrefix (take (p + 1) k.word) (earlier i).word × ((j : ℕ) → j < i → ¬ IsPrefix (take (p + 1) k.word) (earlier j).word)). (
          found_of f.0 n p,
          record {
            within = lt;
            before = before;
            here = record {
              second = sym long;
              clear = clear f.0 f.1;
              here = clashes_too p at f.0 f.1 f.2;
              place = λ i q is c. ⊎_elim (λ (l : q < p). absurd (least q l i (omega (arith, is.0, long)) c)) (λ (le : p ≤ q). le) (cases_lt q p);
              first = λ i is prefix. ⊎_elim (λ (l : i < f.0). absurd (f.3 i l prefix)) (λ (le : f.0 ≤ i). le) (cases_lt i f.0);
            };
          },
        ))
        (λ (none : (i : ℕ) → i < n → ¬ IsPrefix (take (p + 1) k.word) (earlier i).word). absurd (none at.0 at.1 (begins at.0 p at.2)))
        (first_below (λ i. IsPrefix (take (p + 1) k.word) (earlier i).word) (λ i. ¬ IsPrefix (take (p + 1) k.word) (earlier i).word) n (λ i li. decides_prefix (take (p + 1) k.word) (earlier i).word))

    first_clash : ClashesBefore n → (clash : Found) × IsFirstClash ks clash
    first_clash (j, lj, clash) =
        let here : Clash (earlier j) k = subst (λ (l : Answer). Clash l k) (sym (get_or-take n ks j blank lj)) clash in
        ⊎_elim
        (λ (f : (p : ℕ) × (p < length k.word) × ClashesAt p × ((q : ℕ) → q < p → (i : ℕ) → i < n → ¬ ClashAt (earlier i) k q)). first_one f.0 f.2 f.3 nothing)
        (λ (none : (p : ℕ) → p < length k.word → (i : ℕ) → i < n → ¬ ClashAt (earlier i) k p). absurd (none here.0 here.1.second j lj here.1))
        (first_below ClashesAt (λ p. (i : ℕ) → i < n → ¬ ClashAt (earlier i) k p) (length k.word) (λ p lp. one_or_none (λ i. ClashAt (earlier i) k p) n (λ i. decides_clash_at (earlier i) k p)))

  pub first_clash_or_none : ((clash : Found) × IsFirstClash ks clash) ⊎ NothingClashes ks
  first_clash_or_none =
      ⊎_elim
      (λ (f : (n : ℕ) × (n < length ks) × ClashesBefore n × ((m : ℕ) → m < n → ClashesWithNone m)). inl (first_clash f.0 f.1 (nothing_clashes f.0 (omega (arith, f.1)) f.3) f.2))
      (λ (none : (n : ℕ) → n < length ks → ClashesWithNone n). inr (subst NothingClashes (take_all (length ks) ks (omega arith)) (nothing_clashes (length ks) (omega arith) none)))
      (first_below ClashesBefore ClashesWithNone (length ks) (λ n lt. one_or_none (λ j. Clash (answer_at ks j) (answer_at ks n)) n (λ j. decides_clash (answer_at ks j) (answer_at ks n))))
