-- What stands behind words in answers, letter by letter and answer by answer.
use Rattle.std.proofs.Common.{◌≡◌, ◌≢◌, ◌⊎◌, ◌↔◌, ℕ, ◌+◌, ◌-◌, ◌<◌, ◌≤◌, inl, inr, ⊎_elim, List, [], ◌∷◌, ◌++◌, length, take, drop, get_or, slice_get, Some, refl, sym, ap, ap₂, ◌∙◌, subst, arith, append_assoc}
use Rattle.std.specs.List.{All, Contains}
use Rattle.std.proofs.lemmas.Bool.{cases_lt}
use Rattle.std.proofs.lemmas.List.{length-append, length-map, take_rest, drop_at, drop_more, drop_all, nil_from_length, get_or-map}
use Rattle.std.proofs.lemmas.List.Elements.{All-contains, Contains-push, Contains-append_left, All-push}
use Rattle.std.proofs.lemmas.Option.{get_or_from_slice_get}
use Rattle.lw_words.specs.Word.{Answer, answer_of, answers_of, answer_at, IsPrefix}
use Rattle.lw_words.specs.declared.kept.KeptAnswer.{KeptAnswer}
use Rattle.lw_mealy.specs.Machine.{Rows, after, next, output, out, cell, MealyMachine}
use Rattle.lw_cache.specs.Clash.{IsClear}
use Rattle.lw_cache.specs.Known.{IsKnown}
use Rattle.lw_cache.proofs.ClashLemmas.{all_are_clear, given_never_clash}
use Rattle.lw_apart.specs.Covers.{KnownApart}
use Rattle.lw_apart.specs.bodies.Behind.{AreGiven, AreBehind, PartsBehind}
use Rattle.lw_apart.proofs.ApartLemmas.{told_behind}

-- the front of a known word is known
pub known_front : (ks : List Answer) (u v : List ℕ) → IsKnown ks (u ++ v) → IsKnown ks u
known_front ks u v known =
    ⊎_elim
    (λ (e : u ++ v ≡ []). inl (nil_from_length u (omega (arith, ap (λ (l : List ℕ). length l) e, length-append u v))))
    (λ (r : (i : ℕ) × IsClear ks i × IsPrefix (u ++ v) (answer_at ks i).word). inr (r.0, r.1, (v ++ r.2.0, r.2.1 ∙ append_assoc u v r.2.0)))
    known

-- from the letters that are left on, at a word that is a front of them
module _ (h : Rows) (ks : List Answer) where
  end_at : (p q : ℕ) (w : List ℕ) → IsPrefix w [] → out h p w ≢ out h q w → ⊥
  end_at p q [] front differ = differ refl
  end_at p q (x ∷ w) front differ = let e : [] ≡ x ∷ (w ++ front.0) = front.1 in absurd (cc)

  unknown_at : (word letters : List ℕ) (p q x : ℕ) (w : List ℕ) → ¬ IsKnown ks (word ++ x ∷ []) → IsPrefix w (x ∷ letters) → IsKnown ks (word ++ w) → out h p w ≢ out h q w → ⊥
  unknown_at word letters p q x [] unknown front known differ = differ refl
  unknown_at word letters p q x (y ∷ w) unknown front known differ =
      let e : x ∷ letters ≡ y ∷ (w ++ front.0) = front.1 in
      let same : y ≡ x = cc in
      unknown (known_front ks (word ++ x ∷ []) w (subst (IsKnown ks) (ap (λ (z : ℕ). word ++ z ∷ w) same ∙ sym (append_assoc word (x ∷ []) w)) known))

  later_at : (word letters : List ℕ) (p q x : ℕ) (w : List ℕ) → output h p x ≡ output h q x → IsPrefix w (x ∷ letters) → IsKnown ks (word ++ w) → out h p w ≢ out h q w
      → PartsBehind h ks (word ++ x ∷ []) (next h p x) (next h q x) letters
  later_at word letters p q x [] same front known differ = absurd (differ refl)
  later_at word letters p q x (y ∷ w) same front known differ =
      let e : x ∷ letters ≡ y ∷ (w ++ front.0) = front.1 in
      let letter : y ≡ x = cc in
      let rest : letters ≡ w ++ front.0 = cc in (
        w,
        (front.0, rest),
        subst (IsKnown ks) (ap (λ (z : ℕ). word ++ z ∷ w) letter ∙ sym (append_assoc word (x ∷ []) w)) known,
        λ outs. differ (subst (λ (z : ℕ). out h p (z ∷ w) ≡ out h q (z ∷ w)) (sym letter) (ap₂ (λ (o : ℕ) (os : List ℕ). o ∷ os) same outs)),
      )

  pub parts_end : (word : List ℕ) (p q : ℕ) → ¬ PartsBehind h ks word p q []
  parts_end word p q r = end_at p q r.0 r.1 r.3

  -- the first letter makes a word that isn't known
  parts_unknown : (word letters : List ℕ) (p q x : ℕ) → ¬ IsKnown ks (word ++ x ∷ []) → ¬ PartsBehind h ks word p q (x ∷ letters)
  parts_unknown word letters p q x unknown r = unknown_at word letters p q x r.0 unknown r.1 r.2 r.3

  parts_here : (word letters : List ℕ) (p q x : ℕ) → IsKnown ks (word ++ x ∷ []) → output h p x ≢ output h q x → PartsBehind h ks word p q (x ∷ letters)
  parts_here word letters p q x known other = (x ∷ [], (letters, refl), known, λ e. other (cc))

  parts_later : (word letters : List ℕ) (p q x : ℕ) → output h p x ≡ output h q x
      → PartsBehind h ks (word ++ x ∷ []) (next h p x) (next h q x) letters ↔ PartsBehind h ks word p q (x ∷ letters)
  parts_later word letters p q x same = (
    λ r. (
      x ∷ r.0,
      (r.1.0, ap (λ (l : List ℕ). x ∷ l) r.1.1),
      subst (IsKnown ks) (append_assoc word (x ∷ []) r.0) r.2,
      λ e. r.3 (cc),
    ),
    λ r. later_at word letters p q x r.0 same r.1 r.2 r.3,
  )

  -- the loop: what is left of the letters tells what all do
  module _ (start : List ℕ) (p q : ℕ) (letters : List ℕ) where
    pub record Parting (word : List ℕ) (first second i : ℕ) : Type 0 where
      pub one : first < length h
      pub other : second < length h
      pub left : PartsBehind h ks word first second (drop i letters) ↔ PartsBehind h ks start p q letters

    module _ (word more : List ℕ) (first second i x : ℕ) (lt : i < length letters) (is : x ≡ get_or letters i 0) (push : more ≡ word ++ x ∷ []) (was : Parting word first second i) where
      rest : drop i letters ≡ x ∷ drop (i + 1) letters
      rest = drop_more letters i 0 lt ∙ ap (λ (y : ℕ). y ∷ drop (i + 1) letters) (sym is)

      pub parting_unknown : ¬ IsKnown ks more → ¬ PartsBehind h ks start p q letters
      parting_unknown unknown parts =
          let here : PartsBehind h ks word first second (x ∷ drop (i + 1) letters) = subst (PartsBehind h ks word first second) rest (was.left.1 parts) in
          parts_unknown word (drop (i + 1) letters) first second x (λ known. unknown (subst (IsKnown ks) (sym push) known)) here

      pub parting_here : IsKnown ks more → output h first x ≢ output h second x → PartsBehind h ks start p q letters
      parting_here known other =
          was.left.0 (subst (PartsBehind h ks word first second) (sym rest) (parts_here word (drop (i + 1) letters) first second x (subst (IsKnown ks) push known) other))

      pub parting_later : (c d : ℕ × ℕ) → c ≡ cell h first x → d ≡ cell h second x → c.1 ≡ d.1 → c.0 < length h → d.0 < length h → Parting more c.0 d.0 (i + 1)
      parting_later c d is_c is_d outs lt_one lt_other =
          let one : ℕ = c.0 in
          let other : ℕ = d.0 in
          let is_one : one ≡ next h first x = ap (λ (e : ℕ × ℕ). e.0) is_c in
          let is_other : other ≡ next h second x = ap (λ (e : ℕ × ℕ). e.0) is_d in
          let same : output h first x ≡ output h second x = sym (ap (λ (e : ℕ × ℕ). e.1) is_c) ∙ (outs ∙ ap (λ (e : ℕ × ℕ). e.1) is_d) in
          let step = parts_later word (drop (i + 1) letters) first second x same in
          let to : PartsBehind h ks more one other (drop (i + 1) letters) → PartsBehind h ks (word ++ x ∷ []) (next h first x) (next h second x) (drop (i + 1) letters) =
          λ r. subst (λ (w : List ℕ). PartsBehind h ks w (next h first x) (next h second x) (drop (i + 1) letters)) push
          (subst (λ (t : ℕ). PartsBehind h ks more (next h first x) t (drop (i + 1) letters)) is_other (subst (λ (s : ℕ). PartsBehind h ks more s other (drop (i + 1) letters)) is_one r)) in
          let from : PartsBehind h ks (word ++ x ∷ []) (next h first x) (next h second x) (drop (i + 1) letters) → PartsBehind h ks more one other (drop (i + 1) letters) =
          λ r. subst (λ (s : ℕ). PartsBehind h ks more s other (drop (i + 1) letters)) (sym is_one)
          (subst (λ (t : ℕ). PartsBehind h ks more (next h first x) t (drop (i + 1) letters)) (sym is_other) (subst (λ (w : List ℕ). PartsBehind h ks w (next h first x) (next h second x) (drop (i + 1) letters)) (sym push) r)) in
          record {
            one = lt_one;
            other = lt_other;
            left = (
              λ r. was.left.0 (subst (PartsBehind h ks word first second) (sym rest) (step.0 (to r))),
              λ r. from (step.1 (subst (PartsBehind h ks word first second) rest (was.left.1 r))),
            );
          }

    pub parting_end : (word : List ℕ) (first second i : ℕ) → length letters ≤ i → Parting word first second i → ¬ PartsBehind h ks start p q letters
    parting_end word first second i past was parts =
        parts_end word first second (subst (PartsBehind h ks word first second) (drop_all i letters past) (was.left.1 parts))

-- the answers behind a word
module _ (kept : List KeptAnswer) (word : List ℕ) where
  abbrev BeginsAt : ℕ → Type 0
  BeginsAt i = IsPrefix word (answer_at (answers_of kept) i).word

  -- the numbers of those among the first n answers that begin with the word
  pub record BehindTo (n : ℕ) (numbers : List ℕ) : Type 0 where
    pub each : All (λ i. (i < length (answers_of kept)) × BeginsAt i) numbers
    pub whole : (i : ℕ) → i < n → BeginsAt i → Contains numbers i

  pub behind_start : BehindTo 0 []
  behind_start = record { each = λ k d lt. absurd (omega (arith, lt)); whole = λ i lt begins. absurd (omega (arith, lt)) }

  kept_at : (i : ℕ) (k : KeptAnswer) → i < length kept → slice_get kept i ≡ Some k → (answer_at (answers_of kept) i).word ≡ k.word
  kept_at i k lt here =
      ap (λ (a : Answer). a.word) (get_or-map answer_of kept i k (record { word = []; outs = [] }) lt ∙ ap answer_of (get_or_from_slice_get kept i k k here))

  module _ (n : ℕ) (numbers : List ℕ) (k : KeptAnswer) (lt : n < length kept) (here : slice_get kept n ≡ Some k) (was : BehindTo n numbers) where
    last : (i : ℕ) → i < n + 1 → (i < n) ⊎ (n ≡ i)
    last i below = ⊎_elim (λ (l : i < n). inl l) (λ (ge : n ≤ i). inr (omega (arith, below, ge))) (cases_lt i n)

    pub behind_more : (more : List ℕ) → IsPrefix word k.word → more ≡ numbers ++ n ∷ [] → BehindTo (n + 1) more
    behind_more more begins push =
        let begins' : BeginsAt n = subst (IsPrefix word) (sym (kept_at n k lt here)) begins in
        let within : n < length (answers_of kept) = omega (arith, lt, length-map kept answer_of) in
        subst (BehindTo (n + 1)) (sym push) (record {
          each = All-push (λ i. (i < length (answers_of kept)) × BeginsAt i) numbers n was.each (within, begins');
          whole = λ i below at. ⊎_elim
              (λ (l : i < n). Contains-append_left numbers (n ∷ []) i (was.whole i l at))
              (λ (e : n ≡ i). subst (Contains (numbers ++ n ∷ [])) e (Contains-push numbers n))
              (last i below);
        })

    pub behind_same : ¬ IsPrefix word k.word → BehindTo (n + 1) numbers
    behind_same other = record {
      each = was.each;
      whole = λ i below at. ⊎_elim
          (λ (l : i < n). was.whole i l at)
          (λ (e : n ≡ i). absurd (other (subst (IsPrefix word) (kept_at n k lt here) (subst BeginsAt (sym e) at))))
          (last i below);
    }

  pub behind_all : (n : ℕ) (numbers : List ℕ) → length kept ≤ n → BehindTo n numbers → AreBehind (answers_of kept) word numbers
  behind_all n numbers past was = record { each = was.each; whole = λ i lt at. was.whole i (omega (arith, lt, past, length-map kept answer_of)) at }

-- behind the first word, the outputs from the states of both differ on a front of what an answer's word has behind the second
abbrev pub PartsAt : MealyMachine → List Answer → List ℕ → List ℕ → ℕ → Type 0
PartsAt m ks u v i = PartsBehind m.rows ks u (after m.rows 0 u) (after m.rows 0 v) (drop (length v) (answer_at ks i).word)

-- the letters that an answer's word has behind a word of so many letters, as they are read
pub letters_at : (kept read : List KeptAnswer) (i n : ℕ) (k : KeptAnswer) (word v : List ℕ) → read ≡ kept → i < length (answers_of kept) → slice_get read i ≡ Some k → word ≡ k.word → n ≡ length v
    → take (length word - n) (drop n word) ≡ drop (length v) (answer_at (answers_of kept) i).word
letters_at kept read i n k word v same lt here is long =
    let lt' : i < length kept = omega (arith, lt, length-map kept answer_of) in
    let at : (answer_at (answers_of kept) i).word ≡ k.word = kept_at kept v i k lt' (subst (λ (ks : List KeptAnswer). slice_get ks i ≡ Some k) same here) in
    take_rest word n ∙ ap₂ (λ (m : ℕ) (l : List ℕ). drop m l) long (is ∙ sym at)

-- the same of equal words, states and letters
pub parts_same : (h : Rows) (ks : List Answer) (word u letters l : List ℕ) (p q r s : ℕ) → word ≡ u → p ≡ r → q ≡ s → letters ≡ l → PartsBehind h ks word p q letters → PartsBehind h ks u r s l
parts_same h ks word u letters l p q r s w a b e parts =
    subst (λ (x : List ℕ). PartsBehind h ks x r s l) w
    (subst (λ (x : ℕ). PartsBehind h ks word x s l) a
    (subst (λ (x : ℕ). PartsBehind h ks word p x l) b
    (subst (λ (x : List ℕ). PartsBehind h ks word p q x) e parts)))

-- two words that are known apart, by the answers behind the second
module _ (m : MealyMachine) (ks : List Answer) (given : AreGiven m ks) (u v : List ℕ) (numbers : List ℕ) (behind : AreBehind ks v numbers) where
  abbrev h : Rows
  h = m.rows

  -- what the answer's word has behind the second word
  abbrev behind_at : ℕ → List ℕ
  behind_at i = drop (length v) (answer_at ks i).word

  clear : (i : ℕ) → i < length ks → IsClear ks i
  clear i lt = all_are_clear ks (given_never_clash h ks given.given) i lt

  split : (i : ℕ) → IsPrefix v (answer_at ks i).word → (answer_at ks i).word ≡ v ++ behind_at i
  split i p = p.1 ∙ ap (λ (l : List ℕ). v ++ l) (sym (ap (drop (length v)) p.1 ∙ drop_at v p.0 (length v) refl))

  pub apart_at : (i : ℕ) → i < length ks → IsPrefix v (answer_at ks i).word → PartsAt m ks u v i → KnownApart h ks u v
  apart_at i lt front r = record {
    suffix = r.0;
    one = r.2;
    other = inr (i, clear i lt, (r.1.0, split i front ∙ (ap (λ (l : List ℕ). v ++ l) r.1.1 ∙ sym (append_assoc v r.0 r.1.0))));
    differ = r.3;
  }

  pub apart_none : All (λ i. ¬ PartsAt m ks u v i) numbers → ¬ KnownApart h ks u v
  apart_none none r =
      let t = told_behind h ks (after h 0 u) (after h 0 v) v r.suffix r.other r.differ in
      let word : (answer_at ks t.0).word ≡ v ++ (r.suffix ++ t.2.0) = t.2.1 ∙ append_assoc v r.suffix t.2.0 in
      let left : behind_at t.0 ≡ r.suffix ++ t.2.0 = ap (drop (length v)) word ∙ drop_at v (r.suffix ++ t.2.0) (length v) refl in
      All-contains (λ i. ¬ PartsAt m ks u v i) numbers t.0 none (behind.whole t.0 t.1.0 (r.suffix ++ t.2.0, word)) (r.suffix, (t.2.0, left), r.one, r.differ)
