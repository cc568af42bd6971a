-- The first open pair, list by list.
use Rattle.std.proofs.Common.{◌≡◌, ℕ, ◌+◌, ◌<◌, ◌≤◌, List, [], ◌++◌, length, map, take, get_or, Bool, true, false, Option, Some, None, Result, Ok, Err, IfOk, ◌↔◌, sym, ap, ap₂, ◌∙◌, subst, arith}
use Rattle.std.proofs.lemmas.Bool.{false≢true}
use Rattle.std.specs.List.{All, AllWithin, flat_map}
use Rattle.std.proofs.lemmas.List.{get_or_append_left, get_or-append-add, get_or-map, get_or_default}
use Rattle.std.proofs.lemmas.List.Elements.{All-append, All-take, All-get_or, All-map, All-from_all_within, AllWithin-more, AllWithin-upto}
use Rattle.lw_words.specs.Word.{Answer, IsWord}
use Rattle.lw_words.specs.First.{FailsFirst}
use Rattle.lw_mealy.specs.Machine.{Rows}
use Rattle.lw_apart.specs.Pairs.{WordPair, IsKnownApart}
use Rattle.lw_apart.specs.Missing.{IsFirstOpen}
use Rattle.lw_chunks.specs.Middle.{words_of_length}
use Rattle.lw_apart.specs.bodies.Stages.{FirstOpen, all_fronts}
use Rattle.lw_apart.specs.declared.fronts.Fronts.{Fronts}
use Rattle.lw_apart.proofs.PairLemmas.{fronts_words, all_words_of}
use Rattle.lw_apart.proofs.Lists.{first_left, first_right, first_map, first_flat, all_flat}

-- an element that was read, of a list that another one is
pub item_is : {X : Type 0} (xs ys : List X) (i : ℕ) (x : X) → ys ≡ xs → i < length ys → x ≡ get_or ys i x → (d : X) → get_or xs i d ≡ x
item_is {X} xs ys i x same lt is d = sym (ap (λ (zs : List X). get_or zs i d) same) ∙ (get_or_default ys i d x lt ∙ sym is)

-- an element that was made as the one at a number
pub made_is : {X : Type 0} (xs : List X) (i : ℕ) (x e : X) → i < length xs → x ≡ get_or xs i e → (d : X) → get_or xs i d ≡ x
made_is xs i x e lt is d = get_or_default xs i d e lt ∙ sym is

-- the front with this number is a word over the machine's letters
pub front_word : (f : Fronts) (a number : ℕ) (front : List ℕ) → f.inputs ≡ a → All (IsWord a) f.access → number < length (all_fronts f) → front ≡ get_or (all_fronts f) number [] → IsWord a front
front_word f a number front same words lt is =
    let words' : All (IsWord f.inputs) f.access = subst (λ (b : ℕ). All (IsWord b) f.access) (sym same) words in
    let here : IsWord f.inputs (get_or (all_fronts f) number []) = All-get_or (IsWord f.inputs) (all_fronts f) number [] lt (fronts_words f.inputs f.access f.longest words') in
    subst (λ (b : ℕ). IsWord b front) same (subst (IsWord f.inputs) (sym is) here)

-- the word with this number among those of one length is one over the machine's letters, of that length
pub longest_word : (a b n number : ℕ) (word : List ℕ) → b ≡ a → number < length (words_of_length b n) → word ≡ get_or (words_of_length b n) number [] → IsWord a word × (length word ≡ n)
longest_word a b n number word same lt is =
    let here : IsWord b (get_or (words_of_length b n) number []) × (length (get_or (words_of_length b n) number []) ≡ n) =
    All-get_or (λ w. IsWord b w × (length w ≡ n)) (words_of_length b n) number [] lt (all_words_of b (λ w. IsWord b w × (length w ≡ n)) n (λ w letters long. (letters, long))) in
    let there : IsWord b word × (length word ≡ n) = subst (λ (w : List ℕ). IsWord b w × (length w ≡ n)) (sym is) here in
    (subst (λ (c : ℕ). IsWord c word) same there.0, there.1)

-- an access word with some letters behind it
pub word_with : (a n : ℕ) (both word letters : List ℕ) → both ≡ word ++ take n letters → IsWord a word → IsWord a letters → IsWord a both
word_with a n both word letters is u w = subst (IsWord a) (sym is) (All-append (λ x. x < a) word (take n letters) u (All-take (λ x. x < a) n letters w))

abbrev pub pair_of : List ℕ → List ℕ → WordPair
pair_of u v = (u, v)

pub pair_is : (a b u v : List ℕ) → a ≡ u → b ≡ v → pair_of a b ≡ pair_of u v
pair_is a b u v e f = ap₂ (λ (x y : List ℕ). pair_of x y) e f

module _ (h : Rows) (ks : List Answer) where
  abbrev pub Met : WordPair → Type 0
  Met pair = IsKnownApart h ks pair

  -- a test of a pair that says whether it is known apart
  pub unmet : (pair : WordPair) (test : Bool) → (test ≡ false) ↔ Met pair → test ≡ true → ¬ Met pair
  unmet pair test is yes_is met = false≢true (sym (is.1 met) ∙ yes_is)

  -- a list whose pairs are made by a function, element by element
  module _ {Y : Type 0} (f : Y → WordPair) (ys : List Y) where
    pub met_start : AllWithin (λ y. Met (f y)) ys 0 0
    met_start k d ge lt = absurd (omega (arith, lt))

    pub met_more : (i : ℕ) (y : Y) → i < length ys → ((d : Y) → get_or ys i d ≡ y) → Met (f y) → AllWithin (λ z. Met (f z)) ys 0 i → AllWithin (λ z. Met (f z)) ys 0 (i + 1)
    met_more i y lt is met was = AllWithin-more (λ z. Met (f z)) ys 0 i was (λ d. subst (λ (z : Y). Met (f z)) (sym (is d)) met)

    pub met_all : (i : ℕ) → length ys ≤ i → AllWithin (λ y. Met (f y)) ys 0 i → All Met (map f ys)
    met_all i past was = All-map Met f ys (All-from_all_within (λ y. Met (f y)) ys (AllWithin-upto (λ y. Met (f y)) ys 0 i (length ys) past was))

    pub open_map : (i : ℕ) (y : Y) (pair : WordPair) → i < length ys → ((d : Y) → get_or ys i d ≡ y) → ¬ Met (f y) → AllWithin (λ z. Met (f z)) ys 0 i → pair ≡ f y → IsFirstOpen h ks (map f ys) pair
    open_map i y pair lt is open_pair was at = record {
      number = i;
      first = first_map Met f ys i (record { within = lt; fails = λ d. subst (λ (z : Y). ¬ Met (f z)) (sym (is d)) open_pair; before = was });
      here = at ∙ (ap f (sym (is y)) ∙ sym (get_or-map f ys i y ([], []) lt));
    }

  -- a list of lists, list by list
  module _ {Y : Type 0} (g : Y → List WordPair) (ys : List Y) where
    pub lists_start : AllWithin (λ y. All Met (g y)) ys 0 0
    lists_start k d ge lt = absurd (omega (arith, lt))

    pub lists_more : (i : ℕ) (y : Y) → ((d : Y) → get_or ys i d ≡ y) → All Met (g y) → AllWithin (λ z. All Met (g z)) ys 0 i → AllWithin (λ z. All Met (g z)) ys 0 (i + 1)
    lists_more i y is met was = AllWithin-more (λ z. All Met (g z)) ys 0 i was (λ d. subst (λ (z : Y). All Met (g z)) (sym (is d)) met)

    pub lists_all : (i : ℕ) → length ys ≤ i → AllWithin (λ y. All Met (g y)) ys 0 i → All Met (flat_map g ys)
    lists_all i past was = all_flat Met g ys (All-from_all_within (λ y. All Met (g y)) ys (AllWithin-upto (λ y. All Met (g y)) ys 0 i (length ys) past was))

    pub open_flat : (i : ℕ) (y : Y) (pair : WordPair) → i < length ys → ((d : Y) → get_or ys i d ≡ y) → AllWithin (λ z. All Met (g z)) ys 0 i → IsFirstOpen h ks (g y) pair → IsFirstOpen h ks (flat_map g ys) pair
    open_flat i y pair lt is was f =
        let r = first_flat Met g ys i f.number y ([], []) lt was (subst (λ (z : Y). FailsFirst Met (g z) f.number) (sym (is y)) f.first) in
        record {
          number = r.0;
          first = r.1;
          here = f.here ∙ (ap (λ (z : Y). get_or (g z) f.number ([], [])) (sym (is y)) ∙ sym r.2);
        }

  -- two lists, one after the other
  module _ (xs ys : List WordPair) where
    pub open_left : (pair : WordPair) → IsFirstOpen h ks xs pair → IsFirstOpen h ks (xs ++ ys) pair
    open_left pair f = record {
      number = f.number;
      first = first_left Met xs ys f.number f.first;
      here = f.here ∙ sym (get_or_append_left xs ys ([], []) f.number f.first.within);
    }

    pub open_right : (found : Option WordPair) → All Met xs → FirstOpen h ks ys found → FirstOpen h ks (xs ++ ys) found
    open_right None met all = All-append Met xs ys met all
    open_right (Some pair) met f = record {
      number = length xs + f.number;
      first = first_right Met xs ys f.number met f.first;
      here = f.here ∙ sym (get_or-append-add xs ys f.number ([], []));
    }

  pub open_right_if : {E : Type 0} (xs ys : List WordPair) (r : Result (Option WordPair) E) → All Met xs → IfOk r (FirstOpen h ks ys) → IfOk r (FirstOpen h ks (xs ++ ys))
  open_right_if xs ys (Ok found) met f = open_right xs ys found met f
  open_right_if xs ys (Err e) met f = tt
