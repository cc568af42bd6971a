-- The plain learner over a renamed machine: it asks the same words, and comes to the renamed model.
use Rattle.std.proofs.Common.{◌≡◌, ◌≢◌, ◌↔◌, inl, inr, ⊎_elim, ℕ, zero, suc, ◌+◌, ◌-◌, ◌*◌, ◌/◌, ◌<◌, ◌≤◌, Bool, true, false, not, cond, bytes_eq, nat_lt, ◌&&◌, ◌||◌, List, [], ◌∷◌, ◌++◌, length, map, take, drop, get_or, Option, Some, None, Contains, refl, ap, ap₂, sym, ◌∙◌, subst, arith}
use Rattle.std.specs.List.{All, find, list_all, list_any, position_or_len, prefix_len, range_with_len}
use Rattle.std.proofs.lemmas.Bool.Decides.{nat_tests}
use Rattle.std.proofs.lemmas.List.{length-map, take-map, get_or-map}
use Rattle.std.proofs.lemmas.List.Elements.{All-nil, All-head, All-tail, All-contains, All-drop, All-map, All-take}
use Rattle.std.proofs.lemmas.Simd.{map-map}
use Rattle.std.proofs.lemmas.Slice.Eq.{bytes_eq-Decides}
use Rattle.lw_words.specs.Word.{IsWord, IsPrefix}
use Rattle.lw_words.specs.First.{FailsFirst}
use Rattle.lw_mealy.specs.Machine.{Row, Rows, IsMachine, after, out, output, answer}
use Rattle.lw_mealy.specs.Difference.{DifferFirst}
use Rattle.lw_mealy.proofs.WordLemmas.{after_below, length-out}
use Rattle.lw_cache.specs.Cut.{word_at}
use Rattle.lw_separate.specs.Canonical.{LeastWord, IsCanonical}
use Rattle.lw_suite.specs.Suite.{IsSuite}
use Rattle.lw_suite.proofs.LetterLemmas.{suite_is_of_words}
use Rattle.lw_chunks.specs.Size.{suite_size, greatest_suite}
use Rattle.lw_plain.specs.Over.{IsOver}
use Rattle.lw_plain.specs.Rounds.{Task, AgreesOn, FailsWords, PassesWords, IsShortest, IsCounterexample, IsFoundBySuite, IsRefined, IsRevealed, IsSuiteFor, IsTableAfter, IsRefinedTimes, IsUnrefuted, LearnsPlainly, Reveals, asked_words, chunk_at, closed_by, first_chunks, hypothesis_of, new_row_of, refined_by}
use Rattle.lw_plain.specs.Table.{PlainTable, Search, agrees_at, agrees_on, close, extensions, first_new, first_table, halved, has_same_cell, has_same_row, is_new, machine_of, middle_of, outputs_behind, probe, probe_batch, row_state, row_words, search_cut, search_word, split_by, transition_of, transitions_of, with_access_word, with_batches, with_suffix}
use Rattle.lw_plain.proofs.LawLemmas.{close_done, close_more}
use Rattle.lw_plain.proofs.MachineLemmas.{left_all, machine_is}
use Rattle.lw_plain.proofs.OverLemmas.{letters_below, one_more, new_is_word, over_access, over_batches, over_first, over_split, probe_is_word, rows_are_words}
use Rattle.lw_renumber.specs.Renaming.{Renames, renamed_cell, renamed_row, renamed_rows}
use Rattle.lw_renumber.specs.Laws.{renamed_task, RenamedLearnsPlainly}
use Rattle.lw_renumber.proofs.MachineLemmas.{after_is, answer_is, is_machine, out_is, output_is, states_same, told_apart}
use Rattle.lw_renumber.proofs.SuiteLemmas.{canonical_too, suite_too}

-- Tests that are alike on all of a list.
same_bool : (b c : Bool) → (b ≡ true → c ≡ true) → (c ≡ true → b ≡ true) → b ≡ c
same_bool true c there back = sym (there refl)
same_bool false true there back = back refl
same_bool false false there back = refl

module _ {X : Type 0} (P : X → Type 0) (p q : X → Bool) (same : (x : X) → P x → p x ≡ q x) where
  all_same : (xs : List X) → All P xs → list_all p xs ≡ list_all q xs
  all_same [] all = refl
  all_same (x ∷ xs) all = ap₂ (λ (b c : Bool). b && c) (same x (All-head P x xs all)) (all_same xs (All-tail P x xs all))

  any_same : (xs : List X) → All P xs → list_any p xs ≡ list_any q xs
  any_same [] all = refl
  any_same (x ∷ xs) all = ap₂ (λ (b c : Bool). b || c) (same x (All-head P x xs all)) (any_same xs (All-tail P x xs all))

  find_same : (xs : List X) → All P xs → find p xs ≡ find q xs
  find_same [] all = refl
  find_same (x ∷ xs) all = ap₂ (λ (b : Bool) (o : Option X). cond b (Some x) o) (same x (All-head P x xs all)) (find_same xs (All-tail P x xs all))

  place_same : (xs : List X) → All P xs → position_or_len p xs ≡ position_or_len q xs
  place_same [] all = refl
  place_same (x ∷ xs) all = ap₂ (λ (b : Bool) (n : ℕ). cond (not b) (1 + n) 0) (same x (All-head P x xs all)) (place_same xs (All-tail P x xs all))

map_same : {X Y : Type 0} (P : X → Type 0) (f h : X → Y) → ((x : X) → P x → f x ≡ h x) → (xs : List X) → All P xs → map f xs ≡ map h xs
map_same P f h same [] all = refl
map_same {X} {Y} P f h same (x ∷ xs) all = ap₂ (λ (y : Y) (ys : List Y). y ∷ ys) (same x (All-head P x xs all)) (map_same P f h same xs (All-tail P x xs all))

module _ (f g : ℕ → ℕ) (r : Renames f g) where
  eq_too : (x y : List ℕ) → bytes_eq (map f x) (map f y) ≡ bytes_eq x y
  eq_too x y = same_bool (bytes_eq (map f x) (map f y)) (bytes_eq x y)
      (λ t. (bytes_eq-Decides x y).1 (told_apart f g r x y ((bytes_eq-Decides (map f x) (map f y)).0 t)))
      (λ t. (bytes_eq-Decides (map f x) (map f y)).1 (ap (map f) ((bytes_eq-Decides x y).0 t)))

  module _ (a : ℕ) (m : Rows) (machine : IsMachine a m) where
    abbrev n : Rows
    n = renamed_rows f m

    state_in : (u : List ℕ) → IsWord a u → after m 0 u < length m
    state_in u word = after_below a m u 0 machine machine.some_state word

    behind : (u e : List ℕ) → IsWord a u → IsWord a e → outputs_behind n u e ≡ map f (outputs_behind m u e)
    behind u e word suffix = ap (λ (q : ℕ). out n q e) (after_is f m 0 u) ∙ out_is f a m (after m 0 u) e machine (state_in u word) suffix

    cell_too : (u v e : List ℕ) → IsWord a u → IsWord a v → IsWord a e → has_same_cell n u v e ≡ has_same_cell m u v e
    cell_too u v e one two suffix = ap₂ (λ (x y : List ℕ). bytes_eq x y) (behind u e one suffix) (behind v e two suffix) ∙ eq_too (outputs_behind m u e) (outputs_behind m v e)

    row_too : (suffixes : List (List ℕ)) (u v : List ℕ) → All (IsWord a) suffixes → IsWord a u → IsWord a v → has_same_row n suffixes u v ≡ has_same_row m suffixes u v
    row_too suffixes u v words one two = all_same (IsWord a) (has_same_cell n u v) (has_same_cell m u v) (λ e suffix. cell_too u v e one two suffix) suffixes words

    new_too : (t : PlainTable) → IsOver a t → (u : List ℕ) → IsWord a u → is_new n t u ≡ is_new m t u
    new_too t over u word = ap not (any_same (IsWord a) (has_same_row n t.suffixes u) (has_same_row m t.suffixes u) (λ v two. row_too t.suffixes u v over.suffixes word two) t.access over.words)

    first_too : (t : PlainTable) → IsOver a t → first_new a n t ≡ first_new a m t
    first_too t over = find_same (IsWord a) (is_new n t) (is_new m t) (λ u word. new_too t over u word) (row_words a t.access) (rows_are_words a t.access over.words)

    -- a table that is closed
    close_by : (k : ℕ) (t : PlainTable) (found : Option (List ℕ)) → first_new a m t ≡ found → IsOver a t → ((s : PlainTable) → IsOver a s → close a n k s ≡ close a m k s) → close a n (suc k) t ≡ close a m (suc k) t
    close_by k t None is over less = close_done a n (suc k) t (first_too t over ∙ is) ∙ sym (close_done a m (suc k) t is)
    close_by k t (Some w) is over less =
        close_more a n k t w (first_too t over ∙ is) ∙ (less (with_access_word a t w) (over_access a t w over (new_is_word a m t w over is)) ∙ sym (close_more a m k t w is))

    pub close_too : (k : ℕ) (t : PlainTable) → IsOver a t → close a n k t ≡ close a m k t
    close_too zero t over = refl
    close_too (suc k) t over = close_by k t (first_new a m t) refl over (close_too k)

    closed_over_by : (k : ℕ) (t : PlainTable) (found : Option (List ℕ)) → first_new a m t ≡ found → IsOver a t → ((s : PlainTable) → IsOver a s → IsOver a (close a m k s)) → IsOver a (close a m (suc k) t)
    closed_over_by k t None is over less = subst (IsOver a) (sym (close_done a m (suc k) t is)) over
    closed_over_by k t (Some w) is over less = subst (IsOver a) (sym (close_more a m k t w is)) (less (with_access_word a t w) (over_access a t w over (new_is_word a m t w over is)))

    pub closed_over : (k : ℕ) (t : PlainTable) → IsOver a t → IsOver a (close a m k t)
    closed_over zero t over = over
    closed_over (suc k) t over = closed_over_by k t (first_new a m t) refl over (closed_over k)

    -- its machine
    transition_too : (t : PlainTable) (u : List ℕ) (x : ℕ) → IsOver a t → IsWord a u → x < a → transition_of n t u x ≡ renamed_cell f (transition_of m t u x)
    transition_too t u x over word lt =
        let v : List ℕ = u ++ x ∷ [] in
        let state : row_state n t v ≡ row_state m t v = place_same (IsWord a) (has_same_row n t.suffixes v) (has_same_row m t.suffixes v) (λ w two. row_too t.suffixes v w over.suffixes (one_more a x u lt word) two) t.access over.words in
        let outs : output n (after n 0 u) x ≡ f (output m (after m 0 u) x) = ap (λ (q : ℕ). output n q x) (after_is f m 0 u) ∙ output_is f a m (after m 0 u) x machine (state_in u word) lt in
        ap₂ (λ (s o : ℕ). (s, o)) state outs

    transitions_too : (t : PlainTable) (u : List ℕ) → IsOver a t → IsWord a u → transitions_of a n t u ≡ renamed_row f (transitions_of a m t u)
    transitions_too t u over word =
        map_same (λ x. x < a) (transition_of n t u) (λ (x : ℕ). renamed_cell f (transition_of m t u x)) (λ x lt. transition_too t u x over word lt) (range_with_len 0 a) (letters_below a)
        ∙ sym (map-map (renamed_cell f) (transition_of m t u) (range_with_len 0 a))

    pub machine_too : (t : PlainTable) → IsOver a t → machine_of a n t ≡ renamed_rows f (machine_of a m t)
    machine_too t over =
        map_same (IsWord a) (transitions_of a n t) (λ (u : List ℕ). renamed_row f (transitions_of a m t u)) (λ u word. transitions_too t u over word) t.access over.words
        ∙ sym (map-map (renamed_row f) (transitions_of a m t) t.access)

    -- another machine, on words
    module _ (h : Rows) (other : IsMachine a h) where
      abbrev k : Rows
      k = renamed_rows f h

      agrees_there : (w : List ℕ) → IsWord a w → AgreesOn m h w → AgreesOn n k w
      agrees_there w word same = answer_is f a h w other word ∙ (ap (map f) same ∙ sym (answer_is f a m w machine word))

      agrees_back : (w : List ℕ) → IsWord a w → AgreesOn n k w → AgreesOn m h w
      agrees_back w word same = told_apart f g r (answer h w) (answer m w) (sym (answer_is f a h w other word) ∙ (same ∙ answer_is f a m w machine word))

      on_too : (w : List ℕ) → IsWord a w → agrees_on n k w ≡ agrees_on m h w
      on_too w word = ap₂ (λ (x y : List ℕ). bytes_eq x y) (answer_is f a h w other word) (answer_is f a m w machine word) ∙ eq_too (answer h w) (answer m w)

      probe_too : (access : List (List ℕ)) (w : List ℕ) (i : ℕ) → probe k access w i ≡ probe h access w i
      probe_too access w i = ap (λ (q : ℕ). word_at access q ++ drop i w) (after_is f h 0 (take i w))

      at_too : (access : List (List ℕ)) (w : List ℕ) → All (IsWord a) access → IsWord a w → (i : ℕ) → agrees_at n k access w i ≡ agrees_at m h access w i
      at_too access w words word i = ap (λ (v : List ℕ). agrees_on n k v) (probe_too access w i) ∙ on_too (probe h access w i) (probe_is_word a h access w i words word)

      pub search_too : (access : List (List ℕ)) (w : List ℕ) → All (IsWord a) access → IsWord a w → (j : ℕ) (s : Search) → search_cut (agrees_at n k access w) j s ≡ search_cut (agrees_at m h access w) j s
      search_too access w words word zero s = refl
      search_too access w words word (suc j) s =
          let middle : ℕ = middle_of s in
          let half : halved (agrees_at n k access w) s ≡ halved (agrees_at m h access w) s =
          ap (λ (b : Bool). let t : Search = record { low = cond b s.low middle; high = cond b middle s.high; tried = s.tried ++ middle ∷ [] } in t) (at_too access w words word middle) in
          ap (λ (t : Search). cond (nat_lt 1 (s.high - s.low)) t s) (search_too access w words word j (halved (agrees_at n k access w) s) ∙ ap (search_cut (agrees_at m h access w) j) half)

      pub split_too : (t : PlainTable) (w : List ℕ) → IsOver a t → IsWord a w → split_by a k t w (search_word n k t.access (length w) w) ≡ split_by a h t w (search_word m h t.access (length w) w)
      split_too t w over word =
          let whole : Search = record { low = 0; high = length w; tried = [] } in
          let s : Search = search_word m h t.access (length w) w in
          ap (split_by a k t w) (search_too t.access w over.words word (length w) whole)
          ∙ ap (λ (bs : List (List (List ℕ))). of_split t w s bs)
          (map_same (λ i. Unit {0}) (probe_batch k t.access w) (probe_batch h t.access w) (λ i any. ap (λ (v : List ℕ). v ∷ []) (probe_too t.access w i)) s.tried (λ i d lt. tt))
        where
          of_split : PlainTable → List ℕ → Search → List (List (List ℕ)) → PlainTable
          of_split t w s bs = with_suffix a (with_batches t bs) (drop (s.low + 1) w)

      -- what is revealed
      front_word : (words : List (List ℕ)) (w : List ℕ) → All (IsWord a) words → (whole : List ℕ) → Contains words whole → IsPrefix w whole → IsWord a w
      front_word words w letters whole asked front = left_all (λ x. x < a) w front.0 (subst (IsWord a) front.1 (All-contains (IsWord a) words whole letters asked))

      reveals_there : (words : List (List ℕ)) → All (IsWord a) words → (w : List ℕ) → Reveals m h words w → Reveals n k words w
      reveals_there words letters w v = record { whole = v.whole; asked = v.asked; front = v.front; differ = λ same. v.differ (agrees_back w (front_word words w letters v.whole v.asked v.front) same) }

      reveals_back : (words : List (List ℕ)) → All (IsWord a) words → (w : List ℕ) → Reveals n k words w → Reveals m h words w
      reveals_back words letters w v = record { whole = v.whole; asked = v.asked; front = v.front; differ = λ same. v.differ (agrees_there w (front_word words w letters v.whole v.asked v.front) same) }

      pub least_too : (words : List (List ℕ)) → All (IsWord a) words → (w : List ℕ) → LeastWord (Reveals m h words) w → LeastWord (Reveals n k words) w
      least_too words letters w least = record { does = reveals_there words letters w least.does; least = λ v does. least.least v (reveals_back words letters v does) }

      -- tested words
      short_too : (word front : List ℕ) → IsWord a word → IsShortest m h word front → IsShortest n k word front
      short_too word front letters s =
          let place = s.place in
          let one : answer k word ≡ map f (answer h word) = answer_is f a h word other letters in
          let two : answer n word ≡ map f (answer m word) = answer_is f a m word machine letters in
          let long_h = length-out h 0 word in
          let long_m = length-out m 0 word in
          let within = s.first.within in
          record {
            place = place;
            first = record {
              within = subst (λ (o : List ℕ). place < length o) (sym one) (let size = length-map (answer h word) f in omega arith);
              before = ap (take place) one ∙ (take-map f place (answer h word) ∙ (ap (map f) s.first.before ∙ (sym (take-map f place (answer m word)) ∙ ap (take place) (sym two))));
              here = λ same.
                  let cell_h : get_or (answer k word) place 0 ≡ f (get_or (answer h word) place 0) = ap (λ (o : List ℕ). get_or o place 0) one ∙ get_or-map f (answer h word) place 0 0 within in
                  let cell_m : get_or (answer n word) place 0 ≡ f (get_or (answer m word) place 0) = ap (λ (o : List ℕ). get_or o place 0) two ∙ get_or-map f (answer m word) place 0 0 (omega arith) in
                  let turned : f (get_or (answer h word) place 0) ≡ f (get_or (answer m word) place 0) = sym cell_h ∙ (same ∙ cell_m) in
                  s.first.here (sym (r.back (get_or (answer h word) place 0)) ∙ (ap g turned ∙ r.back (get_or (answer m word) place 0)));
            };
            is = s.is;
          }

      pub fails_too : (words : List (List ℕ)) (front : List ℕ) (asked : List (List (List ℕ))) → All (IsWord a) words → FailsWords m h words front asked → FailsWords n k words front asked
      fails_too words front asked letters v = record {
        number = v.number;
        first = record {
          within = v.first.within;
          fails = λ d same. v.first.fails d (agrees_back (get_or words v.number d) (letters v.number d v.first.within) same);
          before = λ j d ge lt. agrees_there (get_or words j d) (letters j d (let in_words = v.first.within in omega arith)) (v.first.before j d ge lt);
        };
        here = short_too (word_at words v.number) front (letters v.number [] v.first.within) v.here;
        chunks = v.chunks;
      }

      pub passes_too : (words : List (List ℕ)) (asked : List (List (List ℕ))) → All (IsWord a) words → PassesWords m h words asked → PassesWords n k words asked
      passes_too words asked letters v = record { agrees = λ j d lt. agrees_there (get_or words j d) (letters j d lt) (v.agrees j d lt); chunks = v.chunks }

  -- rounds
  module _ (task : Task) (machine : IsMachine task.letters task.machine) where
    abbrev a : ℕ
    a = task.letters

    abbrev m : Rows
    m = task.machine

    abbrev other : Task
    other = renamed_task f task

    hypothesis_too : (t : PlainTable) → IsOver a t → hypothesis_of other t ≡ renamed_rows f (hypothesis_of task t)
    hypothesis_too t over = machine_too a m machine t over

    new_row_too : (t : PlainTable) → IsOver a t → new_row_of other t ≡ new_row_of task t
    new_row_too t over = first_too a m machine t over

    closed_too : (t : PlainTable) → IsOver a t → closed_by other t ≡ closed_by task t
    closed_too t over = close_too a m machine (task.most - length t.access) t over

    unrefuted_too : (t : PlainTable) → IsOver a t → IsUnrefuted task t → IsUnrefuted other t
    unrefuted_too t over ready =
        let h = hypothesis_of task t in
        let is : IsMachine a h = machine_is a m t over ready.closed in
        record {
          closed = new_row_too t over ∙ ready.closed;
          gives = subst (λ (x : Rows). (w : List ℕ) → ¬ Reveals other.machine x (asked_words t.batches) w) (sym (hypothesis_too t over))
              (λ w reveals. ready.gives w (reveals_back a m machine h is (asked_words t.batches) over.asked w reveals));
        }

    suite_for_too : (h model : Rows) (suite : List (List ℕ)) → IsMachine a h → IsSuiteFor task h model suite → IsSuiteFor other (renamed_rows f h) (renamed_rows f model) suite
    suite_for_too h model suite is made = record {
      canonical = canonical_too f g a h model r is made.canonical;
      of_model = suite_too f g r a model made.canonical.machine task.extra suite made.of_model;
      few = subst (λ (s : ℕ). suite_size s a task.extra ≤ greatest_suite) (sym (states_same f model)) made.few;
    }

    suite_letters : (h model : Rows) (suite : List (List ℕ)) → IsSuiteFor task h model suite → All (IsWord a) suite
    suite_letters h model suite made = suite_is_of_words a model task.extra suite made.of_model

    -- what a counterexample is, over the letters
    chunks_over : (words : List (List ℕ)) (count : ℕ) → All (IsWord a) words → All (All (IsWord a)) (first_chunks words count)
    chunks_over words count letters = All-map (All (IsWord a)) (chunk_at words) (range_with_len 0 count)
        (λ j d lt. All-take (IsWord a) 512 (drop (512 * get_or (range_with_len 0 count) j d) words) (All-drop (IsWord a) (512 * get_or (range_with_len 0 count) j d) words letters))

    counter_over : (t : PlainTable) (word : List ℕ) (asked : List (List (List ℕ))) → IsOver a t → IsCounterexample task t word asked → IsWord a word × All (All (IsWord a)) asked
    counter_over t word asked over (inl (known, none)) =
        let does = known.least.does in (
          left_all (λ x. x < a) word does.front.0 (subst (IsWord a) does.front.1 (All-contains (IsWord a) (asked_words t.batches) does.whole over.asked does.asked)),
          subst (All (All (IsWord a))) (sym none) (All-nil (All (IsWord a))),
        )
    counter_over t word asked over (inr found) =
        let letters = suite_letters (hypothesis_of task t) found.model found.suite found.made in
        let v = found.fails in (
          subst (IsWord a) (sym v.here.is) (All-take (λ x. x < a) (v.here.place + 1) (word_at found.suite v.number) (letters v.number [] v.first.within)),
          subst (All (All (IsWord a))) (sym v.chunks) (chunks_over found.suite (v.number / 512 + 1) letters),
        )

    counter_too : (t : PlainTable) (word : List ℕ) (asked : List (List (List ℕ))) → IsOver a t → IsCounterexample task t word asked → IsCounterexample other t word asked
    counter_too t word asked over (inl (known, none)) =
        let h = hypothesis_of task t in
        let is : IsMachine a h = machine_is a m t over known.closed in
        inl (
          record {
            closed = new_row_too t over ∙ known.closed;
            least = subst (λ (x : Rows). LeastWord (Reveals other.machine x (asked_words t.batches)) word) (sym (hypothesis_too t over)) (least_too a m machine h is (asked_words t.batches) over.asked word known.least);
          },
          none,
        )
    counter_too t word asked over (inr found) =
        let h = hypothesis_of task t in
        let is : IsMachine a h = machine_is a m t over found.ready.closed in
        inr (record {
          ready = unrefuted_too t over found.ready;
          model = renamed_rows f found.model;
          suite = found.suite;
          made = subst (λ (x : Rows). IsSuiteFor other x (renamed_rows f found.model) found.suite) (sym (hypothesis_too t over)) (suite_for_too h found.model found.suite is found.made);
          fails = subst (λ (x : Rows). FailsWords other.machine x found.suite word asked) (sym (hypothesis_too t over)) (fails_too a m machine h is found.suite word asked (suite_letters h found.model found.suite found.made) found.fails);
        })

    closed_of : (t : PlainTable) (word : List ℕ) (asked : List (List (List ℕ))) → IsCounterexample task t word asked → new_row_of task t ≡ None
    closed_of t word asked (inl (known, none)) = known.closed
    closed_of t word asked (inr found) = found.ready.closed

    refined_same : (t : PlainTable) (word : List ℕ) (asked : List (List (List ℕ))) → IsOver a t → IsCounterexample task t word asked → (refined_by other t word asked ≡ refined_by task t word asked) × IsOver a (refined_by task t word asked)
    refined_same t word asked over counter =
        let h = hypothesis_of task t in
        let is : IsMachine a h = machine_is a m t over (closed_of t word asked counter) in
        let both = counter_over t word asked over counter in
        let tested : PlainTable = with_batches t asked in
        let over_tested : IsOver a tested = over_batches a t asked over both.1 in
        let s : Search = search_word m h t.access (length word) word in
        let split : PlainTable = split_by a h tested word s in
        let over_s : IsOver a split = over_split a h tested word s over_tested both.0 in
        let by_other : (x : Rows) → PlainTable = λ x. closed_by other (split_by a x tested word (search_word other.machine x t.access (length word) word)) in (
          ap by_other (hypothesis_too t over) ∙ (ap (λ (u : PlainTable). closed_by other u) (split_too a m machine h is tested word over_tested both.0) ∙ closed_too split over_s),
          closed_over a m machine (task.most - length split.access) split over_s,
        )

    table_too : (given : List (List ℕ)) → All (IsWord a) given → (i : ℕ) (t : PlainTable) → IsTableAfter task given i t → IsTableAfter other given i t × IsOver a t
    table_too given letters zero t is =
        let first : PlainTable = first_table a given in
        let over : IsOver a first = over_first a given letters in
        (is ∙ sym (closed_too first over), subst (IsOver a) (sym is) (closed_over a m machine (task.most - length first.access) first over))
    table_too given letters (suc i) t (before, after, refined) =
        let was = table_too given letters i before after in
        let same = refined_same before refined.word refined.asked was.1 refined.counterexample in (
          (
            before,
            was.0,
            record {
              word = refined.word;
              asked = refined.asked;
              counterexample = counter_too before refined.word refined.asked was.1 refined.counterexample;
              is = refined.is ∙ sym same.0;
            },
          ),
          subst (IsOver a) (sym refined.is) same.1,
        )

    learned_too : (given : List (List ℕ)) (model : Rows) (refinements : ℕ) (batches : List (List (List ℕ))) → All (IsWord a) given → LearnsPlainly task given model refinements batches → LearnsPlainly other given (renamed_rows f model) refinements batches
    learned_too given model refinements batches letters l =
        let t = l.table in
        let h = hypothesis_of task t in
        let both = table_too given letters refinements t l.after in
        let is : IsMachine a h = machine_is a m t both.1 l.ready.closed in
        record {
          table = t;
          after = both.0;
          ready = unrefuted_too t both.1 l.ready;
          suite = l.suite;
          made = subst (λ (x : Rows). IsSuiteFor other x (renamed_rows f model) l.suite) (sym (hypothesis_too t both.1)) (suite_for_too h model l.suite is l.made);
          asked = l.asked;
          passes = subst (λ (x : Rows). PassesWords other.machine x l.suite l.asked) (sym (hypothesis_too t both.1)) (passes_too a m machine h is l.suite l.asked (suite_letters h model l.suite l.made) l.passes);
          all = l.all;
        }

pub renamed_learns_plainly : RenamedLearnsPlainly
renamed_learns_plainly f g task given model refinements batches r machine letters l = learned_too f g r task machine given model refinements batches letters l
