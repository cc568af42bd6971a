-- The machine of a closed table.
use Rattle.std.proofs.Common.{◌≡◌, ℕ, ◌<◌, ◌≤◌, Bool, true, false, not, cond, List, [], ◌∷◌, ◌++◌, map, length, get_or, Some, None, refl, sym, ◌∙◌, subst, arith}
use Rattle.std.specs.List.{All, find, flat_map, range_with_len, list_any, position_or_len}
use Rattle.std.proofs.lemmas.List.{length-map, get_or-map}
use Rattle.std.proofs.lemmas.List.Elements.{All-nil, All-cons, All-tail, All-map, All-contains, Contains-append_left, Contains-append_right, Contains-get_or}
use Rattle.std.proofs.lemmas.List.FromFn.{length-range_with_len}
use Rattle.lw_words.specs.Word.{IsWord}
use Rattle.lw_mealy.specs.Machine.{Row, Rows, IsMachine, IsWithinLimits, mealy_of, after}
use Rattle.lw_mealy.proofs.RowLemmas.{output_below}
use Rattle.lw_mealy.proofs.WordLemmas.{after_below}
use Rattle.lw_plain.specs.Table.{PlainTable, extensions, row_words, has_same_row, is_new, first_new, row_state, transition_of, transitions_of, machine_of}
use Rattle.lw_plain.specs.Over.{IsOver}
use Rattle.lw_plain.proofs.OverLemmas.{letters_below}

-- nothing is found where nothing passes
none_by : {X : Type 0} (p : X → Bool) (x : X) (xs : List X) (here : Bool) → p x ≡ here → (find p xs ≡ None → All (λ y. p y ≡ false) xs) → cond here (Some x) (find p xs) ≡ None → All (λ y. p y ≡ false) (x ∷ xs)
none_by p x xs true is later found = absurd (let e : Some x ≡ None = found in cc)
none_by p x xs false is later found = All-cons (λ y. p y ≡ false) x xs is (later found)

none_passes : {X : Type 0} (p : X → Bool) (xs : List X) → find p xs ≡ None → All (λ y. p y ≡ false) xs
none_passes p [] found = All-nil (λ y. p y ≡ false)
none_passes p (x ∷ xs) found = none_by p x xs (p x) refl (none_passes p xs) found

-- where one passes, the first one is within the list
first_by : {X : Type 0} (p : X → Bool) (x : X) (xs : List X) (here : Bool) → p x ≡ here → (list_any p xs ≡ true → position_or_len p xs < length xs) → list_any p (x ∷ xs) ≡ true → position_or_len p (x ∷ xs) < length (x ∷ xs)
first_by p x xs true is later any = rw is (omega arith)
first_by p x xs false is later any =
    let rest : list_any p xs ≡ true = rw is at any in
    let here = later rest in
    rw is (omega arith)

first_within : {X : Type 0} (p : X → Bool) (xs : List X) → list_any p xs ≡ true → position_or_len p xs < length xs
first_within p [] any = absurd (let e : false ≡ true = any in cc)
first_within p (x ∷ xs) any = first_by p x xs (p x) refl (first_within p xs) any

not_false : (b : Bool) → not b ≡ false → b ≡ true
not_false true is = refl
not_false false is = absurd (let e : true ≡ false = is in cc)

-- each part of a list that is joined from parts
module _ {X : Type 0} (P : X → Type 0) where
  pub left_all : (xs ys : List X) → All P (xs ++ ys) → All P xs
  left_all xs ys all k d lt = All-contains P (xs ++ ys) (get_or xs k d) all (Contains-append_left xs ys (get_or xs k d) (Contains-get_or xs k d lt))

  right_all : (xs ys : List X) → All P (xs ++ ys) → All P ys
  right_all xs ys all k d lt = All-contains P (xs ++ ys) (get_or ys k d) all (Contains-append_right xs ys (get_or ys k d) (Contains-get_or ys k d lt))

  each_part : {Y : Type 0} (f : Y → List X) (ys : List Y) → All P (flat_map f ys) → All (λ y. All P (f y)) ys
  each_part f [] all = All-nil (λ y. All P (f y))
  each_part f (y ∷ ys) all = All-cons (λ y. All P (f y)) y ys (left_all (f y) (flat_map f ys) all) (each_part f ys (right_all (f y) (flat_map f ys) all))

  each_value : {Y : Type 0} (f : Y → X) (ys : List Y) (e : X) → All P (map f ys) → All (λ y. P (f y)) ys
  each_value f ys e all k d lt = subst P (get_or-map f ys k d e lt) (all k e (let long = length-map ys f in omega arith))

-- what a row of the machine is
record IsRowWithin (a b n : ℕ) (r : Row) : Type 0 where
  complete : length r ≡ a
  targets : All (λ c. c.0 < n) r
  outputs : All (λ c. c.1 < b) r

target_within : (a : ℕ) (m : Rows) (t : PlainTable) (r : List ℕ) → is_new m t r ≡ false → row_state m t r < length t.access
target_within a m t r old = first_within (has_same_row m t.suffixes r) t.access (not_false (list_any (has_same_row m t.suffixes r) t.access) old)

module _ (a b : ℕ) (m : Rows) (limits : IsWithinLimits (mealy_of a b m)) (t : PlainTable) where
  row_within : (u : List ℕ) → IsWord a u → All (λ r. is_new m t r ≡ false) (extensions a u) → IsRowWithin a b (length t.access) (transitions_of a m t u)
  row_within u word old =
      let letters = letters_below a in
      let olds = each_value (λ (r : List ℕ). is_new m t r ≡ false) (λ (x : ℕ). u ++ x ∷ []) (range_with_len 0 a) [] old in
      let state : after m 0 u < length m = after_below a m u 0 limits.machine limits.machine.some_state word in
      record {
        complete = length-map (range_with_len 0 a) (transition_of m t u) ∙ length-range_with_len 0 a;
        targets = All-map (λ (c : ℕ × ℕ). c.0 < length t.access) (transition_of m t u) (range_with_len 0 a) (λ k d lt. target_within a m t (u ++ get_or (range_with_len 0 a) k d ∷ []) (olds k d lt));
        outputs = All-map (λ (c : ℕ × ℕ). c.1 < b) (transition_of m t u) (range_with_len 0 a) (λ k d lt. output_below (mealy_of a b m) (after m 0 u) (get_or (range_with_len 0 a) k d) limits state (letters k d lt));
      }

  rows_within : IsOver a t → first_new a m t ≡ None → All (IsRowWithin a b (length t.access)) (machine_of a m t)
  rows_within over closed =
      let old : All (λ r. is_new m t r ≡ false) (row_words a t.access) = none_passes (is_new m t) (row_words a t.access) closed in
      let parts = each_part (λ (r : List ℕ). is_new m t r ≡ false) (extensions a) t.access (All-tail (λ r. is_new m t r ≡ false) [] (flat_map (extensions a) t.access) old) in
      All-map (IsRowWithin a b (length t.access)) (transitions_of a m t) t.access (λ k d lt. row_within (get_or t.access k d) (over.words k d lt) (parts k d lt))

  pub machine_within : IsOver a t → length t.access ≤ 1024 → first_new a m t ≡ None → IsWithinLimits (mealy_of a b (machine_of a m t))
  machine_within over few closed =
      let rows = rows_within over closed in
      let long : length (machine_of a m t) ≡ length t.access = length-map t.access (transitions_of a m t) in
      record {
        inputs = limits.inputs;
        outputs = limits.outputs;
        few = omega arith;
        machine = record {
          some_state = let some = over.some in omega arith;
          complete = λ k d lt. let r = rows k d lt in (r.complete, subst (λ (n : ℕ). All (λ (c : ℕ × ℕ). c.0 < n) (get_or (machine_of a m t) k d)) (sym long) r.targets);
        };
        answers = λ k d lt. let r = rows k d lt in r.outputs;
      }

pub within_as : (a b c d : ℕ) (m n : Rows) → c ≡ a → d ≡ b → n ≡ m → IsWithinLimits (mealy_of a b m) → IsWithinLimits (mealy_of c d n)
within_as a b c d m n inputs outputs rows within =
    let same : mealy_of a b m ≡ mealy_of c d n = cc in
    subst IsWithinLimits same within

-- what the machine of a closed table is, whatever the outputs are
pub machine_is : (a : ℕ) (m : Rows) (t : PlainTable) → IsOver a t → first_new a m t ≡ None → IsMachine a (machine_of a m t)
machine_is a m t over closed =
    let old : All (λ r. is_new m t r ≡ false) (row_words a t.access) = none_passes (is_new m t) (row_words a t.access) closed in
    let parts = each_part (λ (r : List ℕ). is_new m t r ≡ false) (extensions a) t.access (All-tail (λ r. is_new m t r ≡ false) [] (flat_map (extensions a) t.access) old) in
    let long : length (machine_of a m t) ≡ length t.access = length-map t.access (transitions_of a m t) in
    let letters : List ℕ = range_with_len 0 a in
    record {
      some_state = (let some = over.some in omega arith);
      complete = subst (λ (n : ℕ). All (λ (r : Row). (length r ≡ a) × All (λ (c : ℕ × ℕ). c.0 < n) r) (machine_of a m t)) (sym long)
          (All-map (λ (r : Row). (length r ≡ a) × All (λ (c : ℕ × ℕ). c.0 < length t.access) r) (transitions_of a m t) t.access (λ k d lt.
          let u = get_or t.access k d in
          let olds = each_value (λ (r : List ℕ). is_new m t r ≡ false) (λ (x : ℕ). u ++ x ∷ []) letters [] (parts k d lt) in (
            length-map letters (transition_of m t u) ∙ length-range_with_len 0 a,
            All-map (λ (c : ℕ × ℕ). c.0 < length t.access) (transition_of m t u) letters (λ j e le. target_within a m t (u ++ get_or letters j e ∷ []) (olds j e le)),
          )));
    }
