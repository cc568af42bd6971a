-- The walk, step by step.
use Rattle.std.proofs.Common.{◌≡◌, ℕ, ◌+◌, ◌*◌, ◌<◌, ◌≤◌, ◌⊎◌, inl, inr, ⊎_elim, List, [], ◌∷◌, ◌++◌, length, get_or, replicate, Option, Some, None, refl, ap, ap₂, sym, ◌∙◌, subst, arith}
use Rattle.std.proofs.Math.ListN.{set}
use Rattle.std.specs.List.{sum_by}
use Rattle.std.proofs.lemmas.List.{get_or_append_left, get_or_past, get_or-replicate, get_or-set_same, get_or-set_other, length-set, length-replicate}
use Rattle.std.proofs.lemmas.List.Sums.{sum_by-set}
use Rattle.std.proofs.lemmas.List.Folds.{sum_by-replicate}
use Rattle.std.proofs.lemmas.Bool.{cases_lt, cases_order}
use Rattle.lw_words.specs.Word.{IsWord}
use Rattle.lw_mealy.specs.Machine.{IsMachine, next}
use Rattle.lw_json.specs.declared.files.Machine.{Machine}
use Rattle.lw_separate.specs.bodies.Search.{IsSearch, open_at}
use Rattle.lw_separate.proofs.AccessLemmas.{pushed}
use Rattle.lw_separate.proofs.SearchLemmas.{last_or_before, length-push, letter_found, letter_known, word_done}
use Rattle.lw_compare.specs.declared.walk.Step.{Step}
use Rattle.lw_compare.specs.declared.walk.Walk.{Walk}
use Rattle.lw_compare.specs.bodies.Joint.{AgreeAt, IsDictionary, joint, joint_next, letter_in}
use Rattle.lw_compare.specs.bodies.Walk.{AreBack, Walked, step_at, word_of, words_of}
use Rattle.lw_compare.proofs.JointLemmas.{joint_below, joint_machine, length-joint, next-joint}
use Rattle.lw_compare.proofs.NameLemmas.{letter_below}
use Rattle.lw_compare.proofs.WordLemmas.{length-words_of, words_of-push}

-- where only place 0 is taken, by 0
none_of : (pairs q : ℕ) → get_or (replicate {A = Option ℕ} pairs None) q None ≡ None
none_of pairs q = ⊎_elim (λ (l : q < pairs). get_or-replicate pairs q None None l) (λ (g : pairs ≤ q). get_or_past (replicate {A = Option ℕ} pairs None) q None (omega (arith, length-replicate {A = Option ℕ} pairs None))) (cases_lt q pairs)

found_first : (pairs q k : ℕ) → get_or (set (replicate {A = Option ℕ} pairs None) 0 (Some 0)) q None ≡ Some k → 0 < length (replicate {A = Option ℕ} pairs None) → (k < 1) × (get_or (0 ∷ []) k 0 ≡ q)
found_first pairs q k found within =
    ⊎_elim
    (λ (z : q ≡ 0).
    let e : Some 0 ≡ Some k = sym (get_or-set_same (replicate {A = Option ℕ} pairs None) 0 (Some 0) None within) ∙ (ap (λ (p : ℕ). get_or (set (replicate {A = Option ℕ} pairs None) 0 (Some 0)) p None) (sym z) ∙ found) in
    let k0 : 0 ≡ k = cc in
    (omega (arith, k0), rw (← k0, z) refl))
    (λ (d : (q < 0) ⊎ (0 < q)).
    let other : q ≡ 0 → ⊥ = λ z. ⊎_elim (λ (l : q < 0). omega arith) (λ (g : 0 < q). omega arith) d in
    let e : Some k ≡ None = sym found ∙ (get_or-set_other (replicate {A = Option ℕ} pairs None) 0 q (Some 0) None other ∙ none_of pairs q) in
    absurd (cc))
    (cases_order q 0)

module _ (m n : Machine) (letters : List ℕ) (outputs : List (Option ℕ)) (by : IsDictionary m n letters outputs) where
  abbrev below : (x : ℕ) → x < m.mealy.inputs → letter_in m n x < n.mealy.inputs
  below = letter_below m n letters outputs by

  abbrev pairs : ℕ
  pairs = length m.mealy.rows * length n.mealy.rows

  pub pair_machine : IsMachine m.mealy.inputs (joint m n)
  pair_machine = joint_machine m n by.one.machine by.two.machine below

  pub all_pairs : length (joint m n) ≡ pairs
  all_pairs = length-joint m n by.one.machine by.two.machine below

  -- the first pair is found
  search_start : (places : List (Option ℕ)) → places ≡ set (replicate pairs None) 0 (Some 0) → IsSearch m.mealy.inputs (joint m n) ([] ∷ []) (0 ∷ []) places 0 0
  search_start places is =
      let long : length places ≡ pairs = ap (λ (l : List (Option ℕ)). length l) is ∙ (length-set (replicate pairs None) 0 (Some 0) ∙ length-replicate pairs None) in
      let some : 0 < pairs = omega (arith, pair_machine.some_state, all_pairs) in
      let within : 0 < length (replicate {A = Option ℕ} pairs None) = omega (arith, length-replicate {A = Option ℕ} pairs None) in
      let at : get_or places 0 None ≡ Some 0 = ap (λ (l : List (Option ℕ)). get_or l 0 None) is ∙ get_or-set_same (replicate pairs None) 0 (Some 0) None within in
      let e : sum_by open_at (set (replicate pairs None) 0 (Some 0)) + open_at (get_or (replicate pairs None) 0 None) ≡ sum_by open_at (replicate pairs None) + 0 = sum_by-set open_at (replicate pairs None) 0 (Some 0) None within in
      let one : open_at (get_or (replicate pairs None) 0 None) ≡ 1 = ap open_at (get_or-replicate pairs 0 None None some) in
      let all : sum_by open_at (replicate pairs None) ≡ pairs * 1 = sum_by-replicate open_at pairs None in
      let left : sum_by open_at places ≡ sum_by open_at (set (replicate pairs None) 0 (Some 0)) = ap (sum_by open_at) is in
      record {
        machine = pair_machine;
        paired = refl;
        placed = long ∙ sym all_pairs;
        left = omega (arith, left, e, one, all, all_pairs);
        some = omega arith;
        first = refl;
        letters = λ k lt. let z : k ≡ 0 = omega arith in subst (λ (i : ℕ). IsWord m.mealy.inputs (get_or ([] ∷ []) i [])) (sym z) (λ j d none. absurd (omega arith));
        leads = λ k lt. let z : k ≡ 0 = omega arith in rw z refl;
        state = λ k lt. let z : k ≡ 0 = omega arith in rw z pair_machine.some_state;
        there = λ k lt. let z : k ≡ 0 = omega arith in rw z at;
        back = λ q k found. found_first pairs q k (ap (λ (l : List (Option ℕ)). get_or l q None) (sym is) ∙ found) within;
        rising = λ j k jk lt. absurd (omega arith);
        closed = λ j y lt. absurd (omega arith);
        here = λ y lt. absurd (omega arith);
        ahead = λ lt k kw. let z : k ≡ 0 = omega arith in rw z refl;
      }

  pub walk_start : (w : Walk) → w.steps.items ≡ [] → w.nodes.items ≡ 0 ∷ [] → w.places.items ≡ set (replicate pairs None) 0 (Some 0) → Walked m n w 0 0
  walk_start w steps nodes places = record {
    search = subst (λ (ws : List (List ℕ)). IsSearch m.mealy.inputs (joint m n) ws w.nodes.items w.places.items 0 0) (ap words_of (sym steps)) (subst (λ (ns : List ℕ). IsSearch m.mealy.inputs (joint m n) ([] ∷ []) ns w.places.items 0 0) (sym nodes) (search_start w.places.items places));
    back = λ k lt. absurd (omega (arith, ap (λ (l : List Step). length l) steps));
    before = λ j y lt. absurd (omega arith);
    here = λ y lt. absurd (omega arith);
  }

  module _ (w : Walk) (i x : ℕ) (walked : Walked m n w i x) (iw : i < length w.nodes.items) where
    abbrev found : i < length (words_of w.steps.items)
    found = omega (arith, walked.search.paired, iw)

    pub node_within : get_or w.nodes.items i 0 < pairs
    node_within = omega (arith, walked.search.state i found, all_pairs)

    -- all letters are done
    pub pair_done : x ≡ m.mealy.inputs → Walked m n w (i + 1) 0
    pair_done end = record {
      search = word_done m.mealy.inputs (joint m n) (words_of w.steps.items) w.nodes.items w.places.items i x walked.search found end;
      back = walked.back;
      before = λ j y lt jw ly. ⊎_elim (λ (l : j < i). walked.before j y l jw ly) (λ (e : j ≡ i). subst (λ (k : ℕ). AgreeAt m n (get_or w.nodes.items k 0) y) (sym e) (walked.here y (omega arith) ly)) (last_or_before j i lt);
      here = λ y lt. absurd (omega arith);
    }

    module _ (lx : x < m.mealy.inputs) (agrees : AgreeAt m n (get_or w.nodes.items i 0) x) (target : ℕ) (to : target ≡ joint_next m n (get_or w.nodes.items i 0) x) where
      pub target_within : target < length w.places.items
      target_within = omega (arith, joint_below m n by.one.machine by.two.machine below (get_or w.nodes.items i 0) x node_within lx, walked.search.placed, all_pairs, to)

      next_is : next (joint m n) (get_or w.nodes.items i 0) x ≡ target
      next_is = next-joint m n by.one.machine by.two.machine below (get_or w.nodes.items i 0) x node_within lx ∙ sym to

      here_more : (y : ℕ) → y < x + 1 → y < m.mealy.inputs → AgreeAt m n (get_or w.nodes.items i 0) y
      here_more y lt ly = ⊎_elim (λ (l : y < x). walked.here y l ly) (λ (e : y ≡ x). subst (λ (z : ℕ). AgreeAt m n (get_or w.nodes.items i 0) z) (sym e) agrees) (last_or_before y x lt)

      -- the letter leads to a pair that is found
      pub pair_known : (place : ℕ) → get_or w.places.items target None ≡ Some place → Walked m n w i (x + 1)
      pair_known place at = record {
        search = letter_known m.mealy.inputs (joint m n) (words_of w.steps.items) w.nodes.items w.places.items i x walked.search found place (ap (λ (q : ℕ). get_or w.places.items q None) next_is ∙ at);
        back = walked.back;
        before = walked.before;
        here = here_more;
      }

      -- the letter leads to a new pair
      pub pair_new : (v : Walk) → get_or w.places.items target None ≡ None → v.steps.items ≡ w.steps.items ++ record { parent = i; letter = x } ∷ [] → v.nodes.items ≡ w.nodes.items ++ target ∷ [] → v.places.items ≡ set w.places.items target (Some (length w.nodes.items)) → Walked m n v i (x + 1)
      pair_new v none steps nodes places =
          let step : Step = record { parent = i; letter = x } in
          let old : (k : ℕ) → k < length w.nodes.items → get_or v.nodes.items k 0 ≡ get_or w.nodes.items k 0 = λ k lt. ap (λ (l : List ℕ). get_or l k 0) nodes ∙ get_or_append_left w.nodes.items (target ∷ []) 0 k lt in
          record {
            search = letter_found m.mealy.inputs (joint m n) (words_of w.steps.items) w.nodes.items w.places.items i x walked.search found lx (ap (λ (q : ℕ). get_or w.places.items q None) next_is ∙ none)
                (words_of v.steps.items) v.nodes.items v.places.items
                (ap words_of steps ∙ words_of-push w.steps.items step)
                (nodes ∙ ap (λ (q : ℕ). w.nodes.items ++ q ∷ []) (sym next_is))
                (places ∙ ap (λ (q : ℕ). set w.places.items q (Some (length w.nodes.items))) (sym next_is));
            back = subst AreBack (sym steps) (pushed (λ (k : ℕ) (s : Step). s.parent ≤ k) w.steps.items step (record { parent = 0; letter = 0 }) walked.back (omega (arith, length-words_of w.steps.items, walked.search.paired, iw)));
            before = λ j y lt jw ly. subst (λ (q : ℕ). AgreeAt m n q y) (sym (old j (omega arith))) (walked.before j y lt (omega arith) ly);
            here = λ y lt ly. subst (λ (q : ℕ). AgreeAt m n q y) (sym (old i iw)) (here_more y lt ly);
          }
