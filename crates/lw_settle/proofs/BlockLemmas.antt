-- The classes of the states, one after another.
use Rattle.std.proofs.Common.{◌≡◌, ◌≢◌, ◌⊎◌, inl, inr, ⊎_elim, ℕ, zero, suc, ◌+◌, ◌<◌, ◌≤◌, List, [], ◌∷◌, ◌++◌, length, get_or, set, Contains, Option, Some, None, MatchOption, unwrap_or, refl, ap, sym, ◌∙◌, subst, arith}
use Rattle.std.specs.List.{All, AllWithin}
use Rattle.std.proofs.Math.ListN.{get_or-append}
use Rattle.std.proofs.Math.Seq.{get_or-append_seam}
use Rattle.std.proofs.lemmas.Bool.{cases_lt, cases_eq}
use Rattle.std.proofs.lemmas.List.{length-append, length-set, get_or-set_same, get_or-set_other, get_or_default}
use Rattle.std.proofs.lemmas.List.Elements.{All-push, All-weaker, All-append, All-get_or, All-contains, All-from_all_within, AllWithin-none, AllWithin-more, Contains-push, Contains-get_or, Contains-append_left}
use Rattle.std.proofs.lemmas.Option.{get_or_from_slice_get}
use Rattle.std.specs.Prelude.{slice_get}
use Rattle.lw_words.specs.Word.{IsWord}
use Rattle.lw_mealy.specs.Machine.{Rows, next}
use Rattle.lw_cache.specs.Cut.{word_at}
use Rattle.lw_tree.specs.Blocks.{IsMember, IsFork}
use Rattle.lw_tree.specs.Tree.{TreeState, IsTree, IsLive, IsAbove, IsMachineOf, node_at, leaf_at}
use Rattle.lw_tree.proofs.ClassLemmas.{above_here, above_trans}
use Rattle.lw_tree.proofs.ShapeLemmas.{shape_of, leaf_live}
use Rattle.lw_tree.proofs.WayLemmas.{joined}
use Rattle.lw_settle.specs.declared.parting.Parting.{Parting}
use Rattle.lw_settle.specs.bodies.Parting.{IsParting, number_at, AreRootsTo, AreRoots, AreLeast, AreMembers, AreAllAlike, IsForkOf}
use Rattle.lw_settle.proofs.PartingLemmas.{class_once}

-- one state more
pub roots_more : (t : TreeState) (n r : ℕ) (roots now : List ℕ) → AreRootsTo t n roots → IsMember t r n → now ≡ roots ++ r ∷ [] → AreRootsTo t (n + 1) now
roots_more t n r roots now are is grown =
    subst (AreRootsTo t (n + 1)) (sym grown)
    (record {
      each = length-append roots (r ∷ []) ∙ ap (λ (k : ℕ). k + 1) are.each;
      members = λ q lt. ⊎_elim
          (λ (low : q < n). subst (λ (k : ℕ). IsMember t k q) (sym (get_or-append roots (r ∷ []) 0 q (let e = are.each in omega (arith, e, low)))) (are.members q low))
          (λ (high : n ≤ q).
          let at : q ≡ n = omega (arith, lt, high) in
          subst (λ (k : ℕ). IsMember t (number_at (roots ++ r ∷ []) k) k) (sym at)
          (subst (λ (k : ℕ). IsMember t (number_at (roots ++ r ∷ []) k) n) are.each (subst (λ (k : ℕ). IsMember t k n) (sym (get_or-append_seam roots r [] 0)) is)))
          (cases_lt q n);
    })

pub few_roots : (t : TreeState) (roots : List ℕ) → IsTree t → AreRoots t roots → length roots ≤ 1024
few_roots t roots g are = let e = are.each in let few = g.few in let most = g.most in omega (arith, e, few, most.1)

-- a root that was read
pub root_read : (roots : List ℕ) (i q root : ℕ) → q < length roots → i ≡ q → root ≡ get_or roots i root → root ≡ number_at roots q
root_read roots i q root lt at is = is ∙ (ap (λ (k : ℕ). get_or roots k root) at ∙ get_or_default roots q root 0 lt)

-- the states so far of the class with a root
pub record AreFound (roots : List ℕ) (r n : ℕ) (members : List ℕ) : Type 0 where
  pub all : All (λ q. (q < length roots) × (number_at roots q ≡ r)) members
  pub each : (q : ℕ) → q < n → number_at roots q ≡ r → Contains members q
  pub few : length members ≤ n

pub found_more : (roots members now : List ℕ) (r n : ℕ) → n < length roots → AreFound roots r n members → number_at roots n ≡ r → now ≡ members ++ n ∷ [] → AreFound roots r (n + 1) now
found_more roots members now r n lt found is grown =
    subst (AreFound roots r (n + 1)) (sym grown)
    (record {
      all = All-push (λ q. (q < length roots) × (number_at roots q ≡ r)) members n found.all (lt, is);
      each = λ q low same. ⊎_elim
          (λ (before : q < n). Contains-append_left members (n ∷ []) q (found.each q before same))
          (λ (after : n ≤ q). let at : n ≡ q = omega (arith, low, after) in subst (Contains (members ++ n ∷ [])) at (Contains-push members n))
          (cases_lt q n);
      few = let e = length-append members (n ∷ []) in let few = found.few in omega (arith, e, few);
    })

pub found_same : (roots members : List ℕ) (r n : ℕ) → AreFound roots r n members → number_at roots n ≢ r → AreFound roots r (n + 1) members
found_same roots members r n found other =
    record {
      all = found.all;
      each = λ q low same. ⊎_elim
          (λ (before : q < n). found.each q before same)
          (λ (after : n ≤ q). let at : q ≡ n = omega (arith, low, after) in absurd (other (ap (number_at roots) (sym at) ∙ same)))
          (cases_lt q n);
      few = let few = found.few in omega (arith, few);
    }

pub members_found : (t : TreeState) (roots members : List ℕ) (r : ℕ) → IsTree t → AreRoots t roots → AreFound roots r (length roots) members → AreMembers t r members
members_found t roots members r g are found =
    record {
      all = All-weaker (λ q. (q < length roots) × (number_at roots q ≡ r)) (IsMember t r) (λ q x. subst (λ (k : ℕ). IsMember t k q) x.1 (are.members q (subst (λ (k : ℕ). q < k) are.each x.0))) members found.all;
      each = λ q is.
          let lt : q < length t.access = is.0 in
          found.each q (subst (λ (k : ℕ). q < k) (sym are.each) lt) (class_once t g (number_at roots q) r q (are.members q lt) is);
      few = let e = are.each in let few = found.few in omega (arith, e, few);
    }

-- the least states of the classes so far, and for each root the least state that is known
pub record AreLeastTo (roots : List ℕ) (n : ℕ) (known : List (Option ℕ)) (least : List ℕ) : Type 0 where
  pub each : length least ≡ n
  pub room : (q : ℕ) → q < length roots → number_at roots q < length known
  pub before : (q : ℕ) → q < n → number_at least q ≤ q
  pub same : (q : ℕ) → q < n → number_at roots (number_at least q) ≡ number_at roots q
  pub noted : (q : ℕ) → q < n → get_or known (number_at roots q) None ≡ Some (number_at least q)
  pub of_class : (r q : ℕ) → get_or known r None ≡ Some q → (q < n) × (number_at roots q ≡ r)

abbrev number_of : Option ℕ → ℕ
number_of None = 0
number_of (Some q) = q

none_at : (size r : ℕ) (known : List (Option ℕ)) → ((k : ℕ) → k < length known → get_or known k None ≡ None) → get_or known r None ≡ None
none_at size r [] all = refl
none_at size zero (x ∷ known) all = all 0 (omega arith)
none_at size (suc r) (x ∷ known) all = none_at size r known (λ k lt. all (suc k) (omega (arith, lt)))

pub least_start : (roots : List ℕ) (known : List (Option ℕ)) → ((k : ℕ) → k < length known → get_or known k None ≡ None) → ((q : ℕ) → q < length roots → number_at roots q < length known) → AreLeastTo roots 0 known []
least_start roots known all room =
    record {
      each = refl;
      room = room;
      before = λ q lt. absurd (omega (arith, lt));
      same = λ q lt. absurd (omega (arith, lt));
      noted = λ q lt. absurd (omega (arith, lt));
      of_class = λ r q e. absurd (none_is (get_or known r None) q (none_at 0 r known all) e);
    }
  where
    none_is : (o : Option ℕ) (q : ℕ) → o ≡ None → o ≡ Some q → ⊥
    none_is None q e f = cc
    none_is (Some p) q e f = cc

-- what is noted of a state's class, or that state
first_is : (o : Option ℕ) (n : ℕ) → ((o ≡ None) × (unwrap_or o n ≡ n)) ⊎ (o ≡ Some (unwrap_or o n))
first_is None n = inl (refl, refl)
first_is (Some q) n = inr refl

some_is : (o : Option ℕ) (p q : ℕ) → o ≡ None → o ≡ Some q → Some q ≡ Some p
some_is None p q e f = cc
some_is (Some k) p q e f = cc

module _ (roots least now : List ℕ) (known : List (Option ℕ)) (n r first : ℕ) (was : Option ℕ) (lt : n < length roots) (at : r ≡ number_at roots n) (are : AreLeastTo roots n known least) (is : was ≡ get_or known r None) (here : first ≡ unwrap_or was n) (grown : now ≡ least ++ first ∷ []) where
  abbrev after : List (Option ℕ)
  after = set known r (Some first)

  inside : r < length known
  inside = subst (λ (k : ℕ). k < length known) (sym at) (are.room n lt)

  set_here : get_or after r None ≡ Some first
  set_here = get_or-set_same known r (Some first) None inside

  old_at : (q : ℕ) → q < n → number_at (least ++ first ∷ []) q ≡ number_at least q
  old_at q old = get_or-append least (first ∷ []) 0 q (let e = are.each in omega (arith, e, old))

  new_at : number_at (least ++ first ∷ []) n ≡ first
  new_at = subst (λ (k : ℕ). number_at (least ++ first ∷ []) k ≡ first) are.each (get_or-append_seam least first [] 0)

  facts : (first ≤ n) × (number_at roots first ≡ number_at roots n) × ((q : ℕ) → get_or known r None ≡ Some q → Some q ≡ Some first)
  facts =
      ⊎_elim
      (λ (none : (was ≡ None) × (unwrap_or was n ≡ n)).
      let e : first ≡ n = here ∙ none.1 in
      (omega (arith, e), ap (number_at roots) e, λ q f. some_is (get_or known r None) first q (sym is ∙ none.0) f))
      (λ (some : was ≡ Some (unwrap_or was n)).
      let noted : get_or known r None ≡ Some first = sym is ∙ (some ∙ ap Some (sym here)) in
      let of = are.of_class r first noted in
      let low = of.0 in
      (omega (arith, low), of.1 ∙ at, λ q f. sym f ∙ noted))
      (first_is was n)

  pub least_more : AreLeastTo roots (n + 1) after now
  least_more =
      subst (AreLeastTo roots (n + 1) after) (sym grown)
      (record {
        each = length-append least (first ∷ []) ∙ ap (λ (k : ℕ). k + 1) are.each;
        room = λ q low. let e = length-set known r (Some first) in let b = are.room q low in subst (λ (k : ℕ). number_at roots q < k) (sym e) b;
        before = λ q low. ⊎_elim
            (λ (old : q < n). subst (λ (k : ℕ). k ≤ q) (sym (old_at q old)) (are.before q old))
            (λ (new : n ≤ q). let e : n ≡ q = omega (arith, low, new) in subst (λ (k : ℕ). number_at (least ++ first ∷ []) k ≤ k) e (subst (λ (k : ℕ). k ≤ n) (sym new_at) facts.0))
            (cases_lt q n);
        same = λ q low. ⊎_elim
            (λ (old : q < n). ap (number_at roots) (old_at q old) ∙ are.same q old)
            (λ (new : n ≤ q). let e : n ≡ q = omega (arith, low, new) in subst (λ (k : ℕ). number_at roots (number_at (least ++ first ∷ []) k) ≡ number_at roots k) e (ap (number_at roots) new_at ∙ facts.1))
            (cases_lt q n);
        noted = λ q low. ⊎_elim
            (λ (old : q < n). ⊎_elim
            (λ (here_too : number_at roots q ≡ r).
            let noted : get_or known r None ≡ Some (number_at least q) = ap (λ (k : ℕ). get_or known k None) (sym here_too) ∙ are.noted q old in
            ap (λ (k : ℕ). get_or after k None) here_too ∙ (set_here ∙ (sym (facts.2 (number_at least q) noted) ∙ ap Some (sym (old_at q old)))))
            (λ (other : number_at roots q ≢ r). get_or-set_other known r (number_at roots q) (Some first) None other ∙ (are.noted q old ∙ ap Some (sym (old_at q old))))
            (cases_eq (number_at roots q) r))
            (λ (new : n ≤ q). let e : n ≡ q = omega (arith, low, new) in
            subst (λ (k : ℕ). get_or after (number_at roots k) None ≡ Some (number_at (least ++ first ∷ []) k)) e (ap (λ (k : ℕ). get_or after k None) (sym at) ∙ (set_here ∙ ap Some (sym new_at))))
            (cases_lt q n);
        of_class = λ s q e. ⊎_elim
            (λ (here_too : s ≡ r).
            let first_at : Some first ≡ Some q = sym set_here ∙ (ap (λ (k : ℕ). get_or after k None) (sym here_too) ∙ e) in
            let number : first ≡ q = ap number_of first_at in
            let low = facts.0 in
            (omega (arith, number, low), ap (number_at roots) (sym number) ∙ (facts.1 ∙ (sym at ∙ sym here_too))))
            (λ (other : s ≢ r).
            let old = are.of_class s q (sym (get_or-set_other known r s (Some first) None other) ∙ e) in
            let low = old.0 in
            (omega (arith, low), old.1))
            (cases_eq s r);
      })

pub least_ends : (roots least : List ℕ) (known : List (Option ℕ)) → AreLeastTo roots (length roots) known least → AreLeast roots least
least_ends roots least known are =
    record {
      each = are.each;
      before = are.before;
      same = are.same;
      once = λ p q lp lq same.
          let both : Some (number_at least p) ≡ Some (number_at least q) = sym (are.noted p lp) ∙ (ap (λ (k : ℕ). get_or known k None) same ∙ are.noted q lq) in
          ap number_of both;
    }

-- the lowest node above the targets so far, and that of one state
pub record IsForkTo (t : TreeState) (m : Rows) (states : List ℕ) (x one n fork : ℕ) : Type 0 where
  pub first : IsAbove (node_at t.nodes) fork (leaf_at t.leaves (next m one x))
  pub above : AllWithin (λ q. IsAbove (node_at t.nodes) fork (leaf_at t.leaves (next m q x))) states 0 n
  pub lowest : (k : ℕ) → IsAbove (node_at t.nodes) k (leaf_at t.leaves (next m one x)) → All (λ q. IsAbove (node_at t.nodes) k (leaf_at t.leaves (next m q x))) states → IsAbove (node_at t.nodes) k fork

module _ (t : TreeState) (m : Rows) (g : IsTree t) (is : IsMachineOf t m) (states : List ℕ) (x : ℕ) (small : x < t.inputs) (members : All (λ q. q < length t.access) states) where
  target_live : (q : ℕ) → q < length t.access → IsLive (node_at t.nodes (leaf_at t.leaves (next m q x))).content
  target_live q lt = leaf_live t (shape_of t g) (next m q x) (is.within q x lt small)

  pub fork_first : (one fork : ℕ) → fork ≡ leaf_at t.leaves (next m one x) → IsForkTo t m states x one 0 fork
  fork_first one fork at =
      record {
        first = subst (λ (k : ℕ). IsAbove (node_at t.nodes) k (leaf_at t.leaves (next m one x))) (sym at) (above_here t.inputs (node_at t.nodes) (joined t.inputs (node_at t.nodes) g.nodes) (leaf_at t.leaves (next m one x)));
        above = AllWithin-none (λ q. IsAbove (node_at t.nodes) fork (leaf_at t.leaves (next m q x))) states 0;
        lowest = λ k first all. subst (IsAbove (node_at t.nodes) k) (sym at) first;
      }

  pub fork_more : (one n fork target now : ℕ) → one < length t.access → n < length states → target ≡ leaf_at t.leaves (next m (get_or states n 0) x) → IsForkTo t m states x one n fork → IsFork (node_at t.nodes) fork target now → IsForkTo t m states x one (n + 1) now
  fork_more one n fork target now within lt at to is_fork =
      record {
        first = above_trans t.inputs (node_at t.nodes) (joined t.inputs (node_at t.nodes) g.nodes) now fork (leaf_at t.leaves (next m one x)) (target_live one within) is_fork.above_one to.first;
        above = AllWithin-more (λ q. IsAbove (node_at t.nodes) now (leaf_at t.leaves (next m q x))) states 0 n
            (λ k d low high.
            let inside : k < length states = omega (arith, high, lt) in
            above_trans t.inputs (node_at t.nodes) (joined t.inputs (node_at t.nodes) g.nodes) now fork (leaf_at t.leaves (next m (get_or states k d) x)) (target_live (get_or states k d) (members k d inside)) is_fork.above_one (to.above k d low high))
            (λ d. subst (λ (q : ℕ). IsAbove (node_at t.nodes) now (leaf_at t.leaves (next m q x))) (get_or_default states n 0 d lt) (subst (IsAbove (node_at t.nodes) now) at is_fork.above_other));
        lowest = λ k first all. is_fork.lowest k (to.lowest k first all) (subst (IsAbove (node_at t.nodes) k) (sym at) (all n 0 lt));
      }

  pub fork_ends : (one fork : ℕ) → Contains states one → IsForkTo t m states x one (length states) fork → IsForkOf t m states x fork
  fork_ends one fork has to =
      record {
        above = All-from_all_within (λ q. IsAbove (node_at t.nodes) fork (leaf_at t.leaves (next m q x))) states to.above;
        lowest = λ k all. to.lowest k (All-contains (λ q. IsAbove (node_at t.nodes) k (leaf_at t.leaves (next m q x))) states one all has) all;
      }

-- the pair that is found
pub parting_found : (t : TreeState) (roots : List ℕ) (new result : Parting) (found : Option Parting) (A : Type 0) → IsParting t roots new → (result ≡ new) ⊎ (found ≡ Some result) → MatchOption found A (IsParting t roots) → IsParting t roots result
parting_found t roots new result found A is from was =
    ⊎_elim
    (λ (same : result ≡ new). subst (IsParting t roots) (sym same) is)
    (λ (old : found ≡ Some result). subst (λ (o : Option Parting). MatchOption o A (IsParting t roots)) old was)
    from

pub alike_more : (t : TreeState) (roots least : List ℕ) (n : ℕ) (found : Option Parting) → AreAllAlike t roots (number_at least n) n
    → MatchOption found ((q : ℕ) → q < n → AreAllAlike t roots (number_at least q) q) (IsParting t roots) → MatchOption found ((q : ℕ) → q < n + 1 → AreAllAlike t roots (number_at least q) q) (IsParting t roots)
alike_more t roots least n None here was = λ q lt. ⊎_elim
    (λ (low : q < n). was q low)
    (λ (high : n ≤ q). let at : n ≡ q = omega (arith, lt, high) in subst (λ (k : ℕ). AreAllAlike t roots (number_at least k) k) at here)
    (cases_lt q n)
alike_more t roots least n (Some p) here was = was

-- a word that was read
pub got_word : (words access : List (List ℕ)) (i j : ℕ) (word : List ℕ) → slice_get words i ≡ Some word → words ≡ access → i ≡ j → word ≡ word_at access j
got_word words access i j word got same at = sym (get_or_from_slice_get words i word [] got) ∙ (ap (λ (l : List (List ℕ)). word_at l i) same ∙ ap (word_at access) at)

-- one word more
pub record AreWordsTo (t : TreeState) (states : List ℕ) (suffix : List ℕ) (n : ℕ) (words : List (List ℕ)) : Type 0 where
  pub count : length words ≡ n
  pub letters : All (IsWord t.inputs) words
  pub asked : AllWithin (λ q. Contains words (word_at t.access q ++ suffix)) states 0 n
  pub only : All (λ w. (q : ℕ) × Contains states q × (w ≡ word_at t.access q ++ suffix)) words

pub words_more : (t : TreeState) (states suffix : List ℕ) (n : ℕ) (word : List ℕ) (words now : List (List ℕ)) → IsTree t → n < length states → get_or states n 0 < length t.access → IsWord t.inputs suffix → word ≡ word_at t.access (get_or states n 0) ++ suffix → now ≡ words ++ word ∷ [] → AreWordsTo t states suffix n words → AreWordsTo t states suffix (n + 1) now
words_more t states suffix n word words now g lt within letters is grown were =
    subst (AreWordsTo t states suffix (n + 1)) (sym grown)
    (record {
      count = length-append words (word ∷ []) ∙ ap (λ (k : ℕ). k + 1) were.count;
      letters = All-push (IsWord t.inputs) words word were.letters (subst (IsWord t.inputs) (sym is) (All-append (λ y. y < t.inputs) (word_at t.access (get_or states n 0)) suffix (All-get_or (IsWord t.inputs) t.access (get_or states n 0) [] within g.words) letters));
      asked = AllWithin-more (λ q. Contains (words ++ word ∷ []) (word_at t.access q ++ suffix)) states 0 n
          (λ k d low high. Contains-append_left words (word ∷ []) (word_at t.access (get_or states k d) ++ suffix) (were.asked k d low high))
          (λ d. subst (λ (q : ℕ). Contains (words ++ word ∷ []) (word_at t.access q ++ suffix)) (get_or_default states n 0 d lt) (subst (Contains (words ++ word ∷ [])) is (Contains-push words word)));
      only = All-push (λ w. (q : ℕ) × Contains states q × (w ≡ word_at t.access q ++ suffix)) words word were.only (get_or states n 0, Contains-get_or states n 0 lt, is);
    })
