-- The steps of the verdict.
use Rattle.std.proofs.Common.{◌≡◌, ◌≢◌, ◌↔◌, Bool, true, false, ℕ, ◌+◌, ◌-◌, ◌<◌, ◌≤◌, ⊎_elim, List, [], ◌∷◌, ◌++◌, length, set, get_or, take, drop, min, Option, Some, None, IfOk, Result, Ok, slice_get, slice_index, refl, sym, ap, ◌∙◌, subst, arith}
use Rattle.std.specs.List.{All, AllWithin}
use Rattle.std.proofs.lemmas.Bool.{cases_lt}
use Rattle.std.proofs.lemmas.List.{length-map, length-append, length-drop, get_or_append_left, length-take, get_or-take, get_or-drop, get_or_default, get_or-map, get_or-set_other, length-set, take-append-drop}
use Rattle.std.proofs.Math.Seq.{get_or-append_seam}
use Rattle.std.proofs.lemmas.List.Elements.{All-get_or, All-append, All-nil}
use Rattle.std.proofs.lemmas.Option.{get_or_from_slice_get}
use Rattle.lw_words.specs.Word.{Answer, answer_of, answers_of, answer_at}
use Rattle.lw_words.specs.First.{FailsFirst}
use Rattle.lw_words.specs.declared.kept.KeptAnswer.{KeptAnswer}
use Rattle.lw_words.proofs.Lists.{within-map_more}
use Rattle.lw_mealy.specs.Machine.{Rows, IsMachine, answer, IsMinimal, Sure, Gives}
use Rattle.lw_mealy.specs.Difference.{DifferFirst}
use Rattle.lw_separate.specs.Canonical.{IsLeastAccess, IsAccessWord, AreAccessWords, AreLeastAccess}
use Rattle.lw_separate.specs.FirstAlike.{AnyTwoDiffer}
use Rattle.lw_cache.specs.Known.{IsKnown}
use Rattle.lw_words.specs.declared.memory.NoMemory.{NoMemory}
use Rattle.lw_chunks.specs.Size.{suite_size, greatest_suite}
use Rattle.lw_chunks.specs.declared.size.SuiteFault.{SuiteFault}
use Rattle.lw_chunks.specs.declared.size.SuiteFault.TheVariants as too
use Rattle.lw_chunks.specs.declared.method.Method.TheVariants.{W, Wp, H}
use Rattle.lw_suite.specs.Suite.{IsSuite}
use Rattle.lw_wp.specs.WpSuite.{IsWpSuite}
use Rattle.lw_certify.specs.bodies.Stages.{IsJudged, IsOfFault}
use Rattle.lw_chunks.specs.declared.method.Method.{Method}
use Rattle.lw_certify.specs.Verdict.{IsFirstUnreached, AllReached, DiffersAt, IsVerdict}
use Rattle.lw_certify.specs.bodies.Access.{IsAccess}
use Rattle.lw_certify.specs.declared.certificate.Access.{Access}
use Rattle.lw_certify.specs.declared.certificate.Access.TheVariants as found
use Rattle.lw_certify.specs.bodies.Stages.{FirstUnknown, IsFirstUnknown}
use Rattle.lw_certify.specs.declared.verdict.Verdict.{Verdict}
use Rattle.lw_certify.specs.declared.verdict.Verdict.TheVariants as verdict
use Rattle.lw_certify.proofs.SureLemmas.{sure_is_sure}

-- the words that were taken out of a list so far, and what is left in it
pub record Taken (whole : List (Option (List ℕ))) (state : ℕ) (left : List (Option (List ℕ))) (words : List (List ℕ)) : Type 0 where
  pub counted : length words ≡ state
  pub long : length left ≡ length whole
  pub each : (i : ℕ) → i < state → get_or whole i None ≡ Some (get_or words i [])
  pub rest : (i : ℕ) → state ≤ i → get_or left i None ≡ get_or whole i None

kept_at : (kept : List KeptAnswer) (i : ℕ) (k : KeptAnswer) → i < length kept → slice_get kept i ≡ Some k → answer_at (answers_of kept) i ≡ answer_of k
kept_at kept i k lt here = get_or-map answer_of kept i k (record { word = []; outs = [] }) lt ∙ ap answer_of (get_or_from_slice_get kept i k k here)

module _ (P : Answer → Type 0) (kept : List KeptAnswer) (i : ℕ) (k : KeptAnswer) (lt : i < length kept) (here : slice_get kept i ≡ Some k) where
  -- what holds of all answers holds of the one at a number
  pub at_number : All P (answers_of kept) → P (answer_of k)
  at_number all =
      let lt' : i < length (answers_of kept) = rw length-map lt in
      subst P (kept_at kept i k lt here) (All-get_or P (answers_of kept) i (record { word = []; outs = [] }) lt' all)

  pub number_more : P (answer_of k) → AllWithin P (answers_of kept) 0 i → AllWithin P (answers_of kept) 0 (i + 1)
  number_more holds before = within-map_more answer_of P kept i k lt (sym (get_or_from_slice_get kept i k k here)) holds before

pub differ_not_equal : (a b : List ℕ) (place : ℕ) → DifferFirst a b place → a ≢ b
differ_not_equal a b place d e = d.here (ap (λ (l : List ℕ). slice_index l place) e)

-- the first answer that a machine doesn't give
pub differs_at : (h : Rows) (kept : List KeptAnswer) (i place : ℕ) (k : KeptAnswer) → i < length kept → slice_get kept i ≡ Some k → AllWithin (λ a. answer h a.word ≡ a.outs) (answers_of kept) 0 i → DifferFirst (answer h k.word) k.outs place
    → DiffersAt h (answers_of kept) i place
differs_at h kept i place k lt here before d =
    let lt' : i < length (answers_of kept) = rw length-map lt in
    let e : answer_at (answers_of kept) i ≡ answer_of k = kept_at kept i k lt here in
    record {
      first = record {
        within = lt';
        fails = λ x given. differ_not_equal _ _ place d (subst (λ (a : Answer). answer h a.word ≡ a.outs) (get_or_default (answers_of kept) i x (record { word = []; outs = [] }) lt' ∙ e) given);
        before = before;
      };
      here = subst (λ (a : Answer). DifferFirst (answer h a.word) a.outs place) (sym e) d;
    }

-- a list in two parts
module _ {X : Type 0} (P : X → Type 0) (n : ℕ) (xs : List X) where
  pub first_in_take : (i : ℕ) → FailsFirst P (take n xs) i → FailsFirst P xs i
  first_in_take i f =
      let l : length (take n xs) ≡ min n (length xs) = length-take n xs in
      let w = f.within in
      let lt : i < n = omega arith in
      record {
        within = omega arith;
        fails = λ d. subst (λ (x : X). ¬ P x) (get_or-take n xs i d lt) (f.fails d);
        before = λ k d ge below. subst P (get_or-take n xs k d (omega arith)) (f.before k d ge below);
      }

  pub first_after : (i : ℕ) → All P (take n xs) → FailsFirst P (drop n xs) i → FailsFirst P xs (n + i)
  first_after i all f =
      let l : length (drop n xs) ≡ length xs - n = length-drop n xs in
      let t : length (take n xs) ≡ min n (length xs) = length-take n xs in
      let w = f.within in
      record {
        within = omega arith;
        fails = λ d. subst (λ (x : X). ¬ P x) (get_or-drop n xs i d) (f.fails d);
        before = λ k d ge below. ⊎_elim
            (λ (lt : k < n). subst P (get_or-take n xs k d lt) (All-get_or P (take n xs) k d (omega arith) all))
            (λ (le : n ≤ k). let e : n + (k - n) ≡ k = omega arith in subst P (get_or-drop n xs (k - n) d ∙ ap (λ (m : ℕ). get_or xs m d) e) (f.before (k - n) d (omega arith) (omega arith)))
            (cases_lt k n);
      }

  pub all_parts : All P (take n xs) → All P (drop n xs) → All P xs
  all_parts a b = subst (All P) (take-append-drop n xs) (All-append P (take n xs) (drop n xs) a b)

pub all_reached : (a : ℕ) (h : Rows) (words : List (List ℕ)) → AreLeastAccess a h words → AllReached a h
all_reached a h words l q lt = let w = l.words q lt in (get_or words q [], w.does.0, w.does.1)

pub minimal : (a : ℕ) (h : Rows) (words : List (List ℕ)) → AreLeastAccess a h words → AnyTwoDiffer a h → IsMinimal a h
minimal a h words l two = record { reached = all_reached a h words l; apart = two }

-- the words taken so far
module _ (a : ℕ) (h : Rows) (whole : List (Option (List ℕ))) (access : AreAccessWords a h whole) where
  pub taken_start : Taken whole 0 whole []
  taken_start = record { counted = refl; long = refl; each = λ i lt. absurd (omega arith); rest = λ i le. refl }

  word_of : (q : ℕ) (word : List ℕ) → q < length h → get_or whole q None ≡ Some word → IsLeastAccess a h q word
  word_of q word lt is = subst (IsAccessWord a h q) is (access.words q lt)

  pub taken_none : (q : ℕ) (left : List (Option (List ℕ))) (words : List (List ℕ)) → Taken whole q left words → q < length h → get_or left q None ≡ None → IsFirstUnreached a h q
  taken_none q left words t lt is = record {
    state = lt;
    unreached = subst (IsAccessWord a h q) (sym (t.rest q (omega arith)) ∙ is) (access.words q lt);
    before = λ p below. let w = word_of p (get_or words p []) (omega arith) (t.each p below) in (get_or words p [], w.does.0, w.does.1);
  }

  pub taken_more : (q : ℕ) (left more : List (Option (List ℕ))) (words now : List (List ℕ)) (word : List ℕ) → Taken whole q left words → q < length left → get_or left q None ≡ Some word → more ≡ set left q None → now ≡ words ++ word ∷ []
      → Taken whole (q + 1) more now
  taken_more q left more words now word t lt is set_is push =
      let c = t.counted in
      let l : length now ≡ length words + 1 = ap length push ∙ length-append words (word ∷ []) in
      record {
        counted = omega arith;
        long = ap length set_is ∙ (length-set left q None ∙ t.long);
        each = λ i below. ⊎_elim
            (λ (under : i < q). t.each i under ∙ ap (λ (w : List ℕ). Some w) (sym (get_or_append_left words (word ∷ []) [] i (omega arith)) ∙ ap (λ (ws : List (List ℕ)). get_or ws i []) (sym push)))
            (λ (over : q ≤ i).
            let e : i ≡ q = omega arith in
            let here : get_or now q [] ≡ word = ap (λ (ws : List (List ℕ)). get_or ws q []) push ∙ (ap (λ (n : ℕ). get_or (words ++ word ∷ []) n []) (sym c) ∙ get_or-append_seam words word [] []) in
            subst (λ (n : ℕ). get_or whole n None ≡ Some (get_or now n [])) (sym e) (sym (t.rest q (omega arith)) ∙ (is ∙ ap (λ (w : List ℕ). Some w) (sym here))))
            (cases_lt i q);
        rest = λ i le. ap (λ (ws : List (Option (List ℕ))). get_or ws i None) set_is ∙ (get_or-set_other left q i None None (λ e. omega arith) ∙ t.rest i (omega arith));
      }

  pub taken_all : (q : ℕ) (left : List (Option (List ℕ))) (words : List (List ℕ)) → Taken whole q left words → length h ≤ q → q ≤ length h → AreLeastAccess a h words
  taken_all q left words t ge le =
      let c = t.counted in
      record { each = omega arith; words = λ p lt. word_of p (get_or words p []) lt (t.each p (omega arith)) }

-- the first unknown word, chunk by chunk
module _ (ks : List Answer) (n : ℕ) (left : List (List ℕ)) where
  pub found_here : (chunk : List (List ℕ)) (place : ℕ) (word : List ℕ) → chunk ≡ take n left → FailsFirst (IsKnown ks) chunk place → word ≡ get_or chunk place [] → FirstUnknown ks left word
  found_here chunk place word is f at =
      let f' : FailsFirst (IsKnown ks) (take n left) place = subst (λ (xs : List (List ℕ)). FailsFirst (IsKnown ks) xs place) is f in
      let l : length (take n left) ≡ min n (length left) = length-take n left in
      let w = f'.within in
      record { number = place; first = first_in_take (IsKnown ks) n left place f'; here = at ∙ (ap (λ (xs : List (List ℕ)). get_or xs place []) is ∙ get_or-take n left place [] (omega arith)) }

  pub found_later : (chunk rest : List (List ℕ)) (found : Option (List ℕ)) → chunk ≡ take n left → rest ≡ drop n left → All (IsKnown ks) chunk → IsFirstUnknown ks rest found → IsFirstUnknown ks left found
  found_later chunk rest None is is_rest all f = all_parts (IsKnown ks) n left (subst (All (IsKnown ks)) is all) (subst (All (IsKnown ks)) is_rest f)
  found_later chunk rest (Some word) is is_rest all f =
      let first : FailsFirst (IsKnown ks) (drop n left) f.number = subst (λ (xs : List (List ℕ)). FailsFirst (IsKnown ks) xs f.number) is_rest f.first in
      record {
        number = n + f.number;
        first = first_after (IsKnown ks) n left f.number (subst (All (IsKnown ks)) is all) first;
        here = f.here ∙ (ap (λ (xs : List (List ℕ)). get_or xs f.number []) is_rest ∙ get_or-drop n left f.number []);
      }

pub none_left : (ks : List Answer) (left : List (List ℕ)) → left ≡ [] → IsFirstUnknown ks left None
none_left ks left e = subst (λ (xs : List (List ℕ)). IsFirstUnknown ks xs None) (sym e) (All-nil (IsKnown ks))

pub fewer : (n : ℕ) (left rest : List (List ℕ)) → 0 < n → left ≢ [] → rest ≡ drop n left → length rest < length left
fewer n [] rest pos some is = absurd (some refl)
fewer n (x ∷ xs) rest pos some is =
    let l : length (drop n (x ∷ xs)) ≡ length (x ∷ xs) - n = length-drop n (x ∷ xs) in
    let e : length rest ≡ length (drop n (x ∷ xs)) = ap length is in
    omega arith

pub sure_verdict : (method : Method) (a : ℕ) (h : Rows) (ks : List Answer) (k : ℕ) (r : Result Verdict NoMemory) → IsMachine a h → IfOk r (IsVerdict method a h ks k) → r ≡ Ok verdict.Sure → Sure a h ks k
sure_verdict method a h ks k r machine v is = sure_is_sure method a h ks k machine (subst (λ (s : Result Verdict NoMemory). IfOk s (IsVerdict method a h ks k)) is v)

pub nothing_left : (b : Bool) (left : List (List ℕ)) → b ≡ false → ((b ≡ true) ↔ (left ≢ [])) → left ≡ []
nothing_left b [] is more = refl
nothing_left b (x ∷ xs) is more = let yes : b ≡ true = more.1 (λ e. Prim.cc e) in absurd (cc)

pub words_found : (a : ℕ) (h : Rows) (access : Access) (words : List (List ℕ)) → access ≡ found.Words words → IsAccess a h access → AreLeastAccess a h words
words_found a h access words is f = subst (IsAccess a h) is f

-- an element that was read at an index
pub element_is : {X : Type 0} (xs : List X) (i j : ℕ) (x d : X) → j ≡ i → i < length xs → x ≡ get_or xs j x → get_or xs i d ≡ x
element_is xs i j x d same lt is = get_or_default xs i d x lt ∙ (ap (λ (n : ℕ). get_or xs n x) (sym same) ∙ sym is)
