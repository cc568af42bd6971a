-- A machine that gives answers has a state for each word of a crowd.
use Rattle.std.proofs.Common.{◌≡◌, ◌≢◌, ℕ, zero, suc, ◌<◌, ◌≤◌, ⊎_elim, List, [], ◌++◌, length, take, drop, map, get_or, ap, sym, ◌∙◌, subst, arith}
use Rattle.std.specs.List.{All, AllPairs}
use Rattle.std.proofs.Math.Seq.{drop-append_seam, take-append_seam}
use Rattle.std.proofs.lemmas.Bool.{cases_lt}
use Rattle.std.proofs.lemmas.List.{length-map, length-append, get_or-map, get_or_default, get_or_append_left}
use Rattle.std.proofs.lemmas.List.Elements.{All-get_or, All-from_get_or}
use Rattle.lw_words.specs.Word.{Answer, AreAnswers, answer_at, IsWord, IsPrefix}
use Rattle.lw_words.proofs.Pigeonhole.{no_more_than}
use Rattle.lw_mealy.specs.Machine.{Rows, IsMachine, after, out, answer, Gives}
use Rattle.lw_mealy.proofs.WordLemmas.{after_below, length-out, out-append, out-take}
use Rattle.lw_cache.specs.Clash.{IsClear}
use Rattle.lw_cache.specs.Known.{Reads}
use Rattle.lw_cache.specs.Crowd.{Apart, IsCrowd, CrowdNeedsStates}

-- the front of a word is a word
front_word : (a : ℕ) (u v : List ℕ) → IsWord a (u ++ v) → IsWord a u
front_word a u v all =
    All-from_get_or (λ x. x < a) u 0 (λ i lt. subst (λ (x : ℕ). x < a) (get_or_append_left u v 0 i lt) (All-get_or (λ x. x < a) (u ++ v) i 0 (omega (arith, length-append u v)) all))

-- a machine that gives the answers answers what is read
pub reads_given : (m : Rows) (ks : List Answer) (w o : List ℕ) → Gives m ks → Reads ks w o → o ≡ answer m w
reads_given m ks w o gives read =
    ⊎_elim
    (λ (r : (w ≡ []) × (o ≡ [])). r.1 ∙ ap (answer m) (sym r.0))
    (λ (r : (i : ℕ) × IsClear ks i × IsPrefix w (answer_at ks i).word × (o ≡ take (length w) (answer_at ks i).outs)).
    r.3 ∙ (ap (take (length w)) (sym (gives r.0 (record { word = []; outs = [] }) r.1.0))
    ∙ (sym (out-take m 0 (length w) (answer_at ks r.0).word) ∙ ap (answer m) (ap (take (length w)) r.2.1 ∙ take-append_seam w r.2.0))))
    read

reads_word : (a : ℕ) (ks : List Answer) (w o : List ℕ) → AreAnswers a ks → Reads ks w o → IsWord a w
reads_word a ks w o are read =
    ⊎_elim
    (λ (r : (w ≡ []) × (o ≡ [])). subst (λ (v : List ℕ). IsWord a v) (sym r.0) (λ k d lt. absurd (omega arith)))
    (λ (r : (i : ℕ) × IsClear ks i × IsPrefix w (answer_at ks i).word × (o ≡ take (length w) (answer_at ks i).outs)).
    front_word a w r.2.0 (subst (λ (v : List ℕ). IsWord a v) r.2.1 (are r.0 (record { word = []; outs = [] }) r.1.0).0))
    read

-- words that are apart are words over the letters, and lead to different states
apart_words : (a : ℕ) (ks : List Answer) (u v : List ℕ) → AreAnswers a ks → Apart ks u v → IsWord a u × IsWord a v
apart_words a ks u v are p =
    (front_word a u p.0 (reads_word a ks (u ++ p.0) p.1.one are p.1.one_read), front_word a v p.0 (reads_word a ks (v ++ p.0) p.1.other are p.1.other_read))

rest_read : (m : Rows) (ks : List Answer) (u e o : List ℕ) → Gives m ks → Reads ks (u ++ e) o → drop (length u) o ≡ out m (after m 0 u) e
rest_read m ks u e o gives read =
    ap (drop (length u)) (reads_given m ks (u ++ e) o gives read ∙ out-append m 0 u e)
    ∙ (ap (λ (n : ℕ). drop n (out m 0 u ++ out m (after m 0 u) e)) (sym (length-out m 0 u)) ∙ drop-append_seam (out m 0 u) (out m (after m 0 u) e))

apart_states : (m : Rows) (ks : List Answer) (u v : List ℕ) → Gives m ks → Apart ks u v → after m 0 u ≢ after m 0 v
apart_states m ks u v gives p same =
    p.1.differ (rest_read m ks u p.0 p.1.one gives p.1.one_read ∙ (ap (λ (q : ℕ). out m q p.0) same ∙ sym (rest_read m ks v p.0 p.1.other gives p.1.other_read)))

module _ (a : ℕ) (m : Rows) (ks : List Answer) (words : List (List ℕ)) (machine : IsMachine a m) (are : AreAnswers a ks) (gives : Gives m ks) (crowd : IsCrowd ks words) where
  -- the state after the i-th word
  state : ℕ → ℕ
  state i = after m 0 (get_or words i [])

  -- of two words or more, each is one over the letters
  each_word : 1 < length words → (i : ℕ) → i < length words → IsWord a (get_or words i [])
  each_word two zero lt = (apart_words a ks (get_or words 0 []) (get_or words 1 []) are (crowd 0 1 [] (omega arith) two)).0
  each_word two (suc i) lt = (apart_words a ks (get_or words 0 []) (get_or words (suc i) []) are (crowd 0 (suc i) [] (omega arith) lt)).1

  abbrev states : List ℕ
  states = map (after m 0) words

  at : (i : ℕ) → i < length words → get_or states i 0 ≡ after m 0 (get_or words i [])
  at i lt = get_or-map (after m 0) words i [] 0 lt

  some_words : 1 < length words → length words ≤ length m
  some_words two =
      let size : length states ≡ length words = length-map words (after m 0) in
      let below : All (λ q. q < length m) states = All-from_get_or (λ q. q < length m) states 0 (λ i lt.
      let le : i < length words = omega (arith, size, lt) in
      subst (λ (q : ℕ). q < length m) (sym (at i le)) (after_below a m (get_or words i []) 0 machine machine.some_state (each_word two i le))) in
      let differ : AllPairs (λ x y. x ≢ y) states = λ i j d before within same.
      let lj : j < length words = omega (arith, size, within) in
      let li : i < length words = omega arith in
      let here : (n : ℕ) → n < length words → get_or states n d ≡ after m 0 (get_or words n []) = λ n lt. get_or_default states n d 0 (omega (arith, size, lt)) ∙ at n lt in
      apart_states m ks (get_or words i []) (get_or words j []) gives (crowd i j [] before lj) (sym (here i li) ∙ (same ∙ here j lj)) in
      omega (arith, size, no_more_than (length m) states below differ)

  pub enough_states : length words ≤ length m
  enough_states =
      ⊎_elim (λ (two : 1 < length words). some_words two) (λ (few : length words ≤ 1). omega (arith, few, machine.some_state)) (cases_lt 1 (length words))

pub crowd_needs_states : CrowdNeedsStates
crowd_needs_states a m ks words machine are gives crowd = enough_states a m ks words machine are gives crowd
