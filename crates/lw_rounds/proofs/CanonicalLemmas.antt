-- The canonical form of a machine: it gives what the machine gives, and has as many states as a crowd has words.
use Rattle.std.proofs.Common.{◌≡◌, ◌≢◌, ℕ, ◌<◌, ◌≤◌, List, [], length, map, get_or, refl, sym, ◌∙◌, subst, arith}
use Rattle.std.specs.List.{All, AllPairs}
use Rattle.std.proofs.lemmas.List.{length-map, get_or-map, get_or_default}
use Rattle.std.proofs.lemmas.List.Elements.{All-from_get_or}
use Rattle.lw_words.specs.Word.{Answer, AreAnswers, IsWord}
use Rattle.lw_words.proofs.Pigeonhole.{no_more_than}
use Rattle.lw_mealy.specs.Machine.{Rows, IsMachine, after, Equal, Gives}
use Rattle.lw_mealy.proofs.WordLemmas.{after_below}
use Rattle.lw_separate.specs.Canonical.{IsCanonical}
use Rattle.lw_separate.proofs.UniqueLemmas.{together}
use Rattle.lw_cache.specs.Crowd.{IsCrowd}
use Rattle.lw_cache.proofs.CrowdLemmas.{crowd_needs_states}

-- equal machines give the same answers
pub equal_gives : (a : ℕ) (c m : Rows) (ks : List Answer) → Equal a c m → AreAnswers a ks → Gives m ks → Gives c ks
equal_gives a c m ks same are gives = λ i d lt. same (get_or ks i d).word (are i d lt).0 ∙ gives i d lt

-- a canonical machine is canonical for itself
pub of_itself : (a : ℕ) (m c : Rows) → IsCanonical a m c → IsCanonical a c c
of_itself a m c is = record {
  machine = is.machine;
  equal = λ w letters. refl;
  minimal = is.minimal;
  words = is.words;
  least = is.least;
  rising = is.rising;
}

module _ (a : ℕ) (m c : Rows) (machine : IsMachine a m) (is : IsCanonical a m c) where
  -- the word to a state, and where it leads to in the machine
  abbrev word : ℕ → List ℕ
  word q = get_or is.words q []

  word_is : (q : ℕ) → q < length c → IsWord a (word q)
  word_is q lt = (is.least.words q lt).does.0

  word_leads : (q : ℕ) → q < length c → after c 0 (word q) ≡ q
  word_leads q lt = (is.least.words q lt).does.1

  abbrev states : List ℕ
  states = map (λ w. after m 0 w) is.words

  each : length states ≡ length c
  each = length-map is.words (λ w. after m 0 w) ∙ is.least.each

  at : (q : ℕ) → q < length c → get_or states q 0 ≡ after m 0 (word q)
  at q lt = get_or-map (λ w. after m 0 w) is.words q [] 0 (let size = is.least.each in omega (arith, lt, size))

  equal_mc : Equal a m c
  equal_mc = λ w letters. sym (is.equal w letters)

  pub no_more_states : length c ≤ length m
  no_more_states =
      let below : All (λ q. q < length m) states = All-from_get_or (λ q. q < length m) states 0 (λ q lt.
      let state : q < length c = omega (arith, each, lt) in
      subst (λ (p : ℕ). p < length m) (sym (at q state)) (after_below a m (word q) 0 machine machine.some_state (word_is q state))) in
      let differ : AllPairs (λ x y. x ≢ y) states = λ p q d before within same.
      let lq : q < length c = omega (arith, each, within) in
      let lp : p < length c = omega (arith, before, lq) in
      let here : (n : ℕ) → n < length c → get_or states n d ≡ after m 0 (word n) = λ n lt. get_or_default states n d 0 (omega (arith, each, lt)) ∙ at n lt in
      let one : p ≡ q = sym (word_leads p lp) ∙ (together a m c machine is.machine equal_mc is.minimal (word p) (word q) (word_is p lp) (word_is q lq) (sym (here p lp) ∙ (same ∙ here q lq)) ∙ word_leads q lq) in
      omega (arith, one, before) in
      omega (arith, each, no_more_than (length m) states below differ)

  -- as many as a crowd has words, where the machine has no more
  pub as_many : (ks : List Answer) (words : List (List ℕ)) → AreAnswers a ks → Gives m ks → IsCrowd ks words → length words ≡ length m → length words ≡ length c
  as_many ks words are gives crowd size =
      let most = no_more_states in
      let least : length words ≤ length c = crowd_needs_states a c ks words is.machine are (equal_gives a c m ks is.equal are gives) crowd in
      omega arith
