-- Renamed machines: their least words, their separators and their suites are the same.
use Rattle.std.proofs.Common.{ℕ, ◌<◌, List, [], length, get_or, Option, None, Some, sym, ◌∙◌, subst, arith}
use Rattle.lw_words.specs.Word.{Answer, AreAnswers, IsWord}
use Rattle.lw_mealy.specs.Machine.{Rows, IsMachine}
use Rattle.lw_separate.specs.Canonical.{IsCanonical, IsLeastAccess, IsLeastSeparating, AreLeastAccess}
use Rattle.lw_separate.specs.Separators.{IsSeparators, IsPair}
use Rattle.lw_suite.specs.Suite.{IsSuite}
use Rattle.lw_draw.specs.Walks.{AreWalks}
use Rattle.lw_draw.specs.declared.drawing.Drawn.{Drawn}
use Rattle.lw_rounds.specs.Learned.{AreWalked}
use Rattle.lw_chunks.specs.declared.method.Method.{Method}
use Rattle.lw_certify.specs.Verdict.{IsSuiteBy, SuiteIsKnown}
use Rattle.lw_renumber.specs.Renaming.{Renames, renamed_rows, renamed_answers}
use Rattle.lw_renumber.proofs.ClashLemmas.{known_stays}
use Rattle.lw_renumber.proofs.MachineLemmas.{after_is, states_same, is_machine, equal_too, minimal_too, differ_too, agree_too}

least_access_too : (f : ℕ → ℕ) (a : ℕ) (m : Rows) (q : ℕ) (w : List ℕ) → IsLeastAccess a m q w → IsLeastAccess a (renamed_rows f m) q w
least_access_too f a m q w is = record {
  does = (is.does.0, after_is f m 0 w ∙ is.does.1);
  least = λ v leads. is.least v (leads.0, sym (after_is f m 0 v) ∙ leads.1);
}

pub access_too : (f : ℕ → ℕ) (a : ℕ) (m : Rows) (list : List (List ℕ)) → AreLeastAccess a m list → AreLeastAccess a (renamed_rows f m) list
access_too f a m list is =
    let n = states_same f m in
    record {
      each = is.each ∙ sym n;
      words = λ q lt. least_access_too f a m q (get_or list q []) (is.words q (subst (λ (s : ℕ). q < s) n lt));
    }

module _ (f g : ℕ → ℕ) (r : Renames f g) (a : ℕ) (m : Rows) (machine : IsMachine a m) where
  least_separating_too : (p q : ℕ) (w : List ℕ) → p < length m → q < length m → IsLeastSeparating a m p q w → IsLeastSeparating a (renamed_rows f m) p q w
  least_separating_too p q w lp lq is = record {
    does = (is.does.0, differ_too f g a m p q w r machine lp lq is.does.0 is.does.1);
    least = λ v parts. is.least v (parts.0, λ same. parts.1 (agree_too f a m p q v machine lp lq parts.0 same));
  }

  pub separators_too : (list : List (List ℕ)) → IsSeparators a m list → IsSeparators a (renamed_rows f m) list
  separators_too list is =
      let n = states_same f m in
      let pair : ℕ → ℕ × ℕ = λ i. get_or is.pairs i (0, 0) in
      let within : (i : ℕ) → i < length list → IsPair m (pair i) = is.states in
      let low : (i : ℕ) → i < length list → (pair i).0 < length m = λ i lt. let s = within i lt in omega (arith, s.0, s.1) in
      let word : (i : ℕ) → i < length list → IsWord a (get_or list i []) = λ i lt. (is.least i lt).does.0 in
      record {
        pairs = is.pairs;
        paired = is.paired;
        states = λ i lt. ((within i lt).0, subst (λ (s : ℕ). (pair i).1 < s) (sym n) (within i lt).1);
        least = λ i lt. least_separating_too (pair i).0 (pair i).1 (get_or list i []) (low i lt) (within i lt).1 (is.least i lt);
        needed = λ i j lt lj.
            agree_too f a m (pair j).0 (pair j).1 (get_or list i []) machine (low j lj) (within j lj).1 (word i (omega (arith, lt, lj))) (is.needed i j lt lj);
        rising = is.rising;
        whole = λ p q lt lq.
            let le : q < length m = subst (λ (s : ℕ). q < s) n lq in
            let h = is.whole p q lt le in
            (h.0, (h.1.0, differ_too f g a m p q (get_or list h.0 []) r machine (omega arith) le (word h.0 h.1.0) h.1.1), h.2);
      }

  pub suite_too : (k : ℕ) (suite : List (List ℕ)) → IsSuite a m k suite → IsSuite a (renamed_rows f m) k suite
  suite_too k suite is = record {
    access = is.access;
    ends = is.ends;
    least = access_too f a m is.access is.least;
    separating = separators_too is.ends is.separating;
    words = is.words;
  }

  -- the walks too, and those that are known stay so
  pub walks_too : (drawn : Drawn) (words : List (List ℕ)) → AreWalks a m drawn words → AreWalks a (renamed_rows f m) drawn words
  walks_too drawn words is = record {
    access = is.access;
    ends = is.ends;
    least = access_too f a m is.access is.least;
    separating = separators_too is.ends is.separating;
    are = is.are;
  }

  pub walked_too : (drawn : Option Drawn) (ks : List Answer) → AreAnswers a ks → AreWalked drawn a ks m → AreWalked drawn a (renamed_answers f ks) (renamed_rows f m)
  walked_too None ks are is = tt
  walked_too (Some d) ks are is = (is.0, walks_too d is.0 is.1, λ i e lt. (known_stays f g r a ks are (get_or is.0 i e)).1 (is.2 i e lt))

  -- a suite that is known stays so, where it is the renamed machine's too
  module _ (method : Method) (too : (k : ℕ) (suite : List (List ℕ)) → IsSuiteBy method a m k suite → IsSuiteBy method a (renamed_rows f m) k suite) where
    pub known_too : (ks : List Answer) (k : ℕ) → AreAnswers a ks → SuiteIsKnown method a m ks k → SuiteIsKnown method a (renamed_rows f m) (renamed_answers f ks) k
    known_too ks k are is = record {
      suite = is.suite;
      whole = too k is.suite is.whole;
      known = λ i d lt. (known_stays f g r a ks are (get_or is.suite i d)).1 (is.known i d lt);
    }

pub canonical_too : (f g : ℕ → ℕ) (a : ℕ) (m c : Rows) → Renames f g → IsMachine a m → IsCanonical a m c → IsCanonical a (renamed_rows f m) (renamed_rows f c)
canonical_too f g a m c r machine is = record {
  machine = is_machine f a c is.machine;
  equal = equal_too f a c m is.machine machine is.equal;
  minimal = minimal_too f g a c r is.machine is.minimal;
  words = is.words;
  least = access_too f a c is.words is.least;
  rising = λ p q lt lq. is.rising p q lt (subst (λ (s : ℕ). q < s) (states_same f c) lq);
}
