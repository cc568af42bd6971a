-- Answers that are enough by a method cover the machine, and those that make its suite known are enough.
use Rattle.std.proofs.Common.{◌≡◌, ℕ, ◌+◌, List, ◌++◌, take, get_or, subst, []}
use Rattle.std.specs.List.{All}
use Rattle.std.proofs.lemmas.List.Elements.{All-contains}
use Rattle.lw_words.specs.Word.{Answer}
use Rattle.lw_mealy.specs.Machine.{Rows, IsMachine, Gives, IsMinimal}
use Rattle.lw_chunks.specs.Middle.{words_up_to, suite_of}
use Rattle.lw_chunks.specs.declared.method.Method.{Method}
use Rattle.lw_chunks.specs.declared.method.Method.TheVariants.{W, Wp, H}
use Rattle.lw_cache.specs.Known.{IsKnown}
use Rattle.lw_suite.proofs.LetterLemmas.{suite_is_of_words}
use Rattle.lw_wp.specs.WpTells.{TellsApart, TellsStates}
use Rattle.lw_wp.proofs.GreedySuiteLemmas.{greedy_is_h_suite, greedy_is_of_words}
use Rattle.lw_wp.proofs.TellsLemmas.{wp_suite_tells}
use Rattle.lw_wp.proofs.WpSuiteLemmas.{wp_suite_is_of_words}
use Rattle.lw_apart.specs.Covers.{KnownApart, Covers}
use Rattle.lw_apart.proofs.CoverLemmas.{at, is_access, covers_of}
use Rattle.lw_certify.specs.Verdict.{AreEnoughBy, EnoughCovers, SuiteIsEnough, SuitesAreOfWords}
use Rattle.lw_certify.proofs.SuiteLemmas.{told_by_suite}
use Rattle.lw_certify.proofs.Tells.{w_tells}

-- all words of a suite that tells the states apart are known
module _ (h : Rows) (ks : List Answer) (suite : List (List ℕ)) (known : All (IsKnown ks) suite) where
  apart_by : (u v : List ℕ) → TellsApart h suite u v → KnownApart h ks u v
  apart_by u v t = record {
    suffix = t.suffix;
    one = All-contains (IsKnown ks) suite (u ++ t.suffix) known t.one;
    other = All-contains (IsKnown ks) suite (v ++ t.suffix) known t.other;
    differ = t.differ;
  }

  pub covers_told : (a k : ℕ) → IsMinimal a h → Gives h ks → TellsStates a h k suite → Covers a h ks k
  covers_told a k minimal gives t = record {
    minimal = minimal;
    gives = gives;
    access = t.access;
    least = t.least;
    known = λ q w lq is le. All-contains (IsKnown ks) suite (get_or t.access q [] ++ w) known (t.has q w lq is le);
    apart = λ p q w lp lq is le n. apart_by (get_or t.access p []) (get_or t.access q [] ++ w) (t.apart p q w lp lq is le n);
    along = λ q w i j lq is len some lo hi n. apart_by (get_or t.access q [] ++ take i w) (get_or t.access q [] ++ take j w) (t.along q w i j lq is len some lo hi n);
  }

pub enough_covers : EnoughCovers
enough_covers W a h ks k machine minimal gives s =
    let access : List (List ℕ) = s.whole.access in
    let known : All (IsKnown ks) (suite_of access (words_up_to a (k + 1)) s.whole.ends) = subst (All (IsKnown ks)) s.whole.words s.known in
    covers_of a h access machine s.whole.least ks k
    (w_tells a h (at a h access machine s.whole.least) s.whole.ends k (IsKnown ks) machine (is_access a h access machine s.whole.least)
    (told_by_suite a h access s.whole.ends s.whole.least s.whole.separating ks k known))
    minimal gives
enough_covers Wp a h ks k machine minimal gives s = covers_told h ks s.suite s.known a k minimal gives (wp_suite_tells a h k s.suite machine s.whole)
enough_covers H a h ks k machine minimal gives covers = covers

pub suite_is_enough : SuiteIsEnough
suite_is_enough W a h ks k suite machine minimal gives is known = record { suite = suite; whole = is; known = known }
suite_is_enough Wp a h ks k suite machine minimal gives is known = record { suite = suite; whole = is; known = known }
suite_is_enough H a h ks k suite machine minimal gives is known = covers_told h ks suite known a k minimal gives (greedy_is_h_suite a h k suite machine is).tells

pub suites_are_of_words : SuitesAreOfWords
suites_are_of_words W a h k suite is = suite_is_of_words a h k suite is
suites_are_of_words Wp a h k suite is = wp_suite_is_of_words a h k suite is
suites_are_of_words H a h k suite is = greedy_is_of_words a h k suite is
