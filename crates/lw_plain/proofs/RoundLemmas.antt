-- Rounds, one at a time.
use Rattle.std.proofs.Common.{◌≡◌, inl, inr, ℕ, ◌-◌, List, [], length, Some, None, refl, ap, ◌∙◌, subst}
use Rattle.lw_mealy.specs.Machine.{Rows}
use Rattle.lw_separate.specs.Canonical.{LeastWord}
use Rattle.lw_plain.specs.Table.{PlainTable, close, split_by, search_word}
use Rattle.lw_plain.specs.Rounds.{Task, Reveals, FailsWords, IsUnrefuted, IsSuiteFor, IsRefined, hypothesis_of, new_row_of, asked_words}
use Rattle.lw_plain.specs.Tested.{TestsWords}
use Rattle.lw_plain.proofs.TestedLemmas.{with_none}

abbrev pub Split : Task → Rows → PlainTable → List ℕ → PlainTable
Split task h t w = close task.letters task.machine (task.most - length t.access) (split_by task.letters h t w (search_word task.machine h t.access (length w) w))

module _ (task : Task) (h : Rows) (t : PlainTable) (same : h ≡ hypothesis_of task t) where
  pub known_refines : new_row_of task t ≡ None → (w : List ℕ) → LeastWord (Reveals task.machine h (asked_words t.batches)) w → (now : PlainTable) → now ≡ Split task h t w → IsRefined task t now
  known_refines closed w least now is = record {
    word = w;
    asked = [];
    counterexample = inl (record { closed = closed; least = subst (λ (n : Rows). LeastWord (Reveals task.machine n (asked_words t.batches)) w) same least }, refl);
    is = is ∙ (ap (λ (n : Rows). Split task n t w) same ∙ ap (λ (s : PlainTable). Split task (hypothesis_of task t) s w) (with_none t));
  }

  pub suite_refines : IsUnrefuted task t → (model : Rows) (suite : List (List ℕ)) → IsSuiteFor task h model suite → (w : List ℕ) (tested : PlainTable) → TestsWords task.machine h suite t tested (Some w)
      → (now : PlainTable) → now ≡ Split task h tested w → IsRefined task t now
  suite_refines ready model suite made w tested tests now is = record {
    word = w;
    asked = tests.asked;
    counterexample = inr (record {
      ready = ready;
      model = model;
      suite = suite;
      made = subst (λ (n : Rows). IsSuiteFor task n model suite) same made;
      fails = subst (λ (n : Rows). FailsWords task.machine n suite w tests.asked) same tests.comes;
    });
    is = is ∙ (ap (λ (n : Rows). Split task n tested w) same ∙ ap (λ (s : PlainTable). Split task (hypothesis_of task t) s w) tests.is);
  }

  pub gives_known : new_row_of task t ≡ None → ((w : List ℕ) → ¬ Reveals task.machine h (asked_words t.batches) w) → IsUnrefuted task t
  gives_known closed none = record { closed = closed; gives = subst (λ (n : Rows). (w : List ℕ) → ¬ Reveals task.machine n (asked_words t.batches) w) same none }

pub same_table : (s : PlainTable) (access suffixes : List (List ℕ)) (batches : List (List (List ℕ))) → s.access ≡ access → s.suffixes ≡ suffixes → s.batches ≡ batches
    → s ≡ record { access = access; suffixes = suffixes; batches = batches }
same_table s access suffixes batches p q r =
    let one : s ≡ record { access = access; suffixes = s.suffixes; batches = s.batches } = ap (λ (x : List (List ℕ)). record s { access = x }) p in
    one ∙ (ap (λ (x : List (List ℕ)). let t : PlainTable = record { access = access; suffixes = x; batches = s.batches } in t) q
    ∙ ap (λ (x : List (List (List ℕ))). let t : PlainTable = record { access = access; suffixes = suffixes; batches = x } in t) r)
