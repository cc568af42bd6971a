-- What a round leaves.
use Rattle.std.proofs.Common.{◌≡◌, ℕ, ◌+◌, ◌<◌, List, [], ◌∷◌, length, take, None, Result, Ok, Err, IfOk, refl, ap, sym, subst, arith}
use Rattle.std.specs.List.{All}
use Rattle.std.proofs.lemmas.List.{length-take-le}
use Rattle.std.proofs.lemmas.List.Elements.{All-contains, All-take, All-get_or}
use Rattle.lw_words.specs.Word.{IsWord}
use Rattle.lw_mealy.specs.Machine.{Rows, MealyMachine}
use Rattle.lw_mealy.proofs.WordLemmas.{length-out}
use Rattle.lw_separate.specs.Canonical.{IsCanonical}
use Rattle.lw_chunks.specs.Size.{suite_size, greatest_suite}
use Rattle.lw_cache.specs.Cut.{word_at}
use Rattle.lw_plain.specs.Table.{PlainTable}
use Rattle.lw_plain.specs.Rounds.{Task, Reveals, FailsWords, IsUnrefuted, IsSuiteFor, hypothesis_of}
use Rattle.lw_plain.specs.Tested.{TestsWords}
use Rattle.lw_plain_run.specs.bodies.Rounds.{IsSure, IsLarge}
use Rattle.lw_words.specs.declared.memory.NoMemory.{NoMemory}
use Rattle.lw_chunks.specs.declared.size.SuiteFault.{SuiteFault}
use Rattle.lw_chunks.specs.declared.size.SuiteFault.TheVariants as fault_of
use Rattle.lw_plain_run.specs.declared.rounds.Round.{Round}
use Rattle.lw_plain_run.specs.declared.rounds.Round.TheVariants as round_of
use Rattle.lw_plain.proofs.MachineLemmas.{left_all}

-- the words that are found are over the letters, and not empty
module _ (a : ℕ) (m h : Rows) (words : List (List ℕ)) (letters : All (IsWord a) words) where
  pub revealed_word : (w : List ℕ) → Reveals m h words w → IsWord a w
  revealed_word w r =
      let whole = All-contains (IsWord a) words r.whole letters r.asked in
      left_all (λ x. x < a) w r.front.0 (subst (IsWord a) r.front.1 whole)

  pub failed_word : (w : List ℕ) (asked : List (List (List ℕ))) → FailsWords m h words w asked → IsWord a w
  failed_word w asked f =
      let whole : IsWord a (word_at words f.number) = All-get_or (IsWord a) words f.number [] f.first.within letters in
      subst (IsWord a) (sym f.here.is) (All-take (λ x. x < a) (f.here.place + 1) (word_at words f.number) whole)

pub revealed_some : (m h : Rows) (words : List (List ℕ)) (w : List ℕ) → Reveals m h words w → 0 < length w
revealed_some m h words [] r = absurd (r.differ refl)
revealed_some m h words (x ∷ w) r = omega arith

pub failed_some : (m h : Rows) (words : List (List ℕ)) (w : List ℕ) (asked : List (List (List ℕ))) → FailsWords m h words w asked → 0 < length w
failed_some m h words w asked f =
    let v = word_at words f.number in
    let lt = f.here.first.within in
    let long = length-out h 0 v in
    let size : length w ≡ length (take (f.here.place + 1) v) = ap (λ (u : List ℕ). length u) f.here.is in
    let front = length-take-le (f.here.place + 1) v (omega (arith, lt, long)) in
    omega (arith, size, front)

module _ (task : Task) (h : Rows) (t : PlainTable) (same : h ≡ hypothesis_of task t) where
  pub suite_passes : IsUnrefuted task t → (model : Rows) (suite : List (List ℕ)) → IsSuiteFor task h model suite → (tested : PlainTable) → TestsWords task.machine h suite t tested None → IsSure task t tested model
  suite_passes ready model suite made tested tests =
      let tested_so : TestsWords task.machine (hypothesis_of task t) suite t tested None = subst (λ (n : Rows). TestsWords task.machine n suite t tested None) same tests in
      record {
        ready = ready;
        suite = suite;
        made = subst (λ (n : Rows). IsSuiteFor task n model suite) same made;
        asked = tested_so.asked;
        passes = tested_so.comes;
        is = tested_so.is;
      }

  pub large_suite : IsUnrefuted task t → (model : Rows) (number : ℕ) → IsCanonical task.letters h model → number ≡ suite_size (length model) task.letters task.extra → greatest_suite < number → IsLarge task t t model number
  large_suite ready model number canonical size large = record {
    ready = ready;
    canonical = subst (λ (n : Rows). IsCanonical task.letters n model) same canonical;
    size = size;
    large = large;
    is = refl;
  }

-- what a round without a suite comes to
pub by_fault : (fault : SuiteFault) (model : MealyMachine) (P : Round → Type 0) (r : Result Round NoMemory) → IfOk r (λ round. (number : ℕ) × (fault ≡ fault_of.TooLarge number) × (round ≡ round_of.TooLarge model number))
    → ((number : ℕ) → fault ≡ fault_of.TooLarge number → P (round_of.TooLarge model number)) → IfOk r P
by_fault fault model P (Ok round) gives holds = subst P (sym gives.2) (holds gives.0 gives.1)
by_fault fault model P (Err e) gives holds = tt
