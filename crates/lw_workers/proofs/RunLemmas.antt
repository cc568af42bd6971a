-- What the kept answers of a pool of one machine's instances are: the runs of its instances.
use Rattle.std.proofs.Common.{◌≡◌, ℕ, ◌+◌, ◌<◌, ◌==◌, List, [], ◌∷◌, ◌++◌, length, map, filter, All, Option, Some, None, append-nil, get_or, option_and_then, refl, ap, sym, ◌∙◌, subst, arith}
use Rattle.std.specs.List.{range_with_len}
use Rattle.std.proofs.lemmas.List.{length-map}
use Rattle.std.proofs.lemmas.List.Elements.{All-map, All-tail}
use Rattle.std.proofs.lemmas.List.FromFn.{length-range_with_len}
use Rattle.std.proofs.lemmas.Option.{none-some, same_Some, slice_get-get_or}
use Rattle.lw_words.specs.Word.{IsAnswer, answer_of, answers_of, IsWord, named}
use Rattle.lw_words.specs.declared.kept.KeptAnswer.{KeptAnswer}
use Rattle.lw_mealy.specs.Machine.{Gives, MealyMachine, Rows, answer}
use Rattle.lw_mealy.specs.Origin.{Origin}
use Rattle.lw_sul.specs.declared.runs.Run.{Run}
use Rattle.lw_cache.specs.Settling.{IsOf, told_machine}
use Rattle.lw_cache.specs.declared.stops.AskStop.{AskStop}
use Rattle.lw_desk.specs.Ending.{NamedRun, kept_runs}
use Rattle.lw_names.specs.Naming.{Naming}
use Rattle.lw_pool.specs.Opening.{MayBegin}
use Rattle.lw_pool.specs.Sharing.{declared_by}
use Rattle.lw_pool.specs.Pool.{PoolState, AskedOnce, seen_at, seen_of, origins_of, journal_runs}
use Rattle.lw_workers.specs.Leaving.{HasLearned}
use Rattle.lw_workers.specs.Machines.{KeepsRuns, run_numbers}
use Rattle.lw_workers.specs.bodies.Instances.{IsPoolOf}

abbrev numbers : List NamedRun → List ℕ
numbers runs = map (λ r. r.run) runs

journal_numbers : (names : List (List ℕ)) (n : ℕ) (rs : List Run) → numbers (journal_runs names n rs) ≡ range_with_len n (length rs)
journal_numbers names n [] = refl
journal_numbers names n (r ∷ rs) = ap (λ (l : List ℕ). n ∷ l) (journal_numbers names (n + 1) rs)

same_numbers : (names : List (List ℕ)) (kept : List KeptAnswer) → numbers (map (λ k. record { run = k.run; word = k.word; names = named names k.outs }) kept) ≡ map (λ k. k.run) kept
same_numbers names [] = refl
same_numbers names (k ∷ kept) = ap (λ (l : List ℕ). k.run ∷ l) (same_numbers names kept)

counted_up : (ns : List ℕ) (n : ℕ) → ns ≡ range_with_len 0 n → ns ≡ range_with_len 0 (length ns)
counted_up ns n same = same ∙ ap (range_with_len 0) (sym (ap (λ (l : List ℕ). length l) same ∙ length-range_with_len 0 n))

-- an instance whose kept runs are its journal's has the runs 0, 1, 2 and so on
pub numbered_up : (names own : List (List ℕ)) (i : ℕ) (kept : List KeptAnswer) (journal : List Run) → kept_runs names i kept ≡ journal_runs own 0 journal → run_numbers i kept ≡ range_with_len 0 (length (run_numbers i kept))
numbered_up names own i kept journal same =
    counted_up (run_numbers i kept) (length journal)
    (sym (same_numbers names (filter (λ k. k.instance == i) kept))
    ∙ (ap numbers same ∙ journal_numbers own 0 journal))

-- where each instance tells one machine, an answer of an instance is the machine's
machine_told : (m : Rows) (origins : List Origin) → All (λ o. o.machine ≡ Some m) origins → (i : ℕ) → i < length origins → told_machine origins i ≡ Some m
machine_told m [] all i lt = absurd (omega (arith, lt))
machine_told m (o ∷ os) all i lt = ap (option_and_then (λ (x : Origin). x.machine)) (slice_get-get_or (o ∷ os) i o lt) ∙ all i o lt

pub all_given : (m : Rows) (origins : List Origin) (kept : List KeptAnswer) → All (λ o. o.machine ≡ Some m) origins → All (λ k. k.instance < length origins) kept → All (λ k. IsOf (told_machine origins k.instance) (answer_of k)) kept → Gives m (answers_of kept)
all_given m origins kept machines instances told =
    All-map (λ k. answer m k.word ≡ k.outs) answer_of kept
    (λ i d lt. subst (λ (o : Option Rows). IsOf o (answer_of (get_or kept i d))) (machine_told m origins machines (get_or kept i d).instance (instances i d lt)) (told i d lt))

all_right : {X : Type 0} (P : X → Type 0) (xs ys : List X) → All P (xs ++ ys) → All P ys
all_right P [] ys all = all
all_right P (x ∷ xs) ys all = all_right P xs ys (All-tail P x (xs ++ ys) all)

-- what a pool of a machine's instances keeps once a learning with it has ended are the prior answers and the runs of the
-- instances
pub keeps_runs : {S : Type 0} (t : MealyMachine) (workers : ℕ) (names : Naming) (prior : List KeptAnswer) (before now : PoolState S) (stop : Option AskStop) → IsPoolOf t workers names prior before → HasLearned before now stop → KeepsRuns t workers prior now.kept
keeps_runs t workers names prior before now stop is left =
    let since = left.stands.stands.since in
    let same : now.prior ≡ prior = left.prior ∙ is.prior_is in
    let all : now.kept ≡ now.prior ++ since = left.stands.stands.first in
    let count : length (seen_of now) ≡ workers = left.sessions ∙ is.sessions in
    let long : length (origins_of (seen_of now)) ≡ length (seen_of now) = length-map (seen_of now) (λ s. s.origin) in
    let within : All (λ k. k.instance < length (seen_of now)) since = left.stands.stands.instances in
    record {
      since = since;
      first = all ∙ ap (λ (l : List KeptAnswer). l ++ since) same;
      instances_are = subst (λ (n : ℕ). All (λ k. k.instance < n) since) count within;
      numbered = λ i lt.
          numbered_up now.naming.names (seen_at (seen_of now) i).names i since (seen_at (seen_of now) i).journal
          (left.stands.stands.runs i (omega (arith, lt, count)));
      words = subst (λ (n : ℕ). All (IsAnswer n) (answers_of now.kept)) (left.leaves.same.inputs ∙ is.inputs) (All-map (IsAnswer now.inputs) answer_of now.kept left.stands.keeps.answers);
      outputs = subst (λ (n : ℕ). All (λ k. IsWord n k.outs) now.kept) (left.leaves.same.outputs ∙ is.outputs) left.stands.keeps.outputs_below;
      gives = all_given t.rows (origins_of (seen_of now)) since
          (subst (All (λ o. o.machine ≡ Some t.rows)) (sym left.leaves.same.origins) is.machines)
          (subst (λ (n : ℕ). All (λ k. k.instance < n) since) (sym long) within)
          (all_right (λ k. IsOf (told_machine (origins_of (seen_of now)) k.instance) (answer_of k)) now.prior since
          (subst (All (λ k. IsOf (told_machine (origins_of (seen_of now)) k.instance) (answer_of k))) all left.stands.keeps.told));
      once = subst (λ (l : List KeptAnswer). AskedOnce l now.kept) same left.stands.once;
    }

-- where no instance was asked anything, the prior answers alone are kept
pub keeps_prior : (t : MealyMachine) (workers : ℕ) (names : Naming) (prior : List KeptAnswer) → MayBegin names t.inputs t.outputs prior → KeepsRuns t workers prior prior
keeps_prior t workers names prior may = record {
  since = [];
  first = sym (append-nil prior);
  instances_are = λ i d lt. absurd (omega (arith, lt));
  numbered = λ i lt. refl;
  words = All-map (IsAnswer t.inputs) answer_of prior may.answers;
  outputs = may.below;
  gives = λ i d lt. absurd (omega (arith, lt));
  once = λ i d le lt. absurd (omega (arith, le, lt));
}

-- declared names are as they were
same_naming : (names shared : List (List ℕ)) (brought : Option (List (List (List ℕ)))) → declared_by shared brought ≡ Some names → ◌≡◌ {A = Naming} (record { names = shared; brought = brought }) (record { names = names; brought = None })
same_naming names shared None same = ap (λ (l : List (List ℕ)). let n : Naming = record { names = l; brought = None } in n) (same_Some shared names same)
same_naming names shared (Some brought) same = absurd (none-some names same)

pub keeps_naming : {S : Type 0} (t : MealyMachine) (workers : ℕ) (names : List (List ℕ)) (naming : Naming) (prior : List KeptAnswer) (before now : PoolState S) (stop : Option AskStop) → naming ≡ record { names = names; brought = None } → IsPoolOf t workers naming prior before → HasLearned before now stop → now.naming ≡ naming
keeps_naming t workers names naming prior before now stop declared is left =
    same_naming names now.naming.names now.naming.brought (left.leaves.same.names ∙ ap (λ (n : Naming). declared_by n.names n.brought) (is.naming ∙ declared))
    ∙ sym declared
