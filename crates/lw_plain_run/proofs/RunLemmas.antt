-- What rounds come to is what the learner of the definition comes to.
use Rattle.std.proofs.Common.{◌≡◌, ℕ, ◌+◌, add-one, List, Result, Ok, Err, IfOk, refl, ap, sym, subst}
use Rattle.lw_words.specs.declared.memory.NoMemory.{NoMemory}
use Rattle.lw_mealy.specs.Machine.{MealyMachine}
use Rattle.lw_plain.specs.Table.{PlainTable, first_table}
use Rattle.lw_plain.specs.Rounds.{Task, IsRefined, IsRefinedTimes, closed_by}
use Rattle.lw_plain_run.specs.Run.{task_of, IsPlainRun}
use Rattle.lw_plain_run.specs.bodies.Rounds.{IsEnded, told_run}
use Rattle.lw_plain_run.specs.declared.learning.Ended.{Ended}
use Rattle.lw_plain_run.specs.declared.learning.Ended.TheVariants.{Learned, Crowd, OfSize}
use Rattle.lw_plain_run.specs.declared.run.PlainRun.{PlainRun}

pub once_more : (task : Task) (n : ℕ) (start before now : PlainTable) → IsRefinedTimes task n start before → IsRefined task before now → IsRefinedTimes task (n + 1) start now
once_more task n start before now after refined = subst (λ (k : ℕ). IsRefinedTimes task k start now) (sym (add-one n)) (before, after, refined)

pub is_plain_run : (m : MealyMachine) (extra most : ℕ) (given : List (List ℕ)) (start now : PlainTable) (ended : Ended) → start ≡ closed_by (task_of m extra most) (first_table m.inputs given)
    → IsEnded (task_of m extra most) m start now ended → IsPlainRun m extra most given (told_run now ended)
is_plain_run m extra most given start now (Learned model n) begun (alike, (before, times, sure)) = (
  alike,
  record {
    table = before;
    after = subst (λ (s : PlainTable). IsRefinedTimes (task_of m extra most) n s before) begun times;
    ready = sure.ready;
    suite = sure.suite;
    made = sure.made;
    asked = sure.asked;
    passes = sure.passes;
    all = ap (λ (t : PlainTable). t.batches) sure.is;
  },
)
is_plain_run m extra most given start now (Crowd word) begun (n, times, new) = record {
  table = now;
  refinements = n;
  after = subst (λ (s : PlainTable). IsRefinedTimes (task_of m extra most) n s now) begun times;
  word = word;
  new = new;
  is = refl;
  all = refl;
}
is_plain_run m extra most given start now (OfSize model number) begun (alike, (n, before, times, large)) = (
  alike,
  record {
    table = before;
    refinements = n;
    after = subst (λ (s : PlainTable). IsRefinedTimes (task_of m extra most) n s before) begun times;
    ready = large.ready;
    canonical = large.canonical;
    size = large.size;
    large = large.large;
    all = ap (λ (t : PlainTable). t.batches) large.is;
  },
)

pub told_as : (r : Result PlainRun NoMemory) (run : PlainRun) (P : PlainRun → Type 0) → IfOk r (λ told. told ≡ run) → P run → IfOk r P
told_as (Ok told) run P is holds = subst P (sym is) holds
told_as (Err e) run P is holds = tt
