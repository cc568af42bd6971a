-- What comes of a learning of a machine: no stop but the learning's own, and a model where the limits allow one.
use Rattle.std.proofs.Common.{◌≡◌, ℕ, zero, suc, ◌<◌, List, [], ◌∷◌, length, map, None, Result, Ok, Err, IfOk, IfErr, is_some, get_or-take, refl, ap, sym, ◌∙◌, subst, subst₂, arith}
use Rattle.std.proofs.lemmas.Bool.{false≢true}
use Rattle.std.proofs.lemmas.List.{length-take-le}
use Rattle.lw_words.specs.Word.{Answer, AreAnswers, answer_at, answers_of}
use Rattle.lw_words.specs.declared.kept.KeptAnswer.{KeptAnswer}
use Rattle.lw_mealy.specs.Machine.{Gives, MealyMachine, Rows}
use Rattle.lw_sul.specs.SessionState.{SessionState}
use Rattle.lw_cache.specs.Clash.{ClashAt, NothingClashes}
use Rattle.lw_cache.specs.FirstClash.{IsFirstClash}
use Rattle.lw_cache.specs.Settling.{IsStopCause, LeavesStop, MayAsk}
use Rattle.lw_cache.specs.declared.stops.AskStop.TheVariants as ask
use Rattle.lw_cache.specs.declared.stops.Clash.{Clash}
use Rattle.lw_cache.proofs.ClashLemmas.{given_never_clash}
use Rattle.lw_names.specs.Naming.{Naming}
use Rattle.lw_pool.specs.Pool.{Member, PoolState, IsStopOf, seen_at, seen_of}
use Rattle.lw_pool.specs.Sharing.{oracle_of}
use Rattle.lw_rounds.specs.declared.settings.Testing.{Testing}
use Rattle.lw_rounds.specs.Laws.{ModelIsLeast, TooManyIsNone, TooLargeForAll}
use Rattle.lw_rounds.specs.Learned.{IsEnoughFor, IsLearned, StopsAs}
use Rattle.lw_rounds.specs.Stops.{learn_stop, IsOwnStop}
use Rattle.lw_rounds.specs.declared.learned.Learned.{Learned}
use Rattle.lw_rounds.specs.declared.learner.Kind.{Kind}
use Rattle.lw_rounds.specs.declared.stops.LearnStop.{LearnStop}
use Rattle.lw_rounds.specs.declared.stops.LearnStop.TheVariants as learn
use Rattle.lw_workers.specs.Leaving.{HasLearned}
use Rattle.lw_workers.specs.Machines.{IsMachineStop, KeepsRuns, IsReached, IsWithin}
use Rattle.lw_workers.specs.bodies.Instances.{IsPoolOf}
use Rattle.lw_workers.proofs.RunLemmas.{keeps_runs}

-- of answers that a machine gives, there are no first two that clash
pub no_first_clash : (m : Rows) (ks : List Answer) (c : Clash) → Gives m ks → ¬ IsFirstClash ks c
no_first_clash m ks c gives is =
    let none : Answer = record { word = []; outs = [] } in
    let before : c.first < c.second = omega (arith, is.here.clear.0, length-take-le c.second ks (omega (arith, is.within))) in
    given_never_clash m ks gives c.first c.second none before is.within
    (c.place, subst (λ (k : Answer). ClashAt k (answer_at ks c.second) c.place) (get_or-take c.second ks c.first none before) is.here.here)

-- where no system stops, a stop is out of memory or the first clash
module _ {S : Type 0} (before now : PoolState S) (nothing : NothingClashes (answers_of before.kept)) (never : (i : ℕ) → (seen_at (seen_of now) i).stop ≡ None) where
  learn_caused : (r : Result Learned LearnStop) → IsStopOf (seen_of now) now.kept now.stop → LeavesStop (learn_stop r) now.stop → IsStopCause (oracle_of before) (oracle_of now) (learn_stop r) → IfErr r (IsMachineStop now.kept)
  learn_caused (Ok l) why left cause = tt
  learn_caused (Err (learn.Ask (ask.Sul i s))) why left cause = let stopped = subst (IsStopOf (seen_of now) now.kept) left why in absurd (false≢true (ap is_some (sym (never i) ∙ stopped.1)))
  learn_caused (Err (learn.Ask (ask.Clash c))) why left cause = cause nothing
  learn_caused (Err (learn.Ask ask.NoMemory)) why left cause = tt
  learn_caused (Err (learn.Crowd words)) why left cause = tt
  learn_caused (Err (learn.TooLarge model number)) why left cause = tt

-- and where a machine gives the answers, it is no clash
pub own_stop : (m : Rows) (kept : List KeptAnswer) → Gives m (answers_of kept) → (stop : LearnStop) → IsMachineStop kept stop → IsOwnStop stop
own_stop m kept gives (learn.Ask (ask.Sul i s)) caused = absurd caused
own_stop m kept gives (learn.Ask (ask.Clash c)) caused = absurd (no_first_clash m (answers_of kept) c gives caused)
own_stop m kept gives (learn.Ask ask.NoMemory) caused = refl
own_stop m kept gives (learn.Crowd words) caused = tt
own_stop m kept gives (learn.TooLarge model number) caused = tt

pub learn_own : (m : Rows) (kept : List KeptAnswer) → Gives m (answers_of kept) → (r : Result Learned LearnStop) → IfErr r (IsMachineStop kept) → IfErr r IsOwnStop
learn_own m kept gives (Ok l) caused = tt
learn_own m kept gives (Err stop) caused = own_stop m kept gives stop caused

-- systems that never stop, as the members of a pool tell them
pub never_stopped : {S : Type 0} (f : SessionState S → Member S) (sessions : List (SessionState S)) (members : List (Member S)) → map f sessions ≡ members → ((s : SessionState S) → (f s).seen.stop ≡ None) → (i : ℕ) → (seen_at (map (λ m. m.seen) members) i).stop ≡ None
never_stopped f sessions members are live i = subst (λ (ms : List (Member _)). (seen_at (map (λ m. m.seen) ms) i).stop ≡ None) are (each sessions i)
  where
    each : (ss : List (SessionState _)) (k : ℕ) → (seen_at (map (λ m. m.seen) (map f ss)) k).stop ≡ None
    each [] k = refl
    each (s ∷ ss) zero = live s
    each (s ∷ ss) (suc k) = each ss k

-- where the limits hold for some machine that gives the answers, a model comes or memory runs out
pub reached : (kind : Kind) (a b k most : ℕ) (ks : List Answer) (r : Result Learned LearnStop) → ModelIsLeast → TooManyIsNone → TooLargeForAll → AreAnswers a ks → IfOk r (λ l. IsLearned kind a b k most ks l.model l.learner) → IfErr r (StopsAs a b k most ks) → IfErr r IsOwnStop → (m : Rows) → IsWithin a k most m → Gives m ks → IsReached (length m) r
reached kind a b k most ks (Ok l) least none large are learned stops own m within gives =
    omega (arith, least kind a b k most ks l.model l.learner are learned m within.machine gives, learned.carried.refined)
reached kind a b k most ks (Err (learn.Ask stop)) least none large are learned stops own m within gives = own
reached kind a b k most ks (Err (learn.Crowd words)) least none large are learned stops own m within gives = none a most ks words are stops m within.machine within.few gives
reached kind a b k most ks (Err (learn.TooLarge model number)) least none large are learned stops own m within gives =
    omega (arith, large a b k most ks model number are stops m within.machine gives, within.small)

-- answers that are enough are so under other names for the number of letters and for what is kept
pub enough_as : (testing : Testing) (a b k : ℕ) (one two : List KeptAnswer) (r : Result Learned LearnStop) → a ≡ b → one ≡ two → IfOk r (λ l. IsEnoughFor testing a k (answers_of one) l.model) → IfOk r (λ l. IsEnoughFor testing b k (answers_of two) l.model)
enough_as testing a b k one two r inputs kept enough = subst₂ (λ (n : ℕ) (ks : List KeptAnswer). IfOk r (λ l. IsEnoughFor testing n k (answers_of ks) l.model)) inputs kept enough

-- what a learning of a machine answers, and what its instances answered
pub record HasEnded (kind : Kind) (t : MealyMachine) (workers k most : ℕ) (prior : List KeptAnswer) (learned : Result Learned LearnStop) (kept : List KeptAnswer) : Type 0 where
  pub ok : IfOk learned (λ l. IsLearned kind t.inputs t.outputs k most (answers_of kept) l.model l.learner)
  pub stops : IfErr learned (StopsAs t.inputs t.outputs k most (answers_of kept))
  pub caused : IfErr learned (IsMachineStop kept)
  pub reached_by : (m : Rows) → IsWithin t.inputs k most m → Gives m (answers_of kept) → IsReached (length m) learned
  pub runs : KeepsRuns t workers prior kept

pub has_ended : {S : Type 0} (kind : Kind) (t : MealyMachine) (workers k most : ℕ) (names : Naming) (prior : List KeptAnswer) (before now : PoolState S) (learned : Result Learned LearnStop) (kept : List KeptAnswer) → ModelIsLeast → TooManyIsNone → TooLargeForAll
    → IsPoolOf t workers names prior before → NothingClashes (answers_of prior) → HasLearned before now (learn_stop learned)
    → ((i : ℕ) → (seen_at (seen_of now) i).stop ≡ None)
    → IfOk learned (λ l. IsLearned kind before.inputs before.outputs k most (answers_of now.kept) l.model l.learner)
    → IfErr learned (StopsAs before.inputs before.outputs k most (answers_of now.kept))
    → kept ≡ now.kept → HasEnded kind t workers k most prior learned kept
has_ended kind t workers k most names prior before now learned kept least none large is nothing left never ok stops same =
    let runs : KeepsRuns t workers prior now.kept = keeps_runs t workers names prior before now (learn_stop learned) is left in
    let ok_of = subst₂ (λ (a b : ℕ). IfOk learned (λ l. IsLearned kind a b k most (answers_of now.kept) l.model l.learner)) is.inputs is.outputs ok in
    let stops_of = subst₂ (λ (a b : ℕ). IfErr learned (StopsAs a b k most (answers_of now.kept))) is.inputs is.outputs stops in
    let cause = left.leaves.cause (subst MayAsk (sym is.stop) tt) in
    let clear = subst (λ (ks : List KeptAnswer). NothingClashes (answers_of ks)) (sym is.kept) nothing in
    let caused_of = learn_caused before now clear never learned left.stands.why left.leaves.told cause in
    subst (HasEnded kind t workers k most prior learned) (sym same) (record {
      ok = ok_of;
      stops = stops_of;
      caused = caused_of;
      reached_by = λ m within gives. reached kind t.inputs t.outputs k most (answers_of now.kept) learned least none large runs.words ok_of stops_of (learn_own m now.kept gives learned caused_of) m within gives;
      runs = runs;
    })
