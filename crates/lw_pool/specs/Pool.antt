-- A pool: its workers, and what it has kept of prior answers and of their runs.
use Rattle.std.specs.Prelude.{◌≡◌, ℕ, ◌+◌, ◌<◌, ◌≤◌, List, [], ◌∷◌, ◌++◌, length, map, take, slice_index_or, Bool, Option, Some, None}
use Rattle.std.specs.List.{All}
use Rattle.lw_words.specs.Word.{answers_of, named}
use Rattle.lw_words.specs.declared.kept.KeptAnswer.{KeptAnswer}
use Rattle.lw_words.specs.declared.stop.SulStop.{SulStop}
use Rattle.lw_mealy.specs.Origin.{Origin}
use Rattle.lw_names.specs.Names.{IsGrown}
use Rattle.lw_sul.specs.SessionState.{SessionState}
use Rattle.lw_sul.specs.declared.runs.Run.{Run}
use Rattle.lw_cache.specs.FirstClash.{ClashedWhenKept}
use Rattle.lw_cache.specs.Known.{IsKnown}
use Rattle.lw_cache.specs.declared.stops.AskStop.{AskStop}
use Rattle.lw_cache.specs.declared.stops.AskStop.TheVariants as Ask
use Rattle.lw_names.specs.Naming.{Naming}
use Rattle.lw_desk.specs.Ending.{NamedRun, kept_runs}

-- what a session's system tells, and its journal
pub record Seen : Type 0 where
  pub instance : ℕ
  pub journal : List Run
  pub names : List (List ℕ)
  pub most : ℕ
  pub stop : Option SulStop
  pub origin : Origin
  pub inputs : ℕ
  pub outputs : ℕ

-- what no ask changes of a system and its session
pub record Same (was now : Seen) : Type 0 where
  pub instance : now.instance ≡ was.instance
  pub most : now.most ≡ was.most
  pub origin : now.origin ≡ was.origin
  pub inputs : now.inputs ≡ was.inputs
  pub outputs : now.outputs ≡ was.outputs

-- a session that went on: its journal and its names may have more at their end; one that was stopped stays as it is
pub record WentOn (was now : Seen) : Type 0 where
  pub same : Same was now
  pub more : List Run
  pub journal : now.journal ≡ was.journal ++ more
  pub names : IsGrown was.names now.names
  pub stopped : (s : SulStop) → was.stop ≡ Some s → now ≡ was

-- a session, and beside it what its system tells
pub record Member (S : Type 0) : Type 0 where
  pub session : SessionState S
  pub seen : Seen

-- the sessions by instance, the shared names, the prior answers, all that is kept, the refusal of the last settling, whether one
-- was ever refused, and the numbers of inputs and outputs
pub record PoolState (S : Type 0) : Type 0 where
  pub members : List (Member S)
  pub naming : Naming
  pub prior : List KeptAnswer
  pub kept : List KeptAnswer
  pub stop : Option AskStop
  pub refused : Bool
  pub inputs : ℕ
  pub outputs : ℕ

abbrev pub nobody : Seen
nobody = record { instance = 0; journal = []; names = []; most = 0; stop = None; origin = record { machine = None; link = None; letters = None }; inputs = 0; outputs = 0 }

abbrev pub seen_at : List Seen → ℕ → Seen
seen_at seen i = slice_index_or seen i nobody

abbrev pub seen_of : {S : Type 0} → PoolState S → List Seen
seen_of p = map (λ m. m.seen) p.members

-- the runs of a journal by the names of its system, numbered from n on
abbrev pub journal_runs : List (List ℕ) → ℕ → List Run → List NamedRun
journal_runs names n [] = []
journal_runs names n (r ∷ rs) = record { run = n; word = r.word; names = named names r.outs } ∷ journal_runs names (n + 1) rs

-- the recorded answers stand for the prior ones and the journals: first the prior ones, and then, for each instance,
-- the runs of its journal in order, numbered from 0, with the same letters and the same names of outputs, and nothing
-- else
pub record StandsFor (naming : Naming) (prior kept : List KeptAnswer) (seen : List Seen) : Type 0 where
  pub since : List KeptAnswer
  pub first : kept ≡ prior ++ since
  pub instances : All (λ k. k.instance < length seen) since
  pub runs : (i : ℕ) → i < length seen → kept_runs naming.names i since ≡ journal_runs (seen_at seen i).names 0 (seen_at seen i).journal

-- prior answers: under the number 16, each in the run of its place
abbrev pub ArePrior : List KeptAnswer → Type 0
ArePrior prior = (i : ℕ) (d : KeptAnswer) → i < length prior → ((slice_index_or prior i d).instance ≡ 16) × ((slice_index_or prior i d).run ≡ i)

-- the word of an answer that isn't prior was not known before: it begins no earlier clear answer's word
abbrev pub AskedOnce : List KeptAnswer → List KeptAnswer → Type 0
AskedOnce prior kept = (i : ℕ) (d : KeptAnswer) → length prior ≤ i → i < length kept → ¬ IsKnown (answers_of (take i kept)) (slice_index_or kept i d).word

-- a system's stop is that of its session; a clash is that of an answer that clashed with those kept before it
abbrev pub IsStopOf : List Seen → List KeptAnswer → Option AskStop → Type 0
IsStopOf seen kept None = Unit {0}
IsStopOf seen kept (Some (Ask.Sul i stop)) = (i < length seen) × ((seen_at seen i).stop ≡ Some stop)
IsStopOf seen kept (Some (Ask.Clash c)) = ClashedWhenKept kept c
IsStopOf seen kept (Some Ask.NoMemory) = Unit {0}

abbrev pub origins_of : List Seen → List Origin
origins_of seen = map (λ s. s.origin) seen
