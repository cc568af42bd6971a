-- Sessions of children, before anything was asked and at their end.
use Rattle.std.specs.Prelude.{◌≡◌, ℕ, ◌+◌, ◌<◌, ◌≤◌, List, [], ◌∷◌, ◌++◌, length, map, replicate, slice_index_or, Bool, Option, Some, None, Result, IfOk, IfErr}
use Rattle.lw_words.specs.Word.{answers_of, AllDiffer}
use Rattle.lw_words.specs.declared.kept.KeptAnswer.{KeptAnswer}
use Rattle.std.specs.List.{All}
use Rattle.lw_sul.specs.SessionState.{SessionState, IsJournal}
use Rattle.lw_outside.specs.Links.{LinkState, IsUntouched, SpawnerState}
use Rattle.lw_names.specs.Naming.{Naming}
use Rattle.lw_pool.specs.Pool.{Member, PoolState, Seen}
use Rattle.lw_rounds.specs.Learned.{IsLearned, StopsAs}
use Rattle.lw_rounds.specs.Stops.{learn_stop}
use Rattle.lw_rounds.specs.declared.learned.Learned.{Learned}
use Rattle.lw_rounds.specs.declared.learner.Kind.{Kind}
use Rattle.lw_rounds.specs.declared.stops.LearnStop.{LearnStop}
use Rattle.lw_workers.specs.Leaving.{HasLearned}
use Rattle.lw_line.specs.Causes.{StopIsCounted, IsTranscriptOf}
use Rattle.lw_line.specs.LineState.{AreFree, AreToldIfFree, IsNaming, LineState, told_runs}
use Rattle.lw_system.specs.NewLines.{new_line}

-- what is seen of a session of a child, by the number of its link
abbrev pub line_seen : {L : Type 0} → (L → LinkState) → SessionState (LineState L) → Seen
line_seen state s = record {
  instance = s.instance;
  journal = s.journal;
  names = s.sul.names;
  most = s.sul.most;
  stop = s.sul.stop;
  origin = record { machine = None; link = Some (state s.sul.link).number; letters = Some s.sul.letters };
  inputs = length s.sul.letters;
  outputs = s.sul.outputs;
}

abbrev pub new_session : {L : Type 0} → ℕ → L → List (List ℕ) → Option (List (List ℕ)) → SessionState (LineState L)
new_session instance link letters outputs = record { instance = instance; sul = new_line link letters outputs; journal = [] }

-- sessions of children, each under the number of its place, over links that were started one after the other from a number on
abbrev pub AreNewSessions : {L : Type 0} → (L → LinkState) → List (List ℕ) → Option (List (List ℕ)) → ℕ → List (SessionState (LineState L)) → Type 0
AreNewSessions state letters outputs base sessions =
    (i : ℕ) (d : SessionState (LineState _)) → i < length sessions → let s = slice_index_or sessions i d in (s ≡ new_session i s.sul.link letters outputs) × ((state s.sul.link).number ≡ base + i)

-- the record of a session's link bears out what is seen of the session
pub record BearsOut (s : Seen) (r : LinkState) : Type 0 where
  pub letters : List (List ℕ)
  pub origin : s.origin ≡ record { machine = None; link = Some r.number; letters = Some letters }
  pub counted : StopIsCounted r.faults r.ends s.stop
  -- whether a step cut a run off
  pub cut : Bool
  pub told : IsTranscriptOf letters s.names s.most r.faults s.stop cut r.transcript
  pub few : length s.names ≤ s.most
  pub naming : IsNaming s.names s.most s.outputs
  pub differ : AreFree s.most s.outputs → AllDiffer s.names
  pub told_names : AreToldIfFree s.names s.most s.outputs r.transcript
  pub journal : IsJournal (told_runs letters s.names r.transcript) s.journal s.stop cut

-- the links that were retired before were started before the one of this number
abbrev pub AreEarlier : List LinkState → ℕ → Type 0
AreEarlier retired base = All (λ r. r.number < base) retired

-- links of sessions that were started one after the other from a number on, after all that are retired
pub record AreLinked {L : Type 0} (state : L → LinkState) (sessions : List (SessionState (LineState L))) (spawner : SpawnerState) : Type 0 where
  pub base : ℕ
  pub links : (i : ℕ) (d : SessionState (LineState L)) → i < length sessions →
      (state (slice_index_or sessions i d).sul.link).number ≡ base + i
  pub earlier : 0 < length sessions → AreEarlier spawner.retired base
  pub within : base + length sessions ≤ spawner.started

-- the links of sessions are retired in their order, and nothing else of the spawner changes; each record bears out its session
pub record RetiresAll {L : Type 0} (state : L → LinkState) (sessions : List (SessionState (LineState L))) (before now : SpawnerState) : Type 0 where
  pub records : List LinkState
  pub retired : now.retired ≡ before.retired ++ records
  pub count : length records ≡ length sessions
  pub each : (i : ℕ) (d : SessionState (LineState L)) (e : LinkState) → i < length sessions →
      BearsOut (line_seen state (slice_index_or sessions i d)) (slice_index_or records i e)
  pub started : now.started ≡ before.started
  pub faults : now.faults ≡ before.faults
  pub commands : now.commands ≡ before.commands

-- a link that was started as the one of this number, and over which nothing went, if there is one
abbrev pub IsLoose : {L : Type 0} → (L → LinkState) → ℕ → Option L → Type 0
IsLoose state base None = Unit {0}
IsLoose state base (Some l) = ((state l).number ≡ base) × ((state l).faults ≡ 0) × ((state l).ends ≡ 0) × IsUntouched (state l).transcript

-- how many there are of a link that may be there
abbrev pub count_link : {L : Type 0} → Option L → ℕ
count_link None = 0
count_link (Some l) = 1

-- sessions of children that were started since the spawner was as before, and perhaps a link more
pub record HasBegun {L : Type 0} (state : L → LinkState) (letters : List (List ℕ)) (outputs : Option (List (List ℕ))) (before : SpawnerState) (sessions : List (SessionState (LineState L))) (loose : Option L) : Type 0 where
  pub new : AreNewSessions state letters outputs before.started sessions
  pub loose_is : IsLoose state (before.started + length sessions) loose
  pub earlier : 0 < length sessions + count_link loose → AreEarlier before.retired before.started

-- the record of a link, if there is one
abbrev pub loose_records : {L : Type 0} → (L → LinkState) → Option L → List LinkState
loose_records state None = []
loose_records state (Some l) = state l ∷ []

abbrev pub has_number : {L : Type 0} → (L → LinkState) → ℕ → Option L → Type 0
has_number state n None = Unit {0}
has_number state n (Some l) = (state l).number ≡ n

-- the same of a link more, which was started after those of the sessions
pub record AreLinkedWith {L : Type 0} (state : L → LinkState) (sessions : List (SessionState (LineState L))) (loose : Option L) (spawner : SpawnerState) : Type 0 where
  pub base : ℕ
  pub links : (i : ℕ) (d : SessionState (LineState L)) → i < length sessions →
      (state (slice_index_or sessions i d).sul.link).number ≡ base + i
  pub last : has_number state (base + length sessions) loose
  pub earlier : 0 < length sessions + count_link loose → AreEarlier spawner.retired base
  pub within : base + (length sessions + count_link loose) ≤ spawner.started

pub record RetiresWith {L : Type 0} (state : L → LinkState) (sessions : List (SessionState (LineState L))) (loose : Option L) (before now : SpawnerState) : Type 0 where
  pub between : SpawnerState
  pub first : RetiresAll state sessions before between
  pub retired : now.retired ≡ between.retired ++ loose_records state loose
  pub started : now.started ≡ between.started
  pub faults_same : now.faults ≡ between.faults
  pub commands : now.commands ≡ between.commands

-- the names of a child's outputs are those that were declared, or come as they are met
abbrev pub FitsOutputs : Option (List (List ℕ)) → List (List ℕ) → ℕ → ℕ → Type 0
FitsOutputs None names most outputs = (outputs ≡ 4096) × (most ≤ 256)
FitsOutputs (Some declared) names most outputs = (names ≡ declared) × (most ≡ length declared)

-- what is seen of a session of a child, over the link of this number
pub record IsChildSeen (letters : List (List ℕ)) (outputs : Option (List (List ℕ))) (number : ℕ) (s : Seen) : Type 0 where
  pub origin : s.origin ≡ record { machine = None; link = Some number; letters = Some letters }
  pub fits : FitsOutputs outputs s.names s.most s.outputs

-- the names that are shared from the start
abbrev pub first_naming : Option (List (List ℕ)) → Naming
first_naming None = record { names = []; brought = Some (replicate 16 []) }
first_naming (Some names) = record { names = names; brought = None }

-- a session of a child, and what is seen of it
abbrev pub child_member : {L : Type 0} → (L → LinkState) → SessionState (LineState L) → Member (LineState L)
child_member state s = record { session = s; seen = line_seen state s }

-- a pool of children that were started one after the other, before anything was asked
pub record IsChildrenPool {L : Type 0} (state : L → LinkState) (spawner : SpawnerState) (p : PoolState (LineState L)) : Type 0 where
  pub letters : List (List ℕ)
  pub outputs_declared : Option (List (List ℕ))
  pub base : ℕ
  pub sessions : List (SessionState (LineState L))
  pub new : AreNewSessions state letters outputs_declared base sessions
  pub members : map (child_member state) sessions ≡ p.members
  pub naming : p.naming ≡ first_naming outputs_declared
  pub earlier : 0 < length sessions → AreEarlier spawner.retired base
  pub within : base + length sessions ≤ spawner.started

-- a learning over a pool has ended so, and all links were retired
pub record HasRetired {L : Type 0} (kind : Kind) (state : L → LinkState) (k most : ℕ) (pool : PoolState (LineState L)) (before now : SpawnerState) (result : Result Learned LearnStop) (kept : List KeptAnswer) (naming : Naming) : Type 0 where
  pub left : PoolState (LineState L)
  pub later : List (SessionState (LineState L))
  pub learned : HasLearned pool left (learn_stop result)
  pub members : map (child_member state) later ≡ left.members
  pub retires : RetiresAll state later before now
  pub ok : IfOk result (λ l. IsLearned kind pool.inputs pool.outputs k most (answers_of left.kept)
      l.model l.learner)
  pub stops : IfErr result (StopsAs pool.inputs pool.outputs k most (answers_of left.kept))
  pub kept_is : kept ≡ left.kept
  pub naming_is : naming ≡ left.naming
