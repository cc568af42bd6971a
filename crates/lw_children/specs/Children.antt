-- What comes of a learning over children.
use Rattle.std.specs.Prelude.{◌≡◌, ◌⊎◌, ℕ, ◌<◌, ◌≤◌, List, [], length, slice_index_or, Option, Some, None, Result, Ok, Err, IfOk, IfErr, OnOk}
use Rattle.std.specs.List.{All}
use Rattle.lw_words.specs.Word.{Answer, AreAnswers, answers_of}
use Rattle.lw_words.specs.Cause.{CountedFault}
use Rattle.lw_words.specs.declared.kept.KeptAnswer.{KeptAnswer}
use Rattle.lw_words.specs.declared.stop.SulStop.{SulStop}
use Rattle.lw_words.specs.declared.stop.SulStop.TheVariants.{BadLine, Failed, Gone}
use Rattle.lw_mealy.specs.Machine.{Gives, Rows}
use Rattle.lw_outside.specs.Links.{LinkState, Transcript, SpawnerState}
use Rattle.lw_cache.specs.FirstClash.{IsFirstClash}
use Rattle.lw_cache.specs.declared.stops.AskStop.TheVariants as ask
use Rattle.lw_desk.specs.Ending.{ComeUp}
use Rattle.lw_names.specs.Naming.{AreSorted}
use Rattle.lw_renumber.specs.Sorting.{HasSorted}
use Rattle.lw_rounds.specs.Learned.{IsLearned, StopsAs}
use Rattle.lw_rounds.specs.declared.learned.Learned.{Learned}
use Rattle.lw_rounds.specs.declared.learner.Kind.{Kind}
use Rattle.lw_rounds.specs.declared.stops.LearnStop.{LearnStop}
use Rattle.lw_rounds.specs.declared.stops.LearnStop.TheVariants as learn
use Rattle.lw_system.specs.NewLines.{count_of}
use Rattle.lw_system.specs.Spawners.{StartsAndRetires}
use Rattle.lw_system.specs.Told.{HasRefused, IfTold, IsStopped}
use Rattle.lw_workers.specs.Machines.{IsReached, IsWithin}
use Rattle.lw_children.specs.Keeping.{KeepsChildren, KeepsWhole}

-- the one whose link is not there could not be started; of the others the record says why
abbrev pub IsChildStop : Option (List (List ℕ)) → SpawnerState → SpawnerState → List LinkState → ℕ → SulStop → Type 0
IsChildStop outputs before now links i stop =
    ((stop ≡ Failed) × (length links ≡ i) × CountedFault before.faults now.faults)
    ⊎ ((i < length links) × ((d : LinkState) → IsStopped outputs stop (slice_index_or links i d)))

-- what bears out why a learning over children stopped
abbrev pub IsCausedBy : Option (List (List ℕ)) → ℕ → SpawnerState → SpawnerState → List LinkState → List KeptAnswer → LearnStop → Type 0
IsCausedBy outputs workers before now links kept (learn.Ask (ask.Sul i stop)) = (i < workers) × IsChildStop outputs before now links i stop
IsCausedBy outputs workers before now links kept (learn.Ask (ask.Clash clash)) = IsFirstClash (answers_of kept) clash
IsCausedBy outputs workers before now links kept (learn.Ask ask.NoMemory) = Unit {0}
IsCausedBy outputs workers before now links kept (learn.Crowd words) = Unit {0}
IsCausedBy outputs workers before now links kept (learn.TooLarge model number) = Unit {0}

-- nothing is wrong with a link: it neither failed nor ended, its transcript is observed, and nothing in it is refused
pub record IsSound (outputs : Option (List (List ℕ))) (link : LinkState) : Type 0 where
  pub faults : ¬ CountedFault 0 link.faults
  pub ends : ¬ CountedFault 0 link.ends
  pub transcript : Transcript
  pub told : link.transcript ≡ Some transcript
  pub good : (line : List ℕ) → ¬ HasRefused outputs line transcript

-- a link counted neither a fault nor an end, whether or not it tells what went over it
pub record IsUncounted (link : LinkState) : Type 0 where
  pub faults : ¬ CountedFault 0 link.faults
  pub ends : ¬ CountedFault 0 link.ends

-- one of this many instances said a bad line
abbrev pub SaysBadLine : ℕ → Result Learned LearnStop → Type 0
SaysBadLine workers (Ok l) = ⊥
SaysBadLine workers (Err (learn.Ask (ask.Sul i Failed))) = ⊥
SaysBadLine workers (Err (learn.Ask (ask.Sul i (BadLine line)))) = i < workers
SaysBadLine workers (Err (learn.Ask (ask.Sul i Gone))) = ⊥
SaysBadLine workers (Err (learn.Ask (ask.Clash clash))) = ⊥
SaysBadLine workers (Err (learn.Ask ask.NoMemory)) = ⊥
SaysBadLine workers (Err (learn.Crowd words)) = ⊥
SaysBadLine workers (Err (learn.TooLarge model number)) = ⊥

-- nothing is left out of what the transcripts of these links tell
abbrev pub LeavesNothing : (letters : List (List ℕ)) (outputs : Option (List (List ℕ))) (names : List (List ℕ)) (since : List KeptAnswer) → List LinkState → Type 0
LeavesNothing letters outputs names since links = (i : ℕ) (d : LinkState) → i < length links → IfTold (KeepsWhole letters outputs names i since) (slice_index_or links i d).transcript

-- a learning over children with letters and perhaps outputs of these names, that began with prior answers; the names are those of
-- the recorded answers' outputs
pub record IsOfChildren (kind : Kind) (words letters : List (List ℕ)) (outputs : Option (List (List ℕ))) (workers k most : ℕ) (prior : List KeptAnswer) (before now : SpawnerState) (learned : Result Learned LearnStop) (kept : List KeptAnswer) (names : List (List ℕ)) : Type 0 where
  -- the children: started in order, and all retired in that order
  pub links : List LinkState
  pub spawner : StartsAndRetires words before now links
  pub few : length links ≤ workers
  pub all : OnOk learned (length links ≡ workers)
  -- where there is a model no start failed
  pub quiet : OnOk learned (now.faults ≡ before.faults)
  -- what is kept, and what was learned of it
  pub keeps : KeepsChildren letters outputs names prior kept links
  -- where there is a model nothing that went over the links is left out
  pub whole : OnOk learned (LeavesNothing letters outputs names keeps.since links)
  pub ok : IfOk learned (λ l. IsLearned kind (length letters) (count_of outputs) k most
      (answers_of kept) l.model l.learner)
  pub stops : IfErr learned (StopsAs (length letters) (count_of outputs) k most (answers_of kept))
  pub causes : IfErr learned (IsCausedBy outputs workers before now links kept)
  -- where nothing outside was wrong and the limits hold for some machine that agrees with the answers, a model comes,
  -- or memory runs out
  pub reached : (m : Rows) → IsWithin (length letters) k most m → Gives m (answers_of kept) →
      ¬ CountedFault before.faults now.faults → All (IsSound outputs) links →
      IsReached (length m) learned
  -- where nothing was counted, observed or not, one comes so, or an instance said a bad line
  pub counted : (m : Rows) → IsWithin (length letters) k most m → Gives m (answers_of kept) →
      ¬ CountedFault before.faults now.faults → All IsUncounted links →
      IsReached (length m) learned ⊎ SaysBadLine workers learned

-- the same where outputs weren't declared, with the names sorted by bytes in the end: the recorded answers and the
-- model have their new numbers
pub record IsOfFree (kind : Kind) (words letters : List (List ℕ)) (workers k most : ℕ) (before now : SpawnerState) (learned : Result Learned LearnStop) (kept : List KeptAnswer) (names : List (List ℕ)) : Type 0 where
  pub links : List LinkState
  pub spawner : StartsAndRetires words before now links
  pub few : length links ≤ workers
  pub all : OnOk learned (length links ≡ workers)
  pub quiet : OnOk learned (now.faults ≡ before.faults)
  pub sorted : AreSorted names
  -- each name came up in a recorded answer
  pub come_up : ComeUp kept names
  pub keeps : KeepsChildren letters None names [] kept links
  pub whole : OnOk learned (LeavesNothing letters None names keeps.since links)
  -- what was learned before the names were sorted, and that it is the same but for the numbers
  pub own : Result Learned LearnStop
  pub own_names : List (List ℕ)
  pub own_answers : List Answer
  pub new_numbers : List ℕ
  pub same : HasSorted new_numbers own_names names own_answers (answers_of kept) own learned
  pub answers : AreAnswers (length letters) own_answers
  pub ok : IfOk own (λ l. IsLearned kind (length letters) 4096 k most own_answers l.model l.learner)
  pub stops : IfErr own (StopsAs (length letters) 4096 k most own_answers)
  pub causes : IfErr learned (IsCausedBy None workers before now links kept)
  pub reached : (m : Rows) → IsWithin (length letters) k most m → Gives m (answers_of kept) →
      ¬ CountedFault before.faults now.faults → All (IsSound None) links →
      IsReached (length m) learned
  pub counted : (m : Rows) → IsWithin (length letters) k most m → Gives m (answers_of kept) →
      ¬ CountedFault before.faults now.faults → All IsUncounted links →
      IsReached (length m) learned ⊎ SaysBadLine workers learned

-- a learning over children by a command, whose outputs were declared or not; prior answers come with declared ones alone
abbrev pub IsOfCommand : Kind → (words letters : List (List ℕ)) → Option (List (List ℕ)) → (workers k most : ℕ) → List KeptAnswer → (before now : SpawnerState) → Result Learned LearnStop → List KeptAnswer → List (List ℕ) → Type 0
IsOfCommand kind words letters None workers k most prior before now learned kept names = (prior ≡ []) × IsOfFree kind words letters workers k most before now learned kept names
IsOfCommand kind words letters (Some outputs) workers k most prior before now learned kept names = (names ≡ outputs) × IsOfChildren kind words letters (Some outputs) workers k most prior before now learned kept names
