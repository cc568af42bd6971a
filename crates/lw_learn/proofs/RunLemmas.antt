-- How a call ends that has learned a system, by what the learning answered.
use Rattle.std.proofs.Common.{◌≡◌, ◌≢◌, ◌∙◌, ◌∷◌, ◌⊎◌, ⊎_elim, ℕ, ◌<◌, ◌≤◌, ◌+◌, ◌-◌, ◌^◌, min, List, [], ◌++◌, length, Option, Some, None, Result, Ok, Err, IfErr, IfOk, OnOk, IfSome, option_and_then, option_map, inl, inr, refl, ap, sym, subst, arith}
use Rattle.std.proofs.Math.Nat.{le-min, le_trans, min-le_left, min-le_right}
use Rattle.std.specs.List.{All}
use Rattle.lw_words.specs.Word.{answers_of}
use Rattle.lw_words.specs.Cause.{CountedFault}
use Rattle.lw_words.specs.declared.kept.KeptAnswer.{KeptAnswer}
use Rattle.lw_words.specs.declared.stop.SulStop.TheVariants as sul
use Rattle.lw_cache.specs.declared.stops.AskStop.TheVariants as ask
use Rattle.lw_cache.specs.declared.stops.Clash.{Clash}
use Rattle.lw_names.specs.Naming.{Naming}
use Rattle.lw_mealy.specs.Machine.{Gives, MealyMachine, Rows}
use Rattle.lw_rounds.specs.Learner.{refinements_of}
use Rattle.lw_rounds.specs.declared.learned.Learned.{Learned as Found}
use Rattle.lw_rounds.specs.declared.settings.Testing.{Testing}
use Rattle.lw_rounds.specs.declared.learner.Kind.{Kind}
use Rattle.lw_rounds.specs.declared.learner.Learner.{Learner}
use Rattle.lw_rounds.specs.declared.stops.LearnStop.{LearnStop}
use Rattle.lw_rounds.specs.declared.stops.LearnStop.TheVariants as learn
use Rattle.lw_workers.specs.Machines.{IsReached, IsWithin}
use Rattle.lw_outside.specs.Files.{File, FilesState}
use Rattle.lw_outside.specs.Links.{LinkState, SpawnerState}
use Rattle.lw_children.specs.Children.{IsOfCommand, IsSound, IsUncounted, SaysBadLine}
use Rattle.lw_outside.specs.Streams.{SinkState}
use Rattle.lw_report.specs.Ends.{IsWithoutLearner}
use Rattle.lw_report.specs.Learnings.{HasModel, learn_outcome}
use Rattle.lw_report.specs.Outcomes.{HasOwnText, StandsOrWants}
use Rattle.lw_report.specs.Text.{names_of, text_of}
use Rattle.lw_report.specs.Writing.{TakesAll, TakesSome, said_text}
use Rattle.lw_report.specs.declared.«end».End.{End}
use Rattle.lw_report.specs.declared.role.Role.{Role}
use Rattle.lw_report.specs.declared.role.Role.TheVariants.{Answers, Kept, Model}
use Rattle.lw_report.specs.declared.role.Role.TheVariants as role
use Rattle.lw_report.specs.declared.outcome.Outcome.{Outcome}
use Rattle.lw_report.specs.declared.outcome.Outcome.TheVariants.{Learned, Trial, Yes, Served, No, Usage, BadFile, Alphabets, FileTooLong, Nondeterministic, NoMemory, SulFailed, Gone, BadLine, BadAsk, TooManyStates, SuiteTooLarge, FileFault, SourceFault, SinkFault, Compared, Asked, Helped, Rechecked, UnknownLetter, Unstarted, Accepted, BadAcceptor, NotAcceptor}
use Rattle.lw_outside.proofs.SinkLemmas.{sink_none}
use Rattle.lw_plain.specs.Rounds.{Task}
use Rattle.lw_rounds.specs.Plain.{plain_task}
use Rattle.lw_workers.specs.Asking.{AnswersWords}
use Rattle.lw_workers.specs.Plain.{HasPlainWords, RunsAsPlain}
use Rattle.lw_learn.specs.Arguments.{LearnValues}
use Rattle.lw_learn.specs.Asking.{IsWordlessTask}
use Rattle.lw_learn.specs.Calls.{MadeWrites}
use Rattle.lw_json.specs.declared.files.Machine.{Machine}
use Rattle.lw_system.specs.NewLines.{count_of}
use Rattle.lw_learn.specs.Ending.{Carries, EndsLearned, EndsLeaving, EndsPlainly, EndsRead, EndsUnread, IsEndOf, IsSoundSystem, IsToldOf, IsUncountedSystem, end_outputs}
use Rattle.lw_learn.specs.Last.{LeavesLast, model_learned}
use Rattle.lw_learn.specs.Findings.{IsOfSystem, LearningStopsBy}
use Rattle.lw_learn.specs.Outcomes.{HasFiles, HasModelFile, IsBadLine, IsBehindOut, IsLearnedOutcome, IsNoAcceptor, IsReachedAcceptor, IsReachedMachine, IsReachedOutcome, IsUntold, ModelIsTold, ReportIsTold, told_of}
use Rattle.lw_learn.specs.Saving.{HasSaved, IsKeptWritten, IsSaved, IsTextWritten, KeptStand, MayTell, saved_outcome}
use Rattle.lw_system.specs.Goals.{IsSystemFor}
use Rattle.lw_system.specs.Systems.{declared_of, letters_of}
use Rattle.lw_learn.specs.Writing.{IsModelText, NothingFailed, StaysBesides, TakesInTurn, WritesFiles, WritesModel, WritesOut, model_line}
use Rattle.lw_learn.specs.bodies.UnreadState.{UnreadState}
use Rattle.lw_learn.specs.Unread.{IsUnreadAs, IsUnreadBy, names_read}
use Rattle.lw_learn.specs.bodies.Ready.{GivesModel, IsMachineFor}
use Rattle.lw_learn.specs.Probes.{IsUnwritable}
use Rattle.lw_learn.specs.bodies.Probing.{IsProbedStage}
use Rattle.lw_learn.specs.bodies.Stages.{SaysWorded}
use Rattle.lw_learn.specs.declared.saving.Saved.{Saved}
use Rattle.lw_learn.specs.declared.saving.Saved.TheVariants as saving
use Rattle.lw_learn.specs.declared.task.WordedTask.{WordedTask}
use Rattle.lw_system.specs.declared.goal.Goal.{Goal}
use Rattle.lw_system.specs.declared.goal.Goal.TheVariants as aim
use Rattle.lw_system.specs.declared.system.System.{System}
use Rattle.lw_system.specs.declared.system.System.TheVariants.{Table, Children}
use Rattle.lw_learn.proofs.WriteLemmas.{gained_none, holds_beside, out_untold, stays_joined, stays_same, text_same}

-- an outcome that stands, or is out of memory, has what both have
pub stands_as : (P : Outcome → Type 0) (outcome result : Outcome) → StandsOrWants outcome result → P outcome → P NoMemory → P result
stands_as P outcome result stands here memory =
    elim stands as (λ _. P result) [
      | inl same ↦ subst P (sym same) here
      | inr wants ↦ subst P (sym wants.1) memory
    ]

-- what a learning comes to that stopped
pub by_stop : (P : Outcome → Type 0) → P NoMemory → ((c : Clash) → P (Nondeterministic c)) → ((i : ℕ) → P (SulFailed i)) → ((i : ℕ) → P (Gone i)) → ((i : ℕ) (line : List ℕ) → P (BadLine i line)) → ((words : List (List ℕ)) → P (TooManyStates words)) → ((states number : ℕ) → P (SuiteTooLarge states number)) → (stop : LearnStop) → P (learn_outcome stop)
by_stop P memory clash failed gone bad many large (learn.Ask (ask.Sul i sul.Failed)) = failed i
by_stop P memory clash failed gone bad many large (learn.Ask (ask.Sul i sul.Gone)) = gone i
by_stop P memory clash failed gone bad many large (learn.Ask (ask.Sul i (sul.BadLine line))) = bad i line
by_stop P memory clash failed gone bad many large (learn.Ask (ask.Clash c)) = clash c
by_stop P memory clash failed gone bad many large (learn.Ask ask.NoMemory) = memory
by_stop P memory clash failed gone bad many large (learn.Crowd words) = many words
by_stop P memory clash failed gone bad many large (learn.TooLarge model number) = large (length model.rows) number

-- and what that holds of the outcome
stopped_has : (P : Outcome → Type 0) (stop : LearnStop) (result : Outcome) → StandsOrWants (learn_outcome stop) result → P NoMemory → ((c : Clash) → P (Nondeterministic c)) → ((i : ℕ) → P (SulFailed i)) → ((i : ℕ) → P (Gone i)) → ((i : ℕ) (line : List ℕ) → P (BadLine i line)) → ((words : List (List ℕ)) → P (TooManyStates words)) → ((states number : ℕ) → P (SuiteTooLarge states number)) → P result
stopped_has P stop result stands memory clash failed gone bad many large =
    stands_as P (learn_outcome stop) result stands (by_stop P memory clash failed gone bad many large stop) memory

-- out of memory in place of it
pub wants_any : (stop : LearnStop) (result : Outcome) → result ≡ NoMemory → StandsOrWants (learn_outcome stop) result
wants_any stop result is =
    by_stop (λ o. StandsOrWants o result) (inl is) (λ c. inr (tt, is)) (λ i. inr (tt, is)) (λ i. inr (tt, is)) (λ i line. inr (tt, is)) (λ words. inr (tt, is)) (λ states number. inr (tt, is)) stop

-- out of memory, or an outcome that stands but for that
pub wanted : (outcome : Outcome) → StandsOrWants NoMemory outcome → outcome ≡ NoMemory
wanted outcome (inl same) = same
wanted outcome (inr wants) = wants.1

pub wanted_or : (why outcome : Outcome) → StandsOrWants why outcome → (outcome ≡ why) ⊎ (outcome ≡ NoMemory)
wanted_or why outcome (inl same) = inl same
wanted_or why outcome (inr wants) = inr wants.1

-- saving what is kept leaves the outcome, but where memory runs out
pub saved_stands : (was : Saved) (stop : LearnStop) (outcome : Outcome) → StandsOrWants (saved_outcome was (learn_outcome stop)) outcome → StandsOrWants (learn_outcome stop) outcome
saved_stands saving.Stand stop outcome stands = stands
saved_stands saving.Failed stop outcome stands = stands
saved_stands saving.NoMemory stop outcome stands = wants_any stop outcome (wanted outcome stands)

pub saved_wants : (was : Saved) (why outcome : Outcome) → StandsOrWants (saved_outcome was why) outcome → was ≡ saving.NoMemory → outcome ≡ NoMemory
saved_wants was why outcome stands is = wanted outcome (subst (λ (x : Saved). StandsOrWants (saved_outcome x why) outcome) is stands)

pub saved_or : (was : Saved) (why outcome : Outcome) → StandsOrWants (saved_outcome was why) outcome → (outcome ≡ why) ⊎ (outcome ≡ NoMemory)
saved_or saving.Stand why outcome stands = wanted_or why outcome stands
saved_or saving.Failed why outcome stands = wanted_or why outcome stands
saved_or saving.NoMemory why outcome stands = inr (wanted outcome stands)

-- a learning that stopped: nothing further was written, and why it stopped was said
pub told_stop : (a : LearnValues) (s : System) (naming : Naming) (stop : LearnStop) (kept : List KeptAnswer) (was : Saved) (f : FilesState) (o : SinkState) (e d : SinkState) (end : End) → StandsOrWants (learn_outcome stop) end.outcome → (was ≡ saving.NoMemory → end.outcome ≡ NoMemory) → end.model ≡ None → IsWithoutLearner end → end.kept.answers ≡ kept → end.outputs ≡ end_outputs (declared_of s) kept naming
    → (¬ CountedFault e.faults d.faults → TakesAll (text_of (letters_of s) naming.names kept a.extra end.outcome) e.taken d.taken) → TakesSome (text_of (letters_of s) naming.names kept a.extra end.outcome) e.taken d.taken → e.faults ≤ d.faults → IsToldOf a s naming (Err stop) kept was f f o o e d end
told_stop a s naming stop kept was f o e d end stands wants none learner kept_is outputs said part counts = record {
  carries = (none, learner, stands);
  kept_is = kept_is;
  outputs = outputs;
  written = subst (λ (m : Option MealyMachine). IfSome m (WritesModel a kept end.outcome f.holds (o.taken, o.taken) (o.faults, o.faults) (letters_of s) naming.names)) (sym none) tt;
  nothing = λ is. (refl, refl);
  beside = stays_same a.model a.answers None f.holds;
  said = said;
  in_turn = record { between = e.taken; some = (0, sink_none e.taken (model_line a.goal (letters_of s) naming.names kept a.extra end.model end.refinements)); then = part };
  may = record { learned = λ is. absurd (not_learned is); failed = λ is. absurd (not_file Kept is); wants = wants };
  quiet = λ is. absurd (not_learned is);
  role = λ r is. absurd (not_file r is);
  file_fault = λ r is other. absurd (not_file r is);
  sink_fault = λ is. absurd (not_sink is);
  reads = refl;
  writes = stopped_has (λ x. MadeWrites a x f.calls f.calls) stop end.outcome stands (0, gained_none f.calls) (λ c. refl) (λ i. refl) (λ i. refl) (λ i line. refl) (λ words. refl) (λ states number. refl);
  counts = (omega arith, omega arith, counts);
}
  where
    not_learned : IsLearnedOutcome end.outcome → ⊥
    not_learned is = stopped_has (λ x. IsLearnedOutcome x → ⊥) stop end.outcome stands (λ x. x) (λ c x. x) (λ i x. x) (λ i x. x) (λ i line x. x) (λ words x. x) (λ states number x. x) is

    not_file : (r : Role) → end.outcome ≡ FileFault r → ⊥
    not_file r is = stopped_has (λ x. x ≡ FileFault r → ⊥) stop end.outcome stands
        (λ h. let wrong : NoMemory ≡ FileFault r = h in cc) (λ c h. let wrong : Nondeterministic c ≡ FileFault r = h in cc) (λ i h. let wrong : SulFailed i ≡ FileFault r = h in cc) (λ i h. let wrong : Gone i ≡ FileFault r = h in cc)
        (λ i line h. let wrong : BadLine i line ≡ FileFault r = h in cc) (λ words h. let wrong : TooManyStates words ≡ FileFault r = h in cc) (λ states number h. let wrong : SuiteTooLarge states number ≡ FileFault r = h in cc) is

    not_sink : end.outcome ≡ SinkFault → ⊥
    not_sink is = stopped_has (λ x. x ≡ SinkFault → ⊥) stop end.outcome stands
        (λ h. let wrong : NoMemory ≡ SinkFault = h in cc) (λ c h. let wrong : Nondeterministic c ≡ SinkFault = h in cc) (λ i h. let wrong : SulFailed i ≡ SinkFault = h in cc) (λ i h. let wrong : Gone i ≡ SinkFault = h in cc)
        (λ i line h. let wrong : BadLine i line ≡ SinkFault = h in cc) (λ words h. let wrong : TooManyStates words ≡ SinkFault = h in cc) (λ states number h. let wrong : SuiteTooLarge states number ≡ SinkFault = h in cc) is

-- what holds of what is told of a model, where nothing failed
report_is : (P : Outcome → Type 0) (told outcome : Outcome) → ReportIsTold told outcome → P told → P NoMemory → (outcome ≡ SinkFault → ⊥) → ((role : Role) → outcome ≡ FileFault role → ⊥) → P outcome
report_is P told (Learned h r) is here memory sink file = subst P is here
report_is P told (Accepted states r) is here memory sink file = subst P is here
report_is P told NoMemory is here memory sink file = memory
report_is P told SinkFault is here memory sink file = absurd (sink refl)
report_is P told (FileFault role) is here memory sink file = absurd (file role refl)
report_is P told (Trial tried) is here memory sink file = absurd is
report_is P told (Yes states) is here memory sink file = absurd is
report_is P told (Served served) is here memory sink file = absurd is
report_is P told (No verdict) is here memory sink file = absurd is
report_is P told Usage is here memory sink file = absurd is
report_is P told (BadFile role fault) is here memory sink file = absurd is
report_is P told (BadAcceptor bad) is here memory sink file = absurd is
report_is P told (NotAcceptor state letter) is here memory sink file = absurd is
report_is P told (Alphabets role) is here memory sink file = absurd is
report_is P told (UnknownLetter word place) is here memory sink file = absurd is
report_is P told (FileTooLong role) is here memory sink file = absurd is
report_is P told (Nondeterministic clash) is here memory sink file = absurd is
report_is P told (Unstarted cause) is here memory sink file = absurd is
report_is P told (SulFailed i) is here memory sink file = absurd is
report_is P told (Gone i) is here memory sink file = absurd is
report_is P told (BadLine i line) is here memory sink file = absurd is
report_is P told (BadAsk number) is here memory sink file = absurd is
report_is P told (TooManyStates words) is here memory sink file = absurd is
report_is P told (SuiteTooLarge states number) is here memory sink file = absurd is
report_is P told SourceFault is here memory sink file = absurd is
report_is P told (Compared comparison) is here memory sink file = absurd is
report_is P told Asked is here memory sink file = absurd is
report_is P told Helped is here memory sink file = absurd is
report_is P told (Rechecked answers) is here memory sink file = absurd is

-- where a model was written out and nothing failed, it is told, or that it is no acceptor's, or memory ran out
pub told_reached : (k : Goal) (n : ℕ) (model : MealyMachine) (count : ℕ) (outcome : Outcome) → count < n → ModelIsTold k model count outcome → (outcome ≡ SinkFault → ⊥) → ((role : Role) → outcome ≡ FileFault role → ⊥) → IsReachedOutcome k n outcome
told_reached aim.Machine n model count outcome few (inl told) sink file = report_is (IsReachedMachine n) (Learned model count) outcome told few tt sink file
told_reached aim.Machine n model count outcome few (inr none) sink file = let wrong : aim.Machine ≡ aim.Acceptor = none.0 in absurd (cc)
told_reached aim.Acceptor n model count outcome few (inl told) sink file = report_is (IsReachedAcceptor n) (Accepted (length model.rows) count) outcome told few tt sink file
told_reached aim.Acceptor n model count outcome few (inr none) sink file = subst (IsReachedAcceptor n) (sym none.1.2) tt

-- out of memory is always reached
memory_reached : (k : Goal) (n : ℕ) → IsReachedOutcome k n NoMemory
memory_reached aim.Machine n = tt
memory_reached aim.Acceptor n = tt

-- where a learning had to come to a model, it stopped out of memory
reached_stop : (k : Goal) (n : ℕ) (stop : LearnStop) → IsReached n (Err stop) → IsReachedOutcome k n (learn_outcome stop)
reached_stop k n (learn.Ask (ask.Sul i stop)) is = let wrong : ask.Sul i stop ≡ ask.NoMemory = is in absurd (cc)
reached_stop k n (learn.Ask (ask.Clash c)) is = let wrong : ask.Clash c ≡ ask.NoMemory = is in absurd (cc)
reached_stop k n (learn.Ask ask.NoMemory) is = memory_reached k n
reached_stop k n (learn.Crowd words) is = absurd is
reached_stop k n (learn.TooLarge model number) is = absurd is

reached_command : (kind : Kind) (words letters : List (List ℕ)) (outputs : Option (List (List ℕ))) (workers k most : ℕ) (prior : List KeptAnswer) (b z : SpawnerState) (learned : Result Found LearnStop) (kept : List KeptAnswer) (names : List (List ℕ)) (r : Rows) → IsOfCommand kind words letters outputs workers k most prior b z learned kept names
    → (¬ CountedFault b.faults z.faults) → ((links : List LinkState) → z.retired ≡ b.retired ++ links → All (IsSound outputs) links) → IsWithin (length letters) k most r → Gives r (answers_of kept) → IsReached (length r) learned
reached_command kind words letters None workers k most prior b z learned kept names r is quiet sound within gives = let free = is.1 in free.reached r within gives quiet (sound free.links free.spawner.retired)
reached_command kind words letters (Some outputs) workers k most prior b z learned kept names r is quiet sound within gives = is.1.reached r within gives quiet (sound is.1.links is.1.spawner.retired)

reached_system : (a : LearnValues) (s : System) (prior : List KeptAnswer) (b z : SpawnerState) (learned : Result Found LearnStop) (kept : List KeptAnswer) (names : List (List ℕ)) (r : Rows) → IsOfSystem a s prior b z learned kept names → IsSoundSystem s b z → IsWithin (length (letters_of s)) a.extra a.max_states r → Gives r (answers_of kept) → IsReached (length r) learned
reached_system a (Table m) prior b z learned kept names r found sound within gives = found.1.reached r within gives
reached_system a (Children c) prior b z learned kept names r found sound within gives = reached_command a.learner c.words c.inputs c.outputs a.workers a.extra a.max_states prior b z learned kept names r found sound.0 sound.1 within gives

-- the same where links needn't tell what went over them
counted_command : (kind : Kind) (words letters : List (List ℕ)) (outputs : Option (List (List ℕ))) (workers k most : ℕ) (prior : List KeptAnswer) (b z : SpawnerState) (learned : Result Found LearnStop) (kept : List KeptAnswer) (names : List (List ℕ)) (r : Rows) → IsOfCommand kind words letters outputs workers k most prior b z learned kept names
    → (¬ CountedFault b.faults z.faults) → ((links : List LinkState) → z.retired ≡ b.retired ++ links → All IsUncounted links) → IsWithin (length letters) k most r → Gives r (answers_of kept) → IsReached (length r) learned ⊎ SaysBadLine workers learned
counted_command kind words letters None workers k most prior b z learned kept names r is quiet uncounted within gives = let free = is.1 in free.counted r within gives quiet (uncounted free.links free.spawner.retired)
counted_command kind words letters (Some outputs) workers k most prior b z learned kept names r is quiet uncounted within gives = is.1.counted r within gives quiet (uncounted is.1.links is.1.spawner.retired)

counted_system : (a : LearnValues) (s : System) (prior : List KeptAnswer) (b z : SpawnerState) (learned : Result Found LearnStop) (kept : List KeptAnswer) (names : List (List ℕ)) (r : Rows) → IsOfSystem a s prior b z learned kept names → IsUncountedSystem s b z → IsWithin (length (letters_of s)) a.extra a.max_states r → Gives r (answers_of kept) → IsReached (length r) learned ⊎ SaysBadLine a.workers learned
counted_system a (Table m) prior b z learned kept names r found uncounted within gives = inl (found.1.reached r within gives)
counted_system a (Children c) prior b z learned kept names r found uncounted within gives = counted_command a.learner c.words c.inputs c.outputs a.workers a.extra a.max_states prior b z learned kept names r found uncounted.0 uncounted.1 within gives

-- an instance that said a bad line is told, or memory ran out
bad_line_told : (k : Goal) (n workers : ℕ) (stop : LearnStop) (outcome : Outcome) → SaysBadLine workers (Err stop) → StandsOrWants (learn_outcome stop) outcome → IsReachedOutcome k n outcome ⊎ IsBadLine workers outcome
bad_line_told k n workers (learn.Ask (ask.Sul i sul.Failed)) outcome bad stands = absurd bad
bad_line_told k n workers (learn.Ask (ask.Sul i (sul.BadLine line))) outcome bad stands =
    ⊎_elim
    (λ (is : outcome ≡ BadLine i line). inr (subst (IsBadLine workers) (sym is) bad))
    (λ (wants : HasOwnText (BadLine i line) × (outcome ≡ NoMemory)). inl (subst (IsReachedOutcome k n) (sym wants.1) (memory_reached k n)))
    stands
bad_line_told k n workers (learn.Ask (ask.Sul i sul.Gone)) outcome bad stands = absurd bad
bad_line_told k n workers (learn.Ask (ask.Clash clash)) outcome bad stands = absurd bad
bad_line_told k n workers (learn.Ask ask.NoMemory) outcome bad stands = absurd bad
bad_line_told k n workers (learn.Crowd words) outcome bad stands = absurd bad
bad_line_told k n workers (learn.TooLarge model number) outcome bad stands = absurd bad

-- a count of faults that rose, seen from before and from later
min_from : (f m g most : ℕ) → f ≤ m → min (m + 1) most ≤ g → min (f + 1) most ≤ g
min_from f m g most few counted =
    let low : min (f + 1) most ≤ min (m + 1) most = le-min (omega (arith, few, min-le_left (f + 1) most)) (min-le_right (f + 1) most) in
    omega (arith, low, counted)

pub counted_from : (f m g : ℕ) → f ≤ m → CountedFault m g → CountedFault f g
counted_from f m g few counted = min_from f m g (2 ^ 64 - 1) few counted

pub counted_to : (f m g : ℕ) → CountedFault f m → m ≤ g → CountedFault f g
counted_to f m g counted few = le_trans counted few

-- a file of kept answers that failed was named, and its fault counted
pub failed_counted : (file : Option (List ℕ)) (inputs outputs : List (List ℕ)) (kept : List KeptAnswer) (f g : FilesState) (was : Saved) → IsKeptWritten file inputs outputs kept f g was → was ≡ saving.Failed → CountedFault f.faults g.faults
failed_counted None inputs outputs kept f g was written is = let wrong : saving.Stand ≡ saving.Failed = sym written.1 ∙ is in absurd (cc)
failed_counted (Some name) inputs outputs [] f g was written is = let wrong : saving.Stand ≡ saving.Failed = sym written.1 ∙ is in absurd (cc)
failed_counted (Some name) inputs outputs (k ∷ ks) f g was written is = (subst (λ (x : Saved). IsTextWritten name inputs outputs (k ∷ ks) f g x) is written).1

-- what is kept stands in its file, but for a later write under its name
pub kept_stands : (file m a : Option (List ℕ)) (inputs outputs : List (List ℕ)) (kept : List KeptAnswer) (f g : FilesState) (now : Option (List File)) (was : Saved) → IsKeptWritten file inputs outputs kept f g was → StaysBesides m a None g.holds now → was ≡ saving.Stand → file ≢ m → file ≢ a → KeptStand file now inputs outputs kept
kept_stands None m a inputs outputs kept f g now was written stays is one two = tt
kept_stands (Some name) m a inputs outputs [] f g now was written stays is one two = tt
kept_stands (Some name) m a inputs outputs (k ∷ ks) f g now was written stays is one two =
    let stood = subst (λ (x : Saved). IsTextWritten name inputs outputs (k ∷ ks) f g x) is written in
    (stood.0, stood.1, holds_beside name m a None g.holds now stood.0 (λ e. one (sym e)) (λ e. two (sym e)) (λ e. let wrong : None ≡ Some name = e in absurd (cc)) stays stood.2.0)

kept_or : (role : Role) → (role ≡ Kept → ⊥) ⊎ (role ≡ Kept)
kept_or role.Setup = inl (λ e. let wrong : role.Setup ≡ Kept = e in cc)
kept_or role.Table = inl (λ e. let wrong : role.Table ≡ Kept = e in cc)
kept_or role.Model = inl (λ e. let wrong : role.Model ≡ Kept = e in cc)
kept_or role.Answers = inl (λ e. let wrong : role.Answers ≡ Kept = e in cc)
kept_or role.Prior = inl (λ e. let wrong : role.Prior ≡ Kept = e in cc)
kept_or role.Second = inl (λ e. let wrong : role.Second ≡ Kept = e in cc)
kept_or role.Words = inl (λ e. let wrong : role.Words ≡ Kept = e in cc)
kept_or role.Kept = inr refl
kept_or role.Last = inl (λ e. let wrong : role.Last ≡ Kept = e in cc)

-- what was saved and then told is how the call ends
pub end_of : (a : LearnValues) (s : System) (naming : Naming) (learned : Result Found LearnStop) (kept : List KeptAnswer) (was : Saved) (f m g : FilesState) (o p e d : SinkState) (end : End) → HasSaved a.kept (letters_of s) naming.names kept f m was → IsToldOf a s naming learned kept was m g o p e d end → IsEndOf a s naming learned kept f g o p e d end
end_of a s naming learned kept was f m g o p e d end saved told = record {
  between = m;
  was = was;
  saved = saved;
  told = told;
  stands = λ is one two. kept_stands a.kept a.model a.answers (letters_of s) naming.names kept f m g.holds was saved.written told.beside is one two;
  beside = stays_joined a.model a.answers a.kept f.holds m.holds g.holds saved.beside told.beside;
  counts = (le_trans saved.counts told.counts.0, told.counts.1, told.counts.2);
}

-- so a call comes to a model, or runs out of memory, or an instance said a bad line
module _ (a : LearnValues) (s : System) (prior : List KeptAnswer) (naming : Naming) (learned : Result Found LearnStop) (kept : List KeptAnswer) (f g : FilesState) (b z : SpawnerState) (o p e d : SinkState) (end : End) (found : IsOfSystem a s prior b z learned kept naming.names) (whole : IsEndOf a s naming learned kept f g o p e d end) (r : Rows) (none : NothingFailed (f.faults, g.faults) (o.faults, p.faults) (e.faults, d.faults)) where
  unfailed : (role : Role) → end.outcome ≡ FileFault role → ⊥
  unfailed role is =
      elim (kept_or role) as (λ _. ⊥) [
        | inl other ↦ none.of_files (counted_from f.faults whole.between.faults g.faults whole.saved.counts (whole.told.file_fault role is other))
        | inr same ↦ none.of_files (counted_to f.faults whole.between.faults g.faults (failed_counted a.kept (letters_of s) naming.names kept f whole.between whole.was whole.saved.written (whole.told.may.failed (is ∙ ap (λ (r : Role). FileFault r) same))) whole.told.counts.0)
      ]

  reached_by : (x : Result Found LearnStop) → IsReached (length r) x → Carries a.goal x end → IsReachedOutcome a.goal (length r) end.outcome
  reached_by (Ok l) few carries =
      told_reached a.goal (length r) l.model (refinements_of l.learner) end.outcome few carries.3
      (λ is. ⊎_elim (λ (x : CountedFault o.faults p.faults). none.of_out x) (λ (x : CountedFault e.faults d.faults). none.of_err x) (whole.told.sink_fault is))
      unfailed
  reached_by (Err stop) is carries = stands_as (IsReachedOutcome a.goal (length r)) (learn_outcome stop) end.outcome carries.2 (reached_stop a.goal (length r) stop is) (memory_reached a.goal (length r))

  bad_by : (x : Result Found LearnStop) → SaysBadLine a.workers x → Carries a.goal x end → IsReachedOutcome a.goal (length r) end.outcome ⊎ IsBadLine a.workers end.outcome
  bad_by (Ok l) bad carries = absurd bad
  bad_by (Err stop) bad carries = bad_line_told a.goal (length r) a.workers stop end.outcome bad carries.2

  pub reached_end : IsSoundSystem s b z → IsWithin (length (letters_of s)) a.extra a.max_states r → Gives r (answers_of end.kept.answers) → IsReachedOutcome a.goal (length r) end.outcome
  reached_end sound within gives =
      reached_by learned (reached_system a s prior b z learned kept naming.names r found sound within (subst (λ (ks : List KeptAnswer). Gives r (answers_of ks)) whole.told.kept_is gives)) whole.told.carries

  pub counted_end : IsUncountedSystem s b z → IsWithin (length (letters_of s)) a.extra a.max_states r → Gives r (answers_of end.kept.answers) → IsReachedOutcome a.goal (length r) end.outcome ⊎ IsBadLine a.workers end.outcome
  counted_end uncounted within gives =
      ⊎_elim
      (λ (few : IsReached (length r) learned). inl (reached_by learned few whole.told.carries))
      (λ (bad : SaysBadLine a.workers learned). bad_by learned bad whole.told.carries)
      (counted_system a s prior b z learned kept naming.names r found uncounted within (subst (λ (ks : List KeptAnswer). Gives r (answers_of ks)) whole.told.kept_is gives))

-- and has the model that was learned
pub model_end : (goal : Goal) (kind : Kind) (testing : Testing) (a b k most : ℕ) (learned : Result Found LearnStop) (kept : List KeptAnswer) (end : End) → IfOk learned (GivesModel kind testing a b k most kept) → end.kept.answers ≡ kept → Carries goal learned end → IfSome end.model (HasModel kind testing a b k most end)
model_end goal kind testing a b k most (Ok l) kept end gives same carries = subst (λ (m : Option MealyMachine). IfSome m (HasModel kind testing a b k most end)) (sym carries.0) (gives end same carries.1 carries.2)
model_end goal kind testing a b k most (Err stop) kept end gives same carries = subst (λ (m : Option MealyMachine). IfSome m (HasModel kind testing a b k most end)) (sym carries.0) tt

-- what writing a model out came to
pub record HasWritten (a : LearnValues) (text : List ℕ) (told : Outcome) (m : Machine) (learner : Learner) (kept : List KeptAnswer) (was : Saved) (f g : FilesState) (o p : SinkState) (e d : SinkState) (end : End) : Type 0 where
  pub outcome : ReportIsTold told end.outcome
  pub model : end.model ≡ Some m.mealy
  pub learner_is : end.learner ≡ Some learner
  pub refinements : end.refinements ≡ refinements_of learner
  pub kept_is : end.kept.answers ≡ kept
  pub files : WritesFiles a text m kept end.outcome g.holds (f.calls, g.calls)
  pub out : WritesOut a.model text end.outcome (o.taken, p.taken) (o.faults, p.faults)
  pub beside : StaysBesides a.model a.answers None f.holds g.holds
  pub role : (r : Role) → end.outcome ≡ FileFault r → ((r ≡ Model) × (a.model ≢ None)) ⊎ (((r ≡ Answers) × (a.answers ≢ None)) ⊎ (r ≡ Kept))
  pub failed : (r : Role) → end.outcome ≡ FileFault r → r ≢ Kept → CountedFault f.faults g.faults
  pub may : MayTell was end.outcome
  pub refused : end.outcome ≡ SinkFault → CountedFault o.faults p.faults ⊎ CountedFault e.faults d.faults
  pub said : ¬ CountedFault e.faults d.faults → TakesAll (text_of m.inputs m.outputs kept a.extra end.outcome) e.taken d.taken
  pub part : TakesInTurn (text_of m.inputs m.outputs kept a.extra told) (text_of m.inputs m.outputs kept a.extra end.outcome) e.taken d.taken
  pub reads : g.reads ≡ f.reads
  pub quiet : IsLearnedOutcome end.outcome → (g.faults ≡ f.faults) × (p.faults ≡ o.faults) × (d.faults ≡ e.faults)
  pub counts : (f.faults ≤ g.faults) × (o.faults ≤ p.faults) × (e.faults ≤ d.faults)

-- a learning with a model, which was written out under its names
pub told_written : (a : LearnValues) (s : System) (naming : Naming) (l : Found) (m : Machine) (kept : List KeptAnswer) (was : Saved) (f g : FilesState) (o p e d : SinkState) (end : End) (text : List ℕ) → m.inputs ≡ letters_of s → m.outputs ≡ naming.names → m.mealy ≡ l.model → end.outputs ≡ end_outputs (declared_of s) kept naming → IsModelText a.goal m text
    → HasWritten a text (told_of a.goal m.mealy (refinements_of l.learner)) m l.learner kept was f g o p e d end → IsToldOf a s naming (Ok l) kept was f g o p e d end
told_written a s naming l m kept was f g o p e d end text inputs outputs mealy own text_is w = record {
  carries = (w.model ∙ ap (λ (h : MealyMachine). Some h) mealy, w.learner_is, w.refinements, inl (subst (λ (h : MealyMachine). ReportIsTold (told_of a.goal h (refinements_of l.learner)) end.outcome) mealy w.outcome));
  kept_is = w.kept_is;
  outputs = own;
  written = subst (λ (h : Option MealyMachine). IfSome h (WritesModel a kept end.outcome g.holds (o.taken, p.taken) (o.faults, p.faults) (letters_of s) naming.names)) (sym w.model) done;
  nothing = λ is. let wrong : Some m.mealy ≡ None = sym w.model ∙ is in absurd (cc);
  beside = w.beside;
  may = w.may;
  said = λ none. subst (λ (t : List ℕ). TakesAll t e.taken d.taken) (same end.outcome) (w.said none);
  in_turn = record {
    between = w.part.between;
    some = subst (λ (t : List ℕ). TakesSome t e.taken w.part.between) line w.part.some;
    then = subst (λ (t : List ℕ). TakesSome t w.part.between d.taken) (same end.outcome) w.part.then;
  };
  quiet = w.quiet;
  role = w.role;
  file_fault = w.failed;
  sink_fault = w.refused;
  reads = w.reads;
  writes = w.files.calls;
  counts = w.counts;
}
  where
    done : WritesModel a kept end.outcome g.holds (o.taken, p.taken) (o.faults, p.faults) (letters_of s) naming.names m.mealy
    done = record { model = m; inputs_are = inputs; outputs_are = outputs; mealy = refl; text = text; text_is = λ _ _. text_is; file = w.files.model; answers = w.files.answers; out = w.out }

    same : (x : Outcome) → text_of m.inputs m.outputs kept a.extra x ≡ text_of (letters_of s) naming.names kept a.extra x
    same x = text_same m.inputs (letters_of s) m.outputs naming.names kept kept a.extra x inputs outputs refl

    line : text_of m.inputs m.outputs kept a.extra (told_of a.goal m.mealy (refinements_of l.learner)) ≡ model_line a.goal (letters_of s) naming.names kept a.extra end.model end.refinements
    line =
        same (told_of a.goal m.mealy (refinements_of l.learner))
        ∙ (ap (λ (n : ℕ). model_line a.goal (letters_of s) naming.names kept a.extra (Some m.mealy) n) (sym w.refinements)
        ∙ ap (λ (h : Option MealyMachine). model_line a.goal (letters_of s) naming.names kept a.extra h end.refinements) (sym w.model))

-- what holds of what is told in place of a model
by_untold : (P : Outcome → Type 0) (k : Goal) (rows : Rows) (outcome : Outcome) → P NoMemory → ((state letter : ℕ) → P (NotAcceptor state letter)) → IsUntold k rows outcome → P outcome
by_untold P k rows outcome memory none is = ⊎_elim (λ (wants : outcome ≡ NoMemory). subst P (sym wants) memory) (λ (no : IsNoAcceptor k rows outcome). subst P (sym no.1.2) (none no.1.0 no.1.1)) is

-- and what became of it once answers were saved and its text was put
untold_wants : (k : Goal) (rows : Rows) (outcome : Outcome) → outcome ≡ NoMemory → IsUntold k rows outcome
untold_wants k rows outcome is = inl is

pub untold_saved : (k : Goal) (rows : Rows) (was : Saved) (why outcome : Outcome) → IsUntold k rows why → StandsOrWants (saved_outcome was why) outcome → IsUntold k rows outcome
untold_saved k rows was why outcome is stands =
    ⊎_elim (λ (same : outcome ≡ why). subst (IsUntold k rows) (sym same) is) (λ (wants : outcome ≡ NoMemory). untold_wants k rows outcome wants) (saved_or was why outcome stands)

-- a learning with a model that wasn't written out: memory ran out, or it is no acceptor's
pub told_left : (a : LearnValues) (s : System) (naming : Naming) (l : Found) (kept : List KeptAnswer) (was : Saved) (f : FilesState) (o e d : SinkState) (end : End) → length (letters_of s) ≤ 64 → (l.model.inputs ≡ length (letters_of s)) × (l.model.outputs ≡ length naming.names) → IsUntold a.goal l.model.rows end.outcome → (was ≡ saving.NoMemory → end.outcome ≡ NoMemory) → end.model ≡ Some l.model → end.learner ≡ Some l.learner → end.refinements ≡ refinements_of l.learner → end.kept.answers ≡ kept
    → end.outputs ≡ end_outputs (declared_of s) kept naming → (¬ CountedFault e.faults d.faults → TakesAll (text_of [] [] kept a.extra end.outcome) e.taken d.taken) → TakesSome (text_of [] [] kept a.extra end.outcome) e.taken d.taken → e.faults ≤ d.faults → IsToldOf a s naming (Ok l) kept was f f o o e d end
told_left a s naming l kept was f o e d end few sizes untold wants model learner refinements kept_is outputs said part counts = record {
  carries = (model, learner, refinements, ⊎_elim (λ (memory : end.outcome ≡ NoMemory). inl (subst (λ (x : Outcome). ReportIsTold (told_of a.goal l.model (refinements_of l.learner)) x) (sym memory) tt)) (λ (none : IsNoAcceptor a.goal l.model.rows end.outcome). inr none) untold);
  kept_is = kept_is;
  outputs = outputs;
  written = subst (λ (h : Option MealyMachine). IfSome h (WritesModel a kept end.outcome f.holds (o.taken, o.taken) (o.faults, o.faults) (letters_of s) naming.names)) (sym model) none_written;
  nothing = λ is. (refl, refl);
  beside = stays_same a.model a.answers None f.holds;
  said = λ none. subst (λ (t : List ℕ). TakesAll t e.taken d.taken) text (said none);
  in_turn = record {
    between = e.taken;
    some = (0, sink_none e.taken (model_line a.goal (letters_of s) naming.names kept a.extra end.model end.refinements));
    then = subst (λ (t : List ℕ). TakesSome t e.taken d.taken) text part;
  };
  may = record { learned = λ is. absurd (not_learned is); failed = λ is. absurd (not_file Kept is); wants = wants };
  quiet = λ is. absurd (not_learned is);
  role = λ r is. absurd (not_file r is);
  file_fault = λ r is other. absurd (not_file r is);
  sink_fault = λ is. absurd (not_sink is);
  reads = refl;
  writes = has (λ x. MadeWrites a x f.calls f.calls) (0, gained_none f.calls) (λ q x. refl);
  counts = (omega arith, omega arith, counts);
}
  where
    has : (P : Outcome → Type 0) → P NoMemory → ((state letter : ℕ) → P (NotAcceptor state letter)) → P end.outcome
    has P memory none = by_untold P a.goal l.model.rows end.outcome memory none untold

    not_learned : IsLearnedOutcome end.outcome → ⊥
    not_learned is = has (λ x. IsLearnedOutcome x → ⊥) (λ u. u) (λ q x u. u) is

    not_file : (r : Role) → end.outcome ≡ FileFault r → ⊥
    not_file r is = has (λ x. x ≡ FileFault r → ⊥) (λ h. let wrong : NoMemory ≡ FileFault r = h in cc) (λ q x h. let wrong : NotAcceptor q x ≡ FileFault r = h in cc) is

    not_sink : end.outcome ≡ SinkFault → ⊥
    not_sink is = has (λ x. x ≡ SinkFault → ⊥) (λ h. let wrong : NoMemory ≡ SinkFault = h in cc) (λ q x h. let wrong : NotAcceptor q x ≡ SinkFault = h in cc) is

    machine : Machine
    machine = record { inputs = letters_of s; outputs = naming.names; mealy = l.model; named = sizes; few = few }

    none_written : WritesModel a kept end.outcome f.holds (o.taken, o.taken) (o.faults, o.faults) (letters_of s) naming.names l.model
    none_written = record {
      model = machine;
      inputs_are = refl;
      outputs_are = refl;
      mealy = refl;
      text = [];
      text_is = λ other none. absurd (⊎_elim (λ (memory : end.outcome ≡ NoMemory). other memory) (λ (no : IsNoAcceptor a.goal l.model.rows end.outcome). none no.1.0 no.1.1 no.1.2) untold);
      file = λ h differ. absurd (has (λ x. HasModelFile x → ⊥) (λ u. u) (λ q x u. u) h);
      answers = λ h. absurd (has (λ x. HasFiles x → ⊥) (λ u. u) (λ q x u. u) h);
      out = out_untold a.model [] o.taken (o.faults, o.faults) end.outcome (λ h. has (λ x. IsBehindOut x → ⊥) (λ u. u) (λ q x u. u) h) not_sink;
    }

    text : text_of [] [] kept a.extra end.outcome ≡ text_of (letters_of s) naming.names kept a.extra end.outcome
    text = has (λ x. text_of [] [] kept a.extra x ≡ text_of (letters_of s) naming.names kept a.extra x) refl (λ q x. refl)

-- what was found of a system, and told
pub ends_learned : (a : LearnValues) (s : System) (prior : List KeptAnswer) (naming : Naming) (learned : Result Found LearnStop) (kept : List KeptAnswer) (f g : FilesState) (b z : SpawnerState) (o p e d : SinkState) (end : End) → IsOfSystem a s prior b z learned kept naming.names → IfOk learned (GivesModel a.learner a.testing (length (letters_of s)) (length naming.names) a.extra a.max_states kept)
    → IfErr learned (LearningStopsBy (length (letters_of s)) (count_of (declared_of s)) a.extra a.max_states (answers_of kept)) → IsEndOf a s naming learned kept f g o p e d end → EndsLearned a s prior f g b z o p e d end
ends_learned a s prior naming learned kept f g b z o p e d end found gives stops whole = record {
  naming = naming;
  learned = learned;
  found = subst (λ (ks : List KeptAnswer). IsOfSystem a s prior b z learned ks naming.names) (sym whole.told.kept_is) found;
  model = model_end a.goal a.learner a.testing (length (letters_of s)) (length naming.names) a.extra a.max_states learned kept end gives whole.told.kept_is whole.told.carries;
  stops = subst (λ (ks : List KeptAnswer). IfErr learned (LearningStopsBy (length (letters_of s)) (count_of (declared_of s)) a.extra a.max_states (answers_of ks))) (sym whole.told.kept_is) stops;
  reached = reached_end a s prior naming learned kept f g b z o p e d end found whole;
  counted = counted_end a s prior naming learned kept f g b z o p e d end found whole;
  told = subst (λ (ks : List KeptAnswer). IsEndOf a s naming learned ks f g o p e d end) (sym whole.told.kept_is) whole;
}

-- where an end has a model, the words that were asked first are answered in what it keeps
pub answered_end : (goal : Goal) (words : List (List ℕ)) (learned : Result Found LearnStop) (kept : List KeptAnswer) (end : End) → Carries goal learned end → end.kept.answers ≡ kept → OnOk learned (AnswersWords words kept) → end.model ≢ None → AnswersWords words end.kept.answers
answered_end goal words (Ok l) kept end carries same asked some = subst (λ (ks : List KeptAnswer). AnswersWords words ks) (sym same) asked
answered_end goal words (Err stop) kept end carries same asked some = absurd (some carries.0)

-- an end has the model that was learned
carried_model : (goal : Goal) (learned : Result Found LearnStop) (end : End) → Carries goal learned end → end.model ≡ model_learned learned
carried_model goal (Ok l) end carries = carries.0
carried_model goal (Err stop) end carries = carries.0

-- and the machine that is left was written before
pub ends_leaving : (a : LearnValues) (s : System) (prior : List KeptAnswer) (naming : Naming) (learned : Result Found LearnStop) (kept : List KeptAnswer) (f l g : FilesState) (b z : SpawnerState) (o p e d : SinkState) (end : End) → IsOfSystem a s prior b z learned kept naming.names → IfOk learned (GivesModel a.learner a.testing (length (letters_of s)) (length naming.names) a.extra a.max_states kept)
    → IfErr learned (LearningStopsBy (length (letters_of s)) (count_of (declared_of s)) a.extra a.max_states (answers_of kept)) → IsEndOf a s naming learned kept l g o p e d end → LeavesLast a.last (model_learned learned) (letters_of s) naming.names f l → EndsLeaving a s prior f g b z o p e d end
unfolding ends_learned
ends_leaving a s prior naming learned kept f l g b z o p e d end found gives stops whole last = record {
  left = l;
  learned = ends_learned a s prior naming learned kept l g b z o p e d end found gives stops whole;
  last = subst (λ (m : Option MealyMachine). LeavesLast a.last m (letters_of s) naming.names f l) (sym (carried_model a.goal learned end whole.told.carries)) last;
}

-- and what a learning came to by the machine alone is what the end says
pub plain_end : (goal : Goal) (a : LearnValues) (letters : ℕ) (words : List (List ℕ)) (prior : List KeptAnswer) (learned : Result Found LearnStop) (kept : List KeptAnswer) (end : End) → Carries goal learned end → end.kept.answers ≡ kept
    → RunsAsPlain a.learner a.testing letters a.extra a.max_states words learned prior kept → EndsPlainly a letters words prior end
plain_end goal a letters words prior (Err stop) kept end carries same runs is_table by_w none m machine gives =
    subst (λ (x : Option MealyMachine). IfSome x (λ model. HasPlainWords (plain_task letters m a.extra a.max_states) words model.rows end.refinements end.kept.answers)) (sym carries.0) tt
plain_end goal a letters words prior (Ok l) kept end carries same runs is_table by_w none m machine gives =
    let task : Task = plain_task letters m a.extra a.max_states in
    let has = runs is_table by_w none m machine (subst (λ (ks : List KeptAnswer). Gives m (answers_of ks)) same gives) in
    subst (λ (x : Option MealyMachine). IfSome x (λ model. HasPlainWords task words model.rows end.refinements end.kept.answers)) (sym carries.0)
    (subst (λ (n : ℕ). HasPlainWords task words l.model.rows n end.kept.answers) (sym carries.2)
    (subst (λ (ks : List KeptAnswer). HasPlainWords task words l.model.rows (refinements_of l.learner) ks) (sym same) has))

-- and before that read, with the words that are asked first
pub task_ready : (a : LearnValues) (f m : FilesState) (r : Result WordedTask UnreadState) (t : WordedTask) → r ≡ Ok t → IsProbedStage a f m r → SaysWorded a f m t
task_ready a f m r t is stage = by (subst (λ (x : Result WordedTask UnreadState). IsProbedStage a f m x) is stage)
  where
    by : IsProbedStage a f m (Ok t) → SaysWorded a f m t
    by x = x.ok

pub ends_read : (a : LearnValues) (f m g : FilesState) (b z : SpawnerState) (o p e d : SinkState) (end : End) (r : Result WordedTask UnreadState) (t : WordedTask) → r ≡ Ok t → IsProbedStage a f m r → EndsLeaving a t.task.system t.task.cache.kept m g b z o p e d end → (end.model ≢ None → AnswersWords t.words end.kept.answers) → EndsPlainly a (length (letters_of t.task.system)) t.words t.task.cache.kept end → EndsRead a f g b z o p e d end
ends_read a f m g b z o p e d end r t is stage learned answered plainly = by (subst (λ (x : Result WordedTask UnreadState). IsProbedStage a f m x) is stage)
  where
    by : IsProbedStage a f m (Ok t) → EndsRead a f g b z o p e d end
    by x = record {
      system = t.task.system;
      prior = t.task.cache.kept;
      words = t.words;
      between = x.ok.between;
      middle = m;
      task = x.ok.task;
      asked = x.ok.says;
      made = x.made;
      quiet = x.quiet;
      same = x.same;
      unclashed = x.ok.ready.nothing;
      ended = learned;
      answered = answered;
      plainly = plainly;
    }

-- what was unread, and what its end says
unread_as : (a : LearnValues) (f g : FilesState) (read : Option System) (kept : List KeptAnswer) (why outcome : Outcome) → IsUnreadBy a f g read kept why → (outcome ≡ why) ⊎ (outcome ≡ NoMemory) → IsUnreadAs a f g read kept outcome
unread_as a f g read kept why outcome by (inl same) = inl (subst (λ (x : Outcome). IsUnreadBy a f g read kept x) (sym same) by)
unread_as a f g read kept why outcome by (inr wants) = inr (wants, (why, by))

-- the end of a call that began no learning
pub record HasSaid (u : UnreadState) (extra : ℕ) (file : Option (List ℕ)) (m g : FilesState) (e d : SinkState) (end : End) : Type 0 where
  pub outcome : (end.outcome ≡ u.outcome) ⊎ (end.outcome ≡ NoMemory)
  pub model : end.model ≡ None
  pub learner : IsWithoutLearner end
  pub kept : end.kept.answers ≡ u.kept
  pub outputs : (end.outputs ≡ names_read u.system) ⊎ ((end.outcome ≡ NoMemory) × (end.outputs ≡ None) × (end.kept.answers ≡ []))
  pub saved : IsSaved file (names_of (option_map letters_of u.system)) (names_of (option_and_then declared_of u.system)) u.kept m g end.outcome
  pub said : ¬ CountedFault e.faults d.faults → TakesAll (said_text (option_map letters_of u.system) (option_and_then declared_of u.system) end.kept.answers extra end.outcome) e.taken d.taken
  pub part : TakesSome (said_text (option_map letters_of u.system) (option_and_then declared_of u.system) end.kept.answers extra end.outcome) e.taken d.taken

-- words that could not be asked
wordless_as : (a : LearnValues) (f g : FilesState) (read : Option System) (kept : List KeptAnswer) (why outcome : Outcome) → IsWordlessTask a f g read kept why → (outcome ≡ why) ⊎ (outcome ≡ NoMemory) → IsWordlessTask a f g read kept outcome
wordless_as a f g read kept why outcome by told = record {
  system = by.system;
  between = by.between;
  read_is = by.read_is;
  task = by.task;
  made = by.made;
  quiet = by.quiet;
  same = by.same;
  why = by.why;
  because = by.because;
  told = ⊎_elim (λ (same : outcome ≡ why). subst (λ (x : Outcome). (x ≡ by.why) ⊎ (x ≡ NoMemory)) (sym same) by.told) (λ (wants : outcome ≡ NoMemory). inr wants) told;
}

-- a file that could not be written
unwritable_as : (a : LearnValues) (f g : FilesState) (read : Option System) (kept : List KeptAnswer) (why outcome : Outcome) → IsUnwritable a f g read kept why → (outcome ≡ why) ⊎ (outcome ≡ NoMemory) → IsUnwritable a f g read kept outcome
unwritable_as a f g read kept why outcome by told = record {
  system = by.system;
  prior = by.prior;
  words = by.words;
  between = by.between;
  middle = by.middle;
  read_is = by.read_is;
  task = by.task;
  asked = by.asked;
  made = by.made;
  quiet = by.quiet;
  reads = by.reads;
  nothing = by.nothing;
  why = by.why;
  because = by.because;
  told = ⊎_elim (λ (same : outcome ≡ why). subst (λ (x : Outcome). (x ≡ by.why) ⊎ (x ≡ NoMemory)) (sym same) by.told) (λ (wants : outcome ≡ NoMemory). inr wants) told;
}

pub ends_unread : (a : LearnValues) (f m g : FilesState) (b : SpawnerState) (o e d : SinkState) (end : End) (r : Result WordedTask UnreadState) (u : UnreadState) → r ≡ Err u → IsProbedStage a f m r → HasSaid u a.extra a.kept m g e d end → EndsUnread a f g b b o o e d end
ends_unread a f m g b o e d end r u is stage h = by (subst (λ (x : Result WordedTask UnreadState). IsProbedStage a f m x) is stage)
  where
    same : u.kept ≡ end.kept.answers
    same = sym h.kept

    by : IsProbedStage a f m (Err u) → EndsUnread a f g b b o o e d end
    by x = record {
      read = u.system;
      between = m;
      cause = ⊎_elim
          (λ (unread : IsUnreadBy a f m u.system u.kept u.outcome). inl (unread_as a f m u.system end.kept.answers u.outcome end.outcome (subst (λ (ks : List KeptAnswer). IsUnreadBy a f m u.system ks u.outcome) same unread) h.outcome))
          (⊎_elim
          (λ (wordless : IsWordlessTask a f m u.system u.kept u.outcome). inr (inl (wordless_as a f m u.system end.kept.answers u.outcome end.outcome (subst (λ (ks : List KeptAnswer). IsWordlessTask a f m u.system ks u.outcome) same wordless) h.outcome)))
          (λ (unwritable : IsUnwritable a f m u.system u.kept u.outcome). inr (inr (unwritable_as a f m u.system end.kept.answers u.outcome end.outcome (subst (λ (ks : List KeptAnswer). IsUnwritable a f m u.system ks u.outcome) same unwritable) h.outcome))))
          x.err;
      same = x.same;
      model = h.model;
      learner = h.learner;
      outputs = h.outputs;
      saved = subst (λ (ks : List KeptAnswer). IsSaved a.kept (names_of (option_map letters_of u.system)) (names_of (option_and_then declared_of u.system)) ks m g end.outcome) same h.saved;
      unstarted = refl;
      unwritten = refl;
      said = h.said;
      part = h.part;
    }

-- where nothing is kept, nothing is saved
pub none_saved : (file : Option (List ℕ)) (inputs outputs : List (List ℕ)) (kept : List KeptAnswer) (f : FilesState) (outcome : Outcome) → kept ≡ [] → IsSaved file inputs outputs kept f f outcome
none_saved file inputs outputs kept f outcome none = record {
  was = saving.Stand;
  saved = record {
    written = subst (λ (ks : List KeptAnswer). IsKeptWritten file inputs outputs ks f f saving.Stand) (sym none) (by file);
    beside = stays_same file None None f.holds;
    reads = refl;
    counts = omega arith;
  };
  wants = λ is. let wrong : saving.Stand ≡ saving.NoMemory = is in absurd (cc);
}
  where
    by : (x : Option (List ℕ)) → IsKeptWritten x inputs outputs [] f f saving.Stand
    by None = (refl, refl)
    by (Some name) = (refl, refl)

-- the text of memory that ran out says nothing else
pub text_memory : (i j o p : List (List ℕ)) (k l : List KeptAnswer) (x y : ℕ) (outcome : Outcome) → outcome ≡ NoMemory → text_of i o k x outcome ≡ text_of j p l y outcome
text_memory i j o p k l x y outcome is = ap (λ (c : Outcome). text_of i o k x c) is ∙ sym (ap (λ (c : Outcome). text_of j p l y c) is)

-- a model under the names of a system is one of what is to be learned
pub machine_for : (k : Goal) (s : System) (m : Machine) (names : List (List ℕ)) → IsSystemFor k s → m.inputs ≡ letters_of s → m.outputs ≡ names
    → IfSome (declared_of s) (λ own. names ≡ own) → IsMachineFor k m
machine_for aim.Machine s m names fits inputs outputs declared = tt
machine_for aim.Acceptor s m names fits inputs outputs declared = (
  fits.0,
  fits.1.free,
  inputs ∙ fits.1.inputs,
  outputs ∙ subst (λ (o : Option (List (List ℕ))). IfSome o (λ own. names ≡ own)) fits.1.outputs declared,
)
