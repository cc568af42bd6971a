-- That an outcome tells its cause, from what each command did.
use Rattle.std.proofs.Common.{◌≡◌, ◌≢◌, ◌⊎◌, inl, inr, ⊎_elim, ℕ, ◌<◌, ◌≤◌, List, [], ◌∷◌, ◌++◌, length, Option, Some, None, Result, Ok, Err, IfErr, refl, sym, ap, ◌∙◌, subst, arith, subst₂}
use Rattle.lw_words.specs.Word.{Answer, answer_at, answer_of, answers_of}
use Rattle.lw_words.specs.Cause.{CountedFault}
use Rattle.lw_words.specs.declared.kept.KeptAnswer.{KeptAnswer}
use Rattle.lw_words.specs.declared.stop.SulStop.{SulStop}
use Rattle.lw_words.specs.declared.stop.SulStop.TheVariants as sul
use Rattle.lw_words.specs.declared.stop.RunStop.{RunStop}
use Rattle.lw_words.specs.declared.stop.RunStop.TheVariants as run
use Rattle.lw_cache.specs.Clash.{ClashAt}
use Rattle.lw_cache.specs.FirstClash.{IsFirstClash}
use Rattle.lw_cache.specs.declared.stops.AskStop.TheVariants as ask
use Rattle.lw_cache.specs.declared.stops.Clash.{Clash}
use Rattle.lw_chunks.specs.Size.{greatest_suite, suite_size}
use Rattle.lw_rounds.specs.Learned.{IsTooMany}
use Rattle.lw_rounds.specs.Learner.{refinements_of}
use Rattle.lw_rounds.specs.declared.learned.Learned.{Learned as Found}
use Rattle.lw_rounds.specs.declared.stops.LearnStop.{LearnStop}
use Rattle.lw_rounds.specs.declared.stops.LearnStop.TheVariants as learn
use Rattle.lw_workers.specs.Machines.{IsMachineStop}
use Rattle.lw_children.specs.Children.{IsCausedBy, IsChildStop, IsOfCommand}
use Rattle.lw_json.specs.declared.files.Machine.{Machine}
use Rattle.lw_outside.specs.Files.{FilesState}
use Rattle.lw_outside.specs.Links.{LinkState, SpawnerState}
use Rattle.lw_outside.specs.Streams.{SinkState}
use Rattle.lw_outside.specs.declared.links.StartFailure.{StartFailure}
use Rattle.lw_accept.specs.AcceptorFile.{IsAcceptorFault, IsAcceptorFile}
use Rattle.lw_accept.specs.declared.fault.AcceptorFault.{AcceptorFault}
use Rattle.lw_system.specs.AcceptorFinding.{IsNoAcceptorSystem}
use Rattle.lw_system.specs.Finding.{IsNoSystem, IsNoSystemWith}
use Rattle.lw_system.specs.Goals.{IsNoSystemFor}
use Rattle.lw_system.specs.declared.goal.Goal.{Goal}
use Rattle.lw_system.specs.declared.goal.Goal.TheVariants as aim
use Rattle.lw_system.specs.declared.stops.AcceptorStop.{AcceptorStop}
use Rattle.lw_system.specs.declared.stops.AcceptorStop.TheVariants as asked
use Rattle.lw_system.specs.declared.stops.NoSystem.{NoSystem}
use Rattle.lw_system.specs.declared.stops.NoSystem.TheVariants as no
use Rattle.lw_system.specs.NewLines.{count_of}
use Rattle.lw_system.specs.Reads.{IsNotRead}
use Rattle.lw_system.specs.Systems.{declared_of, letters_of}
use Rattle.lw_system.specs.Told.{IsStopped}
use Rattle.lw_system.specs.declared.source.Source.{Source}
use Rattle.lw_system.specs.declared.source.Source.TheVariants as source
use Rattle.lw_json.specs.declared.fault.JsonFault.{JsonFault}
use Rattle.lw_system.specs.declared.stops.ReadStop.{ReadStop}
use Rattle.lw_system.specs.declared.stops.ReadStop.TheVariants as read
use Rattle.lw_outside.specs.declared.links.StartStop.{StartStop}
use Rattle.lw_outside.specs.declared.links.StartStop.TheVariants as start
use Rattle.lw_system.specs.declared.stops.SystemStop.{SystemStop}
use Rattle.lw_system.specs.declared.system.System.{System}
use Rattle.lw_system.specs.declared.system.System.TheVariants as system
use Rattle.lw_report.specs.Learnings.{HasLargeSuite, learn_outcome, system_outcome}
use Rattle.lw_report.specs.Outcomes.{StandsOrWants}
use Rattle.lw_report.specs.Stops.{acceptor_outcome, no_acceptor_outcome, no_system_outcome, read_outcome, role_of, start_outcome, unread_outcome}
use Rattle.lw_report.specs.declared.«end».End.{End}
use Rattle.lw_report.specs.declared.outcome.Outcome.{Outcome}
use Rattle.lw_report.specs.declared.outcome.Outcome.TheVariants.{Usage, BadAcceptor, BadFile, Alphabets, FileTooLong, Nondeterministic, NoMemory, SulFailed, Gone, BadLine, TooManyStates, SuiteTooLarge, FileFault, SinkFault, Compared, Asked, Rechecked, UnknownLetter, Unstarted, NotAcceptor}
use Rattle.lw_report.specs.declared.role.Role.{Role}
use Rattle.lw_report.specs.declared.role.Role.TheVariants as role
use Rattle.lw_ask.specs.AskRun.{AsksSystem, AsksWords, HasNoSystem, HasNoWords, HasSystem, IsAskRun}
use Rattle.lw_ask.specs.Outcomes.{came_outcome, word_outcome}
use Rattle.lw_wordlist.specs.declared.words.WordStop.{WordStop}
use Rattle.lw_wordlist.specs.declared.words.WordStop.TheVariants as word
use Rattle.lw_ask.specs.declared.stop.AskingStop.{AskingStop}
use Rattle.lw_ask.specs.declared.stop.AskingStop.TheVariants as asking
use Rattle.lw_check.specs.CheckRun.{IsCheckRun}
use Rattle.lw_check.specs.Decision.{IsDecision, Pair}
use Rattle.lw_check.specs.Ending as check
use Rattle.lw_check.specs.Reading as checked
use Rattle.lw_compare.specs.CompareRun as compare
use Rattle.lw_compare.specs.Reading as compared
use Rattle.lw_learn.specs.Arguments.{IsEarlier, LearnValues, with_earlier}
use Rattle.lw_learn.specs.Asking.{IsWordless, IsWordlessTask}
use Rattle.lw_learn.specs.Ending.{Carries, EndsRead, EndsUnread}
use Rattle.lw_learn.specs.Probes.{FailsProbe, IsUnwritable, WantsProbe, written_files}
use Rattle.lw_learn.specs.Findings.{IsOfSystem, LearningStopsBy}
use Rattle.lw_learn.specs.LearnRun.{IsLearnRun, SaysLog}
use Rattle.lw_learn.specs.Outcomes.{ModelIsTold, ReportIsTold, told_of}
use Rattle.lw_learn.specs.Saving.{IsKeptWritten}
use Rattle.lw_learn.specs.Unread.{IsUnreadBy}
use Rattle.lw_learn.specs.declared.saving.Saved.TheVariants as saving
use Rattle.lw_recheck.specs.Again.{HasRechecked}
use Rattle.lw_recheck.specs.Ending.{EndsBy}
use Rattle.lw_recheck.specs.Outcomes as rechecked
use Rattle.lw_recheck.specs.Reading.{IsUnread}
use Rattle.lw_recheck.specs.RecheckRun.{HasAskedSystem, HasNone, IsRecheckRun, RechecksSystem}
use Rattle.lw_serve.specs.ServeRun as serve
use Rattle.lw_serve.specs.Outcomes as served
use Rattle.lw_serve.specs.Playing.{PlaysTo}
use Rattle.lw_trial.specs.TrialRun.{IsTrialOutcome, IsTrialRun}
use Rattle.lw_top.specs.Call.{CallValues, Learn, Check, Trial as TrialCall, Serve, Ask, Compare, Recheck, Help}
use Rattle.lw_top.specs.CheckCommand.{CheckValues}
use Rattle.lw_top.specs.HelpRun.{IsHelpRun}
use Rattle.lw_top.proofs.HelpLemmas.{IsHelpOutcome, helps_fault, helps_never, helps_stop}
use Rattle.lw_top.specs.FilePairs.{PairValues}
use Rattle.lw_top.specs.Promises.{AcceptedIsRight, CausesAreTold, FaultsAreCounted, FindingsHold, InstanceStopped, LargeForSystem}
use Rattle.lw_top.specs.Run.{ArgumentsAreRefused, Runs, TellsCause}
use Rattle.lw_top.specs.World.{WorldState}
use Rattle.lw_top.proofs.AcceptLemmas.{acceptor_is_right}
use Rattle.lw_top.proofs.PromiseLemmas.{log_counts, task_of}

-- a count that rose still has, once more is counted or less was before
counted_later : (x y z : ℕ) → CountedFault x y → y ≤ z → CountedFault x z
counted_later x y z counted le = omega (arith, counted, le)

counted_since : (w x y : ℕ) → w ≤ x → CountedFault x y → CountedFault w y
counted_since w x y le counted = omega (arith, counted, le)

-- the stop and the instance of an outcome
same_stop : (i j : ℕ) (s t : SulStop) → system_outcome i s ≡ system_outcome j t → (i ≡ j) × (s ≡ t)
same_stop i j sul.Failed sul.Failed e = (cc, refl)
same_stop i j sul.Failed (sul.BadLine l) e = cc
same_stop i j sul.Failed sul.Gone e = cc
same_stop i j (sul.BadLine k) sul.Failed e = cc
same_stop i j (sul.BadLine k) (sul.BadLine l) e = (cc, cc)
same_stop i j (sul.BadLine k) sul.Gone e = cc
same_stop i j sul.Gone sul.Failed e = cc
same_stop i j sul.Gone (sul.BadLine l) e = cc
same_stop i j sul.Gone sul.Gone e = (cc, refl)

-- outcomes of a system that stopped
abbrev IsStop : Outcome → Type 0
IsStop (SulFailed i) = Unit {0}
IsStop (Gone i) = Unit {0}
IsStop (BadLine i line) = Unit {0}
IsStop _ = ⊥

stop_is : (i : ℕ) (s : SulStop) → IsStop (system_outcome i s)
stop_is i sul.Failed = tt
stop_is i (sul.BadLine line) = tt
stop_is i sul.Gone = tt

-- an outcome of a kind in which none is a system's
no_stop : (Kind : Outcome → Type 0) (outcome : Outcome) → ((i : ℕ) → ¬ Kind (SulFailed i)) → ((i : ℕ) → ¬ Kind (Gone i)) → ((i : ℕ) (line : _) → ¬ Kind (BadLine i line)) → Kind outcome → (i : ℕ) (s : SulStop) → ¬ (outcome ≡ system_outcome i s)
no_stop Kind outcome failed gone bad is i sul.Failed e = failed i (subst Kind e is)
no_stop Kind outcome failed gone bad is i (sul.BadLine line) e = bad i line (subst Kind e is)
no_stop Kind outcome failed gone bad is i sul.Gone e = gone i (subst Kind e is)

-- why a file was not read
not_read : {V : Type 0} (IsFile : List ℕ → V → Type 0) (HasFirst : List ℕ → _ → Type 0) (name : List ℕ) (f g : FilesState) (why : ReadStop JsonFault) (its r : Role) → IsNotRead IsFile HasFirst name f g why → read_outcome its why ≡ FileFault r → CountedFault f.faults g.faults
not_read IsFile HasFirst name f g read.Failed its r is e = is.0
not_read IsFile HasFirst name f g read.TooLong its r is e = cc
not_read IsFile HasFirst name f g (read.Bad fault) its r is e = cc
not_read IsFile HasFirst name f g read.NoMemory its r is e = cc

-- outcomes of a file that was not read
abbrev IsReading : Outcome → Type 0
IsReading (FileFault r) = Unit {0}
IsReading (FileTooLong r) = Unit {0}
IsReading (BadFile r fault) = Unit {0}
IsReading (BadAcceptor fault) = Unit {0}
IsReading NoMemory = Unit {0}
IsReading _ = ⊥

reading_is : (its : Role) (why : ReadStop JsonFault) → IsReading (read_outcome its why)
reading_is its read.Failed = tt
reading_is its read.TooLong = tt
reading_is its (read.Bad fault) = tt
reading_is its read.NoMemory = tt

no_system : (kind : Source) (name : List ℕ) (f g : FilesState) (why : SystemStop) (r : Role) → IsNoSystem kind name f g why → unread_outcome why ≡ FileFault r → CountedFault f.faults g.faults
no_system source.Table name f g why r is e = not_read _ _ name f g why.stop (role_of why.file) r is.unread e
no_system source.Setup name f g why r (inl is) e = not_read _ _ name f g why.stop (role_of why.file) r is.unread e
no_system source.Setup name f g why r (inr is) e = subst (λ (n : ℕ). CountedFault n g.faults) is.quiet (not_read _ _ is.table is.between g why.stop (role_of why.file) r is.refused.unread e)

no_system_with : (kind : Source) (name : List ℕ) (f g : FilesState) (hint : List ℕ) (why : SystemStop) → IsNoSystemWith kind name f g hint why → IsNoSystem kind name f g why
no_system_with source.Table name f g hint why is = is.0
no_system_with source.Setup name f g hint why (inl is) = inl is.0
no_system_with source.Setup name f g hint why (inr is) = inr is.0

-- the same of an acceptor's file, and of a system that is asked for an acceptor
not_accepted : (name : List ℕ) (f g : FilesState) (why : ReadStop AcceptorFault) (r : Role) → IsNotRead IsAcceptorFile IsAcceptorFault name f g why → acceptor_outcome role.Table why ≡ FileFault r → CountedFault f.faults g.faults
not_accepted name f g read.Failed r is e = is.0
not_accepted name f g read.TooLong r is e = cc
not_accepted name f g (read.Bad fault) r is e = cc
not_accepted name f g read.NoMemory r is e = cc

no_asked : (kind : Source) (name : List ℕ) (f g : FilesState) (why : AcceptorStop) (r : Role) → IsNoAcceptorSystem kind name f g why → no_acceptor_outcome why ≡ FileFault r → CountedFault f.faults g.faults
no_asked source.Table name f g (asked.Table why) r is e = not_accepted name f g why r is e
no_asked source.Table name f g (asked.Setup why) r is e = absurd is
no_asked source.Table name f g (asked.Letters fault) r is e = absurd is
no_asked source.Table name f g asked.NoMemory r is e = absurd is
no_asked source.Setup name f g (asked.Setup why) r is e = not_read _ _ name f g why role.Setup r is e
no_asked source.Setup name f g (asked.Table why) r is e = subst (λ (n : ℕ). CountedFault n g.faults) is.said.quiet (not_accepted is.table is.between g why r is.unread e)
no_asked source.Setup name f g (asked.Letters fault) r is e = cc
no_asked source.Setup name f g asked.NoMemory r is e = cc

no_system_for : (k : Goal) (kind : Source) (name : List ℕ) (f g : FilesState) (hint : List ℕ) (why : NoSystem) (r : Role) → IsNoSystemFor k kind name f g hint why → no_system_outcome why ≡ FileFault r → CountedFault f.faults g.faults
no_system_for aim.Machine kind name f g hint (no.Machine why) r is e = no_system kind name f g why r (no_system_with kind name f g hint why is) e
no_system_for aim.Machine kind name f g hint (no.Acceptor why) r is e = absurd is
no_system_for aim.Acceptor kind name f g hint (no.Machine why) r is e = absurd is
no_system_for aim.Acceptor kind name f g hint (no.Acceptor why) r is e = no_asked kind name f g why r is.0 e

reading_for : (why : NoSystem) → IsReading (no_system_outcome why)
reading_for (no.Machine why) = reading_is (role_of why.file) why.stop
reading_for (no.Acceptor (asked.Setup why)) = reading_is role.Setup why
reading_for (no.Acceptor (asked.Table read.Failed)) = tt
reading_for (no.Acceptor (asked.Table read.TooLong)) = tt
reading_for (no.Acceptor (asked.Table (read.Bad fault))) = tt
reading_for (no.Acceptor (asked.Table read.NoMemory)) = tt
reading_for (no.Acceptor (asked.Letters fault)) = tt
reading_for (no.Acceptor asked.NoMemory) = tt

-- an outcome that stands, where it isn't out of memory
stands : (why outcome x : Outcome) → StandsOrWants why outcome → outcome ≡ x → NoMemory ≢ x → why ≡ x
stands why outcome x (inl same) is other = sym same ∙ is
stands why outcome x (inr wants) is other = absurd (other (sym wants.1 ∙ is))

-- arguments that weren't taken
module _ (words : List (List ℕ)) (before now : WorldState) (end : End) where
  refused_never : ArgumentsAreRefused words before now end → (x : Outcome) → end.outcome ≡ x → Usage ≢ x → NoMemory ≢ x → ⊥
  refused_never r x is usage memory = ⊎_elim (λ (e : end.outcome ≡ Usage). usage (sym e ∙ is)) (λ (e : end.outcome ≡ NoMemory). memory (sym e ∙ is)) r.outcome

  refused_faults : ArgumentsAreRefused words before now end → FaultsAreCounted before now end.outcome
  refused_faults r = record {
    file = λ role is. absurd (refused_never r _ is (λ e. cc) (λ e. cc));
    source = λ is. absurd (refused_never r _ is (λ e. cc) (λ e. cc));
    sink = λ is. absurd (refused_never r _ is (λ e. cc) (λ e. cc));
    start = λ cause is. absurd (refused_never r _ is (λ e. cc) (λ e. cc));
  }

  refused_stop : ArgumentsAreRefused words before now end → (i : ℕ) (s : SulStop) → ¬ (end.outcome ≡ system_outcome i s)
  refused_stop r i s is =
      ⊎_elim
      (λ (e : end.outcome ≡ Usage). subst IsStop (sym is ∙ e) (stop_is i s))
      (λ (e : end.outcome ≡ NoMemory). subst IsStop (sym is ∙ e) (stop_is i s))
      r.outcome

  refused_findings : ArgumentsAreRefused words before now end → FindingsHold None before now end
  refused_findings r = record {
    clash = λ clash is. absurd (refused_never r _ is (λ e. cc) (λ e. cc));
    crowd = λ words is. absurd (refused_never r _ is (λ e. cc) (λ e. cc));
    suite = λ states number is. absurd (refused_never r _ is (λ e. cc) (λ e. cc));
    stopped = λ i s is. absurd (refused_stop r i s is);
  }

-- `check`
module _ (a : CheckValues) (before now : WorldState) (end : End) (ran : IsCheckRun a.goal a.suite a.model a.answers a.extra before.files now.files before.out now.out before.err now.err end) where
  abbrev Unread : Type 0
  Unread = check.EndsUnread a.goal a.model a.answers before.files now.files a.extra before.out now.out before.err now.err end.outcome end.kept.answers end.outputs

  abbrev PairRead : Type 0
  PairRead = check.EndsPairRead a.goal a.suite a.model a.answers before.files now.files a.extra before.out now.out before.err now.err end.outcome end.kept.answers end.outputs

  unread_as : (u : Unread) (x : Outcome) → end.outcome ≡ x → checked.IsUnread a.goal a.model a.answers before.files now.files x
  unread_as u x is = subst (checked.IsUnread a.goal a.model a.answers before.files now.files) is u.cause

  unread_file : (r : Role) → checked.IsUnread a.goal a.model a.answers before.files now.files (FileFault r) → CountedFault before.files.faults now.files.faults
  unread_file role.Model is = is.0
  unread_file role.Answers is = is.0
  unread_file role.Setup is = absurd is
  unread_file role.Table is = absurd is
  unread_file role.Prior is = absurd is
  unread_file role.Second is = absurd is
  unread_file role.Words is = absurd is
  unread_file role.Kept is = absurd is
  unread_file role.Last is = absurd is

  -- an outcome that is neither out of memory nor a fault of a stream is the decision
  decides : (r : PairRead) (x : Outcome) → end.outcome ≡ x → NoMemory ≢ x → SinkFault ≢ x → IsDecision a.suite r.pair a.extra x
  decides r x is memory sink =
      ⊎_elim
      (λ (d : IsDecision a.suite r.pair a.extra end.outcome). subst (IsDecision a.suite r.pair a.extra) is d)
      (⊎_elim (λ (e : end.outcome ≡ NoMemory). absurd (memory (sym e ∙ is))) (λ s. absurd (sink (sym s.0 ∙ is))))
      r.comes

  -- an outcome that comes of neither
  checks_never : (x : Outcome) → end.outcome ≡ x → NoMemory ≢ x → SinkFault ≢ x → ¬ checked.IsUnread a.goal a.model a.answers before.files now.files x → ((p : Pair) → ¬ IsDecision a.suite p a.extra x) → ⊥
  checks_never x is memory sink unread decision = ⊎_elim (λ (u : Unread). unread (unread_as u x is)) (λ (r : PairRead). decision r.pair (decides r x is memory sink)) ran.ended

  checks_stop : (i : ℕ) (s : SulStop) → ¬ (end.outcome ≡ system_outcome i s)
  checks_stop i sul.Failed is = checks_never _ is (λ e. cc) (λ e. cc) (λ k. k) (λ p k. k)
  checks_stop i (sul.BadLine line) is = checks_never _ is (λ e. cc) (λ e. cc) (λ k. k) (λ p k. k)
  checks_stop i sul.Gone is = checks_never _ is (λ e. cc) (λ e. cc) (λ k. k) (λ p k. k)

  checks_causes : CausesAreTold (Some (Check a)) before now end
  checks_causes = record {
    usage = λ is. absurd (checks_never _ is (λ e. cc) (λ e. cc) (λ k. k) (λ p k. k));
    faults = record {
      file = λ role is. ⊎_elim (λ (u : Unread). unread_file role (unread_as u _ is)) (λ (r : PairRead). absurd (decides r _ is (λ e. cc) (λ e. cc))) ran.ended;
      source = λ is. absurd (checks_never _ is (λ e. cc) (λ e. cc) (λ k. k) (λ p k. k));
      sink = λ is.
          ⊎_elim
          (λ (u : Unread). absurd (unread_as u _ is))
          (λ (r : PairRead). ⊎_elim (λ (d : IsDecision a.suite r.pair a.extra end.outcome). absurd (subst (IsDecision a.suite r.pair a.extra) is d)) (⊎_elim (λ (e : end.outcome ≡ NoMemory). cc) (λ s. inl s.1)) r.comes)
          ran.ended;
      start = λ cause is. absurd (checks_never _ is (λ e. cc) (λ e. cc) (λ k. k) (λ p k. k));
    };
    findings = record {
      clash = λ clash is.
          ⊎_elim
          (λ (u : Unread). absurd (unread_as u _ is))
          (λ (r : PairRead). subst (λ (ks : List KeptAnswer). IsFirstClash (answers_of ks) clash) (sym r.kept_all) (decides r _ is (λ e. cc) (λ e. cc)).1)
          ran.ended;
      crowd = λ words is. absurd (checks_never _ is (λ e. cc) (λ e. cc) (λ k. k) (λ p k. k));
      suite = λ states number is.
          ⊎_elim
          (λ (u : Unread). absurd (unread_as u _ is))
          (λ (r : PairRead).
          let d = decides r _ is (λ e. cc) (λ e. cc) in
          record {
            model = r.read.machine;
            answers = r.read.read_answers;
            between = r.read.middle;
            model_file = r.read.model_file;
            answers_file = r.read.answers_file;
            large =
                subst
                (λ (p : Pair). (states ≡ length p.mealy.rows) × (number ≡ suite_size states p.mealy.inputs a.extra) × (greatest_suite < number))
                r.read.pair (d.1, d.0.2.3 ∙ ap (λ (n : ℕ). suite_size n r.pair.mealy.inputs a.extra) (sym d.1), d.0.2.2);
          })
          ran.ended;
      stopped = λ i s is. absurd (checks_stop i s is);
    };
  }

-- `trial`
module _ (v : _) (before now : WorldState) (end : End) (ran : IsTrialRun v before.out now.out before.err now.err end) where
  trial_is : (x : Outcome) → end.outcome ≡ x → IsTrialOutcome x
  trial_is x is = subst IsTrialOutcome is ran.kinds

  trials_stop : (i : ℕ) (s : SulStop) → ¬ (end.outcome ≡ system_outcome i s)
  trials_stop i sul.Failed is = trial_is _ is
  trials_stop i (sul.BadLine line) is = trial_is _ is
  trials_stop i sul.Gone is = trial_is _ is

  trials_causes : CausesAreTold (Some (TrialCall v)) before now end
  trials_causes = record {
    usage = λ is. absurd (trial_is _ is);
    faults = record {
      file = λ role is. absurd (trial_is _ is);
      source = λ is. absurd (trial_is _ is);
      sink = λ is. inl (ran.sink_fault is).0;
      start = λ cause is. absurd (trial_is _ is);
    };
    findings = record {
      clash = λ clash is. absurd (trial_is _ is);
      crowd = λ words is. absurd (trial_is _ is);
      suite = ran.suite;
      stopped = λ i s is. absurd (trials_stop i s is);
    };
  }

-- `serve`
module _ (model : List ℕ) (before now : WorldState) (end : End) (ran : serve.IsServeRun model before.files now.files before.input now.input before.out now.out before.err now.err end) where
  abbrev Unserved : Type 0
  Unserved = serve.EndsUnread before.input now.input before.out now.out end.outcome

  abbrev Played : Type 0
  Played = serve.EndsPlayed model before.files now.files before.input now.input before.out now.out end.outcome

  unserved : (u : Unserved) (x : Outcome) → end.outcome ≡ x → served.IsUnread x
  unserved u x is = subst served.IsUnread is u.kind

  plays : (p : Played) (x : Outcome) → end.outcome ≡ x → PlaysTo p.machine before.input.left x before.out.taken now.out.taken
  plays p x is = subst (λ (o : Outcome). PlaysTo p.machine before.input.left o before.out.taken now.out.taken) is p.played.plays

  serves_never : (x : Outcome) → end.outcome ≡ x → ¬ served.IsUnread x → ((m : Machine) → ¬ PlaysTo m before.input.left x before.out.taken now.out.taken) → ⊥
  serves_never x is unread play = ⊎_elim (λ (u : Unserved). unread (unserved u x is)) (λ (p : Played). play p.machine (plays p x is)) ran.ended

  serves_stop : (i : ℕ) (s : SulStop) → ¬ (end.outcome ≡ system_outcome i s)
  serves_stop i sul.Failed is = serves_never _ is (λ k. k) (λ m k. k)
  serves_stop i (sul.BadLine line) is = serves_never _ is (λ k. k) (λ m k. k)
  serves_stop i sul.Gone is = serves_never _ is (λ k. k) (λ m k. k)

  serves_causes : CausesAreTold (Some (Serve model)) before now end
  serves_causes = record {
    usage = λ is. absurd (serves_never _ is (λ k. k) (λ m k. k));
    faults = record {
      file = λ role is. (ran.file_fault role is).1;
      source = λ is. ⊎_elim (λ (u : Unserved). absurd (unserved u _ is)) (λ (p : Played). (p.played.source is).0) ran.ended;
      sink = λ is. inl (⊎_elim (λ (u : Unserved). absurd (unserved u _ is)) (λ (p : Played). p.played.sink is) ran.ended);
      start = λ cause is. absurd (serves_never _ is (λ k. k) (λ m k. k));
    };
    findings = record {
      clash = λ clash is. absurd (serves_never _ is (λ k. k) (λ m k. k));
      crowd = λ words is. absurd (serves_never _ is (λ k. k) (λ m k. k));
      suite = λ states number is. absurd (serves_never _ is (λ k. k) (λ m k. k));
      stopped = λ i s is. absurd (serves_stop i s is);
    };
  }

-- `compare`
module _ (a : PairValues) (before now : WorldState) (end : End) (ran : compare.IsCompareRun a.first a.second before.files now.files before.out now.out before.err now.err end) where
  abbrev Uncompared : Type 0
  Uncompared = compare.EndsUnread a.first a.second before.files now.files before.out now.out before.err now.err end.outcome

  abbrev ModelsRead : Type 0
  ModelsRead = compare.EndsModelsRead a.first a.second before.files now.files before.out now.out before.err now.err end.outcome

  uncompared : (u : Uncompared) (x : Outcome) → end.outcome ≡ x → compared.IsUnread a.first a.second before.files now.files x
  uncompared u x is = subst (compared.IsUnread a.first a.second before.files now.files) is u.cause

  uncompared_file : (r : Role) → compared.IsUnread a.first a.second before.files now.files (FileFault r) → CountedFault before.files.faults now.files.faults
  uncompared_file role.Model is = is.0
  uncompared_file role.Second is = is.0
  uncompared_file role.Answers is = absurd is
  uncompared_file role.Setup is = absurd is
  uncompared_file role.Table is = absurd is
  uncompared_file role.Prior is = absurd is
  uncompared_file role.Words is = absurd is
  uncompared_file role.Kept is = absurd is
  uncompared_file role.Last is = absurd is

  abbrev IsCompared : Outcome → Type 0
  IsCompared (Compared c) = Unit {0}
  IsCompared NoMemory = Unit {0}
  IsCompared SinkFault = Unit {0}
  IsCompared _ = ⊥

  compares : (r : ModelsRead) (x : Outcome) → end.outcome ≡ x → IsCompared x
  compares r x is =
      ⊎_elim
      (λ c. subst IsCompared (sym c.2 ∙ is) tt)
      (⊎_elim (λ (e : end.outcome ≡ NoMemory). subst IsCompared (sym e ∙ is) tt) (λ s. subst IsCompared (sym s.0 ∙ is) tt))
      r.comes

  compares_never : (x : Outcome) → end.outcome ≡ x → ¬ compared.IsUnread a.first a.second before.files now.files x → ¬ IsCompared x → ⊥
  compares_never x is unread none = ⊎_elim (λ (u : Uncompared). unread (uncompared u x is)) (λ (r : ModelsRead). none (compares r x is)) ran.ended

  compares_stop : (i : ℕ) (s : SulStop) → ¬ (end.outcome ≡ system_outcome i s)
  compares_stop i sul.Failed is = compares_never _ is (λ k. k) (λ k. k)
  compares_stop i (sul.BadLine line) is = compares_never _ is (λ k. k) (λ k. k)
  compares_stop i sul.Gone is = compares_never _ is (λ k. k) (λ k. k)

  compares_causes : CausesAreTold (Some (Compare a)) before now end
  compares_causes = record {
    usage = λ is. absurd (compares_never _ is (λ k. k) (λ k. k));
    faults = record {
      file = λ role is. ⊎_elim (λ (u : Uncompared). uncompared_file role (uncompared u _ is)) (λ (r : ModelsRead). absurd (compares r _ is)) ran.ended;
      source = λ is. absurd (compares_never _ is (λ k. k) (λ k. k));
      sink = λ is.
          ⊎_elim
          (λ (u : Uncompared). absurd (uncompared u _ is))
          (λ (r : ModelsRead). ⊎_elim (λ c. let e = c.2 in cc) (⊎_elim (λ (e : end.outcome ≡ NoMemory). cc) (λ s. inl s.1)) r.comes)
          ran.ended;
      start = λ cause is. absurd (compares_never _ is (λ k. k) (λ k. k));
    };
    findings = record {
      clash = λ clash is. absurd (compares_never _ is (λ k. k) (λ k. k));
      crowd = λ words is. absurd (compares_never _ is (λ k. k) (λ k. k));
      suite = λ states number is. absurd (compares_never _ is (λ k. k) (λ k. k));
      stopped = λ i s is. absurd (compares_stop i s is);
    };
  }

-- outcomes of an asking that came to its end
abbrev IsCome : Outcome → Type 0
IsCome Asked = Unit {0}
IsCome SinkFault = Unit {0}
IsCome NoMemory = Unit {0}
IsCome (SulFailed i) = Unit {0}
IsCome (Gone i) = Unit {0}
IsCome (BadLine i line) = Unit {0}
IsCome _ = ⊥

come_is : (c : Result (Unit {0}) AskingStop) → IsCome (came_outcome c)
come_is (Ok done) = tt
come_is (Err (asking.Sul sul.Failed)) = tt
come_is (Err (asking.Sul (sul.BadLine line))) = tt
come_is (Err (asking.Sul sul.Gone)) = tt
come_is (Err asking.Sink) = tt
come_is (Err asking.NoMemory) = tt

sink_came : (c : Result (Unit {0}) AskingStop) → came_outcome c ≡ SinkFault → c ≡ Err asking.Sink
sink_came (Ok done) e = cc
sink_came (Err (asking.Sul sul.Failed)) e = cc
sink_came (Err (asking.Sul (sul.BadLine line))) e = cc
sink_came (Err (asking.Sul sul.Gone)) e = cc
sink_came (Err asking.Sink) e = refl
sink_came (Err asking.NoMemory) e = cc

stop_came : (c : Result (Unit {0}) AskingStop) (i : ℕ) (s : SulStop) → came_outcome c ≡ system_outcome i s → (i ≡ 0) × (c ≡ Err (asking.Sul s))
stop_came (Ok done) i s e = absurd (subst IsStop (sym e) (stop_is i s))
stop_came (Err (asking.Sul t)) i s e = let same = same_stop 0 i t s e in (sym same.0, ap (λ (u : SulStop). Err (asking.Sul u)) same.1)
stop_came (Err asking.Sink) i s e = absurd (subst IsStop (sym e) (stop_is i s))
stop_came (Err asking.NoMemory) i s e = absurd (subst IsStop (sym e) (stop_is i s))

-- outcomes of a start
abbrev IsStart : Outcome → Type 0
IsStart (Unstarted cause) = Unit {0}
IsStart NoMemory = Unit {0}
IsStart _ = ⊥

start_is : (cause : StartFailure) (stop : StartStop) → IsStart (start_outcome cause stop)
start_is cause start.Failed = tt
start_is cause start.NoMemory = tt

failed_start : (cause told : StartFailure) (stop : StartStop) → start_outcome cause stop ≡ Unstarted told → stop ≡ start.Failed
failed_start cause told start.Failed e = refl
failed_start cause told start.NoMemory e = cc

-- a link alone
one_link : (outputs : Option (List (List ℕ))) (b z : SpawnerState) (link : LinkState) (i : ℕ) (s : SulStop) → i ≡ 0 → IsStopped outputs s link → IsChildStop outputs b z (link ∷ []) i s
one_link outputs b z link i s zero_is stopped = subst (λ (j : ℕ). IsChildStop outputs b z (link ∷ []) j s) (sym zero_is) (inr (omega arith, λ d. stopped))

-- a system that was asked: what its outcome comes from
pub record AskedSystem (s : System) (b z : SpawnerState) (o p : SinkState) (why : Outcome) : Type 0 where
  kind : IsCome why ⊎ IsStart why
  sink : why ≡ SinkFault → CountedFault o.faults p.faults
  start : (cause : StartFailure) → why ≡ Unstarted cause → CountedFault b.faults z.faults
  stopped : (i : ℕ) (stop : SulStop) → why ≡ system_outcome i stop → (links : List LinkState) × (i < 1) × (z.retired ≡ b.retired ++ links) × IsChildStop (declared_of s) b z links i stop

asked_system : (s : System) (words : List (List ℕ)) (b z : SpawnerState) (o p : SinkState) (kept : List KeptAnswer) (why : Outcome) → AsksSystem s words b z o p kept why → AskedSystem s b z o p why
asked_system (system.Table m) words b z o p kept why is =
    let r = is.1 in
    record {
      kind = inl (subst IsCome (sym r.outcome) (come_is r.came));
      sink = λ e. r.put.refused (sink_came r.came (sym r.outcome ∙ e));
      start = λ cause e. absurd (subst IsCome (sym r.outcome ∙ e) (come_is r.came));
      stopped = λ i stop e. absurd (r.sound stop (stop_came r.came i stop (sym r.outcome ∙ e)).1);
    }
asked_system (system.Children c) words b z o p kept why (inl r) =
    record {
      kind = inl (subst IsCome (sym r.outcome) (come_is r.came));
      sink = λ e. r.asks.put.refused (sink_came r.came (sym r.outcome ∙ e));
      start = λ cause e. absurd (subst IsCome (sym r.outcome ∙ e) (come_is r.came));
      stopped = λ i stop e. let came = stop_came r.came i stop (sym r.outcome ∙ e) in (r.asks.link ∷ [], omega (arith, came.0), r.asks.spawner.retired, one_link c.outputs b z r.asks.link i stop came.0 (r.asks.cause stop came.1));
    }
asked_system (system.Children c) words b z o p kept why (inr r) =
    record {
      kind = inr (subst IsStart (sym r.outcome) (start_is r.cause r.stop));
      sink = λ e. absurd (subst IsStart (sym r.outcome ∙ e) (start_is r.cause r.stop));
      start = λ cause e. (r.spawner.failed (failed_start r.cause cause r.stop (sym r.outcome ∙ e))).1;
      stopped = λ i stop e. absurd (no_stop IsStart why (λ j. λ k. k) (λ j. λ k. k) (λ j line. λ k. k) (subst IsStart (sym r.outcome) (start_is r.cause r.stop)) i stop e);
    }

-- `ask`
module _ (a : _) (before now : WorldState) (end : End) (ran : IsAskRun a before.files now.files before.spawner now.spawner before.out now.out before.err now.err end) (tells : TellsCause now end.outcome) where
  abbrev Unasked : Type 0
  Unasked = HasNoSystem a before.files now.files before.spawner now.spawner before.out now.out ran.hint ran.kept ran.why

  abbrev SomeSystem : Type 0
  SomeSystem = HasSystem a before.files now.files before.spawner now.spawner before.out now.out ran.hint ran.kept ran.why

  ask_why : (x : Outcome) → end.outcome ≡ x → NoMemory ≢ x → ran.why ≡ x
  ask_why x is other = stands ran.why end.outcome x ran.ended.outcome is other

  -- no system was read
  ask_read : (n : Unasked) (x : Outcome) → end.outcome ≡ x → NoMemory ≢ x → IsReading x
  ask_read n x is other = subst IsReading (sym n.outcome ∙ ask_why x is other) (reading_for n.stop)

  -- the words of texts that are none
  abbrev IsUnspelled : Outcome → Type 0
  IsUnspelled (UnknownLetter word place) = Unit {0}
  IsUnspelled NoMemory = Unit {0}
  IsUnspelled _ = ⊥

  unspelled : (s : SomeSystem) (w : HasNoWords s.system a.words before.spawner now.spawner before.out now.out ran.kept ran.why) (x : Outcome) → end.outcome ≡ x → NoMemory ≢ x → IsUnspelled x
  unspelled s w x is other = subst IsUnspelled (sym w.outcome ∙ ask_why x is other) (by w.stop)
    where
      by : (stop : WordStop) → IsUnspelled (word_outcome stop)
      by (word.Unknown number place) = tt
      by word.NoMemory = tt

  asked_texts : (s : SomeSystem) (X : Type 0) → (AskedSystem s.system before.spawner now.spawner before.out now.out ran.why → X) → (HasNoWords s.system a.words before.spawner now.spawner before.out now.out ran.kept ran.why → X) → X
  asked_texts s X asked none =
      ⊎_elim
      (λ (w : AsksWords s.system a.words before.spawner now.spawner before.out now.out ran.kept ran.why). asked (asked_system s.system w.words before.spawner now.spawner before.out now.out ran.kept ran.why w.asks))
      none
      s.asks

  -- an outcome that comes of no asking
  ask_never : (x : Outcome) → end.outcome ≡ x → NoMemory ≢ x → ¬ IsReading x → ¬ IsUnspelled x → ¬ IsCome x → ¬ IsStart x → ⊥
  ask_never x is other reading unspelled_not come starts =
      ⊎_elim
      (λ (s : SomeSystem). asked_texts s ⊥ (λ r. ⊎_elim (λ k. come (subst IsCome (ask_why x is other) k)) (λ k. starts (subst IsStart (ask_why x is other) k)) r.kind) (λ w. unspelled_not (unspelled s w x is other)))
      (λ (n : Unasked). reading (ask_read n x is other))
      ran.came

  ask_stopped : (i : ℕ) (stop : SulStop) → end.outcome ≡ system_outcome i stop → NoMemory ≢ system_outcome i stop → ¬ IsReading (system_outcome i stop) → ¬ IsUnspelled (system_outcome i stop) → InstanceStopped (Some (Ask a)) before now i stop
  ask_stopped i stop is other reading unspelled_not =
      ⊎_elim
      (λ (s : SomeSystem).
      asked_texts s (InstanceStopped (Some (Ask a)) before now i stop)
      (λ r.
      let w = r.stopped i stop (ask_why _ is other) in
      record { system = s.system; says = s.reads; within = w.1; links = w.0; retired = w.2; why = w.3 })
      (λ w. absurd (unspelled_not (unspelled s w _ is other))))
      (λ (n : Unasked). absurd (reading (ask_read n _ is other)))
      ran.came

  ask_stops : (i : ℕ) (stop : SulStop) → end.outcome ≡ system_outcome i stop → InstanceStopped (Some (Ask a)) before now i stop
  ask_stops i sul.Failed is = ask_stopped i sul.Failed is (λ e. cc) (λ k. k) (λ k. k)
  ask_stops i (sul.BadLine line) is = ask_stopped i (sul.BadLine line) is (λ e. cc) (λ k. k) (λ k. k)
  ask_stops i sul.Gone is = ask_stopped i sul.Gone is (λ e. cc) (λ k. k) (λ k. k)

  asks_causes : CausesAreTold (Some (Ask a)) before now end
  asks_causes = record {
    usage = λ is. absurd (ask_never _ is (λ e. cc) (λ k. k) (λ k. k) (λ k. k) (λ k. k));
    faults = record {
      file = λ role is.
          ⊎_elim
          (λ (s : SomeSystem). asked_texts s (CountedFault before.files.faults now.files.faults) (λ r. ⊎_elim (λ k. absurd (subst IsCome (ask_why _ is (λ e. cc)) k)) (λ k. absurd (subst IsStart (ask_why _ is (λ e. cc)) k)) r.kind) (λ w. absurd (unspelled s w _ is (λ e. cc))))
          (λ (n : Unasked). no_system_for a.goal a.source a.system before.files now.files ran.hint n.stop role n.cause (sym n.outcome ∙ ask_why _ is (λ e. cc)))
          ran.came;
      source = λ is. absurd (ask_never _ is (λ e. cc) (λ k. k) (λ k. k) (λ k. k) (λ k. k));
      sink = λ is. inl (
          ⊎_elim
          (λ (s : SomeSystem). asked_texts s (CountedFault before.out.faults now.out.faults) (λ r. r.sink (ask_why _ is (λ e. cc))) (λ w. absurd (unspelled s w _ is (λ e. cc))))
          (λ (n : Unasked). absurd (ask_read n _ is (λ e. cc)))
          ran.came
          );
      start = λ cause is. (
        ⊎_elim
            (λ (s : SomeSystem). asked_texts s (CountedFault before.spawner.faults now.spawner.faults) (λ r. r.start cause (ask_why _ is (λ e. cc))) (λ w. absurd (unspelled s w _ is (λ e. cc))))
            (λ (n : Unasked). absurd (ask_read n _ is (λ e. cc)))
            ran.came,
        tells cause is,
      );
    };
    findings = record {
      clash = λ clash is. absurd (ask_never _ is (λ e. cc) (λ k. k) (λ k. k) (λ k. k) (λ k. k));
      crowd = λ words is. absurd (ask_never _ is (λ e. cc) (λ k. k) (λ k. k) (λ k. k) (λ k. k));
      suite = λ states number is. absurd (ask_never _ is (λ e. cc) (λ k. k) (λ k. k) (λ k. k) (λ k. k));
      stopped = ask_stops;
    };
  }

-- outcomes of a recheck that came to its end
abbrev IsAgain : Outcome → Type 0
IsAgain (Rechecked answers) = Unit {0}
IsAgain (Nondeterministic clash) = Unit {0}
IsAgain NoMemory = Unit {0}
IsAgain (SulFailed i) = Unit {0}
IsAgain (Gone i) = Unit {0}
IsAgain (BadLine i line) = Unit {0}
IsAgain _ = ⊥

again_is : (n : ℕ) (c : Result (Option Clash) RunStop) → IsAgain (rechecked.came_outcome n c)
again_is n (Ok None) = tt
again_is n (Ok (Some clash)) = tt
again_is n (Err (run.Sul sul.Failed)) = tt
again_is n (Err (run.Sul (sul.BadLine line))) = tt
again_is n (Err (run.Sul sul.Gone)) = tt
again_is n (Err run.NoMemory) = tt

clash_came : (n : ℕ) (c : Result (Option Clash) RunStop) (clash : Clash) → rechecked.came_outcome n c ≡ Nondeterministic clash → c ≡ Ok (Some clash)
clash_came n (Ok None) clash e = cc
clash_came n (Ok (Some found)) clash e = cc
clash_came n (Err (run.Sul sul.Failed)) clash e = cc
clash_came n (Err (run.Sul (sul.BadLine line))) clash e = cc
clash_came n (Err (run.Sul sul.Gone)) clash e = cc
clash_came n (Err run.NoMemory) clash e = cc

again_stop : (n : ℕ) (c : Result (Option Clash) RunStop) (i : ℕ) (s : SulStop) → rechecked.came_outcome n c ≡ system_outcome i s → (i ≡ 0) × (c ≡ Err (run.Sul s))
again_stop n (Ok None) i s e = absurd (subst IsStop (sym e) (stop_is i s))
again_stop n (Ok (Some clash)) i s e = absurd (subst IsStop (sym e) (stop_is i s))
again_stop n (Err (run.Sul t)) i s e = let same = same_stop 0 i t s e in (sym same.0, ap (λ (u : SulStop). Err (run.Sul u)) same.1)
again_stop n (Err run.NoMemory) i s e = absurd (subst IsStop (sym e) (stop_is i s))

-- answers, and behind them one that clashes with one of them
abbrev HasClash : (answers kept : List KeptAnswer) → Clash → Type 0
HasClash answers kept clash =
    (last : KeptAnswer)
    × (kept ≡ answers ++ last ∷ [])
    × (clash.first < length answers)
    × (clash.second ≡ length answers)
    × ClashAt (answer_at (answers_of answers) clash.first) (answer_of last) clash.place

again_clash : (machine : _) (outputs : List (List ℕ)) (answers : List KeptAnswer) (names : List (List ℕ)) (runs : _) (shown : List (List ℕ)) (kept : List KeptAnswer) (c : Result (Option Clash) RunStop) (clash : Clash) → HasRechecked machine outputs answers names runs shown kept c → c ≡ Ok (Some clash) → HasClash answers kept clash
again_clash machine outputs answers names runs shown kept c clash has is =
    let w = subst (HasRechecked machine outputs answers names runs shown kept) is has in
    (record { instance = 0; run = clash.first; word = w.last.word; outs = w.outs }, w.kept_is, w.within, w.second, w.here)

-- a system that was asked again: what its outcome comes from
pub record RecheckedSystem (s : System) (answers : List KeptAnswer) (b z : SpawnerState) (kept : List KeptAnswer) (why : Outcome) : Type 0 where
  kind : IsAgain why ⊎ IsStart why
  clash : (c : Clash) → why ≡ Nondeterministic c → HasClash answers kept c
  start : (cause : StartFailure) → why ≡ Unstarted cause → CountedFault b.faults z.faults
  stopped : (i : ℕ) (stop : SulStop) → why ≡ system_outcome i stop → (links : List LinkState) × (i < 1) × (z.retired ≡ b.retired ++ links) × IsChildStop (declared_of s) b z links i stop

rechecked_system : (s : System) (outputs : List (List ℕ)) (answers : List KeptAnswer) (b z : SpawnerState) (shown : Option (List (List ℕ))) (kept : List KeptAnswer) (why : Outcome) → RechecksSystem s outputs answers b z shown kept why → RecheckedSystem s answers b z kept why
rechecked_system (system.Table m) outputs answers b z shown kept why is =
    let r = is.1 in
    record {
      kind = inl (subst IsAgain (sym r.outcome) (again_is (length answers) r.came));
      clash = λ c e. again_clash _ outputs answers _ _ r.names kept r.came c r.has (clash_came (length answers) r.came c (sym r.outcome ∙ e));
      start = λ cause e. absurd (subst IsAgain (sym r.outcome ∙ e) (again_is (length answers) r.came));
      stopped = λ i stop e. absurd (r.sound stop (again_stop (length answers) r.came i stop (sym r.outcome ∙ e)).1);
    }
rechecked_system (system.Children c) outputs answers b z shown kept why (inl r) =
    record {
      kind = inl (subst IsAgain (sym r.outcome) (again_is (length answers) r.came));
      clash = λ clash e. again_clash _ outputs answers _ _ r.names kept r.came clash r.asks.has (clash_came (length answers) r.came clash (sym r.outcome ∙ e));
      start = λ cause e. absurd (subst IsAgain (sym r.outcome ∙ e) (again_is (length answers) r.came));
      stopped = λ i stop e. let came = again_stop (length answers) r.came i stop (sym r.outcome ∙ e) in (r.asks.link ∷ [], omega (arith, came.0), r.asks.spawner.retired, one_link c.outputs b z r.asks.link i stop came.0 (r.asks.cause stop came.1));
    }
rechecked_system (system.Children c) outputs answers b z shown kept why (inr r) =
    record {
      kind = inr (subst IsStart (sym r.outcome) (start_is r.cause r.stop));
      clash = λ clash e. absurd (subst IsStart (sym r.outcome ∙ e) (start_is r.cause r.stop));
      start = λ cause e. (r.spawner.failed (failed_start r.cause cause r.stop (sym r.outcome ∙ e))).1;
      stopped = λ i stop e. absurd (no_stop IsStart why (λ j. λ k. k) (λ j. λ k. k) (λ j line. λ k. k) (subst IsStart (sym r.outcome) (start_is r.cause r.stop)) i stop e);
    }

-- how the outcome was told
module _ (inputs outputs : Option (List (List ℕ))) (kept : List KeptAnswer) (o p e d : SinkState) (end : End) where
  abbrev TellsWhy : Outcome → Type 0
  TellsWhy why = (end.outcome ≡ NoMemory) ⊎ ((end.outcome ≡ why) ⊎ ((end.outcome ≡ SinkFault) × CountedFault o.faults p.faults))

  stands_so : (why : Outcome) → StandsOrWants why end.outcome → TellsWhy why
  stands_so why (inl same) = inr (inl same)
  stands_so why (inr wants) = inl wants.1

  tells_again : (n : ℕ) (c : Result (Option Clash) RunStop) → EndsBy inputs outputs (rechecked.came_outcome n c) kept o p e d end → TellsWhy (rechecked.came_outcome n c)
  tells_again n (Ok None) (inl put) = inr (inl put.outcome)
  tells_again n (Ok None) (inr (inl unput)) = inl unput.outcome
  tells_again n (Ok None) (inr (inr cut)) = inr (inr (cut.outcome, cut.refused))
  tells_again n (Ok (Some clash)) told = stands_so _ told.outcome
  tells_again n (Err (run.Sul sul.Failed)) told = stands_so _ told.outcome
  tells_again n (Err (run.Sul (sul.BadLine line))) told = stands_so _ told.outcome
  tells_again n (Err (run.Sul sul.Gone)) told = stands_so _ told.outcome
  tells_again n (Err run.NoMemory) told = stands_so _ told.outcome

  tells_start : (cause : StartFailure) (stop : StartStop) → EndsBy inputs outputs (start_outcome cause stop) kept o p e d end → TellsWhy (start_outcome cause stop)
  tells_start cause start.Failed told = stands_so _ told.outcome
  tells_start cause start.NoMemory told = stands_so _ told.outcome

  tells_system : (s : System) (names : List (List ℕ)) (answers : List KeptAnswer) (b z : SpawnerState) (shown : Option (List (List ℕ))) (why : Outcome) → RechecksSystem s names answers b z shown kept why → EndsBy inputs outputs why kept o p e d end → TellsWhy why
  tells_system (system.Table m) names answers b z shown why is told =
      let r = is.1 in
      subst TellsWhy (sym r.outcome) (tells_again (length answers) r.came (subst (λ (w : Outcome). EndsBy inputs outputs w kept o p e d end) r.outcome told))
  tells_system (system.Children c) names answers b z shown why (inl r) told = subst TellsWhy (sym r.outcome) (tells_again (length answers) r.came (subst (λ (w : Outcome). EndsBy inputs outputs w kept o p e d end) r.outcome told))
  tells_system (system.Children c) names answers b z shown why (inr r) told = subst TellsWhy (sym r.outcome) (tells_start r.cause r.stop (subst (λ (w : Outcome). EndsBy inputs outputs w kept o p e d end) r.outcome told))

-- outcomes of files that say no system and answers
abbrev IsNone : Outcome → Type 0
IsNone (FileFault r) = Unit {0}
IsNone (FileTooLong r) = Unit {0}
IsNone (BadFile r fault) = Unit {0}
IsNone (Alphabets r) = Unit {0}
IsNone NoMemory = Unit {0}
IsNone _ = ⊥

none_reads : (its : Role) (why : ReadStop JsonFault) → IsNone (read_outcome its why)
none_reads its read.Failed = tt
none_reads its read.TooLong = tt
none_reads its (read.Bad fault) = tt
none_reads its read.NoMemory = tt

none_is : (setup answers : List ℕ) (f g : FilesState) (why : Outcome) → IsUnread setup answers f g why → IsNone why
none_is setup answers f g why (inl r) = subst IsNone (sym r.comes_to) (none_reads (role_of r.stop.file) r.stop.stop)
none_is setup answers f g why (inr (inl r)) = subst IsNone (sym r.refused.comes_to) (none_reads role.Prior r.refused.stop)
none_is setup answers f g why (inr (inr r)) = subst IsNone (sym r.alphabets) tt

none_file : (setup answers : List ℕ) (f g : FilesState) (why : Outcome) (r : Role) → IsUnread setup answers f g why → why ≡ FileFault r → CountedFault f.faults g.faults
none_file setup answers f g why r (inl n) e = no_system source.Setup setup f g n.stop r n.unread (sym n.comes_to ∙ e)
none_file setup answers f g why r (inr (inl n)) e = subst (λ (k : ℕ). CountedFault k g.faults) n.behind.quiet (not_read _ _ answers n.between g n.refused.stop role.Prior r n.refused.unread (sym n.refused.comes_to ∙ e))
none_file setup answers f g why r (inr (inr n)) e = let same = n.alphabets in cc

-- `recheck`
module _ (a : _) (before now : WorldState) (end : End) (ran : IsRecheckRun a before.files now.files before.spawner now.spawner before.out now.out before.err now.err end) (tells : TellsCause now end.outcome) where
  abbrev Nothing : Type 0
  Nothing = HasNone a before.files now.files before.spawner now.spawner before.out now.out before.err now.err end

  abbrev AskedAgain : Type 0
  AskedAgain = HasAskedSystem a before.files now.files before.spawner now.spawner before.out now.out before.err now.err end

  nothing_is : (n : Nothing) (x : Outcome) → end.outcome ≡ x → NoMemory ≢ x → IsNone x
  nothing_is n x is other = subst IsNone (stands n.why end.outcome x n.told.outcome is other) (none_is a.setup a.answers before.files now.files n.why n.cause)

  of_system : (s : AskedAgain) → RecheckedSystem s.system s.answers.kept.answers before.spawner now.spawner s.asks.kept s.asks.why
  of_system s = rechecked_system s.system s.answers.outputs s.answers.kept.answers before.spawner now.spawner s.asks.shown s.asks.kept s.asks.why s.asks.asks

  told_why : (s : AskedAgain) → (end.outcome ≡ NoMemory) ⊎ ((end.outcome ≡ s.asks.why) ⊎ ((end.outcome ≡ SinkFault) × CountedFault before.out.faults now.out.faults))
  told_why s = tells_system (Some s.answers.inputs) s.asks.shown s.asks.kept before.out now.out before.err now.err end s.system s.answers.outputs s.answers.kept.answers before.spawner now.spawner s.asks.shown s.asks.why s.asks.asks s.asks.ended.told

  again_why : (s : AskedAgain) (x : Outcome) → end.outcome ≡ x → NoMemory ≢ x → SinkFault ≢ x → s.asks.why ≡ x
  again_why s x is memory sink =
      ⊎_elim
      (λ (e : end.outcome ≡ NoMemory). absurd (memory (sym e ∙ is)))
      (⊎_elim (λ (e : end.outcome ≡ s.asks.why). sym e ∙ is) (λ f. absurd (sink (sym f.0 ∙ is))))
      (told_why s)

  again_kind : (s : AskedAgain) (x : Outcome) → end.outcome ≡ x → NoMemory ≢ x → SinkFault ≢ x → IsAgain x ⊎ IsStart x
  again_kind s x is memory sink = subst (λ (w : Outcome). IsAgain w ⊎ IsStart w) (again_why s x is memory sink) (of_system s).kind

  recheck_never : (x : Outcome) → end.outcome ≡ x → NoMemory ≢ x → SinkFault ≢ x → ¬ IsNone x → ¬ IsAgain x → ¬ IsStart x → ⊥
  recheck_never x is memory sink none again starts = ⊎_elim (λ (s : AskedAgain). ⊎_elim again starts (again_kind s x is memory sink)) (λ (n : Nothing). none (nothing_is n x is memory)) ran.came

  recheck_stopped : (i : ℕ) (stop : SulStop) → end.outcome ≡ system_outcome i stop → NoMemory ≢ system_outcome i stop → SinkFault ≢ system_outcome i stop → ¬ IsNone (system_outcome i stop) → InstanceStopped (Some (Recheck a)) before now i stop
  recheck_stopped i stop is memory sink none =
      ⊎_elim
      (λ (s : AskedAgain).
      let w = (of_system s).stopped i stop (again_why s _ is memory sink) in
      record { system = s.system; says = (s.answers, s.reads); within = w.1; links = w.0; retired = w.2; why = w.3 })
      (λ (n : Nothing). absurd (none (nothing_is n _ is memory)))
      ran.came

  recheck_stops : (i : ℕ) (stop : SulStop) → end.outcome ≡ system_outcome i stop → InstanceStopped (Some (Recheck a)) before now i stop
  recheck_stops i sul.Failed is = recheck_stopped i sul.Failed is (λ e. cc) (λ e. cc) (λ k. k)
  recheck_stops i (sul.BadLine line) is = recheck_stopped i (sul.BadLine line) is (λ e. cc) (λ e. cc) (λ k. k)
  recheck_stops i sul.Gone is = recheck_stopped i sul.Gone is (λ e. cc) (λ e. cc) (λ k. k)

  recheck_causes : CausesAreTold (Some (Recheck a)) before now end
  recheck_causes = record {
    usage = λ is. absurd (recheck_never _ is (λ e. cc) (λ e. cc) (λ k. k) (λ k. k) (λ k. k));
    faults = record {
      file = λ role is.
          ⊎_elim
          (λ (s : AskedAgain). absurd (⊎_elim (λ (k : IsAgain (FileFault role)). k) (λ (k : IsStart (FileFault role)). k) (again_kind s _ is (λ e. cc) (λ e. cc))))
          (λ (n : Nothing). none_file a.setup a.answers before.files now.files n.why role n.cause (stands n.why end.outcome _ n.told.outcome is (λ e. cc)))
          ran.came;
      source = λ is. absurd (recheck_never _ is (λ e. cc) (λ e. cc) (λ k. k) (λ k. k) (λ k. k));
      sink = λ is. inl (
          ⊎_elim
          (λ (s : AskedAgain).
          ⊎_elim
          (λ (e : end.outcome ≡ NoMemory). cc)
          (⊎_elim
          (λ (e : end.outcome ≡ s.asks.why). absurd (⊎_elim (λ (k : IsAgain SinkFault). k) (λ (k : IsStart SinkFault). k) (subst (λ (w : Outcome). IsAgain w ⊎ IsStart w) (sym e ∙ is) (of_system s).kind)))
          (λ f. f.1))
          (told_why s))
          (λ (n : Nothing). absurd (nothing_is n _ is (λ e. cc)))
          ran.came
          );
      start = λ cause is. (
        ⊎_elim
            (λ (s : AskedAgain). (of_system s).start cause (again_why s _ is (λ e. cc) (λ e. cc)))
            (λ (n : Nothing). absurd (nothing_is n _ is (λ e. cc)))
            ran.came,
        tells cause is,
      );
    };
    findings = record {
      clash = λ clash is.
          ⊎_elim
          (λ (s : AskedAgain).
          let w = (of_system s).clash clash (again_why s _ is (λ e. cc) (λ e. cc)) in
          record { system = s.system; answers = s.answers; reads = s.reads; last = w.0; kept_is = s.asks.ended.bare.kept_is ∙ w.1; clashes = (w.2, w.3, w.4) })
          (λ (n : Nothing). absurd (nothing_is n _ is (λ e. cc)))
          ran.came;
      crowd = λ words is. absurd (recheck_never _ is (λ e. cc) (λ e. cc) (λ k. k) (λ k. k) (λ k. k));
      suite = λ states number is. absurd (recheck_never _ is (λ e. cc) (λ e. cc) (λ k. k) (λ k. k) (λ k. k));
      stopped = recheck_stops;
    };
  }

-- outcomes of a learning's stop
abbrev IsLearnStop : Outcome → Type 0
IsLearnStop (Nondeterministic clash) = Unit {0}
IsLearnStop (SulFailed i) = Unit {0}
IsLearnStop (Gone i) = Unit {0}
IsLearnStop (BadLine i line) = Unit {0}
IsLearnStop NoMemory = Unit {0}
IsLearnStop (TooManyStates words) = Unit {0}
IsLearnStop (SuiteTooLarge states number) = Unit {0}
IsLearnStop _ = ⊥

learn_stop_is : (stop : LearnStop) → IsLearnStop (learn_outcome stop)
learn_stop_is (learn.Ask (ask.Clash clash)) = tt
learn_stop_is (learn.Ask (ask.Sul i sul.Failed)) = tt
learn_stop_is (learn.Ask (ask.Sul i (sul.BadLine line))) = tt
learn_stop_is (learn.Ask (ask.Sul i sul.Gone)) = tt
learn_stop_is (learn.Ask ask.NoMemory) = tt
learn_stop_is (learn.Crowd words) = tt
learn_stop_is (learn.TooLarge model number) = tt

-- a stop's outcome, turned round
clash_stop : (stop : LearnStop) (clash : Clash) → learn_outcome stop ≡ Nondeterministic clash → stop ≡ learn.Ask (ask.Clash clash)
clash_stop (learn.Ask (ask.Clash found)) clash e = cc
clash_stop (learn.Ask (ask.Sul i sul.Failed)) clash e = cc
clash_stop (learn.Ask (ask.Sul i (sul.BadLine line))) clash e = cc
clash_stop (learn.Ask (ask.Sul i sul.Gone)) clash e = cc
clash_stop (learn.Ask ask.NoMemory) clash e = cc
clash_stop (learn.Crowd words) clash e = cc
clash_stop (learn.TooLarge model number) clash e = cc

crowd_stop : (stop : LearnStop) (words : List (List ℕ)) → learn_outcome stop ≡ TooManyStates words → stop ≡ learn.Crowd words
crowd_stop (learn.Ask (ask.Clash found)) words e = cc
crowd_stop (learn.Ask (ask.Sul i sul.Failed)) words e = cc
crowd_stop (learn.Ask (ask.Sul i (sul.BadLine line))) words e = cc
crowd_stop (learn.Ask (ask.Sul i sul.Gone)) words e = cc
crowd_stop (learn.Ask ask.NoMemory) words e = cc
crowd_stop (learn.Crowd others) words e = cc
crowd_stop (learn.TooLarge model number) words e = cc

large_stop : (a b k most : ℕ) (ks : List Answer) (stop : LearnStop) (states number : ℕ) → learn_outcome stop ≡ SuiteTooLarge states number → LearningStopsBy a b k most ks stop → HasLargeSuite a b k most ks states number
large_stop a b k most ks (learn.Ask (ask.Clash found)) states number e by = cc
large_stop a b k most ks (learn.Ask (ask.Sul i sul.Failed)) states number e by = cc
large_stop a b k most ks (learn.Ask (ask.Sul i (sul.BadLine line))) states number e by = cc
large_stop a b k most ks (learn.Ask (ask.Sul i sul.Gone)) states number e by = cc
large_stop a b k most ks (learn.Ask ask.NoMemory) states number e by = cc
large_stop a b k most ks (learn.Crowd words) states number e by = cc
large_stop a b k most ks (learn.TooLarge model size) states number e by =
    let many : length model.rows ≡ states = cc in
    let same : size ≡ number = cc in
    subst₂ (λ (n s : ℕ). HasLargeSuite a b k most ks n s) many same by

system_stop : (stop : LearnStop) (i : ℕ) (s : SulStop) → learn_outcome stop ≡ system_outcome i s → stop ≡ learn.Ask (ask.Sul i s)
system_stop (learn.Ask (ask.Clash found)) i s e = absurd (subst IsStop (sym e) (stop_is i s))
system_stop (learn.Ask (ask.Sul j t)) i s e = let same = same_stop j i t s e in ap (λ (n : ℕ). learn.Ask (ask.Sul n t)) same.0 ∙ ap (λ (u : SulStop). learn.Ask (ask.Sul i u)) same.1
system_stop (learn.Ask ask.NoMemory) i s e = absurd (subst IsStop (sym e) (stop_is i s))
system_stop (learn.Crowd words) i s e = absurd (subst IsStop (sym e) (stop_is i s))
system_stop (learn.TooLarge model number) i s e = absurd (subst IsStop (sym e) (stop_is i s))

-- a learning's stop has its cause
found_clash : (a : LearnValues) (s : System) (prior : List KeptAnswer) (b z : SpawnerState) (learned : Result Found LearnStop) (kept : List KeptAnswer) (names : List (List ℕ)) (clash : Clash) → IsOfSystem a s prior b z learned kept names → learned ≡ Err (learn.Ask (ask.Clash clash)) → IsFirstClash (answers_of kept) clash
found_clash a (system.Table m) prior b z learned kept names clash is e = subst (λ (r : Result Found LearnStop). IfErr r (IsMachineStop kept)) e is.1.causes
found_clash a (system.Children c) prior b z learned kept names clash is e = by c.outputs is
  where
    by : (outputs : Option (List (List ℕ))) → IsOfCommand a.learner c.words c.inputs outputs a.workers a.extra a.max_states prior b z learned kept names → IsFirstClash (answers_of kept) clash
    by None of = subst (λ (r : Result Found LearnStop). IfErr r (IsCausedBy None a.workers b z of.1.links kept)) e of.1.causes
    by (Some outputs) of = subst (λ (r : Result Found LearnStop). IfErr r (IsCausedBy (Some outputs) a.workers b z of.1.links kept)) e of.1.causes

found_stop : (a : LearnValues) (s : System) (prior : List KeptAnswer) (b z : SpawnerState) (learned : Result Found LearnStop) (kept : List KeptAnswer) (names : List (List ℕ)) (i : ℕ) (stop : SulStop) → IsOfSystem a s prior b z learned kept names → learned ≡ Err (learn.Ask (ask.Sul i stop))
    → (links : List LinkState) × (i < a.workers) × (z.retired ≡ b.retired ++ links) × IsChildStop (declared_of s) b z links i stop
found_stop a (system.Table m) prior b z learned kept names i stop is e = absurd (subst (λ (r : Result Found LearnStop). IfErr r (IsMachineStop kept)) e is.1.causes)
found_stop a (system.Children c) prior b z learned kept names i stop is e = by c.outputs is
  where
    by : (outputs : Option (List (List ℕ))) → IsOfCommand a.learner c.words c.inputs outputs a.workers a.extra a.max_states prior b z learned kept names → (links : List LinkState) × (i < a.workers) × (z.retired ≡ b.retired ++ links) × IsChildStop outputs b z links i stop
    by None of = let why = subst (λ (r : Result Found LearnStop). IfErr r (IsCausedBy None a.workers b z of.1.links kept)) e of.1.causes in (of.1.links, why.0, of.1.spawner.retired, why.1)
    by (Some outputs) of = let why = subst (λ (r : Result Found LearnStop). IfErr r (IsCausedBy (Some outputs) a.workers b z of.1.links kept)) e of.1.causes in (of.1.links, why.0, of.1.spawner.retired, why.1)

-- the kept answers' file that could not be written was counted
saved_counts : (file : Option (List ℕ)) (inputs outputs : List (List ℕ)) (kept : List KeptAnswer) (f g : FilesState) → IsKeptWritten file inputs outputs kept f g saving.Failed → CountedFault f.faults g.faults
saved_counts None inputs outputs kept f g is = let e = is.1 in cc
saved_counts (Some name) inputs outputs [] f g is = let e = is.1 in cc
saved_counts (Some name) inputs outputs (k ∷ ks) f g is = is.1

-- `learn`
module _ (v : LearnValues) (earlier : Option (List ℕ)) (begins : IsEarlier v earlier) (before now : WorldState) (end : End) (ran : IsLearnRun (with_earlier earlier v) before.files now.files before.spawner now.spawner before.out now.out before.err now.err now.log end) where
  abbrev a : LearnValues
  a = with_earlier earlier v

  abbrev Unlearned : Type 0
  Unlearned = EndsUnread a before.files now.files before.spawner now.spawner before.out now.out before.err ran.told end

  abbrev LearnedSystem : Type 0
  LearnedSystem = EndsRead a before.files now.files before.spawner now.spawner before.out now.out before.err ran.told end

  said_since : ran.told.faults ≤ now.err.faults
  said_since =
      ⊎_elim
      (λ (says : SaysLog a.log now.log ran.told now.err). log_counts a.log now.log ran.told now.err says)
      (λ (wants : (end.outcome ≡ NoMemory) × (now.err ≡ ran.told)). let e : now.err.faults ≡ ran.told.faults = ap (λ (s : SinkState). s.faults) wants.1 in omega (arith, e))
      ran.log

  -- the probe of a file that is to be written failed
  abbrev Unwrites : Unlearned → Outcome → Type 0
  Unwrites u x = (r : Role) × (FileFault r ≡ x) × CountedFault before.files.faults u.between.faults

  -- there are no words to ask
  abbrev Unworded : Unlearned → Outcome → Type 0
  Unworded u x = (w : IsWordlessTask a before.files u.between u.read end.kept.answers end.outcome) × IsWordless a.words (letters_of w.system) w.between u.between x

  -- why no learning began, by an outcome that isn't out of memory
  unlearned : (u : Unlearned) (x : Outcome) → end.outcome ≡ x → NoMemory ≢ x → IsUnreadBy a before.files u.between u.read end.kept.answers x ⊎ (Unworded u x ⊎ Unwrites u x)
  unlearned u x is other =
      ⊎_elim
      (⊎_elim
      (λ (by : IsUnreadBy a before.files u.between u.read end.kept.answers end.outcome). inl (subst (IsUnreadBy a before.files u.between u.read end.kept.answers) is by))
      (λ wants. absurd (other (sym wants.0 ∙ is))))
      (⊎_elim
      (λ (w : IsWordlessTask a before.files u.between u.read end.kept.answers end.outcome).
      ⊎_elim
      (λ (e : end.outcome ≡ w.why). inr (inl (w, subst (IsWordless a.words (letters_of w.system) w.between u.between) (sym e ∙ is) w.because)))
      (λ (e : end.outcome ≡ NoMemory). absurd (other (sym e ∙ is)))
      w.told)
      (λ (w : IsUnwritable a before.files u.between u.read end.kept.answers end.outcome).
      ⊎_elim
      (λ (e : end.outcome ≡ w.why).
      ⊎_elim
      (λ (fails : (r : Role) × (w.why ≡ FileFault r) × FailsProbe (written_files a) w.middle u.between r). inr (inr (fails.0, sym fails.1 ∙ (sym e ∙ is), subst (λ (n : ℕ). CountedFault n u.between.faults) w.quiet fails.2.counted)))
      (λ (wants : (w.why ≡ NoMemory) × WantsProbe (written_files a) w.middle u.between). absurd (other (sym wants.0 ∙ (sym e ∙ is))))
      w.because)
      (λ (e : end.outcome ≡ NoMemory). absurd (other (sym e ∙ is)))
      w.told))
      u.cause

  -- what was learned, by an outcome that is neither out of memory nor that there is no acceptor: a model was told, or the learning
  -- stopped so
  learns : (r : LearnedSystem) (x : Outcome) → end.outcome ≡ x → NoMemory ≢ x → ((q y : ℕ) → NotAcceptor q y ≢ x) → ((l : Found) × ReportIsTold (told_of a.goal l.model (refinements_of l.learner)) x) ⊎ ((stop : LearnStop) × (r.ended.learned.learned ≡ Err stop) × (learn_outcome stop ≡ x))
  learns r x is other none = by r.ended.learned.learned refl r.ended.learned.told.told.carries
    where
      reported : (l : Found) → ModelIsTold a.goal l.model (refinements_of l.learner) x → ReportIsTold (told_of a.goal l.model (refinements_of l.learner)) x
      reported l (inl told) = told
      reported l (inr denied) = absurd (none denied.1.0 denied.1.1 (sym denied.1.2))

      by : (found : Result Found LearnStop) → r.ended.learned.learned ≡ found → Carries a.goal found end → ((l : Found) × ReportIsTold (told_of a.goal l.model (refinements_of l.learner)) x) ⊎ ((stop : LearnStop) × (r.ended.learned.learned ≡ Err stop) × (learn_outcome stop ≡ x))
      by (Ok l) same carries = inl (l, reported l (subst (ModelIsTold a.goal l.model (refinements_of l.learner)) is carries.3))
      by (Err stop) same carries = inr (stop, same, stands (learn_outcome stop) end.outcome x carries.2 is other)

  -- an outcome that comes of none
  learn_never : (x : Outcome) → end.outcome ≡ x → NoMemory ≢ x → ((q y : ℕ) → NotAcceptor q y ≢ x) → ((r : Role) → FileFault r ≢ x)
      → ((u : Unlearned) → ¬ IsUnreadBy a before.files u.between u.read end.kept.answers x) → ((u : Unlearned) (w : IsWordlessTask a before.files u.between u.read end.kept.answers end.outcome) → ¬ IsWordless a.words (letters_of w.system) w.between u.between x)
      → ((l : Found) → ¬ ReportIsTold (told_of a.goal l.model (refinements_of l.learner)) x) → ¬ IsLearnStop x → ⊥
  learn_never x is other none file unread wordless told stop =
      ⊎_elim
      (λ (u : Unlearned). ⊎_elim (unread u) (⊎_elim (λ (w : Unworded u x). wordless u w.0 w.1) (λ (f : Unwrites u x). absurd (file f.0 f.1))) (unlearned u x is other))
      (λ (r : LearnedSystem). ⊎_elim (λ l. told l.0 l.1) (λ s. stop (subst IsLearnStop s.2 (learn_stop_is s.0))) (learns r x is other none))
      ran.ends

  -- the stop of an outcome that comes of a learning alone
  stopped_by : (X : Type 0) (x : Outcome) → end.outcome ≡ x → NoMemory ≢ x → ((q y : ℕ) → NotAcceptor q y ≢ x) → ((r : Role) → FileFault r ≢ x)
      → ((u : Unlearned) → IsUnreadBy a before.files u.between u.read end.kept.answers x → X) → ((u : Unlearned) (w : IsWordlessTask a before.files u.between u.read end.kept.answers end.outcome) → IsWordless a.words (letters_of w.system) w.between u.between x → X)
      → ((l : Found) → ReportIsTold (told_of a.goal l.model (refinements_of l.learner)) x → X) → ((r : LearnedSystem) (stop : LearnStop) → r.ended.learned.learned ≡ Err stop → learn_outcome stop ≡ x → X) → X
  stopped_by X x is other none file unread wordless told stop =
      ⊎_elim
      (λ (u : Unlearned). ⊎_elim (unread u) (⊎_elim (λ (w : Unworded u x). wordless u w.0 w.1) (λ (f : Unwrites u x). absurd (file f.0 f.1))) (unlearned u x is other))
      (λ (r : LearnedSystem). ⊎_elim (λ l. told l.0 l.1) (λ s. stop r s.0 s.1 s.2) (learns r x is other none))
      ran.ends

  saved_later : (u : Unlearned) → u.between.faults ≤ now.files.faults
  saved_later u = u.saved.saved.counts

  -- a file that could not be written
  wrote_file : (r : LearnedSystem) (its : Role) → end.outcome ≡ FileFault its → (its ≡ role.Model) ⊎ ((its ≡ role.Answers) ⊎ (its ≡ role.Kept)) → CountedFault before.files.faults now.files.faults
  wrote_file r its is which =
      let told = r.ended.learned.told in
      let left : before.files.faults ≤ r.ended.left.faults = subst (λ (n : ℕ). n ≤ r.ended.left.faults) r.quiet r.ended.last.counts in
      let saved = told.saved.counts in
      let since : before.files.faults ≤ told.between.faults = omega (arith, left, saved) in
      ⊎_elim
      (λ (e : its ≡ role.Model). counted_since before.files.faults told.between.faults now.files.faults since (told.told.file_fault its is (λ k. let f = e in cc)))
      (⊎_elim
      (λ (e : its ≡ role.Answers). counted_since before.files.faults told.between.faults now.files.faults since (told.told.file_fault its is (λ k. let f = e in cc)))
      (λ (e : its ≡ role.Kept).
      let failed : told.was ≡ saving.Failed = told.told.may.failed (is ∙ ap (λ (s : Role). FileFault s) e) in
      counted_later before.files.faults told.between.faults now.files.faults
      (counted_since before.files.faults r.ended.left.faults told.between.faults left (saved_counts a.kept (letters_of r.system) r.ended.learned.naming.names end.kept.answers r.ended.left told.between (subst (IsKeptWritten a.kept (letters_of r.system) r.ended.learned.naming.names end.kept.answers r.ended.left told.between) failed told.saved.written)))
      told.told.counts.0))
      which

  learn_file : (its : Role) → end.outcome ≡ FileFault its → CountedFault before.files.faults now.files.faults
  learn_file its is =
      ⊎_elim
      (λ (u : Unlearned).
      ⊎_elim
      (λ by. counted_later before.files.faults u.between.faults now.files.faults by.2 (saved_later u))
      (⊎_elim
      (λ (w : Unworded u (FileFault its)). counted_later before.files.faults u.between.faults now.files.faults (subst (λ (n : ℕ). CountedFault n u.between.faults) w.0.quiet w.1.1.2) (saved_later u))
      (λ (f : Unwrites u (FileFault its)). counted_later before.files.faults u.between.faults now.files.faults f.2 (saved_later u)))
      (unlearned u _ is (λ e. cc)))
      (λ (r : LearnedSystem). ⊎_elim (λ l. wrote_file r its is l.1) (λ s. absurd (subst IsLearnStop s.2 (learn_stop_is s.0))) (learns r _ is (λ e. cc) (λ q y e. cc)))
      ran.ends

  learn_sink : end.outcome ≡ SinkFault → CountedFault before.out.faults now.out.faults ⊎ CountedFault before.err.faults now.err.faults
  learn_sink is =
      ⊎_elim
      (λ (u : Unlearned). absurd (⊎_elim (λ by. by) (⊎_elim (λ (w : Unworded u SinkFault). w.1) (λ (f : Unwrites u SinkFault). let e : FileFault f.0 ≡ SinkFault = f.1 in cc)) (unlearned u _ is (λ e. cc))))
      (λ (r : LearnedSystem). ⊎_elim inl (λ counted. inr (counted_later before.err.faults ran.told.faults now.err.faults counted said_since)) (r.ended.learned.told.told.sink_fault is))
      ran.ends

  learn_clash : (clash : Clash) → end.outcome ≡ Nondeterministic clash → IsFirstClash (answers_of end.kept.answers) clash
  learn_clash clash is =
      stopped_by (IsFirstClash (answers_of end.kept.answers) clash) _ is (λ e. cc) (λ q y e. cc) (λ r e. cc) (λ u by. by.3) (λ u w by. absurd by) (λ l by. absurd by)
      (λ r stop same e. found_clash a r.system r.prior before.spawner now.spawner r.ended.learned.learned end.kept.answers r.ended.learned.naming.names clash r.ended.learned.found (same ∙ ap (λ (s : LearnStop). Err s) (clash_stop stop clash e)))

  learn_crowd : (words : List (List ℕ)) → end.outcome ≡ TooManyStates words → IsTooMany a.max_states (answers_of end.kept.answers) words
  learn_crowd words is =
      stopped_by (IsTooMany a.max_states (answers_of end.kept.answers) words) _ is (λ e. cc) (λ q y e. cc) (λ r e. cc) (λ u by. absurd by) (λ u w by. absurd by) (λ l by. absurd by)
      (λ r stop same e. subst (λ (l : Result Found LearnStop). IfErr l (LearningStopsBy (length (letters_of r.system)) (count_of (declared_of r.system)) a.extra a.max_states (answers_of end.kept.answers))) (same ∙ ap (λ (s : LearnStop). Err s) (crowd_stop stop words e)) r.ended.learned.stops)

  learn_suite : (states number : ℕ) → end.outcome ≡ SuiteTooLarge states number → LargeForSystem a before.files now.files end.kept.answers states number
  learn_suite states number is =
      stopped_by (LargeForSystem a before.files now.files end.kept.answers states number) _ is (λ e. cc) (λ q y e. cc) (λ r e. cc) (λ u by. absurd by) (λ u w by. absurd by) (λ l by. absurd by)
      (λ r stop same e.
      record {
        system = r.system;
        prior = r.prior;
        task = task_of a before now end ran.told r;
        large =
            large_stop (length (letters_of r.system)) (count_of (declared_of r.system)) a.extra a.max_states (answers_of end.kept.answers) stop states number e
            (subst (λ (l : Result Found LearnStop). IfErr l (LearningStopsBy (length (letters_of r.system)) (count_of (declared_of r.system)) a.extra a.max_states (answers_of end.kept.answers))) same r.ended.learned.stops);
      })

  stopped_so : (i : ℕ) (s : SulStop) (r : LearnedSystem) (stop : LearnStop) → r.ended.learned.learned ≡ Err stop → learn_outcome stop ≡ system_outcome i s → InstanceStopped (Some (Learn v)) before now i s
  stopped_so i s r stop same e =
      let w = found_stop a r.system r.prior before.spawner now.spawner r.ended.learned.learned end.kept.answers r.ended.learned.naming.names i s r.ended.learned.found (same ∙ ap (λ (t : LearnStop). Err t) (system_stop stop i s e)) in
      record { system = r.system; says = (earlier, begins, (r.prior, task_of a before now end ran.told r)); within = w.1; links = w.0; retired = w.2; why = w.3 }

  learn_stops : (i : ℕ) (s : SulStop) → end.outcome ≡ system_outcome i s → InstanceStopped (Some (Learn v)) before now i s
  learn_stops i sul.Failed is = stopped_by (InstanceStopped (Some (Learn v)) before now i sul.Failed) _ is (λ e. cc) (λ q y e. cc) (λ r e. cc) (λ u by. absurd by) (λ u w by. absurd by) (λ l by. absurd by) (stopped_so i sul.Failed)
  learn_stops i (sul.BadLine line) is = stopped_by (InstanceStopped (Some (Learn v)) before now i (sul.BadLine line)) _ is (λ e. cc) (λ q y e. cc) (λ r e. cc) (λ u by. absurd by) (λ u w by. absurd by) (λ l by. absurd by) (stopped_so i (sul.BadLine line))
  learn_stops i sul.Gone is = stopped_by (InstanceStopped (Some (Learn v)) before now i sul.Gone) _ is (λ e. cc) (λ q y e. cc) (λ r e. cc) (λ u by. absurd by) (λ u w by. absurd by) (λ l by. absurd by) (stopped_so i sul.Gone)

  learn_causes : CausesAreTold (Some (Learn v)) before now end
  learn_causes = record {
    usage = λ is. absurd (learn_never _ is (λ e. cc) (λ q y e. cc) (λ r e. cc) (λ u k. k) (λ u w k. k) (λ l k. k) (λ k. k));
    faults = record {
      file = learn_file;
      source = λ is. absurd (learn_never _ is (λ e. cc) (λ q y e. cc) (λ r e. cc) (λ u k. k) (λ u w k. k) (λ l k. k) (λ k. k));
      sink = learn_sink;
      start = λ cause is. absurd (learn_never _ is (λ e. cc) (λ q y e. cc) (λ r e. cc) (λ u k. k) (λ u w k. k) (λ l k. k) (λ k. k));
    };
    findings = record {
      clash = learn_clash;
      crowd = learn_crowd;
      suite = λ states number is. (earlier, begins, learn_suite states number is);
      stopped = learn_stops;
    };
  }

-- `help`
module _ (text : List ℕ) (before now : WorldState) (end : End) (ran : IsHelpRun text before.out now.out before.err now.err end) where
  help_other : (x : Outcome) → end.outcome ≡ x → ¬ IsHelpOutcome x → ⊥
  help_other x is none = helps_never text before.out now.out before.err now.err end ran x is none

  help_causes : CausesAreTold (Some (Help text)) before now end
  help_causes = record {
    usage = λ is. absurd (help_other _ is (λ k. k));
    faults = record {
      file = λ role is. absurd (help_other _ is (λ k. k));
      source = λ is. absurd (help_other _ is (λ k. k));
      sink = λ is. inl (helps_fault text before.out now.out before.err now.err end ran is);
      start = λ cause is. absurd (help_other _ is (λ k. k));
    };
    findings = record {
      clash = λ clash is. absurd (help_other _ is (λ k. k));
      crowd = λ words is. absurd (help_other _ is (λ k. k));
      suite = λ states number is. absurd (help_other _ is (λ k. k));
      stopped = λ i s is. absurd (helps_stop text before.out now.out before.err now.err end ran i s is);
    };
  }

module _ (words : List (List ℕ)) (before now : WorldState) (end : End) where
  pub causes : (call : Option CallValues) → Runs words call before now end → CausesAreTold call before now end
  causes None r = record { usage = λ is. refl; faults = refused_faults words before now end r; findings = refused_findings words before now end r }
  causes (Some (Learn v)) r = learn_causes v r.ran.0 r.ran.1 before now end r.ran.2
  causes (Some (Check a)) r = checks_causes a before now end r.ran
  causes (Some (TrialCall v)) r = trials_causes v before now end r.ran
  causes (Some (Serve model)) r = serves_causes model before now end r.ran
  causes (Some (Ask a)) r = asks_causes a before now end r.ran r.cause
  causes (Some (Compare a)) r = compares_causes a before now end r.ran
  causes (Some (Recheck a)) r = recheck_causes a before now end r.ran r.cause
  causes (Some (Help text)) r = help_causes text before now end r.ran

  pub accepted : (call : Option CallValues) → Runs words call before now end → AcceptedIsRight call before now end
  accepted None r = (λ n m is. refused_never words before now end r _ is (λ e. cc) (λ e. cc), λ q x is. refused_never words before now end r _ is (λ e. cc) (λ e. cc))
  accepted (Some (Learn v)) r = (r.ran.0, r.ran.1, acceptor_is_right (with_earlier r.ran.0 v) before now end r.ran.2)
  accepted (Some (Check a)) r = (
    λ n m is. checks_never a before now end r.ran _ is (λ e. cc) (λ e. cc) (λ k. k) (λ p k. k),
    λ q x is. checks_never a before now end r.ran _ is (λ e. cc) (λ e. cc) (λ k. k) (λ p k. k),
  )
  accepted (Some (TrialCall v)) r = (λ n m is. trial_is v before now end r.ran _ is, λ q x is. trial_is v before now end r.ran _ is)
  accepted (Some (Serve model)) r = (
    λ n m is. serves_never model before now end r.ran _ is (λ k. k) (λ m k. k),
    λ q x is. serves_never model before now end r.ran _ is (λ k. k) (λ m k. k),
  )
  accepted (Some (Ask a)) r = (
    λ n m is. ask_never a before now end r.ran r.cause _ is (λ e. cc) (λ k. k) (λ k. k) (λ k. k) (λ k. k),
    λ q x is. ask_never a before now end r.ran r.cause _ is (λ e. cc) (λ k. k) (λ k. k) (λ k. k) (λ k. k),
  )
  accepted (Some (Compare a)) r = (
    λ n m is. compares_never a before now end r.ran _ is (λ k. k) (λ k. k),
    λ q x is. compares_never a before now end r.ran _ is (λ k. k) (λ k. k),
  )
  accepted (Some (Recheck a)) r = (
    λ n m is. recheck_never a before now end r.ran r.cause _ is (λ e. cc) (λ e. cc) (λ k. k) (λ k. k) (λ k. k),
    λ q x is. recheck_never a before now end r.ran r.cause _ is (λ e. cc) (λ e. cc) (λ k. k) (λ k. k) (λ k. k),
  )
  accepted (Some (Help text)) r = (
    λ n m is. helps_never text before.out now.out before.err now.err end r.ran _ is (λ k. k),
    λ q x is. helps_never text before.out now.out before.err now.err end r.ran _ is (λ k. k),
  )
