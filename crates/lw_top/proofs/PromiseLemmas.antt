-- The promises, from what each command did.
use Rattle.std.proofs.Common.{◌≡◌, ◌⊎◌, inl, inr, ⊎_elim, ℕ, ◌≤◌, List, length, Option, Some, None, IfSome, Result, Ok, Err, refl, sym, ap, ◌∙◌, subst, arith, [], ◌∷◌, ◌++◌, append-nil}
use Rattle.lw_words.specs.Word.{answers_of}
use Rattle.lw_words.specs.Cause.{CountedFault}
use Rattle.lw_words.specs.declared.kept.KeptAnswer.{KeptAnswer}
use Rattle.lw_words.specs.declared.stop.SulStop.TheVariants as sul
use Rattle.lw_mealy.specs.Machine.{MealyMachine, IsMinimal, Sure}
use Rattle.lw_separate.specs.Canonical.{IsCanonical}
use Rattle.lw_cache.specs.declared.stops.AskStop.TheVariants as ask
use Rattle.lw_outside.specs.Files.{File, FilesState}
use Rattle.lw_outside.specs.Links.{LinkState, SpawnerState}
use Rattle.lw_outside.specs.Streams.{SinkState}
use Rattle.lw_log.specs.declared.log.LogState.{LogState}
use Rattle.lw_log.specs.declared.log.LogState.TheVariants.{Closed, Open, Failed}
use Rattle.lw_rounds.specs.Learner.{refinements_of}
use Rattle.lw_rounds.specs.declared.learned.Learned.{Learned as Found}
use Rattle.lw_rounds.specs.declared.learner.Kind.{Kind}
use Rattle.lw_rounds.specs.declared.settings.Testing.{Testing}
use Rattle.lw_rounds.specs.Plain.{by_suites}
use Rattle.lw_rounds.specs.declared.stops.LearnStop.{LearnStop}
use Rattle.lw_rounds.specs.declared.stops.LearnStop.TheVariants as learn
use Rattle.lw_children.specs.Children.{IsOfCommand}
use Rattle.lw_children.specs.Keeping.{KeepsChildren}
use Rattle.lw_system.specs.Spawners.{StartsAndRetires}
use Rattle.lw_system.specs.Systems.{declared_of, letters_of}
use Rattle.lw_system.specs.declared.goal.Goal.{Goal}
use Rattle.lw_system.specs.declared.goal.Goal.TheVariants as aim
use Rattle.lw_system.specs.declared.system.System.{System}
use Rattle.lw_system.specs.declared.system.System.TheVariants as system
use Rattle.lw_report.specs.Learnings.{HasModel, learn_outcome}
use Rattle.lw_report.specs.Outcomes.{StandsOrWants}
use Rattle.lw_report.specs.declared.«end».End.{End}
use Rattle.lw_report.specs.declared.outcome.Outcome.{Outcome}
use Rattle.lw_report.specs.declared.role.Role.{Role}
use Rattle.lw_report.specs.declared.outcome.Outcome.TheVariants.{Learned, Trial, Yes, Served, No, Usage, BadFile, Alphabets, FileTooLong, Nondeterministic, NoMemory, SulFailed, Gone, BadLine, BadAsk, TooManyStates, SuiteTooLarge, FileFault, SourceFault, SinkFault, Compared, Asked, Helped, Rechecked, UnknownLetter, Unstarted, Accepted, BadAcceptor, NotAcceptor}
use Rattle.lw_check.specs.CheckRun.{IsCheckRun}
use Rattle.lw_check.specs.Decision.{IsFixed, Pair}
use Rattle.lw_learn.specs.Arguments.{LearnValues, with_earlier}
use Rattle.lw_learn.specs.Asking.{IsWordless, IsWordlessTask, ReadsWords, SaysWords}
use Rattle.lw_learn.specs.Ending.{Carries, EndsRead, EndsUnread, end_outputs}
use Rattle.lw_learn.specs.Probes.{FailsProbe, IsUnwritable, WantsProbe, written_files}
use Rattle.lw_names.specs.Naming.{Naming}
use Rattle.lw_learn.specs.Findings.{IsOfSystem}
use Rattle.lw_learn.specs.LearnRun.{IsLearnRun, SaysLog}
use Rattle.lw_learn.specs.Outcomes.{IsLearnedOutcome, ModelIsTold}
use Rattle.lw_learn.specs.Unread.{IsUnreadAs, IsUnreadBy}
use Rattle.lw_learn.specs.Writing.{NothingFailed}
use Rattle.lw_recheck.specs.RecheckRun.{HasAskedSystem, HasNone, IsRecheckRun}
use Rattle.lw_trial.specs.TrialRun.{IsTrialOutcome, IsTrialRun}
use Rattle.lw_top.specs.Call.{CallValues, Learn, Check, Trial as TrialCall, Serve, Ask, Compare, Recheck, Help}
use Rattle.lw_top.specs.CheckCommand.{CheckValues}
use Rattle.lw_top.specs.Promises.{AnswersFixModel, AsksNothing, FixModel, HandsModel, IsBeforeAsking, KeepsLearned, KeepsPrior, KeepsSystem, KeptAreRuns, LearnedIsRight, ModelIsReached, ModelIsRight, ReachesModel, SaysTask, YesIsRight}
use Rattle.lw_top.specs.Run.{Runs, TellsNoMemory, TellsReason}
use Rattle.lw_top.specs.World.{WorldState}
use Rattle.lw_top.proofs.FixLemmas.{fix_file}

if_some : {X : Type 0} (P Q : X → Type 0) (o : Option X) → ((x : X) → P x → Q x) → IfSome o P → IfSome o Q
if_some P Q None each holds = tt
if_some P Q (Some x) each holds = each x holds

-- what is certified is right
pub right : (kind : Kind) (testing : Testing) (a b k most : ℕ) (end : End) (h : MealyMachine) → HasModel kind testing a b k most end h → ModelIsRight k (answers_of end.kept.answers) h
right kind testing a b k most end h has =
    let c = has.certified in
    record {
      complete = c.complete;
      minimal = subst (λ (n : ℕ). IsMinimal n h.rows) (sym c.inputs) c.canonical.minimal;
      canonical = subst (λ (n : ℕ). IsCanonical n h.rows h.rows) (sym c.inputs) c.canonical;
      gives = c.gives;
      sure = subst (λ (n : ℕ). Sure n h.rows (answers_of end.kept.answers) k) (sym c.inputs) c.sure;
    }

-- no stop is told as a model
not_learned : (stop : LearnStop) → ¬ IsLearnedOutcome (learn_outcome stop)
not_learned (learn.Ask (ask.Clash clash)) is = is
not_learned (learn.Ask (ask.Sul i sul.Failed)) is = is
not_learned (learn.Ask (ask.Sul i (sul.BadLine line))) is = is
not_learned (learn.Ask (ask.Sul i sul.Gone)) is = is
not_learned (learn.Ask ask.NoMemory) is = is
not_learned (learn.Crowd words) is = is
not_learned (learn.TooLarge model number) is = is

not_wanted : (why outcome : Outcome) → StandsOrWants why outcome → ¬ IsLearnedOutcome why → ¬ IsLearnedOutcome outcome
not_wanted why outcome (inl is) not learned = not (subst IsLearnedOutcome is learned)
not_wanted why outcome (inr wants) not learned = subst IsLearnedOutcome wants.1 learned

-- a model that is told is the one that was learned
model_is : (k : Goal) (model : MealyMachine) (count : ℕ) (h : MealyMachine) (refinements : ℕ) → ModelIsTold k model count (Learned h refinements) → (model ≡ h) × (count ≡ refinements)
model_is aim.Machine model count h refinements (inl told) = let same : Learned model count ≡ Learned h refinements = told in (cc, cc)
model_is aim.Acceptor model count h refinements (inl told) = let wrong : Accepted (length model.rows) count ≡ Learned h refinements = told in absurd (cc)
model_is k model count h refinements (inr none) = let wrong : Learned h refinements ≡ NotAcceptor none.1.0 none.1.1 = none.1.2 in absurd (cc)

carried : (k : Goal) (learned : Result Found LearnStop) (end : End) → Carries k learned end → (h : MealyMachine) (refinements : ℕ) → end.outcome ≡ Learned h refinements → (end.model ≡ Some h) × (refinements ≡ end.refinements)
carried k (Ok l) end c h refinements is =
    let same = model_is k l.model (refinements_of l.learner) h refinements (subst (ModelIsTold k l.model (refinements_of l.learner)) is c.3) in
    (c.0 ∙ ap (λ (m : MealyMachine). Some m) same.0, sym same.1 ∙ sym c.2)
carried k (Err stop) end c h refinements is = absurd (not_wanted (learn_outcome stop) end.outcome c.2 (not_learned stop) (subst IsLearnedOutcome (sym is) tt))

-- why no learning began, and what is kept then
module _ (a : LearnValues) (f g now : FilesState) (read : Option System) (kept : List KeptAnswer) (saved : now.reads ≡ g.reads) where
  unread_by : (outcome : Outcome) → IsUnreadBy a f g read kept outcome → IsBeforeAsking outcome × KeepsPrior a f now kept
  unread_by (BadFile role fault) is = (tt, inl is.5)
  unread_by (FileTooLong role) is = (tt, inl is.4)
  unread_by (FileFault role) is = (tt, inl is.4)
  unread_by (Alphabets role) is = (tt, inl is.3)
  unread_by (Nondeterministic clash) is = (tt, inr (is.0, record { between = g.reads; more = []; task = is.2; reads = saved ∙ sym (append-nil g.reads) }))
  unread_by NoMemory is = (tt, inl is.1)
  unread_by (UnknownLetter word place) is = absurd is
  unread_by (Learned model refinements) is = absurd is
  unread_by (Trial tried) is = absurd is
  unread_by (Yes states) is = absurd is
  unread_by (Served served) is = absurd is
  unread_by (No v) is = absurd is
  unread_by Usage is = absurd is
  unread_by (SulFailed i) is = absurd is
  unread_by (Gone i) is = absurd is
  unread_by (BadLine i line) is = absurd is
  unread_by (BadAsk number) is = absurd is
  unread_by (TooManyStates words) is = absurd is
  unread_by (SuiteTooLarge states number) is = absurd is
  unread_by SourceFault is = absurd is
  unread_by SinkFault is = absurd is
  unread_by (Compared c) is = absurd is
  unread_by Asked is = absurd is
  unread_by Helped is = absurd is
  unread_by (Rechecked answers) is = absurd is
  unread_by (Accepted states refinements) is = absurd is
  unread_by (BadAcceptor bad) is = (tt, inl is.3)
  unread_by (NotAcceptor state letter) is = absurd is
  unread_by (Unstarted cause) is = absurd is

  unread_as : (outcome : Outcome) → IsUnreadAs a f g read kept outcome → IsBeforeAsking outcome × KeepsPrior a f now kept
  unread_as outcome (inl is) = unread_by outcome is
  unread_as outcome (inr wants) = (subst IsBeforeAsking (sym wants.0) tt, (unread_by wants.1.0 wants.1.1).1)

wordless_kind : (file : Option (List ℕ)) (letters : List (List ℕ)) (f g : FilesState) (outcome : Outcome) → IsWordless file letters f g outcome → IsBeforeAsking outcome × ((more : List File) × (g.reads ≡ f.reads ++ more))
wordless_kind file letters f g (FileFault role) is = (tt, ([], is.1.3 ∙ sym (append-nil f.reads)))
wordless_kind file letters f g (FileTooLong role) is = (tt, ([], is.1.3 ∙ sym (append-nil f.reads)))
wordless_kind file letters f g (UnknownLetter word place) is = (tt, (_ ∷ [], is.2.read.given))
wordless_kind file letters f g NoMemory is = (tt, (is.0.0, is.0.1))
wordless_kind file letters f g (BadFile role fault) is = absurd is
wordless_kind file letters f g (Alphabets role) is = absurd is
wordless_kind file letters f g (Nondeterministic clash) is = absurd is
wordless_kind file letters f g (Learned model refinements) is = absurd is
wordless_kind file letters f g (Trial tried) is = absurd is
wordless_kind file letters f g (Yes states) is = absurd is
wordless_kind file letters f g (Served served) is = absurd is
wordless_kind file letters f g (No v) is = absurd is
wordless_kind file letters f g Usage is = absurd is
wordless_kind file letters f g (SulFailed i) is = absurd is
wordless_kind file letters f g (Gone i) is = absurd is
wordless_kind file letters f g (BadLine i line) is = absurd is
wordless_kind file letters f g (BadAsk number) is = absurd is
wordless_kind file letters f g (TooManyStates words) is = absurd is
wordless_kind file letters f g (SuiteTooLarge states number) is = absurd is
wordless_kind file letters f g SourceFault is = absurd is
wordless_kind file letters f g SinkFault is = absurd is
wordless_kind file letters f g (Compared c) is = absurd is
wordless_kind file letters f g Asked is = absurd is
wordless_kind file letters f g Helped is = absurd is
wordless_kind file letters f g (Rechecked answers) is = absurd is
wordless_kind file letters f g (Accepted states refinements) is = absurd is
wordless_kind file letters f g (BadAcceptor bad) is = absurd is
wordless_kind file letters f g (NotAcceptor state letter) is = absurd is
wordless_kind file letters f g (Unstarted cause) is = absurd is

wordless : (a : LearnValues) (f g now : FilesState) (read : Option System) (kept : List KeptAnswer) (outcome : Outcome) → now.reads ≡ g.reads → IsWordlessTask a f g read kept outcome → IsBeforeAsking outcome × KeepsPrior a f now kept
wordless a f g now read kept outcome saved w =
    let kind = wordless_kind a.words (letters_of w.system) w.between g w.why w.because in (
      ⊎_elim
          (λ (is : outcome ≡ w.why). subst IsBeforeAsking (sym is) kind.0)
          (λ (is : outcome ≡ NoMemory). subst IsBeforeAsking (sym is) tt)
          w.told,
      inr (w.system, record { between = w.between.reads; more = kind.1.0; task = w.task; reads = saved ∙ kind.1.1 }),
    )

unwritable : (a : LearnValues) (f g now : FilesState) (read : Option System) (kept : List KeptAnswer) (outcome : Outcome) → IsUnwritable a f g read kept outcome → IsBeforeAsking outcome × KeepsPrior a f now kept
unwritable a f g now read kept outcome w = (
  ⊎_elim
      (λ (is : outcome ≡ w.why).
      ⊎_elim
      (λ (fails : (role : Role) × (w.why ≡ FileFault role) × FailsProbe (written_files a) w.middle g role). subst IsBeforeAsking (sym (is ∙ fails.1)) tt)
      (λ (wants : (w.why ≡ NoMemory) × WantsProbe (written_files a) w.middle g). subst IsBeforeAsking (sym (is ∙ wants.0)) tt)
      w.because)
      (λ (is : outcome ≡ NoMemory). subst IsBeforeAsking (sym is) tt)
      w.told,
  inl w.nothing,
)

-- the names that an end hands back are those of the learning
end_named : (declared : Option (List (List ℕ))) (kept : List KeptAnswer) (naming : Naming) (outputs : Option Naming) → outputs ≡ end_outputs declared kept naming → IfSome outputs (λ n. n.names ≡ naming.names)
end_named (Some own) kept naming outputs is = subst (λ (o : Option Naming). IfSome o (λ n. n.names ≡ naming.names)) (sym is) refl
end_named None [] naming outputs is = subst (λ (o : Option Naming). IfSome o (λ n. n.names ≡ naming.names)) (sym is) tt
end_named None (k ∷ ks) naming outputs is = subst (λ (o : Option Naming). IfSome o (λ n. n.names ≡ naming.names)) (sym is) refl

-- what is kept of children
module _ (kind : Kind) (words letters : List (List ℕ)) (workers k most : ℕ) (prior : List KeptAnswer) (before now : SpawnerState) (learned : Result Found LearnStop) (kept : List KeptAnswer) (names : List (List ℕ)) where
  keeps_links : (outputs : Option (List (List ℕ))) → IsOfCommand kind words letters outputs workers k most prior before now learned kept names
      → (links : List LinkState) × StartsAndRetires words before now links × (length links ≤ workers) × IfSome outputs (λ own. names ≡ own) × KeepsChildren letters outputs names prior kept links
  keeps_links None is =
      let of = is.1 in
      (of.links, of.spawner, of.few, tt, subst (λ (p : List KeptAnswer). KeepsChildren letters None names p kept of.links) (sym is.0) of.keeps)
  keeps_links (Some outputs) is = let of = is.1 in (of.links, of.spawner, of.few, is.0, of.keeps)

keeps_system : (a : LearnValues) (s : System) (prior : List KeptAnswer) (before now : SpawnerState) (learned : Result Found LearnStop) (kept : List KeptAnswer) (names : List (List ℕ)) → (outputs : Option Naming) → IfSome outputs (λ naming. naming.names ≡ names) → IsOfSystem a s prior before now learned kept names → KeepsSystem a.workers s outputs prior before now kept
keeps_system a (system.Table m) prior before now learned kept names outputs told is = (is.0, is.1.keeps)
keeps_system a (system.Children c) prior before now learned kept names outputs told is =
    let of = keeps_links a.learner c.words c.inputs a.workers a.extra a.max_states prior before now learned kept names c.outputs is in
    record { links = of.0; spawner = of.1; few = of.2; names = names; named = (of.3, told); runs = of.4 }

below : (x y z : ℕ) → x ≤ y → y ≤ z → x ≤ z
below x y z one two = omega (arith, one, two)

counted_behind : (w x y : ℕ) → w ≤ x → CountedFault x y → CountedFault w y
counted_behind w x y le counted = omega (arith, counted, le)

-- what a log puts only adds to the count of faults
pub log_counts : (name : Option (List ℕ)) (log : LogState) (before now : SinkState) → SaysLog name log before now → before.faults ≤ now.faults
log_counts None log before now is = let e : now.faults ≡ before.faults = ap (λ (s : SinkState). s.faults) is in omega (arith, e)
log_counts (Some name) Open before now is = let e : now.faults ≡ before.faults = ap (λ (s : SinkState). s.faults) is in omega (arith, e)
log_counts (Some name) Closed before now is = is.counts
log_counts (Some name) Failed before now is = is.counts

-- the words that are asked first are read behind all else
words_read : (file : Option (List ℕ)) (letters : List (List ℕ)) (holds : Option (List File)) (before after : List File) (words : List (List ℕ)) → ReadsWords file letters holds before after words → (more : List File) × (after ≡ before ++ more)
words_read None letters holds before after words is = ([], is.0 ∙ sym (append-nil before))
words_read (Some name) letters holds before after words is = (_ ∷ [], is.read.given)

module _ (a : LearnValues) (before now : WorldState) (end : End) where
  pub task_of : (told : SinkState) (r : EndsRead a before.files now.files before.spawner now.spawner before.out now.out before.err told end) → SaysTask a before.files now.files r.system r.prior
  task_of told r =
      let more = words_read a.words (letters_of r.system) before.files.holds r.between r.middle.reads r.asked.named r.asked.read in
      record { between = r.between; more = more.0; task = r.task; reads = r.ended.learned.told.told.reads ∙ (r.ended.learned.told.saved.reads ∙ (r.ended.last.reads ∙ more.1)) }

module _ (a : LearnValues) (before now : WorldState) (end : End) (run : IsLearnRun a before.files now.files before.spawner now.spawner before.out now.out before.err now.err now.log end) where
  abbrev Unread : Type 0
  Unread = EndsUnread a before.files now.files before.spawner now.spawner before.out now.out before.err run.told end

  abbrev Read : Type 0
  Read = EndsRead a before.files now.files before.spawner now.spawner before.out now.out before.err run.told end

  rises : run.told.faults ≤ now.err.faults
  rises =
      ⊎_elim
      (λ (says : SaysLog a.log now.log run.told now.err). log_counts a.log now.log run.told now.err says)
      (λ (wants : (end.outcome ≡ NoMemory) × (now.err ≡ run.told)). let e : now.err.faults ≡ run.told.faults = ap (λ (s : SinkState). s.faults) wants.1 in omega (arith, e))
      run.log

  pub why : (u : Unread) → IsBeforeAsking end.outcome × KeepsPrior a before.files now.files end.kept.answers
  why u =
      ⊎_elim
      (λ (is : IsUnreadAs a before.files u.between u.read end.kept.answers end.outcome). unread_as a before.files u.between now.files u.read end.kept.answers u.saved.saved.reads end.outcome is)
      (⊎_elim
      (λ (is : IsWordlessTask a before.files u.between u.read end.kept.answers end.outcome). wordless a before.files u.between now.files u.read end.kept.answers end.outcome u.saved.saved.reads is)
      (λ (is : IsUnwritable a before.files u.between u.read end.kept.answers end.outcome). unwritable a before.files u.between now.files u.read end.kept.answers end.outcome is))
      u.cause

  nothing : Unread → AsksNothing a before now end
  nothing u = let w = why u in record { outcome = w.0; model = u.model; unstarted = u.unstarted; kept = w.1 }

  hands : HandsModel a.extra end
  hands = ⊎_elim (λ (u : Unread). of_unread u) (λ (r : Read). of_read r) run.ends
    where
      of_unread : Unread → HandsModel a.extra end
      of_unread u = record {
        told = λ h refinements is. absurd (subst IsBeforeAsking is (why u).0);
        right = subst (λ (o : Option MealyMachine). IfSome o (ModelIsRight a.extra (answers_of end.kept.answers))) (sym u.model) tt;
      }

      of_read : Read → HandsModel a.extra end
      of_read r = record {
        told = carried a.goal r.ended.learned.learned end r.ended.learned.told.told.carries;
        right = if_some _ (ModelIsRight a.extra (answers_of end.kept.answers)) end.model (λ h has. right a.learner a.testing (length (letters_of r.system)) (length r.ended.learned.naming.names) a.extra a.max_states end h has) r.ended.learned.model;
      }

  keeps : KeepsLearned a before now end ⊎ AsksNothing a before now end
  unfolding task_of
  keeps = ⊎_elim (λ (u : Unread). inr (nothing u)) (λ (r : Read). inl (of_read r)) run.ends
    where
      of_read : Read → KeepsLearned a before now end
      of_read r = record {
        system = r.system;
        prior = r.prior;
        task = task_of a before now end run.told r;
        keeps = keeps_system a r.system r.prior before.spawner now.spawner r.ended.learned.learned end.kept.answers r.ended.learned.naming.names end.outputs (end_named (declared_of r.system) end.kept.answers r.ended.learned.naming end.outputs r.ended.learned.told.told.outputs) r.ended.learned.found;
        letters = if_some _ (λ h. h.inputs ≡ length (letters_of r.system)) end.model (λ h has. has.certified.inputs) r.ended.learned.model;
        words = r.words;
        asked = subst (λ (reads : List File). SaysWords a (letters_of r.system) before.files.holds r.between reads r.words) (sym (r.ended.learned.told.told.reads ∙ (r.ended.learned.told.saved.reads ∙ r.ended.last.reads))) r.asked;
        plainly = r.plainly;
      }

  reaches : ReachesModel a before now end ⊎ AsksNothing a before now end
  reaches = ⊎_elim (λ (u : Unread). inr (nothing u)) (λ (r : Read). inl (of_read r)) run.ends
    where
      of_read : Read → ReachesModel a before now end
      of_read r = record {
        system = r.system;
        prior = r.prior;
        task = task_of a before now end run.told r;
        reached = λ m none sound within gives. r.ended.learned.reached m (none_failed none) sound within gives;
        counted = λ m none uncounted within gives. r.ended.learned.counted m (none_failed none) uncounted within gives;
      }
        where
          none_failed : NothingFailed (before.files.faults, now.files.faults) (before.out.faults, now.out.faults) (before.err.faults, now.err.faults) → NothingFailed (r.ended.left.faults, now.files.faults) (before.out.faults, now.out.faults) (before.err.faults, run.told.faults)
          none_failed none = record {
            of_files = λ counted. none.of_files (counted_behind before.files.faults r.ended.left.faults now.files.faults (subst (λ (n : ℕ). n ≤ r.ended.left.faults) r.quiet r.ended.last.counts) counted);
            of_out = none.of_out;
            of_err = λ counted. none.of_err (below _ run.told.faults now.err.faults counted rises);
          }

-- of `trial`
tried : (v : _) (out_before out_now err_before err_now : SinkState) (end : End) → IsTrialRun v out_before out_now err_before err_now end → HandsModel 1 end
tried v out_before out_now err_before err_now end run = record {
  told = λ h refinements is. absurd (subst IsTrialOutcome is run.kinds);
  right = if_some _ (ModelIsRight 1 (answers_of end.kept.answers)) end.model (λ h has. right v.learner (by_suites v.suite) v.inputs 2 1 1024 end h has) run.model;
}

rechecked : (a : _) (f g : FilesState) (b z : SpawnerState) (o p e d : SinkState) (end : End) → IsRecheckRun a f g b z o p e d end → end.model ≡ None
rechecked a f g b z o p e d end run =
    ⊎_elim
    (λ (asked : HasAskedSystem a f g b z o p e d end). asked.asks.ended.bare.model)
    (λ (none : HasNone a f g b z o p e d end). none.bare.model)
    run.came

module _ (words : List (List ℕ)) (before now : WorldState) (end : End) where
  pub learned : (call : Option CallValues) → Runs words call before now end → LearnedIsRight call end
  learned None r = ⊎_elim (λ (t : TellsReason words before.err now.err end). t.model) (λ (t : TellsNoMemory before.err now.err end). t.tells.model) r.ended
  learned (Some (Learn v)) r = hands (with_earlier r.ran.0 v) before now end r.ran.2
  learned (Some (Check a)) r = r.ran.no_model
  learned (Some (TrialCall a)) r = tried a before.out now.out before.err now.err end r.ran
  learned (Some (Serve model)) r = r.ran.no_model
  learned (Some (Ask a)) r = r.ran.ended.model
  learned (Some (Compare models)) r = r.ran.no_model
  learned (Some (Recheck a)) r = rechecked a before.files now.files before.spawner now.spawner before.out now.out before.err now.err end r.ran
  learned (Some (Help text)) r = r.ran.no_model

  fixes : (a : CheckValues) → IsCheckRun a.goal a.suite a.model a.answers a.extra before.files now.files before.out now.out before.err now.err end → (states : ℕ) → end.outcome ≡ Yes states → (fixed : AnswersFixModel a before.files now.files) × (states ≡ length fixed.model.mealy.rows)
  fixes a run states is =
      let s = run.sure states is in
      let f = subst (λ (p : Pair). IsFixed p a.extra) s.1.pair s.2 in
      let fixed : FixModel s.1.machine s.1.read_answers a.extra = record { inputs = f.names.0; outputs = f.names.1; minimal = f.minimal; gives = f.gives; sure = f.sure } in (
        record {
          model = s.1.machine;
          answers = s.1.read_answers;
          between = s.1.middle;
          model_file = s.1.model_file;
          answers_file = s.1.answers_file;
          fixed = fixed;
          among = fix_file a.goal s.1.model_file.bytes s.1.machine s.1.read_answers a.extra s.1.model_file.file fixed;
        },
        s.3 ∙ ap (λ (p : Pair). length p.mealy.rows) s.1.pair,
      )

  pub yes : (call : Option CallValues) → Runs words call before now end → YesIsRight call before.files now.files end.outcome
  yes None r = tt
  yes (Some (Learn a)) r = tt
  yes (Some (Check a)) r = fixes a r.ran
  yes (Some (TrialCall a)) r = tt
  yes (Some (Serve model)) r = tt
  yes (Some (Ask a)) r = tt
  yes (Some (Compare models)) r = tt
  yes (Some (Recheck a)) r = tt
  yes (Some (Help text)) r = tt

  pub kept : (call : Option CallValues) → Runs words call before now end → KeptAreRuns call before now end
  kept None r = tt
  kept (Some (Learn v)) r = (r.ran.0, r.ran.1, keeps (with_earlier r.ran.0 v) before now end r.ran.2)
  kept (Some (Check a)) r = tt
  kept (Some (TrialCall a)) r = (r.ran.kept, if_some _ (λ h. h.inputs ≡ a.inputs) end.model (λ h has. has.certified.inputs) r.ran.model, r.ran.plainly)
  kept (Some (Serve model)) r = tt
  kept (Some (Ask a)) r = tt
  kept (Some (Compare models)) r = tt
  kept (Some (Recheck a)) r = tt
  kept (Some (Help text)) r = tt

  pub reached : (call : Option CallValues) → Runs words call before now end → ModelIsReached call before now end
  reached None r = tt
  reached (Some (Learn v)) r = (r.ran.0, r.ran.1, reaches (with_earlier r.ran.0 v) before now end r.ran.2)
  reached (Some (Check a)) r = tt
  reached (Some (TrialCall a)) r = r.ran.reached
  reached (Some (Serve model)) r = tt
  reached (Some (Ask a)) r = tt
  reached (Some (Compare models)) r = tt
  reached (Some (Recheck a)) r = tt
  reached (Some (Help text)) r = tt
