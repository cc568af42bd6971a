-- Why nothing is learned, from why a file wasn't read, and a task from a system that was.
use Rattle.std.proofs.Common.{◌≡◌, ◌∙◌, ⊎_elim, ℕ, List, [], ◌∷◌, true, false, Option, Some, None, Result, Ok, Err, IfOk, IfErr, length, ◌≤◌, arith, inl, inr, refl, ap, sym, subst}
use Rattle.lw_words.specs.Cause.{CountedFault}
use Rattle.lw_words.specs.declared.kept.KeptAnswer.{KeptAnswer}
use Rattle.lw_accept.specs.AcceptorFile.{IsAcceptorFault, IsAcceptorFile}
use Rattle.lw_accept.specs.declared.fault.AcceptorFault.{AcceptorFault}
use Rattle.lw_json.specs.AnswersFault.{IsAnswersFault}
use Rattle.lw_json.specs.Formats.{IsAnswersFile, IsMachineFile}
use Rattle.lw_json.specs.MachineFault.{IsMachineFault}
use Rattle.lw_json.specs.SetupFile.{IsSetupFault, IsSetupFile}
use Rattle.lw_json.specs.declared.files.Answers.{Answers}
use Rattle.lw_json.specs.declared.fault.JsonFault.{JsonFault}
use Rattle.lw_json.specs.declared.setup.Setup.TheVariants as setup
use Rattle.lw_outside.specs.Files.{File, HoldsLong, read_call, FilesState, ReadsFile}
use Rattle.lw_system.specs.AcceptorFinding.{IsNoAcceptorSystem}
use Rattle.lw_system.specs.Finding.{IsNoSetup, IsNoSystemWith, IsNoTable, NamesNoTable}
use Rattle.lw_system.specs.Goals.{HasFoundFor, IsNoSystemFor, IsSystemFor}
use Rattle.lw_system.specs.SetupHint.{TellsHint}
use Rattle.lw_system.specs.declared.goal.Goal.{Goal}
use Rattle.lw_system.specs.declared.goal.Goal.TheVariants as aim
use Rattle.lw_system.specs.declared.stops.AcceptorStop.{AcceptorStop}
use Rattle.lw_system.specs.declared.stops.AcceptorStop.TheVariants as asked
use Rattle.lw_system.specs.declared.stops.NoSystem.{NoSystem}
use Rattle.lw_system.specs.declared.stops.NoSystem.TheVariants as no
use Rattle.lw_system.specs.Reading.{HasRead, ReadsBadFile}
use Rattle.lw_system.specs.Reads.{IsNotRead, MadeReads}
use Rattle.lw_system.specs.Systems.{HasWords, letters_of, or_these}
use Rattle.lw_system.specs.declared.system.System.TheVariants.{Table, Children}
use Rattle.lw_system.specs.declared.source.Source.{Source}
use Rattle.lw_system.specs.declared.source.Source.TheVariants as source
use Rattle.lw_system.specs.declared.stops.ReadStop.{ReadStop}
use Rattle.lw_system.specs.declared.stops.ReadStop.TheVariants as stop
use Rattle.lw_system.specs.declared.stops.SystemStop.{SystemStop}
use Rattle.lw_system.specs.declared.system.System.{System}
use Rattle.lw_system.proofs.ReadsLemmas.{made_none, made_then, read_made, read_none, some_made, some_then}
use Rattle.lw_report.specs.Refused.{IsRefused}
use Rattle.lw_report.specs.Stops.{acceptor_outcome, no_acceptor_outcome, no_system_outcome, read_outcome, role_of, unread_outcome}
use Rattle.lw_report.specs.declared.outcome.Outcome.{Outcome}
use Rattle.lw_report.specs.declared.outcome.Outcome.TheVariants.{Learned, Trial, Yes, Served, No, Usage, BadFile, Alphabets, FileTooLong, Nondeterministic, NoMemory, SulFailed, Gone, BadLine, BadAsk, TooManyStates, SuiteTooLarge, FileFault, SourceFault, SinkFault, Compared, Asked, Helped, Rechecked, UnknownLetter, Unstarted, Accepted, BadAcceptor, NotAcceptor}
use Rattle.lw_report.specs.declared.role.Role.{Role}
use Rattle.lw_report.specs.declared.role.Role.TheVariants as role
use Rattle.lw_learn.specs.Arguments.{LearnValues}
use Rattle.lw_learn.specs.Tasks.{ReadsPrior, with_outputs}
use Rattle.lw_learn.specs.Unread.{IsNext, IsTableNext, IsUnreadBy, ReadsBad}
use Rattle.lw_learn.specs.bodies.Ready.{IsReady}
use Rattle.lw_learn.specs.bodies.Stages.{HasPrior, IsBack, IsStage, IsTaskWith, IsUnfit, SaysReady, SaysWhole}
use Rattle.lw_learn.specs.bodies.UnreadState.{UnreadState}
use Rattle.lw_learn.specs.declared.task.Task.{Task}

module _ {V : Type 0} (IsFile : List ℕ → V → Type 0) (HasFirst : List ℕ → JsonFault → Type 0) (name : List ℕ) where
  -- a file that wasn't read, behind those that were, is why nothing is learned
  module _ (a : LearnValues) (f m g : FilesState) (role : Role) (read : Option System) (next : IsNext a f.holds f.reads m.reads role name read) (bad : (fault : JsonFault) → ReadsBadFile IsFile HasFirst name f.holds m.reads g.reads fault → ReadsBad role a.goal name f.holds m.reads g.reads fault) (made : MadeReads f m []) (same : m.holds ≡ f.holds) (quiet : m.faults ≡ f.faults) (kept : List KeptAnswer) (none : kept ≡ []) where
    next_then : g.reads ≡ m.reads → IsNext a f.holds f.reads g.reads role name read
    next_then reads = subst (λ (l : List File). IsNext a f.holds f.reads l role name read) (sym reads) next

    pub unread_then : (why : ReadStop JsonFault) → (read_outcome role why ≡ NoMemory → read ≡ None) → IsNotRead IsFile HasFirst name m g why → IsUnreadBy a f g read kept (read_outcome role why)
    unread_then (stop.Bad fault) memory unread = (m.reads, name, next, bad fault (subst (λ (h : Option (List File)). ReadsBadFile IsFile HasFirst name h m.reads g.reads fault) same unread.0), made_then f m g [] made unread.1, none)
    unread_then stop.TooLong memory unread = (name, next_then unread.1, subst (λ (h : Option (List File)). HoldsLong h name) same unread.0, made_then f m g (read_call name false ∷ []) made unread.2, none)
    unread_then stop.Failed memory unread = (name, next_then unread.1, subst (λ (n : ℕ). CountedFault n g.faults) quiet unread.0, made_then f m g (read_call name true ∷ []) made unread.2, none)
    unread_then stop.NoMemory memory unread = (some_then f m g made unread, none, memory refl)

-- a table file is the first one that is read, or the one that a setup names
table_first : (a : LearnValues) (f : FilesState) → a.source ≡ source.Table → IsTableNext a.source a.system f.holds f.reads f.reads a.system
table_first a f is = subst (λ (k : Source). IsTableNext k a.system f.holds f.reads f.reads a.system) (sym is) (refl, refl)

setup_next : (a : LearnValues) (f m : FilesState) (name : List ℕ) → a.source ≡ source.Setup → ReadsFile IsSetupFile a.system f.holds f.reads m.reads (setup.Table name) → IsTableNext a.source a.system f.holds f.reads m.reads name
setup_next a f m name is read = subst (λ (k : Source). IsTableNext k a.system f.holds f.reads m.reads name) (sym is) read

-- a system that was found, or why there is none
module _ (a : LearnValues) (f g : FilesState) (r : Result System NoSystem) (hint : List ℕ) (has : HasFoundFor a.goal a.source a.system f g r hint) where
  pub stage_found : (s : System) → r ≡ Ok s → length (letters_of s) ≤ 64 → HasWords s → IsSystemFor a.goal s → IsStage a f g (SaysWhole a f g) (Ok s)
  stage_found s is letters words fits = by (subst (λ (x : Result System NoSystem). HasFoundFor a.goal a.source a.system f g x hint) is has)
    where
      by : HasFoundFor a.goal a.source a.system f g (Ok s) hint → IsStage a f g (SaysWhole a f g) (Ok s)
      by found = record {
        ok = record { says = found.ok; letters = letters; words = words; fits = fits };
        made = found.made;
        quiet = found.quiet;
        err = tt;
        same = found.same;
        counts = found.counts;
      }

  module _ (read : Option System) (kept : List KeptAnswer) (none_read : read ≡ None) (none_kept : kept ≡ []) where
    -- none of which a machine is to be learned
    module _ (goal_is : a.goal ≡ aim.Machine) (why : SystemStop) where
      IsWhy : Source → Type 0
      IsWhy file = IsUnreadBy a f g read kept (read_outcome (role_of file) why.stop)

      no_table : (m : FilesState) (name : List ℕ) → IsTableNext a.source a.system f.holds f.reads m.reads name → MadeReads f m [] → m.holds ≡ f.holds → m.faults ≡ f.faults → IsNoTable name m g why → IsUnreadBy a f g read kept (unread_outcome why)
      unfolding IsWhy
      no_table m name next made same quiet none =
          subst IsWhy (sym none.file)
          (unread_then IsMachineFile IsMachineFault name a f m g role.Table read (next, none_read)
          (λ fault x. subst (λ (k : Goal). ReadsBad role.Table k name f.holds m.reads g.reads fault) (sym goal_is) x) made same quiet kept none_kept why.stop (λ _. none_read) none.unread)

      no_setup : a.source ≡ source.Setup → IsNoSetup a.system f g why → IsUnreadBy a f g read kept (unread_outcome why)
      unfolding IsWhy
      no_setup is none = subst IsWhy (sym none.file) (unread_then IsSetupFile IsSetupFault a.system a f f g role.Setup read (is, refl, refl, none_read) (λ fault x. x) (made_none f) refl refl kept none_kept why.stop (λ _. none_read) none.unread)

      no_system : (kind : Source) → a.source ≡ kind → IsNoSystemWith kind a.system f g hint why → IsUnreadBy a f g read kept (unread_outcome why)
      no_system source.Table is none = no_table f a.system (table_first a f is) (made_none f) refl refl none.0
      no_system source.Setup is none =
          ⊎_elim
          (λ (no : IsNoSetup a.system f g why × (hint ≡ [])). no_setup is no.0)
          (λ (no : NamesNoTable a.system f g why × TellsHint a.system f.reads g.reads hint).
          no_table no.0.between no.0.table (setup_next a f no.0.between no.0.table is no.0.setup_file) no.0.made no.0.same no.0.quiet no.0.refused)
          none

    -- none of which an acceptor is
    module _ (goal_is : a.goal ≡ aim.Acceptor) where
      no_acceptor : (m : FilesState) (name : List ℕ) → IsTableNext a.source a.system f.holds f.reads m.reads name → MadeReads f m [] → m.holds ≡ f.holds → m.faults ≡ f.faults → (why : ReadStop AcceptorFault) → IsNotRead IsAcceptorFile IsAcceptorFault name m g why → IsUnreadBy a f g read kept (acceptor_outcome role.Table why)
      no_acceptor m name next made same quiet (stop.Bad fault) unread = (
        record {
          goal = goal_is;
          cause = inl (record { before = m.reads; name = name; next = next; bad = subst (λ (h : Option (List File)). ReadsBadFile IsAcceptorFile IsAcceptorFault name h m.reads g.reads fault) same unread.0 });
        },
        made_then f m g [] made unread.1,
        none_read,
        none_kept,
      )
      no_acceptor m name next made same quiet stop.TooLong unread = (name, (subst (λ (l : List File). IsTableNext a.source a.system f.holds f.reads l name) (sym unread.1) next, none_read), subst (λ (h : Option (List File)). HoldsLong h name) same unread.0, made_then f m g (read_call name false ∷ []) made unread.2, none_kept)
      no_acceptor m name next made same quiet stop.Failed unread = (name, (subst (λ (l : List File). IsTableNext a.source a.system f.holds f.reads l name) (sym unread.1) next, none_read), subst (λ (n : ℕ). CountedFault n g.faults) quiet unread.0, made_then f m g (read_call name true ∷ []) made unread.2, none_kept)
      no_acceptor m name next made same quiet stop.NoMemory unread = (some_then f m g made unread, none_kept, none_read)

      no_asked : (kind : Source) → a.source ≡ kind → (why : AcceptorStop) → IsNoAcceptorSystem kind a.system f g why → IsUnreadBy a f g read kept (no_acceptor_outcome why)
      no_asked source.Table is (asked.Table why) none = no_acceptor f a.system (table_first a f is) (made_none f) refl refl why none
      no_asked source.Table is (asked.Setup why) none = absurd none
      no_asked source.Table is (asked.Letters fault) none = absurd none
      no_asked source.Table is asked.NoMemory none = absurd none
      no_asked source.Setup is (asked.Setup why) none = unread_then IsSetupFile IsSetupFault a.system a f f g role.Setup read (is, refl, refl, none_read) (λ fault x. x) (made_none f) refl refl kept none_kept why (λ _. none_read) none
      no_asked source.Setup is (asked.Table why) none = no_acceptor none.between none.table (setup_next a f none.between none.table is none.said.file) none.said.made none.said.same none.said.quiet why none.unread
      no_asked source.Setup is (asked.Letters fault) none = (record { goal = goal_is; cause = inr (is, none) }, none.said.made, none_read, none_kept)
      no_asked source.Setup is asked.NoMemory none = (some_made f g none.1.made, none_kept, none_read)

    no_goal : (k : Goal) → a.goal ≡ k → (why : NoSystem) → IsNoSystemFor k a.source a.system f g hint why → IsUnreadBy a f g read kept (no_system_outcome why)
    no_goal aim.Machine is (no.Machine why) none = no_system is why a.source refl none
    no_goal aim.Machine is (no.Acceptor why) none = absurd none
    no_goal aim.Acceptor is (no.Machine why) none = absurd none
    no_goal aim.Acceptor is (no.Acceptor why) none = no_asked is a.source refl why none.0

  pub stage_unfound : (why : NoSystem) (u : UnreadState) → r ≡ Err why → u.outcome ≡ no_system_outcome why → u.system ≡ None → u.kept ≡ [] → IsStage a f g (SaysWhole a f g) (Err u)
  stage_unfound why u is outcome system kept = by (subst (λ (x : Result System NoSystem). HasFoundFor a.goal a.source a.system f g x hint) is has)
    where
      by : HasFoundFor a.goal a.source a.system f g (Err why) hint → IsStage a f g (SaysWhole a f g) (Err u)
      by found = record {
        ok = tt;
        made = tt;
        quiet = tt;
        err = subst (λ (o : Outcome). IsUnreadBy a f g u.system u.kept o) (sym outcome) (no_goal u.system u.kept system kept a.goal refl why found.err);
        same = found.same;
        counts = found.counts;
      }

-- a system that was read
pub system_read : (a : LearnValues) (f m : FilesState) (r : Result System UnreadState) (s : System) → r ≡ Ok s → IsStage a f m (SaysWhole a f m) r → SaysWhole a f m s × MadeReads f m [] × (m.holds ≡ f.holds) × (m.faults ≡ f.faults)
system_read a f m r s is stage = by (subst (λ (x : Result System UnreadState). IsStage a f m (SaysWhole a f m) x) is stage)
  where
    by : IsStage a f m (SaysWhole a f m) (Ok s) → SaysWhole a f m s × MadeReads f m [] × (m.holds ≡ f.holds) × (m.faults ≡ f.faults)
    by x = (x.ok, x.made, x.same, x.quiet)

-- prior answers that were read
pub prior_read : (name : List ℕ) (s : System) (f g : FilesState) (r : Result Answers (ReadStop JsonFault)) (p : Answers) (result : Result Task UnreadState) → HasRead IsAnswersFile IsAnswersFault name f g r → r ≡ Ok p → IfOk result (IsTaskWith s p) → IfErr result (λ u. IsUnfit s p u.system u.kept u.outcome) → HasPrior name s f g result
prior_read name s f g r p (Ok t) has is ok err =
    let read = read_made IsAnswersFile IsAnswersFault name f g r p has is in
    record { ok = (p, read.0, ok); made = read.1; quiet = read.2; err = tt; same = has.same; counts = has.counts }
prior_read name s f g r p (Err u) has is ok err =
    let read = read_made IsAnswersFile IsAnswersFault name f g r p has is in
    record { ok = tt; made = tt; quiet = tt; err = inr (p, read.0, read.1, err); same = has.same; counts = has.counts }

-- and that weren't
pub prior_unread : (name : List ℕ) (s : System) (f g : FilesState) (r : Result Answers (ReadStop JsonFault)) (why : ReadStop JsonFault) (u : UnreadState) → HasRead IsAnswersFile IsAnswersFault name f g r → r ≡ Err why → u.outcome ≡ read_outcome role.Prior why → IsBack (read_outcome role.Prior why) s u.system → u.kept ≡ [] → HasPrior name s f g (Err u)
prior_unread name s f g r why u has is outcome system kept = record {
  ok = tt;
  made = tt;
  quiet = tt;
  err = inl (record { stop = why; comes_to = outcome; unread = read_none IsAnswersFile IsAnswersFault name f g r why has is }, subst (λ (o : Outcome). IsBack o s u.system) (sym outcome) system, kept);
  same = has.same;
  counts = has.counts;
}

-- a system that is asked for an acceptor is with names of outputs too
fits_with : (k : Goal) (names : List (List ℕ)) (s : System) → IsSystemFor k s → IsSystemFor k (with_outputs names s)
fits_with aim.Machine names s fits = tt
fits_with aim.Acceptor names (Table m) fits = fits
fits_with aim.Acceptor names (Children c) fits = (fits.0, record { free = fits.1.free; inputs = fits.1.inputs; outputs = ap (λ (o : Option (List (List ℕ))). Some (or_these names o)) fits.1.outputs })

-- a task of a system that was read, and then its prior answers, or why there is none
module _ (a : LearnValues) (f m g : FilesState) (s : System) (whole : SaysWhole a f m s) (made : MadeReads f m []) (same : m.holds ≡ f.holds) (quiet : m.faults ≡ f.faults) where
  module _ (name : List ℕ) (named : a.prior ≡ Some name) where
    ready : (t : Task) (p : Answers) → ReadsFile IsAnswersFile name m.holds m.reads g.reads p → IsTaskWith s p t → SaysReady a f g t
    ready t p read with = record {
      says = record {
        between = m.reads;
        read = s;
        system = whole.says;
        answers = subst (λ (o : Option (List ℕ)). ReadsPrior o f.holds m.reads g.reads s t.system t.cache.kept) (sym named)
            (p, subst (λ (h : Option (List File)). ReadsFile IsAnswersFile name h m.reads g.reads p) same read, with.0, with.1, with.2);
      };
      ready = with.3;
      fits = subst (IsSystemFor a.goal) (sym with.1) (fits_with a.goal p.outputs s whole.fits);
    }

    unfit : (p : Answers) (read : Option System) (kept : List KeptAnswer) → ReadsFile IsAnswersFile name m.holds m.reads g.reads p → MadeReads m g [] → (outcome : Outcome) → IsUnfit s p read kept outcome → IsUnreadBy a f g read kept outcome
    unfit p read kept was then (Alphabets r) is = (
      is.0,
      (m.reads, name, s, p, (named, (s, is.1, whole.says)), is.1, subst (λ (h : Option (List File)). ReadsFile IsAnswersFile name h m.reads g.reads p) same was, is.2),
      made_then f m g [] made then,
      is.3,
    )
    unfit p read kept was then (Nondeterministic clash) is = (
      with_outputs p.outputs s,
      is.0,
      record {
        between = m.reads;
        read = s;
        system = whole.says;
        answers = subst (λ (o : Option (List ℕ)). ReadsPrior o f.holds m.reads g.reads s (with_outputs p.outputs s) kept) (sym named)
            (p, subst (λ (h : Option (List File)). ReadsFile IsAnswersFile name h m.reads g.reads p) same was, is.1, refl, is.2);
      },
      is.3,
      made_then f m g [] made then,
    )
    unfit p read kept was then NoMemory is = (some_made f g (made_then f m g [] made then), is.0, is.1)
    unfit p read kept was then (Learned h r) is = absurd is
    unfit p read kept was then (Trial t) is = absurd is
    unfit p read kept was then (Yes states) is = absurd is
    unfit p read kept was then (Served served) is = absurd is
    unfit p read kept was then (No verdict) is = absurd is
    unfit p read kept was then Usage is = absurd is
    unfit p read kept was then (SulFailed i) is = absurd is
    unfit p read kept was then (Gone i) is = absurd is
    unfit p read kept was then (BadLine i line) is = absurd is
    unfit p read kept was then (BadAsk number) is = absurd is
    unfit p read kept was then (TooManyStates words) is = absurd is
    unfit p read kept was then (SuiteTooLarge states number) is = absurd is
    unfit p read kept was then SourceFault is = absurd is
    unfit p read kept was then (Compared comparison) is = absurd is
    unfit p read kept was then Asked is = absurd is
    unfit p read kept was then Helped is = absurd is
    unfit p read kept was then (Rechecked answers) is = absurd is
    unfit p read kept was then (Accepted states refinements) is = absurd is
    unfit p read kept was then (BadAcceptor bad) is = absurd is
    unfit p read kept was then (NotAcceptor state letter) is = absurd is
    unfit p read kept was then (UnknownLetter word place) is = absurd is
    unfit p read kept was then (Unstarted cause) is = absurd is
    unfit p read kept was then SinkFault is = absurd is
    unfit p read kept was then (BadFile r fault) is = absurd is
    unfit p read kept was then (FileTooLong r) is = absurd is
    unfit p read kept was then (FileFault r) is = absurd is

    module _ (read : Option System) (kept : List KeptAnswer) (none : kept ≡ []) where
      behind : (why : ReadStop JsonFault) → read ≡ Some s → (read_outcome role.Prior why ≡ NoMemory → read ≡ None) → IsNotRead IsAnswersFile IsAnswersFault name m g why → IsUnreadBy a f g read kept (read_outcome role.Prior why)
      behind why is = unread_then IsAnswersFile IsAnswersFault name a f m g role.Prior read (named, (s, is, whole.says)) (λ fault x. x) made same quiet kept none why

      prior_not_read : (why : ReadStop JsonFault) → IsBack (read_outcome role.Prior why) s read → IsNotRead IsAnswersFile IsAnswersFault name m g why → IsUnreadBy a f g read kept (read_outcome role.Prior why)
      prior_not_read stop.NoMemory back unread = (some_then f m g made unread, none, back)
      prior_not_read (stop.Bad fault) back unread = behind (stop.Bad fault) back (λ h. let wrong : BadFile role.Prior fault ≡ NoMemory = h in absurd (cc)) unread
      prior_not_read stop.TooLong back unread = behind stop.TooLong back (λ h. let wrong : FileTooLong role.Prior ≡ NoMemory = h in absurd (cc)) unread
      prior_not_read stop.Failed back unread = behind stop.Failed back (λ h. let wrong : FileFault role.Prior ≡ NoMemory = h in absurd (cc)) unread

      prior_refused : (outcome : Outcome) → IsRefused IsAnswersFile IsAnswersFault role.Prior name m g outcome → IsBack outcome s read → IsUnreadBy a f g read kept outcome
      prior_refused outcome refused back =
          subst (λ (o : Outcome). IsUnreadBy a f g read kept o) (sym refused.comes_to)
          (prior_not_read refused.stop (subst (λ (o : Outcome). IsBack o s read) refused.comes_to back) refused.unread)

    pub stage_prior : (result : Result Task UnreadState) → HasPrior name s m g result → IsStage a f g (SaysReady a f g) result
    stage_prior (Ok t) has = record {
      ok = ready t has.ok.0 has.ok.1 has.ok.2;
      made = made_then f m g [] made has.made;
      quiet = has.quiet ∙ quiet;
      err = tt;
      same = has.same ∙ same;
      counts = omega (arith, quiet, has.counts);
    }
    stage_prior (Err u) has = record {
      ok = tt;
      made = tt;
      quiet = tt;
      err = ⊎_elim
          (λ (is : IsRefused IsAnswersFile IsAnswersFault role.Prior name m g u.outcome × IsBack u.outcome s u.system × (u.kept ≡ [])).
          prior_refused u.system u.kept is.2 u.outcome is.0 is.1)
          (λ (is : (p : Answers) × ReadsFile IsAnswersFile name m.holds m.reads g.reads p × MadeReads m g [] × IsUnfit s p u.system u.kept u.outcome).
          unfit is.0 u.system u.kept is.1 is.2 u.outcome is.3)
          has.err;
      same = has.same ∙ same;
      counts = omega (arith, quiet, has.counts);
    }

  -- without prior answers
  pub stage_fresh : a.prior ≡ None → (result : Result Task UnreadState) → IfOk result (λ t. (t.system ≡ s) × (t.cache.kept ≡ []) × IsReady t.system t.names t.cache) → IfErr result (λ u. (u.outcome ≡ NoMemory) × (u.kept ≡ []) × (u.system ≡ None)) → IsStage a f m (SaysReady a f m) result
  stage_fresh none (Ok t) ok err = record {
    ok = record {
      says = record {
        between = m.reads;
        read = s;
        system = whole.says;
        answers = subst (λ (o : Option (List ℕ)). ReadsPrior o f.holds m.reads m.reads s t.system t.cache.kept) (sym none) (refl, ok.0, ok.1);
      };
      ready = ok.2;
      fits = subst (IsSystemFor a.goal) (sym ok.0) whole.fits;
    };
    made = made;
    quiet = quiet;
    err = tt;
    same = same;
    counts = omega (arith, quiet);
  }
  stage_fresh none (Err u) ok err = record {
    ok = tt;
    made = tt;
    quiet = tt;
    err = subst (λ (o : Outcome). IsUnreadBy a f m u.system u.kept o) (sym err.0) (some_made f m made, err.1, err.2);
    same = same;
    counts = omega (arith, quiet);
  }
