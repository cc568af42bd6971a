-- Files that are probed one after the other, and a task that was read before.
use Rattle.std.proofs.Common.{◌≡◌, ◌∙◌, ⊎_elim, ℕ, List, [], ◌∷◌, ◌++◌, map, false, true, Option, Some, None, Result, Ok, Err, inl, inr, refl, ap, sym, subst, arith}
use Rattle.std.specs.Prelude.{⊤}
use Rattle.std.proofs.lemmas.List.{append-nil, append_assoc}
use Rattle.lw_words.specs.Cause.{CountedFault}
use Rattle.lw_outside.specs.Files.{Call, File, FilesProbe, FilesState, probe_call, read_call}
use Rattle.lw_outside.specs.declared.files.WriteStop.{WriteStop}
use Rattle.lw_outside.specs.declared.files.WriteStop.TheVariants as stop
use Rattle.lw_report.specs.declared.outcome.Outcome.{Outcome}
use Rattle.lw_report.specs.declared.outcome.Outcome.TheVariants.{FileFault, NoMemory}
use Rattle.lw_report.specs.declared.role.Role.{Role}
use Rattle.lw_learn.specs.Arguments.{LearnValues}
use Rattle.lw_learn.specs.Asking.{IsWordlessTask, SaysWords}
use Rattle.lw_learn.specs.Unread.{IsUnreadBy}
use Rattle.lw_system.specs.Systems.{letters_of}
use Rattle.lw_learn.specs.Probes.{FailsProbe, IsUnprobed, WantsProbe, Written, probes_before, probes_of, written_files}
use Rattle.lw_learn.specs.bodies.Probing.{HasProbed, HasTried, IsProbedStage, unprobed_outcome}
use Rattle.lw_learn.specs.bodies.Stages.{IsWordedStage, SaysWorded}
use Rattle.lw_learn.specs.bodies.UnreadState.{UnreadState}
use Rattle.lw_learn.specs.declared.task.WordedTask.{WordedTask}
use Rattle.lw_system.specs.Reads.{MadeReads, gained}
use Rattle.lw_learn.proofs.WriteLemmas.{gained_none, gained_twice}

-- calls that follow the probe of a file
behind : (name : Option (List ℕ)) (later : List Call) → probes_before name [] ++ later ≡ probes_before name later
behind None later = refl
behind (Some name) later = refl

before_all : (name : Option (List ℕ)) (front later : List Call) → probes_before name front ++ later ≡ probes_before name (front ++ later)
before_all None front later = refl
before_all (Some name) front later = refl

gains : (f : Written) (later : List Call) (b m n : FilesState) → m.calls ≡ gained (probes_of (f ∷ [])) b.calls → n.calls ≡ gained later m.calls → n.calls ≡ gained (probes_before f.1 later) b.calls
gains f later b m n one two = gained_twice (probes_of (f ∷ [])) later b.calls m.calls n.calls one two ∙ ap (λ (l : List Call). gained l b.calls) (behind f.1 later)

-- one file, where it is named
pub none_probed : (role : Role) (name : Option (List ℕ)) (b : FilesState) → name ≡ None → HasProbed ((role, name) ∷ []) b b (Ok tt)
none_probed role name b is = subst (λ (n : Option (List ℕ)). HasProbed ((role, n) ∷ []) b b (Ok tt)) (sym is) (record { ok = gained_none b.calls; quiet = refl; err = tt; same = refl; reads = refl; counts = omega arith })

pub one_probed : (role : Role) (name : List ℕ) (b m : FilesState) → FilesProbe name b m (Ok tt) → HasProbed ((role, Some name) ∷ []) b m (Ok tt)
one_probed role name b m is = record { ok = is.ok; quiet = is.quiet; err = tt; same = is.same; reads = is.reads; counts = is.counts }

why_unprobed : (role : Role) (name : List ℕ) (b m : FilesState) (stop : WriteStop) (o : Outcome) → o ≡ unprobed_outcome role stop → FilesProbe name b m (Err stop) → IsUnprobed ((role, Some name) ∷ []) b m o
why_unprobed role name b m stop.Failed o same is = inl (role, same, record { passed = []; name = name; later = []; files_are = refl; counted = is.failed refl; calls = is.failed_call refl })
why_unprobed role name b m stop.NoMemory o same is = inr (same, record { passed = []; later = (role, Some name) ∷ []; files_are = refl; calls = is.memory refl ∙ gained_none b.calls })

pub one_unprobed : (role : Role) (name : List ℕ) (b m : FilesState) (stop : WriteStop) (o : Outcome) → o ≡ unprobed_outcome role stop → FilesProbe name b m (Err stop) → HasProbed ((role, Some name) ∷ []) b m (Err o)
one_unprobed role name b m stop o same is = record { ok = tt; quiet = tt; err = why_unprobed role name b m stop o same is; same = is.same; reads = is.reads; counts = is.counts }

-- files behind one whose probe passed
later_unprobed : (f : Written) (fs : List Written) (b m n : FilesState) (o : Outcome) → m.calls ≡ gained (probes_of (f ∷ [])) b.calls → m.faults ≡ b.faults → IsUnprobed fs m n o → IsUnprobed (f ∷ fs) b n o
later_unprobed f fs b m n o one quiet (inl fails) =
    let w = fails.2 in
    inl (
      fails.0,
      fails.1,
      record {
        passed = f ∷ w.passed;
        name = w.name;
        later = w.later;
        files_are = ap (λ (l : List Written). f ∷ l) w.files_are;
        counted = subst (λ (n0 : ℕ). CountedFault n0 n.faults) quiet w.counted;
        calls = gains f (probes_of w.passed ++ probe_call w.name true ∷ []) b m n one w.calls ∙ ap (λ (l : List Call). gained l b.calls) (sym (before_all f.1 (probes_of w.passed) (probe_call w.name true ∷ [])));
      },
    )
later_unprobed f fs b m n o one quiet (inr wants) =
    let w = wants.1 in
    inr (
      wants.0,
      record {
        passed = f ∷ w.passed;
        later = w.later;
        files_are = ap (λ (l : List Written). f ∷ l) w.files_are;
        calls = gains f (probes_of w.passed) b m n one w.calls;
      },
    )

pub then_probed : (f : Written) (fs : List Written) (b m n : FilesState) (r : Result ⊤ Outcome) → HasProbed (f ∷ []) b m (Ok tt) → HasProbed fs m n r → HasProbed (f ∷ fs) b n r
then_probed f fs b m n (Ok u) one rest = record {
  ok = gains f (probes_of fs) b m n one.ok rest.ok;
  quiet = rest.quiet ∙ one.quiet;
  err = tt;
  same = rest.same ∙ one.same;
  reads = rest.reads ∙ one.reads;
  counts = omega (arith, one.counts, rest.counts);
}
then_probed f fs b m n (Err o) one rest = record {
  ok = tt;
  quiet = tt;
  err = later_unprobed f fs b m n o one.ok one.quiet rest.err;
  same = rest.same ∙ one.same;
  reads = rest.reads ∙ one.reads;
  counts = omega (arith, one.counts, rest.counts);
}

-- files behind one whose probe failed
more_files : (passed later fs : List Written) (x : List Written) → x ≡ passed ++ later → x ++ fs ≡ passed ++ (later ++ fs)
more_files passed later fs x is = ap (λ (l : List Written). l ++ fs) is ∙ append_assoc passed later fs

pub not_probed : (f : Written) (fs : List Written) (b m : FilesState) (o : Outcome) → HasProbed (f ∷ []) b m (Err o) → HasProbed (f ∷ fs) b m (Err o)
not_probed f fs b m o one = record {
  ok = tt;
  quiet = tt;
  err = ⊎_elim
      (λ (fails : (role : Role) × (o ≡ FileFault role) × FailsProbe (f ∷ []) b m role).
      inl (
        fails.0,
        fails.1,
        record {
          passed = fails.2.passed;
          name = fails.2.name;
          later = fails.2.later ++ fs;
          files_are = more_files fails.2.passed ((fails.0, Some fails.2.name) ∷ fails.2.later) fs (f ∷ []) fails.2.files_are;
          counted = fails.2.counted;
          calls = fails.2.calls;
        },
      ))
      (λ (wants : (o ≡ NoMemory) × WantsProbe (f ∷ []) b m).
      inr (
        wants.0,
        record {
          passed = wants.1.passed;
          later = wants.1.later ++ fs;
          files_are = more_files wants.1.passed wants.1.later fs (f ∷ []) wants.1.files_are;
          calls = wants.1.calls;
        },
      ))
      one.err;
  same = one.same;
  reads = one.reads;
  counts = one.counts;
}

-- a task whose files were probed
pub tried : (a : LearnValues) (t : WordedTask) (b m : FilesState) → HasProbed (written_files a) b m (Ok tt) → HasTried a t b m (Ok t)
tried a t b m is = record { ok = refl; calls = is.ok; quiet = is.quiet; err = tt; same = is.same; reads = is.reads; counts = is.counts }

pub untried : (a : LearnValues) (t : WordedTask) (b m : FilesState) (o : Outcome) (u : UnreadState) → HasProbed (written_files a) b m (Err o) → u.outcome ≡ o → u.system ≡ Some t.task.system → u.kept ≡ [] → HasTried a t b m (Err u)
untried a t b m o u is same system kept = record {
  ok = tt;
  calls = tt;
  quiet = tt;
  err = (system, kept, subst (IsUnprobed (written_files a) b m) (sym same) is.err);
  same = is.same;
  reads = is.reads;
  counts = is.counts;
}

-- the probes behind the reads
made_probed : (f m h : FilesState) (last : List Call) → MadeReads f m [] → h.reads ≡ m.reads → h.calls ≡ gained last m.calls → MadeReads f h last
made_probed f m h last made reads calls =
    let front : List Call = map (λ (r : File). read_call r.0 false) made.0 in (
      made.0,
      reads ∙ made.1,
      gained_twice (front ++ []) last f.calls m.calls h.calls made.2 calls ∙ ap (λ (l : List Call). gained (l ++ last) f.calls) (append-nil front),
    )

-- what was read stays
said_still : (a : LearnValues) (f m h : FilesState) (t : WordedTask) → h.reads ≡ m.reads → SaysWorded a f m t → SaysWorded a f h t
said_still a f m h t reads says = record {
  between = says.between;
  task = says.task;
  says = subst (λ (l : List File). SaysWords a (letters_of t.task.system) f.holds says.between l t.words) (sym reads) says.says;
  ready = says.ready;
  fits = says.fits;
  letters = says.letters;
  few = says.few;
}

pub stage_probed : (a : LearnValues) (f m h : FilesState) (s : Result WordedTask UnreadState) (t : WordedTask) (r : Result WordedTask UnreadState) → s ≡ Ok t → IsWordedStage a f m s → HasTried a t m h r → IsProbedStage a f h r
stage_probed a f m h s t r is stage tried = by r (subst (λ (x : Result WordedTask UnreadState). IsWordedStage a f m x) is stage) tried
  where
    by : (r : Result WordedTask UnreadState) → IsWordedStage a f m (Ok t) → HasTried a t m h r → IsProbedStage a f h r
    by (Ok w) x tried = record {
      ok = subst (SaysWorded a f h) (sym tried.ok) (said_still a f m h t tried.reads x.ok);
      made = made_probed f m h (probes_of (written_files a)) x.made tried.reads tried.calls;
      quiet = tried.quiet ∙ x.quiet;
      err = tt;
      same = tried.same ∙ x.same;
      counts = omega (arith, x.counts, tried.counts);
    }
    by (Err u) x tried = record {
      ok = tt;
      made = tt;
      quiet = tt;
      err = inr (inr (record {
        system = t.task.system;
        prior = t.task.cache.kept;
        words = t.words;
        between = x.ok.between;
        middle = m;
        read_is = tried.err.0;
        task = x.ok.task;
        asked = x.ok.says;
        made = x.made;
        quiet = x.quiet;
        reads = tried.reads;
        nothing = tried.err.1;
        why = u.outcome;
        because = tried.err.2;
        told = inl refl;
      }));
      same = tried.same ∙ x.same;
      counts = omega (arith, x.counts, tried.counts);
    }

pub stage_unread : (a : LearnValues) (f m : FilesState) (s : Result WordedTask UnreadState) (u : UnreadState) → s ≡ Err u → IsWordedStage a f m s → IsProbedStage a f m (Err u)
stage_unread a f m s u is stage = by (subst (λ (x : Result WordedTask UnreadState). IsWordedStage a f m x) is stage)
  where
    by : IsWordedStage a f m (Err u) → IsProbedStage a f m (Err u)
    by x = record {
      ok = tt;
      made = tt;
      quiet = tt;
      err = ⊎_elim
          (λ (unread : IsUnreadBy a f m u.system u.kept u.outcome). inl unread)
          (λ (wordless : IsWordlessTask a f m u.system u.kept u.outcome). inr (inl wordless))
          x.err;
      same = x.same;
      counts = x.counts;
    }
