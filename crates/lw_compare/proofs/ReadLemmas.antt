-- What a model's file that was not read comes to, and what is told of both files.
use Rattle.std.proofs.Common.{◌≡◌, ◌⊎◌, ⊎_elim, inl, inr, ℕ, ◌<◌, ◌≤◌, List, length, true, false, Option, Some, None, refl, ap, sym, subst, arith}
use Rattle.lw_words.specs.Cause.{CountedFault}
use Rattle.lw_json.specs.MachineFault.{IsMachineFault}
use Rattle.lw_json.specs.Formats.{IsMachineFile}
use Rattle.lw_json.specs.declared.files.Machine.{Machine}
use Rattle.lw_json.specs.declared.fault.JsonFault.{JsonFault}
use Rattle.lw_outside.specs.Files.{File, Holds, HoldsLong, file_at, longest_of, FilesState, ReadsFile}
use Rattle.lw_report.specs.Outcomes.{HasOwnText, StandsOrWants}
use Rattle.lw_system.specs.Reading.{ReadsBadFile}
use Rattle.lw_report.specs.Stops.{read_outcome}
use Rattle.lw_system.specs.declared.stops.ReadStop.{ReadStop}
use Rattle.lw_system.specs.declared.stops.ReadStop.TheVariants as stop
use Rattle.lw_report.specs.declared.comparison.Comparison.{Comparison}
use Rattle.lw_report.specs.declared.outcome.Outcome.{Outcome}
use Rattle.lw_report.specs.declared.outcome.Outcome.TheVariants.{BadFile, FileFault, FileTooLong, NoMemory}
use Rattle.lw_report.specs.declared.role.Role.{Role}
use Rattle.lw_report.specs.declared.role.Role.TheVariants.{Model, Second}
use Rattle.lw_compare.specs.Outcomes.{ComesAs, ComparesNothing, IsUntroubled}
use Rattle.lw_compare.specs.Reading.{IsUnread, ReadsFirst, ReadsModels, TellsModel, TellsNoModel, first_read, second_read}
use Rattle.lw_compare.specs.bodies.Unread.{HasStopped, IsStopped, with_first}

-- bytes that are told and those that were read are the same
same_bytes : (held : Option (List ℕ)) (b c : List ℕ) → held ≡ Some b → held ≡ Some c → b ≡ c
same_bytes held b c one two = cc

module _ (name : List ℕ) where
  model_not_bad : (holds : Option (List File)) (m : Machine) (bytes : List ℕ) → TellsModel holds name m → Holds holds name bytes → ((n : Machine) → ¬ IsMachineFile bytes n) → ⊥
  model_not_bad None m bytes told held bad = told
  model_not_bad (Some fs) m bytes told held bad = bad m (subst (λ (b : List ℕ). IsMachineFile b m) (same_bytes (file_at name fs) told.0 bytes told.1 held) told.3)

  model_not_long : (holds : Option (List File)) (m : Machine) → TellsModel holds name m → HoldsLong holds name → ⊥
  model_not_long None m told long = told
  model_not_long (Some fs) m told long =
      let short = told.2 in
      let more = long.2 in
      let same = same_bytes (file_at name fs) told.0 long.0 told.1 long.1 in
      absurd (omega (arith, short, more, ap (λ (b : List ℕ). length b) same, ap longest_of same))

  pub told_file : (holds : Option (List File)) (m : Machine) (bytes : List ℕ) → TellsModel holds name m → Holds holds name bytes → IsMachineFile bytes m
  told_file None m bytes told held = absurd told
  told_file (Some fs) m bytes told held = subst (λ (b : List ℕ). IsMachineFile b m) (same_bytes (file_at name fs) told.0 bytes told.1 held) told.3

  pub no_model_read : (holds : Option (List File)) (m : Machine) (bytes : List ℕ) → TellsNoModel holds name → Holds holds name bytes → length bytes ≤ longest_of bytes → IsMachineFile bytes m → ⊥
  no_model_read None m bytes told held short file = told
  no_model_read (Some fs) m bytes told held short file =
      let same = same_bytes (file_at name fs) told.0 bytes told.1 held in
      ⊎_elim
      (λ (long : longest_of told.0 < length told.0). omega (arith, long, short, ap (λ (b : List ℕ). length b) same, ap longest_of same))
      (λ (bad : (n : Machine) → ¬ IsMachineFile told.0 n). bad m (subst (λ (b : List ℕ). IsMachineFile b m) (sym same) file))
      told.2

-- what holds of what a stop comes to, and of out of memory after a bad file, holds of the outcome
by_stop : (P : Outcome → Type 0) (role : Role) (s : ReadStop JsonFault) (outcome : Outcome) → StandsOrWants (read_outcome role s) outcome → P (read_outcome role s) → ((fault : JsonFault) → s ≡ stop.Bad fault → P NoMemory) → P outcome
by_stop P role stop.Failed outcome stands here memory = ⊎_elim (λ (e : outcome ≡ FileFault role). subst P (sym e) here) (λ (w : HasOwnText (FileFault role) × (outcome ≡ NoMemory)). absurd w.0) stands
by_stop P role stop.TooLong outcome stands here memory = ⊎_elim (λ (e : outcome ≡ FileTooLong role). subst P (sym e) here) (λ (w : HasOwnText (FileTooLong role) × (outcome ≡ NoMemory)). absurd w.0) stands
by_stop P role (stop.Bad fault) outcome stands here memory = ⊎_elim (λ (e : outcome ≡ BadFile role fault). subst P (sym e) here) (λ (w : HasOwnText (BadFile role fault) × (outcome ≡ NoMemory)). subst P (sym w.1) (memory fault refl)) stands
by_stop P role stop.NoMemory outcome stands here memory = ⊎_elim (λ (e : outcome ≡ NoMemory). subst P (sym e) here) (λ (w : HasOwnText NoMemory × (outcome ≡ NoMemory)). absurd w.0) stands

refused_here : (role : Role) (s : ReadStop JsonFault) → ComparesNothing (read_outcome role s)
refused_here role stop.Failed = tt
refused_here role stop.TooLong = tt
refused_here role (stop.Bad fault) = tt
refused_here role stop.NoMemory = tt

comes_here : (c : Comparison) (role : Role) (s : ReadStop JsonFault) → (s ≡ stop.TooLong → ⊥) → ((fault : JsonFault) → s ≡ stop.Bad fault → ⊥) → ComesAs c (read_outcome role s)
comes_here c role stop.Failed long bad = inr (inr (inr (role, refl)))
comes_here c role stop.TooLong long bad = absurd (long refl)
comes_here c role (stop.Bad fault) long bad = absurd (bad fault refl)
comes_here c role stop.NoMemory long bad = inr (inl refl)

untroubled_here : (role : Role) (s : ReadStop JsonFault) → (s ≡ stop.Failed → ⊥) → (s ≡ stop.TooLong → ⊥) → ((fault : JsonFault) → s ≡ stop.Bad fault → ⊥) → IsUntroubled (read_outcome role s)
untroubled_here role stop.Failed failed long bad = absurd (failed refl)
untroubled_here role stop.TooLong failed long bad = absurd (long refl)
untroubled_here role (stop.Bad fault) failed long bad = absurd (bad fault refl)
untroubled_here role stop.NoMemory failed long bad = tt

module _ (one two : List ℕ) (f g : FilesState) where
  first_cause : (s : ReadStop JsonFault) → HasStopped one f g s → IsUnread one two f g (read_outcome Model s)
  first_cause stop.Failed is = is.failed refl
  first_cause stop.TooLong is = is.long refl
  first_cause (stop.Bad fault) is = is.bad fault refl
  first_cause stop.NoMemory is = ⊎_elim (λ (c : g.calls ≡ f.calls). inl c) (λ (c : g.calls ≡ first_read one false f). inr (inl c)) (is.memory refl)

  module _ (middle : List File) (m : Machine) (file : ReadsFile IsMachineFile one f.holds f.reads middle m) where
    abbrev h : FilesState
    h = with_first one middle f

    same_reads : g.reads ≡ middle → ReadsFirst one f g.reads
    same_reads same = (m, subst (λ (r : List File). ReadsFile IsMachineFile one f.holds f.reads r m) (sym same) file)

    second_cause : (s : ReadStop JsonFault) → HasStopped two h g s → IsUnread one two f g (read_outcome Second s)
    second_cause stop.Failed is = let e = is.failed refl in (e.0, e.1, same_reads e.2)
    second_cause stop.TooLong is = let e = is.long refl in (e.0, e.1, same_reads e.2)
    second_cause (stop.Bad fault) is = let e = is.bad fault refl in ((middle, m, file, e.0), e.1)
    second_cause stop.NoMemory is = inr (is.memory refl)

  -- what holds of each stop, and of out of memory in place of a bad file's text, holds of the outcome
  by_stopped : (P : Outcome → Type 0) (was outcome : Outcome) → IsStopped one two f g was → StandsOrWants was outcome
      → ((s : ReadStop JsonFault) → HasStopped one f g s → P (read_outcome Model s))
      → ((s : ReadStop JsonFault) (middle : List File) (m : Machine) → ReadsFile IsMachineFile one f.holds f.reads middle m → HasStopped two (with_first one middle f) g s → P (read_outcome Second s))
      → ((s : ReadStop JsonFault) (fault : JsonFault) → s ≡ stop.Bad fault → HasStopped one f g s → P NoMemory)
      → ((s : ReadStop JsonFault) (fault : JsonFault) (middle : List File) (m : Machine) → s ≡ stop.Bad fault → ReadsFile IsMachineFile one f.holds f.reads middle m → HasStopped two (with_first one middle f) g s → P NoMemory)
      → P outcome
  by_stopped P was outcome is stands first second first_bad second_bad =
      ⊎_elim
      (λ (t : (s : ReadStop JsonFault) × HasStopped one f g s × (was ≡ read_outcome Model s)).
      by_stop P Model t.0 outcome (subst (λ (o : Outcome). StandsOrWants o outcome) t.2 stands) (first t.0 t.1) (λ fault bad. first_bad t.0 fault bad t.1))
      (λ (t : (s : ReadStop JsonFault) × (middle : List File) × (m : Machine) × ReadsFile IsMachineFile one f.holds f.reads middle m × HasStopped two (with_first one middle f) g s × (was ≡ read_outcome Second s)).
      by_stop P Second t.0 outcome (subst (λ (o : Outcome). StandsOrWants o outcome) t.5 stands) (second t.0 t.1 t.2 t.3 t.4) (λ fault bad. second_bad t.0 fault t.1 t.2 bad t.3 t.4))
      is

  module _ (was outcome : Outcome) (is : IsStopped one two f g was) (stands : StandsOrWants was outcome) where
    pub unread_cause : IsUnread one two f g outcome
    unread_cause =
        by_stopped (IsUnread one two f g) was outcome is stands first_cause (λ s middle m file stopped. second_cause middle m file s stopped)
        (λ s fault bad stopped. inr (inl (stopped.bad fault bad).1))
        (λ s fault middle m bad file stopped. inr (inr (stopped.bad fault bad).1))

    pub unread_refused : ComparesNothing outcome
    unread_refused = by_stopped ComparesNothing was outcome is stands (λ s _. refused_here Model s) (λ s _ _ _ _. refused_here Second s) (λ _ _ _ _. tt) (λ _ _ _ _ _ _ _. tt)

    pub unread_exact : (first second : Machine) (c : Comparison) → TellsModel f.holds one first → TellsModel f.holds two second → ComesAs c outcome
    unread_exact first second c told_one told_two =
        by_stopped (ComesAs c) was outcome is stands
        (λ s stopped. comes_here c Model s (λ e. model_not_long one f.holds first told_one (stopped.long e).0) (λ fault e. let b = (stopped.bad fault e).0 in model_not_bad one f.holds first b.bytes told_one b.read.held b.bad))
        (λ s middle m file stopped. comes_here c Second s (λ e. model_not_long two f.holds second told_two (stopped.long e).0) (λ fault e. let b = (stopped.bad fault e).0 in model_not_bad two f.holds second b.bytes told_two b.read.held b.bad))
        (λ _ _ _ _. inr (inl refl)) (λ _ _ _ _ _ _ _. inr (inl refl))

    pub unread_untroubled : (first second : Machine) → TellsModel f.holds one first → TellsModel f.holds two second → ¬ CountedFault f.faults g.faults → IsUntroubled outcome
    unread_untroubled first second told_one told_two quiet =
        by_stopped IsUntroubled was outcome is stands
        (λ s stopped. untroubled_here Model s (λ e. quiet (stopped.failed e).0) (λ e. model_not_long one f.holds first told_one (stopped.long e).0) (λ fault e. let b = (stopped.bad fault e).0 in model_not_bad one f.holds first b.bytes told_one b.read.held b.bad))
        (λ s middle m file stopped. untroubled_here Second s (λ e. quiet (stopped.failed e).0) (λ e. model_not_long two f.holds second told_two (stopped.long e).0) (λ fault e. let b = (stopped.bad fault e).0 in model_not_bad two f.holds second b.bytes told_two b.read.held b.bad))
        (λ _ _ _ _. tt) (λ _ _ _ _ _ _ _. tt)
