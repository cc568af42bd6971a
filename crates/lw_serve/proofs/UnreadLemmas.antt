-- What a model file that was not read comes to.
use Rattle.std.proofs.Common.{◌≡◌, ◌⊎◌, ⊎_elim, inl, inr, ℕ, List, true, false, refl, subst, sym}
use Rattle.lw_words.specs.Cause.{CountedFault}
use Rattle.lw_json.specs.Formats.{IsMachineFile}
use Rattle.lw_json.specs.MachineFault.{IsMachineFault}
use Rattle.lw_json.specs.declared.fault.JsonFault.{JsonFault}
use Rattle.lw_outside.specs.Files.{HoldsLong, noted, read_call, FilesState}
use Rattle.lw_report.specs.Outcomes.{HasOwnText, StandsOrWants}
use Rattle.lw_system.specs.Reading.{ReadsBadFile}
use Rattle.lw_report.specs.Stops.{read_outcome}
use Rattle.lw_report.specs.declared.outcome.Outcome.{Outcome}
use Rattle.lw_report.specs.declared.outcome.Outcome.TheVariants.{BadFile, FileTooLong, NoMemory, FileFault}
use Rattle.lw_report.specs.declared.role.Role.{Role}
use Rattle.lw_report.specs.declared.role.Role.TheVariants.{Model}
use Rattle.lw_system.specs.declared.stops.ReadStop.{ReadStop}
use Rattle.lw_system.specs.declared.stops.ReadStop.TheVariants as stop
use Rattle.lw_serve.specs.Calls.{MadeCalls}
use Rattle.lw_serve.specs.Outcomes.{IsUngiven, IsUnread, IsUntroubled}
use Rattle.lw_serve.specs.Reading.{TellsFailed, TellsLong, TellsMachine}
use Rattle.lw_serve.proofs.ReadLemmas.{long_not_bad, machine_not_bad, machine_not_long, not_called, not_failed}

-- what a stop of the read says of the files
pub record HasStopped (model : List ℕ) (f g : FilesState) (s : ReadStop JsonFault) : Type 0 where
  pub bad : (fault : JsonFault) → s ≡ stop.Bad fault → ReadsBadFile IsMachineFile IsMachineFault model f.holds f.reads g.reads fault × (g.calls ≡ noted (read_call model false) f.calls)
  pub long : s ≡ stop.TooLong → HoldsLong f.holds model × (g.calls ≡ noted (read_call model false) f.calls) × (g.reads ≡ f.reads)
  pub failed : s ≡ stop.Failed → CountedFault f.faults g.faults × (g.calls ≡ noted (read_call model true) f.calls) × (g.reads ≡ f.reads)
  pub memory : s ≡ stop.NoMemory → (g.calls ≡ f.calls) ⊎ (g.calls ≡ noted (read_call model false) f.calls)

-- what holds of what the stop comes to, and of out of memory after a bad file, holds of the outcome
by_stop : (P : Outcome → Type 0) (s : ReadStop JsonFault) (outcome : Outcome) → StandsOrWants (read_outcome Model s) outcome → P (read_outcome Model s) → ((fault : JsonFault) → s ≡ stop.Bad fault → P NoMemory) → P outcome
by_stop P stop.Failed outcome stands here memory = ⊎_elim (λ (e : outcome ≡ FileFault Model). subst P (sym e) here) (λ (w : HasOwnText (FileFault Model) × (outcome ≡ NoMemory)). absurd w.0) stands
by_stop P stop.TooLong outcome stands here memory = ⊎_elim (λ (e : outcome ≡ FileTooLong Model). subst P (sym e) here) (λ (w : HasOwnText (FileTooLong Model) × (outcome ≡ NoMemory)). absurd w.0) stands
by_stop P (stop.Bad fault) outcome stands here memory = ⊎_elim (λ (e : outcome ≡ BadFile Model fault). subst P (sym e) here) (λ (w : HasOwnText (BadFile Model fault) × (outcome ≡ NoMemory)). subst P (sym w.1) (memory fault refl)) stands
by_stop P stop.NoMemory outcome stands here memory = ⊎_elim (λ (e : outcome ≡ NoMemory). subst P (sym e) here) (λ (w : HasOwnText NoMemory × (outcome ≡ NoMemory)). absurd w.0) stands

kind_here : (s : ReadStop JsonFault) → IsUnread (read_outcome Model s)
kind_here stop.Failed = refl
kind_here stop.TooLong = refl
kind_here (stop.Bad fault) = refl
kind_here stop.NoMemory = tt

ungiven_here : (s : ReadStop JsonFault) → ((fault : JsonFault) → s ≡ stop.Bad fault → ⊥) → IsUngiven (read_outcome Model s)
ungiven_here stop.Failed given = refl
ungiven_here stop.TooLong given = refl
ungiven_here (stop.Bad fault) given = absurd (given fault refl)
ungiven_here stop.NoMemory given = tt

untroubled_here : (s : ReadStop JsonFault) → (s ≡ stop.Failed → ⊥) → (s ≡ stop.TooLong → ⊥) → ((fault : JsonFault) → s ≡ stop.Bad fault → ⊥) → IsUntroubled (read_outcome Model s)
untroubled_here stop.Failed failed long bad = absurd (failed refl)
untroubled_here stop.TooLong failed long bad = absurd (long refl)
untroubled_here (stop.Bad fault) failed long bad = absurd (bad fault refl)
untroubled_here stop.NoMemory failed long bad = tt

bad_is : (s : ReadStop JsonFault) (role : Role) (fault : JsonFault) → read_outcome Model s ≡ BadFile role fault → (role ≡ Model) × (s ≡ stop.Bad fault)
bad_is stop.Failed role fault e = let wrong : FileFault Model ≡ BadFile role fault = e in absurd (cc)
bad_is stop.TooLong role fault e = let wrong : FileTooLong Model ≡ BadFile role fault = e in absurd (cc)
bad_is (stop.Bad own) role fault e = let both : BadFile Model own ≡ BadFile role fault = e in let first : role ≡ Model = cc in let second : own ≡ fault = cc in (first, cc)
bad_is stop.NoMemory role fault e = let wrong : NoMemory ≡ BadFile role fault = e in absurd (cc)

long_is : (s : ReadStop JsonFault) (role : Role) → read_outcome Model s ≡ FileTooLong role → (role ≡ Model) × (s ≡ stop.TooLong)
long_is stop.Failed role e = let wrong : FileFault Model ≡ FileTooLong role = e in absurd (cc)
long_is stop.TooLong role e = let both : FileTooLong Model ≡ FileTooLong role = e in let first : role ≡ Model = cc in (first, refl)
long_is (stop.Bad own) role e = let wrong : BadFile Model own ≡ FileTooLong role = e in absurd (cc)
long_is stop.NoMemory role e = let wrong : NoMemory ≡ FileTooLong role = e in absurd (cc)

failed_is : (s : ReadStop JsonFault) (role : Role) → read_outcome Model s ≡ FileFault role → (role ≡ Model) × (s ≡ stop.Failed)
failed_is stop.Failed role e = let both : FileFault Model ≡ FileFault role = e in let first : role ≡ Model = cc in (first, refl)
failed_is stop.TooLong role e = let wrong : FileTooLong Model ≡ FileFault role = e in absurd (cc)
failed_is (stop.Bad own) role e = let wrong : BadFile Model own ≡ FileFault role = e in absurd (cc)
failed_is stop.NoMemory role e = let wrong : NoMemory ≡ FileFault role = e in absurd (cc)

module _ (model : List ℕ) (f g : FilesState) where
  calls_here : (s : ReadStop JsonFault) → HasStopped model f g s → MadeCalls model (read_outcome Model s) f.calls g.calls
  calls_here stop.Failed is = inr (is.failed refl).1
  calls_here stop.TooLong is = inr (is.long refl).1
  calls_here (stop.Bad fault) is = inr (is.bad fault refl).1
  calls_here stop.NoMemory is = ⊎_elim (λ (none : g.calls ≡ f.calls). inl (refl, none)) (λ (one : g.calls ≡ noted (read_call model false) f.calls). inr one) (is.memory refl)

  failed_here : (s : ReadStop JsonFault) → HasStopped model f g s → TellsFailed model f.calls g.calls → read_outcome Model s ≡ FileFault Model
  failed_here stop.Failed is told = refl
  failed_here stop.TooLong is told = absurd (not_failed model f.calls g.calls (is.long refl).1 told)
  failed_here (stop.Bad fault) is told = absurd (not_failed model f.calls g.calls (is.bad fault refl).1 told)
  failed_here stop.NoMemory is told =
      absurd (⊎_elim (λ (none : g.calls ≡ f.calls). not_called model f.calls g.calls none told) (λ (one : g.calls ≡ noted (read_call model false) f.calls). not_failed model f.calls g.calls one told) (is.memory refl))

module _ (model : List ℕ) (f g : FilesState) (s : ReadStop JsonFault) (outcome : Outcome) (is : HasStopped model f g s) (stands : StandsOrWants (read_outcome Model s) outcome) where
  pub unread_kind : IsUnread outcome
  unread_kind = by_stop IsUnread s outcome stands (kind_here s) (λ _ _. tt)

  pub bad_file : (role : Role) (fault : JsonFault) → outcome ≡ BadFile role fault → (role ≡ Model) × ReadsBadFile IsMachineFile IsMachineFault model f.holds f.reads g.reads fault
  bad_file role fault e =
      let from : (role ≡ Model) × (s ≡ stop.Bad fault) = by_stop (λ x. x ≡ BadFile role fault → (role ≡ Model) × (s ≡ stop.Bad fault)) s outcome stands (bad_is s role fault) (λ _ _ w. let wrong : NoMemory ≡ BadFile role fault = w in absurd (cc)) e in
      (from.0, (is.bad fault from.1).0)

  pub too_long : (role : Role) → outcome ≡ FileTooLong role → (role ≡ Model) × HoldsLong f.holds model × (g.reads ≡ f.reads)
  too_long role e =
      let from : (role ≡ Model) × (s ≡ stop.TooLong) = by_stop (λ x. x ≡ FileTooLong role → (role ≡ Model) × (s ≡ stop.TooLong)) s outcome stands (long_is s role) (λ _ _ w. let wrong : NoMemory ≡ FileTooLong role = w in absurd (cc)) e in
      let long = is.long from.1 in
      (from.0, long.0, long.2)

  pub too_long_told : TellsLong f.holds model → IsUngiven outcome
  too_long_told told = by_stop IsUngiven s outcome stands (ungiven_here s (λ fault e. long_not_bad f.holds f.reads g.reads model fault told (is.bad fault e).0)) (λ _ _. tt)

  pub file_fault : (role : Role) → outcome ≡ FileFault role → (role ≡ Model) × CountedFault f.faults g.faults × (g.reads ≡ f.reads)
  file_fault role e =
      let from : (role ≡ Model) × (s ≡ stop.Failed) = by_stop (λ x. x ≡ FileFault role → (role ≡ Model) × (s ≡ stop.Failed)) s outcome stands (failed_is s role) (λ _ _ w. let wrong : NoMemory ≡ FileFault role = w in absurd (cc)) e in
      let failed = is.failed from.1 in
      (from.0, failed.0, failed.2)

  pub file_fault_told : TellsFailed model f.calls g.calls → outcome ≡ FileFault Model
  file_fault_told told = by_stop (λ x. x ≡ FileFault Model) s outcome stands (failed_here model f g s is told) (λ fault e. absurd (not_failed model f.calls g.calls (is.bad fault e).1 told))

  pub unread_untroubled : TellsMachine f.holds model → ¬ CountedFault f.faults g.faults → IsUntroubled outcome
  unread_untroubled told quiet =
      by_stop IsUntroubled s outcome stands
      (untroubled_here s (λ e. quiet (is.failed e).0) (λ e. machine_not_long f.holds model told (is.long e).0) (λ fault e. machine_not_bad f.holds f.reads g.reads model fault told (is.bad fault e).0))
      (λ _ _. tt)

  pub unread_calls : MadeCalls model outcome f.calls g.calls
  unread_calls = by_stop (λ x. MadeCalls model x f.calls g.calls) s outcome stands (calls_here model f g s is) (λ fault e. inr (is.bad fault e).1)
