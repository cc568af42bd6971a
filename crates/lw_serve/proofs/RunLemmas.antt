-- Calls of `serve`, by whether a machine was read.
use Rattle.std.proofs.Common.{◌≡◌, ◌⊎◌, inl, inr, ℕ, List, [], false, None, refl, subst, sym}
use Rattle.lw_words.specs.Cause.{CountedFault}
use Rattle.lw_json.specs.Formats.{IsMachineFile}
use Rattle.lw_json.specs.declared.files.Machine.{Machine}
use Rattle.lw_outside.specs.Files.{Call, noted, read_call, FilesState, ReadsFile, WasRead}
use Rattle.lw_report.specs.Ends.{IsWithoutLearner}
use Rattle.lw_report.specs.Outcomes.{StandsOrWants}
use Rattle.lw_outside.specs.Streams.{SinkState, SourceState}
use Rattle.lw_report.specs.Stops.{read_outcome}
use Rattle.lw_report.specs.Writing.{TakesAll, TakesSome, said_text}
use Rattle.lw_report.specs.declared.«end».End.{End}
use Rattle.lw_report.specs.declared.role.Role.TheVariants.{Model}
use Rattle.lw_json.specs.declared.fault.JsonFault.{JsonFault}
use Rattle.lw_system.specs.declared.stops.ReadStop.{ReadStop}
use Rattle.lw_serve.specs.ServeRun.{IsServeRun}
use Rattle.lw_serve.specs.bodies.Served.{HasServed}
use Rattle.lw_serve.proofs.PlayedLemmas.{IsOfFile, answered_read, is_played, no_file, untroubled_play}
use Rattle.lw_serve.proofs.ReadLemmas.{bad_not_read, long_not_read, not_failed}
use Rattle.lw_serve.proofs.UnreadLemmas.{HasStopped, bad_file, file_fault, file_fault_told, too_long, too_long_told, unread_calls, unread_kind, unread_untroubled}

-- the end of a call has no model and keeps nothing, and its text went to `err`
pub record IsBareEnd (e d : SinkState) (end : End) : Type 0 where
  pub model : end.model ≡ None
  pub learner : IsWithoutLearner end
  pub kept : end.kept.answers ≡ []
  pub outputs : end.outputs ≡ None
  pub said : ¬ CountedFault e.faults d.faults → TakesAll (said_text None None [] 0 end.outcome) e.taken d.taken
  pub part : TakesSome (said_text None None [] 0 end.outcome) e.taken d.taken

-- a call that read no machine
pub unread_run : (model : List ℕ) (f g : FilesState) (i : SourceState) (o e d : SinkState) (end : End) (s : ReadStop JsonFault) → HasStopped model f g s → g.holds ≡ f.holds → (g.reads ≡ f.reads) ⊎ ((bytes : List ℕ) × WasRead f.holds f.reads g.reads model bytes)
    → StandsOrWants (read_outcome Model s) end.outcome → IsBareEnd e d end → IsServeRun model f g i i o o e d end
unread_run model f g i o e d end s is holds reads stands bare = record {
  no_model = bare.model;
  no_learner = bare.learner;
  nothing_kept = bare.kept;
  no_outputs = bare.outputs;
  untouched = holds;
  ended = inl (record { kind = unread_kind model f g s end.outcome is stands; unasked = refl; unwritten = refl });
  said = bare.said;
  said_part = bare.part;
  bad_file = bad_file model f g s end.outcome is stands;
  bad_file_told = λ _. unread_kind model f g s end.outcome is stands;
  too_long = too_long model f g s end.outcome is stands;
  too_long_told = too_long_told model f g s end.outcome is stands;
  file_fault = file_fault model f g s end.outcome is stands;
  file_fault_told = file_fault_told model f g s end.outcome is stands;
  untroubled = λ told quiet _ _. unread_untroubled model f g s end.outcome is stands told quiet;
  reads = reads;
  calls = unread_calls model f g s end.outcome is stands;
}

-- one read gave the machine's file
pub record HasRead (model : List ℕ) (f g : FilesState) (m : Machine) : Type 0 where
  pub file : ReadsFile IsMachineFile model f.holds f.reads g.reads m
  pub calls : g.calls ≡ noted (read_call model false) f.calls
  pub quiet : g.faults ≡ f.faults
  pub holds : g.holds ≡ f.holds

-- a call that read a machine
pub played_run : (model : List ℕ) (f g : FilesState) (i j : SourceState) (o p e d : SinkState) (end : End) (m : Machine) → HasRead model f g m → HasServed m i j o p end.outcome → IsBareEnd e d end → IsServeRun model f g i j o p e d end
played_run model f g i j o p e d end m read is bare =
    let none : IsOfFile end.outcome → ⊥ = no_file m i j o p end.outcome is in
    record {
      no_model = bare.model;
      no_learner = bare.learner;
      nothing_kept = bare.kept;
      no_outputs = bare.outputs;
      untouched = read.holds;
      ended = inr (record { machine = m; read = read.file; quiet = read.quiet; played = is_played m i j o p end.outcome is });
      said = bare.said;
      said_part = bare.part;
      bad_file = λ role own is_bad. absurd (none (subst IsOfFile (sym is_bad) tt));
      bad_file_told = λ told. absurd (bad_not_read f.holds f.reads g.reads model m told read.file);
      too_long = λ role is_long. absurd (none (subst IsOfFile (sym is_long) tt));
      too_long_told = λ told. absurd (long_not_read f.holds f.reads g.reads model m told read.file);
      file_fault = λ role is_fault. absurd (none (subst IsOfFile (sym is_fault) tt));
      file_fault_told = λ told. absurd (not_failed model f.calls g.calls read.calls told);
      untroubled = λ _ _ input out. untroubled_play m i j o p end.outcome is (λ broke. input (is.source broke).0) (λ broke. out (is.sink broke));
      reads = inr (read.file.bytes, read.file.read);
      calls = inr (subst (λ (c : Call). g.calls ≡ noted c f.calls) (sym (answered_read m i j o p end.outcome is model)) read.calls);
    }
