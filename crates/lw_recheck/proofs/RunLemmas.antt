-- What a call of `recheck` did, from what its parts did.
use Rattle.std.proofs.Common.{◌≡◌, ⊎_elim, [], Result, Ok, Err, ◌⊎◌, inl, inr, subst}
use Rattle.lw_outside.specs.declared.links.StartFailure.{StartFailure}
use Rattle.lw_outside.specs.Links.{SpawnerState}
use Rattle.lw_outside.specs.Files.{FilesState}
use Rattle.lw_outside.specs.Streams.{SinkState}
use Rattle.lw_report.specs.declared.«end».End.{End}
use Rattle.lw_report.specs.declared.outcome.Outcome.{Outcome}
use Rattle.lw_report.specs.declared.outcome.Outcome.TheVariants.{Alphabets, BadFile, FileFault, FileTooLong, NoMemory, Unstarted}
use Rattle.lw_report.specs.Stops.{read_outcome, role_of}
use Rattle.lw_report.specs.declared.role.Role.{Role}
use Rattle.lw_report.specs.declared.role.Role.TheVariants as role
use Rattle.lw_json.specs.declared.fault.JsonFault.{JsonFault}
use Rattle.lw_system.specs.declared.stops.ReadStop.{ReadStop}
use Rattle.lw_system.specs.declared.stops.ReadStop.TheVariants as stop
use Rattle.lw_recheck.specs.Arguments.{RecheckValues}
use Rattle.lw_recheck.specs.Ending.{IsBare, IsTold}
use Rattle.lw_recheck.specs.Reading.{HasNoAnswers, HasOtherNames, HasReadBoth, ReadsNoSystem}
use Rattle.lw_recheck.specs.RecheckRun.{AsksTask, IsRecheckRun}
use Rattle.lw_recheck.specs.declared.reading.Task.{Task}
use Rattle.std.proofs.Common.{None}

-- a file that wasn't read doesn't come to a start that failed
not_unstarted : (role : Role) (why : ReadStop JsonFault) (cause : StartFailure) → ¬ (Unstarted cause ≡ read_outcome role why)
not_unstarted role stop.Failed cause is = let wrong : Unstarted cause ≡ FileFault role = is in absurd (cc)
not_unstarted role stop.TooLong cause is = let wrong : Unstarted cause ≡ FileTooLong role = is in absurd (cc)
not_unstarted role (stop.Bad fault) cause is = let wrong : Unstarted cause ≡ BadFile role fault = is in absurd (cc)
not_unstarted role stop.NoMemory cause is = let wrong : Unstarted cause ≡ NoMemory = is in absurd (cc)

module _ (a : RecheckValues) (f g : FilesState) (b z : SpawnerState) (o p e d : SinkState) (end : End) (r : Result Task Outcome) (has : HasReadBoth a.setup a.answers f g r) where
  -- both files were read
  pub asked_run : (t : Task) → r ≡ Ok t → AsksTask t.system t.answers b z o p e d end → IsRecheckRun a f g b z o p e d end
  asked_run t is asks = by (subst (λ (x : Result Task Outcome). HasReadBoth a.setup a.answers f g x) is has)
    where
      by : HasReadBoth a.setup a.answers f g (Ok t) → IsRecheckRun a f g b z o p e d end
      by read = record {
        came = inl (record { system = t.system; answers = t.answers; reads = read.ok; made = read.made; quiet = read.quiet; asks = asks });
        holds = has.same;
      }

  -- one was not
  pub unread_run : (why : Outcome) → r ≡ Err why → z ≡ b → IsBare [] end → IsTold None None why [] o p e d end → IsRecheckRun a f g b z o p e d end
  unread_run why is unstarted bare told = by (subst (λ (x : Result Task Outcome). HasReadBoth a.setup a.answers f g x) is has)
    where
      by : HasReadBoth a.setup a.answers f g (Err why) → IsRecheckRun a f g b z o p e d end
      by read = record {
        came = inr (record { why = why; cause = read.err; unstarted = unstarted; bare = bare; told = told });
        holds = has.same;
      }

  -- and that is not that a start failed
  pub never_unstarted : (why : Outcome) (cause : StartFailure) → r ≡ Err why → why ≡ Unstarted cause → ⊥
  never_unstarted why cause is came = by (subst (λ (w : Outcome). HasReadBoth a.setup a.answers f g (Err w)) came (subst (λ (x : Result Task Outcome). HasReadBoth a.setup a.answers f g x) is has))
    where
      by : HasReadBoth a.setup a.answers f g (Err (Unstarted cause)) → ⊥
      by read =
          ⊎_elim (λ (no : ReadsNoSystem a.setup f g (Unstarted cause)). not_unstarted (role_of no.stop.file) no.stop.stop cause no.comes_to)
          (λ (later : HasNoAnswers a.setup a.answers f g (Unstarted cause) ⊎ HasOtherNames a.setup a.answers f g (Unstarted cause)).
          ⊎_elim (λ (no : HasNoAnswers a.setup a.answers f g (Unstarted cause)). not_unstarted role.Prior no.refused.stop cause no.refused.comes_to)
          (λ (no : HasOtherNames a.setup a.answers f g (Unstarted cause)). let wrong : Unstarted cause ≡ Alphabets role.Prior = no.alphabets in absurd (cc)) later) read.err
