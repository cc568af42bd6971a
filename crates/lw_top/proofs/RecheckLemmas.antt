-- Calls of `recheck` for whose arguments there was no memory.
use Rattle.std.proofs.Common.{◌≡◌, inl, inr, refl}
use Rattle.lw_outside.specs.Links.{SpawnerState}
use Rattle.lw_outside.specs.Files.{FilesState}
use Rattle.lw_outside.specs.Streams.{SinkState}
use Rattle.lw_report.specs.declared.«end».End.{End}
use Rattle.lw_report.specs.declared.outcome.Outcome.TheVariants.{NoMemory}
use Rattle.lw_system.specs.declared.source.Source.TheVariants.{Setup}
use Rattle.lw_system.specs.declared.stops.ReadStop.TheVariants as stop
use Rattle.lw_system.proofs.ReadsLemmas.{made_none, some_made}
use Rattle.lw_recheck.specs.Arguments.{RecheckValues}
use Rattle.lw_recheck.specs.RecheckRun.{IsRecheckRun}
use Rattle.lw_top.specs.Run.{TellsOutcome}

-- the end of a call that touched nothing, which is out of memory, is one that `recheck` may come to
pub wanted_recheck : (a : RecheckValues) (f : FilesState) (b : SpawnerState) (o e d : SinkState) (end : End) → end.outcome ≡ NoMemory → TellsOutcome e d end → IsRecheckRun a f f b b o o e d end
wanted_recheck a f b o e d end out r = record {
  came = inr (record {
    why = NoMemory;
    cause = inl (record {
      stop = record { file = Setup; stop = stop.NoMemory };
      comes_to = refl;
      unread = inl (record { file = refl; unread = some_made f f (made_none f) });
    });
    unstarted = refl;
    bare = record { model = r.model; learner = r.learner; kept_is = r.kept; outputs = r.outputs };
    told = record { outcome = inl out; unput = refl; said = record { said = r.said; part = r.part } };
  });
  holds = refl;
}
