-- Calls of `ask` for whose arguments there was no memory.
use Rattle.std.proofs.Common.{◌≡◌, List, ℕ, [], inl, inr, refl}
use Rattle.lw_outside.specs.Links.{SpawnerState}
use Rattle.lw_outside.specs.Files.{FilesState}
use Rattle.lw_outside.specs.Streams.{SinkState}
use Rattle.lw_report.specs.declared.«end».End.{End}
use Rattle.lw_report.specs.declared.outcome.Outcome.TheVariants.{NoMemory}
use Rattle.lw_report.specs.Stops.{no_system_outcome}
use Rattle.lw_system.specs.AcceptorFinding.{HasAcceptorHint, IsNoAcceptorSystem}
use Rattle.lw_system.specs.Finding.{IsNoSystemWith}
use Rattle.lw_system.specs.Goals.{IsNoSystemFor}
use Rattle.lw_system.specs.declared.goal.Goal.{Goal}
use Rattle.lw_system.specs.declared.goal.Goal.TheVariants as aim
use Rattle.lw_system.specs.declared.stops.AcceptorStop.{AcceptorStop}
use Rattle.lw_system.specs.declared.stops.AcceptorStop.TheVariants as asked
use Rattle.lw_system.specs.declared.stops.NoSystem.{NoSystem}
use Rattle.lw_system.specs.declared.stops.NoSystem.TheVariants as no
use Rattle.lw_system.specs.declared.source.Source.{Source}
use Rattle.lw_system.specs.declared.source.Source.TheVariants.{Setup, Table}
use Rattle.lw_system.specs.declared.stops.ReadStop.TheVariants as stop
use Rattle.lw_system.proofs.ReadsLemmas.{made_none, some_made}
use Rattle.lw_ask.specs.Arguments.{AskValues}
use Rattle.lw_ask.specs.AskRun.{IsAskRun}
use Rattle.lw_ask.proofs.HintLemmas.{no_hint}
use Rattle.lw_top.specs.Run.{TellsOutcome}

-- memory ran out before anything was read of a machine's file, or of one that says what is asked for an acceptor
nothing_read : (kind : Source) (name : List ℕ) (f : FilesState) → IsNoSystemWith kind name f f [] (record { file = kind; stop = stop.NoMemory })
nothing_read Setup name f = inl (record { file = refl; unread = some_made f f (made_none f) }, refl)
nothing_read Table name f = (record { file = refl; unread = some_made f f (made_none f) }, refl)

abbrev unasked : Source → AcceptorStop
unasked Setup = asked.Setup stop.NoMemory
unasked Table = asked.Table stop.NoMemory

abbrev none_for : Goal → Source → NoSystem
none_for aim.Machine kind = no.Machine (record { file = kind; stop = stop.NoMemory })
none_for aim.Acceptor kind = no.Acceptor (unasked kind)

nothing_asked : (kind : Source) (name : List ℕ) (f : FilesState) → IsNoAcceptorSystem kind name f f (unasked kind) × HasAcceptorHint kind name f.reads f.reads [] (unasked kind)
nothing_asked Setup name f = (some_made f f (made_none f), refl)
nothing_asked Table name f = (some_made f f (made_none f), refl)

nothing_for : (k : Goal) (kind : Source) (name : List ℕ) (f : FilesState) → IsNoSystemFor k kind name f f [] (none_for k kind)
nothing_for aim.Machine kind name f = nothing_read kind name f
nothing_for aim.Acceptor kind name f = nothing_asked kind name f

memory_for : (k : Goal) (kind : Source) → NoMemory ≡ no_system_outcome (none_for k kind)
memory_for aim.Machine kind = refl
memory_for aim.Acceptor Setup = refl
memory_for aim.Acceptor Table = refl

-- the end of a call that touched nothing, which is out of memory, is one that `ask` may come to
pub wanted_ask : (a : AskValues) (f : FilesState) (b : SpawnerState) (o e d : SinkState) (end : End) → end.outcome ≡ NoMemory → TellsOutcome e d end → IsAskRun a f f b b o o e d end
wanted_ask a f b o e d end out r = record {
  why = NoMemory;
  kept = [];
  hint = [];
  err_hinted = e;
  came = inr (record { stop = none_for a.goal a.source; outcome = memory_for a.goal a.source; cause = nothing_for a.goal a.source a.system f; nothing = refl; unstarted = refl; unput = refl });
  hinted = no_hint e;
  ended = record {
    outcome = inl out;
    model = r.model;
    learner = r.learner;
    kept_is = r.kept;
    outputs = r.outputs;
    said = r.said;
    part = r.part;
  };
  holds = refl;
}
