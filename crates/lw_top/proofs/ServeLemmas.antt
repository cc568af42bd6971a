-- Calls of `serve`, and those for whose arguments there was no memory.
use Rattle.std.proofs.Common.{◌≡◌, ◌⊎◌, ⊎_elim, ℕ, List, inl, refl, subst}
use Rattle.lw_outside.specs.Files.{FilesState}
use Rattle.lw_outside.specs.Streams.{SinkState, SourceState}
use Rattle.lw_report.specs.declared.«end».End.{End}
use Rattle.lw_report.specs.declared.outcome.Outcome.{Outcome}
use Rattle.lw_report.specs.declared.outcome.Outcome.TheVariants.{NoMemory, Usage}
use Rattle.lw_system.specs.declared.stops.ReadStop.TheVariants as stop
use Rattle.lw_serve.specs.Outcomes.{IsUnread}
use Rattle.lw_serve.specs.Playing.{PlaysTo}
use Rattle.lw_serve.specs.ServeRun.{EndsPlayed, EndsUnread, IsServeRun}
use Rattle.lw_serve.proofs.RunLemmas.{unread_run}
use Rattle.lw_serve.proofs.UnreadLemmas.{HasStopped}
use Rattle.lw_top.specs.Run.{TellsOutcome}

no_memory_stops : (model : List ℕ) (f : FilesState) → HasStopped model f f stop.NoMemory
no_memory_stops model f = record {
  bad = λ fault is. let wrong : stop.NoMemory ≡ stop.Bad fault = is in absurd (cc);
  long = λ is. let wrong : stop.NoMemory ≡ stop.TooLong = is in absurd (cc);
  failed = λ is. let wrong : stop.NoMemory ≡ stop.Failed = is in absurd (cc);
  memory = λ _. inl refl;
}

-- the end of a call that touched nothing, which is out of memory, is one that `serve` may come to
pub wanted_serve : (model : List ℕ) (f : FilesState) (i : SourceState) (o e d : SinkState) (end : End) → end.outcome ≡ NoMemory → TellsOutcome e d end → IsServeRun model f f i i o o e d end
wanted_serve model f i o e d end out r =
    unread_run model f f i o e d end stop.NoMemory (no_memory_stops model f) refl (inl refl) (inl out)
    (record { model = r.model; learner = r.learner; kept = r.kept; outputs = r.outputs; said = r.said; part = r.part })

-- `serve` never comes to the usage
pub serve_no_usage : (model : List ℕ) (f g : FilesState) (i j : SourceState) (o p : SinkState) (outcome : Outcome) → EndsUnread i j o p outcome ⊎ EndsPlayed model f g i j o p outcome → outcome ≡ Usage → ⊥
serve_no_usage model f g i j o p outcome ended is =
    ⊎_elim
    (λ (u : EndsUnread i j o p outcome). subst IsUnread is u.kind)
    (λ (r : EndsPlayed model f g i j o p outcome). subst (λ x. PlaysTo r.machine i.left x o.taken p.taken) is r.played.plays)
    ended
