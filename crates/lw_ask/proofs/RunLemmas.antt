-- What a call of `ask` did, from what its parts did.
use Rattle.std.proofs.Common.{◌≡◌, ℕ, List, [], Result, Ok, Err, inl, inr, subst}
use Rattle.lw_words.specs.declared.kept.KeptAnswer.{KeptAnswer}
use Rattle.lw_outside.specs.Links.{SpawnerState}
use Rattle.lw_outside.specs.Files.{FilesState}
use Rattle.lw_outside.specs.Streams.{SinkState}
use Rattle.lw_system.specs.Goals.{HasFoundFor}
use Rattle.lw_system.specs.declared.stops.NoSystem.{NoSystem}
use Rattle.lw_report.specs.Stops.{no_system_outcome}
use Rattle.lw_report.specs.declared.«end».End.{End}
use Rattle.lw_report.specs.declared.outcome.Outcome.{Outcome}
use Rattle.lw_system.specs.declared.system.System.{System}
use Rattle.lw_ask.specs.Arguments.{AskValues}
use Rattle.lw_ask.specs.AskRun.{AsksTexts, IsAskRun, IsEnd}
use Rattle.lw_ask.specs.Hints.{TakesHint}

module _ (a : AskValues) (f g : FilesState) (b z : SpawnerState) (o p e m d : SinkState) (end : End) (r : Result System NoSystem) (hint : List ℕ) (has : HasFoundFor a.goal a.source a.system f g r hint) (hinted : TakesHint hint e m) where
  -- a system was read
  pub asked_run : (s : System) → r ≡ Ok s → (kept : List KeptAnswer) (why : Outcome) → AsksTexts s a.words b z o p kept why → IsEnd why kept m d end → IsAskRun a f g b z o p e d end
  asked_run s is kept why asks ended = by (subst (λ (x : Result System NoSystem). HasFoundFor a.goal a.source a.system f g x hint) is has)
    where
      by : HasFoundFor a.goal a.source a.system f g (Ok s) hint → IsAskRun a f g b z o p e d end
      by found = record {
        why = why;
        kept = kept;
        hint = hint;
        err_hinted = m;
        came = inl (record { system = s; reads = found.ok; made = found.made; quiet = found.quiet; told = found.told; asks = asks });
        hinted = hinted;
        ended = ended;
        holds = has.same;
      }

  -- none was
  pub unread_run : (stop : NoSystem) → r ≡ Err stop → (why : Outcome) → why ≡ no_system_outcome stop → (kept : List KeptAnswer) → kept ≡ [] → z ≡ b → p ≡ o → IsEnd why kept m d end → IsAskRun a f g b z o p e d end
  unread_run stop is why outcome kept none unstarted unput ended = by (subst (λ (x : Result System NoSystem). HasFoundFor a.goal a.source a.system f g x hint) is has)
    where
      by : HasFoundFor a.goal a.source a.system f g (Err stop) hint → IsAskRun a f g b z o p e d end
      by found = record {
        why = why;
        kept = kept;
        hint = hint;
        err_hinted = m;
        came = inr (record { stop = stop; outcome = outcome; cause = found.err; nothing = none; unstarted = unstarted; unput = unput });
        hinted = hinted;
        ended = ended;
        holds = has.same;
      }
