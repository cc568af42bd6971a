-- Calls of `check`, and those for whose arguments there was no memory.
use Rattle.std.proofs.Common.{◌≡◌, ◌∙◌, ◌⊎◌, ⊎_elim, ℕ, List, [], inl, inr, refl, sym, subst}
use Rattle.lw_outside.specs.Files.{FilesState}
use Rattle.lw_outside.specs.Streams.{SinkState}
use Rattle.lw_report.specs.Text.{text_of}
use Rattle.lw_report.specs.Writing.{TakesAll, TakesSome}
use Rattle.lw_report.specs.declared.«end».End.{End}
use Rattle.lw_report.specs.declared.outcome.Outcome.{Outcome}
use Rattle.lw_report.specs.declared.outcome.Outcome.TheVariants.{NoMemory, SinkFault, Usage, Yes}
use Rattle.lw_chunks.specs.declared.method.Method.{Method}
use Rattle.lw_system.specs.declared.goal.Goal.{Goal}
use Rattle.lw_check.specs.CheckRun.{IsCheckRun}
use Rattle.lw_check.specs.Decision.{IsDecision}
use Rattle.lw_check.specs.Ending.{EndsPairRead, EndsUnread}
use Rattle.lw_check.specs.Reading.{IsUnread}
use Rattle.lw_top.specs.Run.{TellsOutcome}

-- the end of a call that touched nothing, which is out of memory, is one that `check` may come to
pub wanted_check : (k : Goal) (method : Method) (model answers : List ℕ) (extra : ℕ) (f : FilesState) (o e d : SinkState) (end : End) → end.outcome ≡ NoMemory → TellsOutcome e d end → IsCheckRun k method model answers extra f f o o e d end
wanted_check k method model answers extra f o e d end out r =
    let said : (oc : Outcome) → oc ≡ NoMemory → TakesAll (text_of [] [] [] 0 oc) e.taken d.taken → TakesAll (text_of [] [] [] extra oc) e.taken d.taken = λ oc is t.
    subst (λ (x : Outcome). TakesAll (text_of [] [] [] extra x) e.taken d.taken) (sym is) (subst (λ (x : Outcome). TakesAll (text_of [] [] [] 0 x) e.taken d.taken) is t) in
    let part : (oc : Outcome) → oc ≡ NoMemory → TakesSome (text_of [] [] [] 0 oc) e.taken d.taken → TakesSome (text_of [] [] [] extra oc) e.taken d.taken = λ oc is t.
    subst (λ (x : Outcome). TakesSome (text_of [] [] [] extra x) e.taken d.taken) (sym is) (subst (λ (x : Outcome). TakesSome (text_of [] [] [] 0 x) e.taken d.taken) is t) in
    record {
      no_model = r.model;
      no_learner = r.learner;
      untouched = refl;
      ended = inl (record {
        cause = subst (IsUnread k model answers f f) (sym out) (inl refl);
        kept_none = r.kept;
        unnamed = r.outputs;
        unwritten = refl;
        said = λ quiet. said end.outcome out (r.said quiet);
        said_part = part end.outcome out r.part;
      });
      exact = λ m a decision tm ta is. inr (inl out);
      sure = λ states is. let wrong : NoMemory ≡ Yes states = sym out ∙ is in absurd (cc);
    }

-- `check` never comes to the usage
pub no_usage : (k : Goal) (method : Method) (model answers : List ℕ) (extra : ℕ) (f g : FilesState) (o p e d : SinkState) (end : End) → EndsUnread k model answers f g extra o p e d end.outcome end.kept.answers end.outputs ⊎ EndsPairRead k method model answers f g extra o p e d end.outcome end.kept.answers end.outputs → end.outcome ≡ Usage → ⊥
no_usage k method model answers extra f g o p e d end ended is =
    ⊎_elim
    (λ (u : EndsUnread k model answers f g extra o p e d end.outcome end.kept.answers end.outputs). subst (IsUnread k model answers f g) is u.cause)
    (λ (r : EndsPairRead k method model answers f g extra o p e d end.outcome end.kept.answers end.outputs). ⊎_elim
    (λ decided. subst (IsDecision method r.pair extra) is decided)
    (λ s. ⊎_elim (λ none. let wrong : NoMemory ≡ Usage = sym none ∙ is in absurd (cc)) (λ t. let wrong : SinkFault ≡ Usage = sym t.0 ∙ is in absurd (cc)) s)
    r.comes)
    ended
