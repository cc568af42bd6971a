-- What ends of `help` are: what they tell, and that of a call for whose arguments there was no memory.
use Rattle.std.proofs.Common.{◌≡◌, ◌⊎◌, ⊎_elim, ◌∙◌, List, ℕ, [], Option, Some, None, append-nil, ap, inl, inr, refl, sym, subst}
use Rattle.lw_words.specs.Cause.{CountedFault}
use Rattle.lw_words.specs.declared.stop.SulStop.{SulStop}
use Rattle.lw_words.specs.declared.stop.SulStop.TheVariants as sul
use Rattle.lw_outside.specs.Streams.{SinkState}
use Rattle.lw_report.specs.Ends.{IsWithoutLearner}
use Rattle.lw_report.specs.Learnings.{system_outcome}
use Rattle.lw_report.specs.Outcomes.{StandsOrWants}
use Rattle.lw_report.specs.Stops.{tell_outcome}
use Rattle.lw_report.specs.Writing.{TakesAll, TakesSome, said_text}
use Rattle.lw_report.specs.declared.role.Role.{Role}
use Rattle.lw_report.specs.declared.stops.TellStop.{TellStop}
use Rattle.lw_report.specs.declared.stops.TellStop.TheVariants as tell
use Rattle.lw_report.specs.declared.«end».End.{End}
use Rattle.lw_report.specs.declared.outcome.Outcome.{Outcome}
use Rattle.lw_report.specs.declared.outcome.Outcome.TheVariants.{Helped, NoMemory, SinkFault}
use Rattle.lw_top.specs.HelpRun.{IsHelped, IsHelpRun, IsRefusedHelp, LacksMemory}
use Rattle.lw_top.specs.Run.{TellsOutcome}

-- the end of a call that touched nothing, which is out of memory, is one that `help` may come to
pub wanted_help : (text : List ℕ) (o e d : SinkState) (end : End) → end.outcome ≡ NoMemory → TellsOutcome e d end → IsHelpRun text o o e d end
wanted_help text o e d end out r = record {
  no_model = r.model;
  no_learner = r.learner;
  nothing_kept = r.kept;
  no_outputs = r.outputs;
  comes = inr (inr (record { outcome_is = out; unwritten = refl }));
  said = r.said;
  part = r.part;
}

takes_nothing : (x : Option (List ℕ)) → TakesAll [] x x
takes_nothing None = refl
takes_nothing (Some t) = ap (λ (u : List ℕ). Some u) (sym (append-nil t))

module _ (text : List ℕ) (o p e d : SinkState) (end : End) where
  -- where the text was put
  pub helped : end.outcome ≡ Helped → end.model ≡ None → IsWithoutLearner end → end.kept.answers ≡ [] → end.outputs ≡ None → TakesAll text o.taken p.taken → p.faults ≡ o.faults → IsHelpRun text o p e e end
  helped is model learner kept outputs put quiet = record {
    no_model = model;
    no_learner = learner;
    nothing_kept = kept;
    no_outputs = outputs;
    comes = inl (record { outcome_is = is; put = put; quiet = quiet; silent = refl });
    said = λ _. subst (λ (x : Outcome). TakesAll (said_text None None [] 0 x) e.taken e.taken) (sym is) (takes_nothing e.taken);
    part = subst (λ (x : Outcome). TakesSome (said_text None None [] 0 x) e.taken e.taken) (sym is) (0, takes_nothing e.taken);
  }

  ends_so : TellsOutcome e d end → IsHelped text o p e d end.outcome ⊎ (IsRefusedHelp text o p end.outcome ⊎ LacksMemory o p end.outcome) → IsHelpRun text o p e d end
  ends_so r comes = record { no_model = r.model; no_learner = r.learner; nothing_kept = r.kept; no_outputs = r.outputs; comes = comes; said = r.said; part = r.part }

  -- where it was not, by the cause
  pub unhelped : (stop : TellStop) → StandsOrWants (tell_outcome stop) end.outcome → TellsOutcome e d end → ((role : Role) → stop ≡ tell.File role → ⊥) → (stop ≡ tell.NoMemory → p ≡ o) → (stop ≡ tell.Sink → CountedFault o.faults p.faults) → TakesSome text o.taken p.taken → IsHelpRun text o p e d end
  unhelped (tell.File role) is r no_file memory failed part = absurd (no_file role refl)
  unhelped tell.Sink is r no_file memory failed part =
      let came : end.outcome ≡ SinkFault = ⊎_elim (λ (same : end.outcome ≡ SinkFault). same) (λ wants. absurd wants.0) is in
      ends_so r (inr (inl (record { outcome_is = came; fault = failed refl; part = part })))
  unhelped tell.NoMemory is r no_file memory failed part =
      let came : end.outcome ≡ NoMemory = ⊎_elim (λ (same : end.outcome ≡ NoMemory). same) (λ wants. absurd wants.0) is in
      ends_so r (inr (inr (record { outcome_is = came; unwritten = memory refl })))

abbrev pub IsHelpOutcome : Outcome → Type 0
IsHelpOutcome Helped = Unit {0}
IsHelpOutcome NoMemory = Unit {0}
IsHelpOutcome SinkFault = Unit {0}
IsHelpOutcome _ = ⊥

module _ (text : List ℕ) (o p e d : SinkState) (end : End) (ran : IsHelpRun text o p e d end) where
  helps : IsHelpOutcome end.outcome
  helps =
      ⊎_elim
      (λ (h : IsHelped text o p e d end.outcome). subst IsHelpOutcome (sym h.outcome_is) tt)
      (⊎_elim (λ (h : IsRefusedHelp text o p end.outcome). subst IsHelpOutcome (sym h.outcome_is) tt) (λ (h : LacksMemory o p end.outcome). subst IsHelpOutcome (sym h.outcome_is) tt))
      ran.comes

  -- it comes to no other outcome
  pub helps_never : (x : Outcome) → end.outcome ≡ x → ¬ IsHelpOutcome x → ⊥
  helps_never x is none = none (subst IsHelpOutcome is helps)

  pub helps_stop : (i : ℕ) (s : SulStop) → ¬ (end.outcome ≡ system_outcome i s)
  helps_stop i sul.Failed is = helps_never _ is (λ k. k)
  helps_stop i (sul.BadLine line) is = helps_never _ is (λ k. k)
  helps_stop i sul.Gone is = helps_never _ is (λ k. k)

  -- a fault of a stream is one of `out`
  pub helps_fault : end.outcome ≡ SinkFault → CountedFault o.faults p.faults
  helps_fault is =
      ⊎_elim
      (λ (h : IsHelped text o p e d end.outcome). let wrong : Helped ≡ SinkFault = sym h.outcome_is ∙ is in absurd (cc))
      (⊎_elim (λ (h : IsRefusedHelp text o p end.outcome). h.fault) (λ (h : LacksMemory o p end.outcome). let wrong : NoMemory ≡ SinkFault = sym h.outcome_is ∙ is in absurd (cc)))
      ran.comes
