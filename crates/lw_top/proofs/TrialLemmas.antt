-- Calls of `trial` for whose arguments there was no memory.
use Rattle.std.proofs.Common.{◌≡◌, ◌∙◌, ℕ, ◌<◌, List, [], Option, None, Some, IfSome, refl, sym, subst, arith}
use Rattle.std.proofs.lemmas.List.Elements.{All-nil}
use Rattle.lw_words.specs.Word.{IsAnswer, answers_of, IsWord}
use Rattle.lw_words.specs.declared.kept.KeptAnswer.{KeptAnswer}
use Rattle.lw_mealy.specs.Machine.{MealyMachine}
use Rattle.lw_names.specs.Naming.{Naming}
use Rattle.lw_workers.specs.Machines.{KeepsRuns}
use Rattle.lw_rounds.specs.Learned.{IsReadOff}
use Rattle.lw_rounds.specs.Plain.{by_suites}
use Rattle.lw_rounds.specs.declared.learner.Learner.{Learner}
use Rattle.lw_report.specs.Learnings.{HasModel}
use Rattle.lw_outside.specs.Files.{FilesState}
use Rattle.lw_outside.specs.Streams.{SinkState}
use Rattle.lw_report.specs.Writing.{TakesAll, TakesSome, said_text}
use Rattle.lw_report.specs.declared.«end».End.{End}
use Rattle.lw_report.specs.declared.outcome.Outcome.{Outcome}
use Rattle.lw_report.specs.declared.outcome.Outcome.TheVariants.{NoMemory, SinkFault, SuiteTooLarge, Trial}
use Rattle.lw_trial.specs.Arguments.{TrialValues}
use Rattle.lw_trial.specs.TrialRun.{IsReachedTrial, IsTrial, IsTrialOutcome, IsTrialRun, IsTriedPlainly, drawn_machine, drawn_naming}
use Rattle.lw_top.specs.Run.{TellsOutcome}

-- no answers are runs of any machine
keeps_nothing : (t : MealyMachine) (n : ℕ) → KeepsRuns t n [] []
keeps_nothing t n = record {
  since = [];
  first = refl;
  instances_are = All-nil (λ k. k.instance < n);
  numbered = λ i lt. refl;
  words = All-nil (IsAnswer t.inputs);
  outputs = All-nil (λ k. IsWord t.outputs k.outs);
  gives = All-nil _;
  once = λ i d from to known. omega (arith, to);
}

-- the end of a call that touched nothing, which is out of memory, is one that `trial` may come to
pub wanted_trial : (v : TrialValues) (f : FilesState) (o e d : SinkState) (end : End) → end.outcome ≡ NoMemory → TellsOutcome e d end → IsTrialRun v o o e d end
wanted_trial v f o e d end out r =
    let said : (oc : Outcome) → oc ≡ NoMemory → TakesAll (said_text None None [] 0 oc) e.taken d.taken → TakesAll (said_text None None end.kept.answers 1 oc) e.taken d.taken = λ oc is t.
    subst (λ (x : Outcome). TakesAll (said_text None None end.kept.answers 1 x) e.taken d.taken) (sym is) (subst (λ (x : Outcome). TakesAll (said_text None None [] 0 x) e.taken d.taken) is t) in
    let part : (oc : Outcome) → oc ≡ NoMemory → TakesSome (said_text None None [] 0 oc) e.taken d.taken → TakesSome (said_text None None end.kept.answers 1 oc) e.taken d.taken = λ oc is t.
    subst (λ (x : Outcome). TakesSome (said_text None None end.kept.answers 1 x) e.taken d.taken) (sym is) (subst (λ (x : Outcome). TakesSome (said_text None None [] 0 x) e.taken d.taken) is t) in
    record {
      model = subst (λ (m : Option MealyMachine). IfSome m (HasModel v.learner (by_suites v.suite) v.inputs 2 1 1024 end)) (sym r.model) tt;
      read_off = subst (λ (m : Option MealyMachine). IfSome m (λ h. (l : Learner) × (end.learner ≡ Some l) × IsReadOff v.learner v.inputs 2 1024 (answers_of end.kept.answers) h.rows l)) (sym r.model) tt;
      without = λ _. r.learner;
      told = λ t is. let wrong : NoMemory ≡ Trial t = sym out ∙ is in absurd (cc);
      quiet = λ is. absurd (subst IsTrial out is);
      kept = subst (λ (k : List KeptAnswer). KeepsRuns (drawn_machine v) v.workers [] k) (sym r.kept) (keeps_nothing (drawn_machine v) v.workers);
      plainly = subst (λ (m : Option MealyMachine). IfSome m (λ h. IsTriedPlainly v h.rows end.refinements end.kept.answers)) (sym r.model) tt;
      reached = λ small one other. subst (IsReachedTrial v.states) (sym out) tt;
      written = λ is. absurd (subst IsTrial out is);
      part = λ other. absurd (other refl);
      unwritten = λ _ _. refl;
      said = λ _ quiet. said end.outcome out (r.said quiet);
      said_part = λ _. part end.outcome out r.part;
      outputs = subst (λ (n : Option Naming). IfSome n (λ named. named ≡ drawn_naming)) (sym r.outputs) tt;
      unnamed = λ _. (out, r.kept);
      kinds = subst IsTrialOutcome (sym out) tt;
      sink_fault = λ is. let wrong : NoMemory ≡ SinkFault = sym out ∙ is in absurd (cc);
      suite = λ states number is. let wrong : NoMemory ≡ SuiteTooLarge states number = sym out ∙ is in absurd (cc);
    }
