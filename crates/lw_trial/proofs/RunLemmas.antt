-- Calls of `trial`, by how they end.
use Rattle.std.proofs.Common.{◌≡◌, ◌≢◌, ◌⊎◌, inl, inr, ⊎_elim, ℕ, ◌+◌, ◌<◌, ◌≤◌, List, [], ◌++◌, length, Option, Some, None, IfErr, IfSome, Result, Ok, Err, option_map, refl, sym, ap, ◌∙◌, subst, arith}
use Rattle.std.specs.List.{range_with_len}
use Rattle.std.proofs.lemmas.List.{length-map, take_all}
use Rattle.std.proofs.lemmas.List.FromFn.{length-range_with_len}
use Rattle.lw_words.specs.Word.{Answer, AreAnswers, answers_of}
use Rattle.lw_words.specs.Cause.{CountedFault}
use Rattle.lw_words.specs.declared.kept.KeptAnswer.{KeptAnswer}
use Rattle.lw_mealy.specs.Machine.{Gives, MealyMachine, IsWithinLimits, Rows, IsMachine}
use Rattle.lw_cache.proofs.CrowdLemmas.{crowd_needs_states}
use Rattle.lw_chunks.specs.Size.{suite_size, greatest_suite}
use Rattle.lw_rounds.specs.Plain.{by_suites}
use Rattle.lw_rounds.specs.declared.settings.Testing.{Testing}
use Rattle.lw_rounds.specs.Learned.{IsEnoughFor, IsLearned, IsReadOff, StopsAs}
use Rattle.lw_rounds.specs.Learner.{refinements_of}
use Rattle.lw_rounds.specs.Stops.{IsOwnStop}
use Rattle.lw_rounds.specs.declared.learned.Learned.{Learned}
use Rattle.lw_rounds.specs.declared.learner.Kind.{Kind}
use Rattle.lw_rounds.specs.declared.learner.Learner.{Learner}
use Rattle.lw_rounds.specs.declared.stops.LearnStop.{LearnStop}
use Rattle.lw_rounds.specs.declared.stops.LearnStop.TheVariants as learn
use Rattle.lw_names.specs.Naming.{Naming}
use Rattle.lw_workers.specs.Machines.{IsMachineStop, KeepsRuns, IsReached, IsWithin}
use Rattle.lw_workers.specs.Plain.{RunsAsPlain}
use Rattle.lw_workers.proofs.MachineLemmas.{own_stop}
use Rattle.lw_report.specs.Ends.{IsWithoutLearner}
use Rattle.lw_report.specs.Learnings.{HasModel, HasLargeSuite, learn_outcome}
use Rattle.lw_report.specs.Outcomes.{HasOwnText, StandsOrWants}
use Rattle.lw_outside.specs.Streams.{SinkState}
use Rattle.lw_report.specs.Stops.{tell_outcome}
use Rattle.lw_report.specs.Text.{trial_lines}
use Rattle.lw_report.specs.Writing.{TakesAll, TakesSome, said_text}
use Rattle.lw_report.specs.declared.«end».End.{End}
use Rattle.lw_report.specs.declared.outcome.Outcome.{Outcome}
use Rattle.lw_report.specs.declared.outcome.Outcome.TheVariants.{NoMemory, SinkFault, SuiteTooLarge, TooManyStates, Trial}
use Rattle.lw_report.specs.declared.outcome.Tried.{Tried}
use Rattle.lw_report.specs.declared.role.Role.{Role}
use Rattle.lw_report.specs.declared.stops.TellStop.{TellStop}
use Rattle.lw_report.specs.declared.stops.TellStop.TheVariants as tell
use Rattle.lw_report.proofs.LearningLemmas.{has_model, has_large_suite, own_ask}
use Rattle.lw_trial.specs.Arguments.{TrialValues}
use Rattle.lw_draw.specs.Drawn.{seeded}
use Rattle.lw_trial.specs.Drawn.{drawn_row}
use Rattle.lw_trial.specs.TrialRun.{IsReachedTrial, IsTrial, IsTrialOutcome, IsTrialRun, IsTried, IsTriedPlainly, drawn_machine, drawn_naming}
use Rattle.lw_trial.specs.bodies.Told.{IsToldOf}

-- a drawn machine has as many states as were asked for
pub drawn_states : (v : TrialValues) → length (drawn_machine v).rows ≡ v.states
drawn_states v = length-map (range_with_len 0 v.states) (drawn_row (seeded v.seed) v.states v.inputs) ∙ length-range_with_len 0 v.states

-- a drawn machine is within the limits of a learning
pub drawn_is_within : (v : TrialValues) → IsWithinLimits (drawn_machine v) → suite_size v.states v.inputs 1 ≤ greatest_suite → IsWithin v.inputs 1 1024 (drawn_machine v).rows
drawn_is_within v within small = record {
  machine = within.machine;
  few = within.few;
  small = subst (λ (n : ℕ). suite_size n v.inputs 1 ≤ greatest_suite) (sym (drawn_states v)) small;
}

-- outcomes of calls without a model
abbrev pub IsBare : Outcome → Type 0
IsBare outcome = (outcome ≡ NoMemory) ⊎ ((states : ℕ) × (number : ℕ) × (outcome ≡ SuiteTooLarge states number))

by_bare : (P : Outcome → Type 0) → P NoMemory → ((states number : ℕ) → P (SuiteTooLarge states number)) → (outcome : Outcome) → IsBare outcome → P outcome
by_bare P none suite outcome bare =
    ⊎_elim
    (λ (e : outcome ≡ NoMemory). subst P (sym e) none)
    (λ (r : (states : ℕ) × (number : ℕ) × (outcome ≡ SuiteTooLarge states number)). subst P (sym r.2) (suite r.0 r.1))
    bare

bare_no_sink : (outcome : Outcome) → IsBare outcome → outcome ≡ SinkFault → ⊥
bare_no_sink =
    by_bare (λ outcome. outcome ≡ SinkFault → ⊥) (λ e. let wrong : NoMemory ≡ SinkFault = e in absurd (cc)) (λ s n e. let wrong : SuiteTooLarge s n ≡ SinkFault = e in absurd (cc))

bare_no_trial : (outcome : Outcome) → IsBare outcome → IsTrial outcome → ⊥
bare_no_trial = by_bare (λ outcome. IsTrial outcome → ⊥) (λ t. t) (λ s n t. t)

-- what a stop of a learning comes to
module _ (a b : ℕ) (m : Rows) (ks : List Answer) where
  stop_is_bare : IsMachine a m → length m ≤ 1024 → AreAnswers a ks → Gives m ks → (stop : LearnStop) → IsOwnStop stop → StopsAs a b 1 1024 ks stop → IsBare (learn_outcome stop)
  stop_is_bare machine few are gives (learn.Ask stop) own is = inl (own_ask stop own)
  stop_is_bare machine few are gives (learn.Crowd words) own is =
      let needed : length words ≤ length m = crowd_needs_states a m ks words machine are gives is.crowd in
      let count : length words ≡ 1024 + 1 = is.count in
      absurd (omega arith)
  stop_is_bare machine few are gives (learn.TooLarge model number) own is = inr (length model.rows, number, refl)

stop_reached : (n : ℕ) (stop : LearnStop) → IsReached n (Err stop) → IsReachedTrial n (learn_outcome stop)
stop_reached n (learn.Ask stop) is = subst (IsReachedTrial n) (sym (own_ask stop is)) tt
stop_reached n (learn.Crowd words) is = absurd is
stop_reached n (learn.TooLarge model number) is = absurd is

stop_suite : (a b : ℕ) (ks : List Answer) (stop : LearnStop) (states number : ℕ) → IsOwnStop stop → AreAnswers a ks → StopsAs a b 1 1024 ks stop → learn_outcome stop ≡ SuiteTooLarge states number → HasLargeSuite a b 1 1024 ks states number
stop_suite a b ks (learn.Ask stop) states number own are is e = let wrong : NoMemory ≡ SuiteTooLarge states number = sym (own_ask stop own) ∙ e in absurd (cc)
stop_suite a b ks (learn.Crowd words) states number own are is e = let wrong : TooManyStates words ≡ SuiteTooLarge states number = e in absurd (cc)
stop_suite a b ks (learn.TooLarge model size) states number own are is e =
    let both : SuiteTooLarge (length model.rows) size ≡ SuiteTooLarge states number = e in
    let one : length model.rows ≡ states = cc in
    let other : size ≡ number = cc in
    subst (λ (n : ℕ). HasLargeSuite a b 1 1024 ks n number) one (subst (λ (n : ℕ). HasLargeSuite a b 1 1024 ks (length model.rows) n) other (has_large_suite a b 1 1024 ks model size are is))

-- the same of an outcome that stands, or that memory ran out for
still_bare : (outcome now : Outcome) → StandsOrWants outcome now → IsBare outcome → IsBare now
still_bare outcome now stands bare = ⊎_elim (λ (e : now ≡ outcome). subst IsBare (sym e) bare) (λ (w : HasOwnText outcome × (now ≡ NoMemory)). inl w.1) stands

still_reached : (n : ℕ) (outcome now : Outcome) → StandsOrWants outcome now → IsReachedTrial n outcome → IsReachedTrial n now
still_reached n outcome now stands is =
    ⊎_elim
    (λ (e : now ≡ outcome). subst (IsReachedTrial n) (sym e) is)
    (λ (w : HasOwnText outcome × (now ≡ NoMemory)). subst (IsReachedTrial n) (sym w.1) tt)
    stands

still_suite : (a b : ℕ) (ks : List Answer) (outcome now : Outcome) → StandsOrWants outcome now → ((states number : ℕ) → outcome ≡ SuiteTooLarge states number → HasLargeSuite a b 1 1024 ks states number) → (states number : ℕ) → now ≡ SuiteTooLarge states number
    → HasLargeSuite a b 1 1024 ks states number
still_suite a b ks outcome now stands suite states number is =
    ⊎_elim
    (λ (e : now ≡ outcome). suite states number (sym e ∙ is))
    (λ (w : HasOwnText outcome × (now ≡ NoMemory)). let wrong : NoMemory ≡ SuiteTooLarge states number = sym w.1 ∙ is in absurd (cc))
    stands

-- a call without a model, of which `out` took nothing
pub record IsRefusal (v : TrialValues) (e d : SinkState) (outcome : Outcome) (kept : List KeptAnswer) : Type 0 where
  pub bare : IsBare outcome
  pub runs : KeepsRuns (drawn_machine v) v.workers [] kept
  pub reached : suite_size v.states v.inputs 1 ≤ greatest_suite → IsReachedTrial v.states outcome
  pub said : ¬ CountedFault e.faults d.faults → TakesAll (said_text None None kept 1 outcome) e.taken d.taken
  pub part : TakesSome (said_text None None kept 1 outcome) e.taken d.taken
  pub suite : (states number : ℕ) → outcome ≡ SuiteTooLarge states number → HasLargeSuite v.inputs 2 1 1024 (answers_of kept) states number

refused_run : (v : TrialValues) (o e d : SinkState) (end : End) → end.model ≡ None → IsWithoutLearner end → end.outputs ≡ Some drawn_naming → IsRefusal v e d end.outcome end.kept.answers → IsTrialRun v o o e d end
refused_run v o e d end none learner outputs is =
    let no_trial : IsTrial end.outcome → ⊥ = bare_no_trial end.outcome is.bare in
    record {
      model = subst (λ (m : Option MealyMachine). IfSome m (HasModel v.learner (by_suites v.suite) v.inputs 2 1 1024 end)) (sym none) tt;
      read_off = subst (λ (m : Option MealyMachine). IfSome m (λ h. (l : Learner) × (end.learner ≡ Some l) × IsReadOff v.learner v.inputs 2 1024 (answers_of end.kept.answers) h.rows l)) (sym none) tt;
      without = λ _. learner;
      told = λ t e. absurd (no_trial (subst IsTrial (sym e) tt));
      quiet = λ t. absurd (no_trial t);
      kept = is.runs;
      plainly = subst (λ (m : Option MealyMachine). IfSome m (λ h. IsTriedPlainly v h.rows end.refinements end.kept.answers)) (sym none) tt;
      outputs = subst (λ (n : Option Naming). IfSome n (λ named. named ≡ drawn_naming)) (sym outputs) refl;
      unnamed = λ none_named. let wrong : ◌≡◌ {A = Option Naming} (Some drawn_naming) None = sym outputs ∙ none_named in absurd (cc);
      reached = λ small _ _. is.reached small;
      written = λ t. absurd (no_trial t);
      part = λ moved. absurd (moved refl);
      unwritten = λ _ _. refl;
      said = λ _ quiet. is.said quiet;
      said_part = λ _. is.part;
      kinds = by_bare IsTrialOutcome tt (λ s n. tt) end.outcome is.bare;
      sink_fault = λ e. absurd (bare_no_sink end.outcome is.bare e);
      suite = is.suite;
    }

-- without prior answers each kept answer is the machine's
all_given : (t : MealyMachine) (workers : ℕ) (kept : List KeptAnswer) → KeepsRuns t workers [] kept → Gives t.rows (answers_of kept)
all_given t workers kept runs = subst (λ (ks : List KeptAnswer). Gives t.rows (answers_of ks)) (sym runs.first) runs.gives

-- what came of the learning of a machine, and the answers of its instances
pub record HasCome (t : MealyMachine) (workers : ℕ) (kept : List KeptAnswer) (r : Result Learned LearnStop) : Type 0 where
  pub within : IsWithinLimits t
  pub runs : KeepsRuns t workers [] kept
  pub stops : IfErr r (StopsAs t.inputs t.outputs 1 1024 (answers_of kept))
  pub caused : IfErr r (IsMachineStop kept)
  pub reached : (m : Rows) → IsWithin t.inputs 1 1024 m → Gives m (answers_of kept) → IsReached (length m) r

pub of_drawn : (v : TrialValues) (t : MealyMachine) (workers : ℕ) (kept : List KeptAnswer) (r : Result Learned LearnStop) → t ≡ drawn_machine v → workers ≡ v.workers → HasCome t workers kept r → HasCome (drawn_machine v) v.workers kept r
of_drawn v t workers kept r machine number is = subst (λ (n : ℕ). HasCome (drawn_machine v) n kept r) number (subst (λ (u : MealyMachine). HasCome u workers kept r) machine is)

-- the learning of a drawn machine whose suite is not too large reaches its end
learning_reached : (v : TrialValues) (kept : List KeptAnswer) (r : Result Learned LearnStop) → HasCome (drawn_machine v) v.workers kept r → suite_size v.states v.inputs 1 ≤ greatest_suite → IsReached v.states r
learning_reached v kept r is small =
    subst (λ (n : ℕ). IsReached n r) (drawn_states v) (is.reached (drawn_machine v).rows (drawn_is_within v is.within small) (all_given (drawn_machine v) v.workers kept is.runs))

pub few_refinements : (v : TrialValues) (kept : List KeptAnswer) (l : Learned) → HasCome (drawn_machine v) v.workers kept (Ok l) → suite_size v.states v.inputs 1 ≤ greatest_suite → refinements_of l.learner < v.states
few_refinements v kept l is small = learning_reached v kept (Ok l) is small

-- what a learning came to by any machine that gives its answers, it came to by the drawn one
pub plain_tried : (v : TrialValues) (kept : List KeptAnswer) (l : Learned) → HasCome (drawn_machine v) v.workers kept (Ok l) → RunsAsPlain v.learner (by_suites v.suite) v.inputs 1 1024 [] (Ok l) [] kept → IsTriedPlainly v l.model.rows (refinements_of l.learner) kept
plain_tried v kept l is runs is_table by_w = runs is_table (ap by_suites by_w) refl (drawn_machine v).rows is.within.machine (all_given (drawn_machine v) v.workers kept is.runs)

-- the same under what the arguments say
pub plain_drawn : (v : TrialValues) (of_kind : Kind) (testing : Testing) (a : ℕ) (given : List (List ℕ)) (r : Result Learned LearnStop) (prior kept : List KeptAnswer) → of_kind ≡ v.learner → testing ≡ by_suites v.suite → a ≡ v.inputs → given ≡ [] → prior ≡ []
    → RunsAsPlain of_kind testing a 1 1024 given r prior kept → RunsAsPlain v.learner (by_suites v.suite) v.inputs 1 1024 [] r [] kept
plain_drawn v of_kind testing a given r prior kept same method letters none before runs =
    subst (λ (x : Kind). RunsAsPlain x (by_suites v.suite) v.inputs 1 1024 [] r [] kept) same
    (subst (λ (x : Testing). RunsAsPlain of_kind x v.inputs 1 1024 [] r [] kept) method
    (subst (λ (n : ℕ). RunsAsPlain of_kind testing n 1 1024 [] r [] kept) letters
    (subst (λ (ws : List (List ℕ)). RunsAsPlain of_kind testing a 1 1024 ws r [] kept) none
    (subst (λ (ks : List KeptAnswer). RunsAsPlain of_kind testing a 1 1024 given r ks kept) before runs))))

-- a call whose learning stopped
pub stopped_run : (v : TrialValues) (o e d : SinkState) (end : End) (stop : LearnStop) (kept : List KeptAnswer) → HasCome (drawn_machine v) v.workers kept (Err stop) → end.kept.answers ≡ kept → end.model ≡ None → IsWithoutLearner end
    → end.outputs ≡ Some drawn_naming → StandsOrWants (learn_outcome stop) end.outcome → (¬ CountedFault e.faults d.faults → TakesAll (said_text None None kept 1 end.outcome) e.taken d.taken) → TakesSome (said_text None None kept 1 end.outcome) e.taken d.taken → IsTrialRun v o o e d end
stopped_run v o e d end stop kept come same none learner outputs stands said part =
    let m : Rows = (drawn_machine v).rows in
    let gives : Gives m (answers_of kept) = all_given (drawn_machine v) v.workers kept come.runs in
    let own : IsOwnStop stop = own_stop m kept gives stop come.caused in
    let is : IsRefusal v e d end.outcome kept = record {
      bare = still_bare (learn_outcome stop) end.outcome stands (stop_is_bare v.inputs 2 m (answers_of kept) come.within.machine come.within.few come.runs.words gives stop own come.stops);
      runs = come.runs;
      reached = λ small. still_reached v.states (learn_outcome stop) end.outcome stands (stop_reached v.states stop (learning_reached v kept (Err stop) come small));
      said = said;
      part = part;
      suite = still_suite v.inputs 2 (answers_of kept) (learn_outcome stop) end.outcome stands (λ s n. stop_suite v.inputs 2 (answers_of kept) stop s n own come.runs.words come.stops);
    } in
    refused_run v o e d end none learner outputs (subst (IsRefusal v e d end.outcome) (sym same) is)

-- what was learned, of the end of a call
pub record IsCarried (v : TrialValues) (end : End) (h : MealyMachine) (learner : Learner) (kept : List KeptAnswer) : Type 0 where
  pub model : end.model ≡ Some h
  pub carried : end.learner ≡ Some learner
  pub counted : end.refinements ≡ refinements_of learner
  pub keeps : end.kept.answers ≡ kept
  pub outputs : end.outputs ≡ Some drawn_naming
  pub runs : KeepsRuns (drawn_machine v) v.workers [] kept
  pub learned : IsLearned v.learner v.inputs 2 1 1024 (answers_of kept) h learner
  pub enough : IsEnoughFor (by_suites v.suite) v.inputs 1 (answers_of kept) h
  pub plainly : IsTriedPlainly v h.rows (refinements_of learner) kept
  pub reached : suite_size v.states v.inputs 1 ≤ greatest_suite → refinements_of learner < v.states

module _ (v : TrialValues) (end : End) (h : MealyMachine) (learner : Learner) (kept : List KeptAnswer) (is : IsCarried v end h learner kept) where
  keeps_runs : KeepsRuns (drawn_machine v) v.workers [] end.kept.answers
  keeps_runs = subst (KeepsRuns (drawn_machine v) v.workers []) (sym is.keeps) is.runs

  carries : IfSome end.model (HasModel v.learner (by_suites v.suite) v.inputs 2 1 1024 end)
  carries =
      let enough : IsEnoughFor (by_suites v.suite) v.inputs 1 (answers_of end.kept.answers) h = subst (λ (ks : List KeptAnswer). IsEnoughFor (by_suites v.suite) v.inputs 1 (answers_of ks) h) (sym is.keeps) is.enough in
      let learned : IsLearned v.learner v.inputs 2 1 1024 (answers_of end.kept.answers) h learner = subst (λ (ks : List KeptAnswer). IsLearned v.learner v.inputs 2 1 1024 (answers_of ks) h learner) (sym is.keeps) is.learned in
      subst (λ (m : Option MealyMachine). IfSome m (HasModel v.learner (by_suites v.suite) v.inputs 2 1 1024 end)) (sym is.model) (has_model v.learner (by_suites v.suite) v.inputs 2 1 1024 end h learner keeps_runs.words learned enough is.carried is.counted)

  reads_off : IfSome end.model (λ h. (l : Learner) × (end.learner ≡ Some l) × IsReadOff v.learner v.inputs 2 1024 (answers_of end.kept.answers) h.rows l)
  reads_off = subst (λ (m : Option MealyMachine). IfSome m (λ h. (l : Learner) × (end.learner ≡ Some l) × IsReadOff v.learner v.inputs 2 1024 (answers_of end.kept.answers) h.rows l)) (sym is.model) (learner, is.carried, subst (λ (ks : List KeptAnswer). IsReadOff v.learner v.inputs 2 1024 (answers_of ks) h.rows learner) (sym is.keeps) is.learned.carried)

  tried_plainly : IfSome end.model (λ h. IsTriedPlainly v h.rows end.refinements end.kept.answers)
  tried_plainly =
      subst (λ (m : Option MealyMachine). IfSome m (λ h. IsTriedPlainly v h.rows end.refinements end.kept.answers)) (sym is.model)
      (subst (λ (n : ℕ). IsTriedPlainly v h.rows n end.kept.answers) (sym is.counted) (subst (λ (ks : List KeptAnswer). IsTriedPlainly v h.rows (refinements_of learner) ks) (sym is.keeps) is.plainly))

  outputs_are : IfSome end.outputs (λ named. named ≡ drawn_naming)
  outputs_are = subst (λ (n : Option Naming). IfSome n (λ named. named ≡ drawn_naming)) (sym is.outputs) refl

  named : end.outputs ≡ None → ⊥
  named none = let wrong : Some drawn_naming ≡ None = sym is.outputs ∙ none in cc

  modelled : end.model ≡ None → ⊥
  modelled none = let wrong : Some h ≡ None = sym is.model ∙ none in cc

  is_tried : (t : Tried) → IsToldOf v (drawn_machine v) h (refinements_of learner) (length kept) t → IsTried v end t
  is_tried t told = record {
    states = told.states;
    inputs = told.inputs;
    seed = told.seed;
    model = h;
    has = is.model;
    learned = told.learned;
    refinements = told.refined ∙ sym is.counted;
    answers = told.counted ∙ ap length (sym is.keeps);
    equal = told.equal;
  }

all_is_some : (text : List ℕ) (before now : Option (List ℕ)) → TakesAll text before now → TakesSome text before now
all_is_some text before now is = (length text, is ∙ ap (λ (bytes : List ℕ). option_map (λ t. t ++ bytes) before) (sym (take_all (length text) text (omega arith))))

-- a call that told of a trial
pub tried_run : (v : TrialValues) (o p e : SinkState) (end : End) (h : MealyMachine) (learner : Learner) (kept : List KeptAnswer) (t : Tried) → IsCarried v end h learner kept → end.outcome ≡ Trial t → IsToldOf v (drawn_machine v) h (refinements_of learner) (length kept) t
    → TakesAll (trial_lines t) o.taken p.taken → p.faults ≡ o.faults → IsTrialRun v o p e e end
tried_run v o p e end h learner kept t is out told takes quiet =
    let tried : IsTried v end t = is_tried v end h learner kept is t told in
    let is_trial : IsTrial end.outcome = subst IsTrial (sym out) tt in
    record {
      model = carries v end h learner kept is;
      read_off = reads_off v end h learner kept is;
      without = λ none. absurd (modelled v end h learner kept is none);
      told = λ u e. let both : Trial t ≡ Trial u = sym out ∙ e in let same : t ≡ u = cc in subst (IsTried v end) same tried;
      quiet = λ _. (quiet, refl);
      kept = keeps_runs v end h learner kept is;
      plainly = tried_plainly v end h learner kept is;
      outputs = outputs_are v end h learner kept is;
      unnamed = λ none. absurd (named v end h learner kept is none);
      reached = λ small _ _. let few : t.refinements < v.states = omega (arith, told.refined, is.reached small) in subst (IsReachedTrial v.states) (sym out) few;
      written = λ _. (subst (λ (outcome : Outcome). TakesAll (said_text None None end.kept.answers 1 outcome) o.taken p.taken) (sym out) takes, refl);
      part = λ _. (t, tried, all_is_some (trial_lines t) o.taken p.taken takes);
      unwritten = λ no _. absurd (no is_trial);
      said = λ no. absurd (no is_trial);
      said_part = λ no. absurd (no is_trial);
      kinds = subst IsTrialOutcome (sym out) tt;
      sink_fault = λ e. let wrong : Trial t ≡ SinkFault = sym out ∙ e in absurd (cc);
      suite = λ s n e. let wrong : Trial t ≡ SuiteTooLarge s n = sym out ∙ e in absurd (cc);
    }

-- why a trial was not told: a fault of `out`, or memory
abbrev pub IsCause : (o p : SinkState) → Outcome → Type 0
IsCause o p outcome = ((outcome ≡ SinkFault) × CountedFault o.faults p.faults) ⊎ ((outcome ≡ NoMemory) × (p.taken ≡ o.taken))

pub tell_cause : (o p : SinkState) (stop : TellStop) → ((role : Role) → ¬ (stop ≡ tell.File role)) → (stop ≡ tell.Sink → CountedFault o.faults p.faults) → (stop ≡ tell.NoMemory → p.taken ≡ o.taken) → (now : Outcome) → StandsOrWants (tell_outcome stop) now
    → IsCause o p now
tell_cause o p (tell.File role) no_file failed memory now stands = absurd (no_file role refl)
tell_cause o p tell.Sink no_file failed memory now stands = ⊎_elim (λ (e : now ≡ SinkFault). inl (e, failed refl)) (λ (w : HasOwnText SinkFault × (now ≡ NoMemory)). absurd w.0) stands
tell_cause o p tell.NoMemory no_file failed memory now stands = ⊎_elim (λ (e : now ≡ NoMemory). inr (e, memory refl)) (λ (w : HasOwnText NoMemory × (now ≡ NoMemory)). absurd w.0) stands

by_cause : (o p : SinkState) (P : Outcome → Type 0) → (CountedFault o.faults p.faults → P SinkFault) → (p.taken ≡ o.taken → P NoMemory) → (outcome : Outcome) → IsCause o p outcome → P outcome
by_cause o p P sink none outcome cause =
    ⊎_elim
    (λ (r : (outcome ≡ SinkFault) × CountedFault o.faults p.faults). subst P (sym r.0) (sink r.1))
    (λ (r : (outcome ≡ NoMemory) × (p.taken ≡ o.taken)). subst P (sym r.0) (none r.1))
    cause

-- a call that learned a model and didn't tell of it
pub record IsUntold (v : TrialValues) (o p e d : SinkState) (h : MealyMachine) (learner : Learner) (outcome : Outcome) (kept : List KeptAnswer) : Type 0 where
  pub cause : IsCause o p outcome
  pub some : p.taken ≢ o.taken → (t : Tried) × IsToldOf v (drawn_machine v) h (refinements_of learner) (length kept) t × TakesSome (trial_lines t) o.taken p.taken
  pub said : ¬ CountedFault e.faults d.faults → TakesAll (said_text None None kept 1 outcome) e.taken d.taken
  pub part : TakesSome (said_text None None kept 1 outcome) e.taken d.taken

pub untold_run : (v : TrialValues) (o p e d : SinkState) (end : End) (h : MealyMachine) (learner : Learner) (kept : List KeptAnswer) (outcome : Outcome) → IsCarried v end h learner kept → end.outcome ≡ outcome → IsUntold v o p e d h learner outcome kept
    → IsTrialRun v o p e d end
untold_run v o p e d end h learner kept outcome is out untold =
    let cause : IsCause o p end.outcome = subst (IsCause o p) (sym out) untold.cause in
    let no_trial : IsTrial end.outcome → ⊥ = by_cause o p (λ x. IsTrial x → ⊥) (λ _ t. t) (λ _ t. t) end.outcome cause in
    let said = subst (λ (x : Outcome). ¬ CountedFault e.faults d.faults → TakesAll (said_text None None end.kept.answers 1 x) e.taken d.taken) (sym out)
    (subst (λ (ks : List KeptAnswer). ¬ CountedFault e.faults d.faults → TakesAll (said_text None None ks 1 outcome) e.taken d.taken) (sym is.keeps) untold.said) in
    let part = subst (λ (x : Outcome). TakesSome (said_text None None end.kept.answers 1 x) e.taken d.taken) (sym out)
    (subst (λ (ks : List KeptAnswer). TakesSome (said_text None None ks 1 outcome) e.taken d.taken) (sym is.keeps) untold.part) in
    record {
      model = carries v end h learner kept is;
      read_off = reads_off v end h learner kept is;
      without = λ none. absurd (modelled v end h learner kept is none);
      told = λ t e. absurd (no_trial (subst IsTrial (sym e) tt));
      quiet = λ t. absurd (no_trial t);
      kept = keeps_runs v end h learner kept is;
      plainly = tried_plainly v end h learner kept is;
      outputs = outputs_are v end h learner kept is;
      unnamed = λ none. absurd (named v end h learner kept is none);
      reached = λ _ quiet _. by_cause o p (IsReachedTrial v.states) (λ counted. absurd (quiet counted)) (λ _. tt) end.outcome cause;
      written = λ t. absurd (no_trial t);
      part = λ moved. let some = untold.some moved in (some.0, is_tried v end h learner kept is some.0 some.1, some.2);
      unwritten = λ _ no. by_cause o p (λ x. x ≢ SinkFault → p.taken ≡ o.taken) (λ _ other. absurd (other refl)) (λ same _. same) end.outcome cause no;
      said = λ _ quiet. said quiet;
      said_part = λ _. part;
      kinds = by_cause o p IsTrialOutcome (λ _. tt) (λ _. tt) end.outcome cause;
      sink_fault = λ e. (by_cause o p (λ x. x ≡ SinkFault → CountedFault o.faults p.faults) (λ counted _. counted) (λ _ w. let wrong : NoMemory ≡ SinkFault = w in absurd (cc)) end.outcome cause e, (h, is.model));
      suite = λ s n. by_cause o p (λ x. x ≡ SuiteTooLarge s n → HasLargeSuite v.inputs 2 1 1024 (answers_of end.kept.answers) s n)
          (λ _ w. let wrong : SinkFault ≡ SuiteTooLarge s n = w in absurd (cc)) (λ _ w. let wrong : NoMemory ≡ SuiteTooLarge s n = w in absurd (cc)) end.outcome cause;
    }
