-- Calls of `compare`, by whether both models were read.
use Rattle.std.proofs.Common.{◌≡◌, ◌≢◌, ◌⊎◌, ⊎_elim, inl, inr, ℕ, List, [], None, refl, ap, ap₂, sym, ◌∙◌, subst}
use Rattle.lw_words.specs.Cause.{CountedFault}
use Rattle.lw_json.specs.Formats.{IsMachineFile, SameMachine}
use Rattle.lw_json.specs.declared.files.Machine.{Machine}
use Rattle.lw_json.proofs.OneValue.{one_value}
use Rattle.lw_report.specs.Ends.{IsWithoutLearner}
use Rattle.lw_report.specs.Outcomes.{StandsOrWants}
use Rattle.lw_outside.specs.Files.{FilesState}
use Rattle.lw_outside.specs.Streams.{SinkState}
use Rattle.lw_report.specs.Writing.{TakesAll, TakesSome}
use Rattle.lw_report.specs.declared.«end».End.{End}
use Rattle.lw_report.specs.declared.comparison.Comparison.{Comparison}
use Rattle.lw_report.specs.declared.comparison.Comparison.TheVariants.{Equal, Differ, OtherInputs}
use Rattle.lw_report.specs.declared.outcome.Outcome.{Outcome}
use Rattle.lw_report.specs.declared.outcome.Outcome.TheVariants.{Compared, NoMemory, SinkFault}
use Rattle.lw_compare.specs.CompareRun.{ComesTo, EndsModelsRead, EndsUnread, IsCompareRun, text}
use Rattle.lw_words.specs.Word.{IsWord, named}
use Rattle.lw_mealy.specs.Machine.{MealyMachine, answer}
use Rattle.lw_report.specs.declared.comparison.Difference.{Difference}
use Rattle.lw_compare.specs.Comparing.{ModelsAgreeOn, IsLeastDifference, lacking, reply, second_reply, translated}
use Rattle.lw_compare.specs.Decision.{IsComparison}
use Rattle.lw_compare.specs.Outcomes.{ComesAs, IsAnswered, ComparesNothing, IsUntroubled, IsComparisonVerdict}
use Rattle.lw_compare.specs.Reading.{ReadsModels, TellsModel, TellsNoModel}
use Rattle.lw_compare.specs.bodies.Telling.{HasCompared, IsTold}
use Rattle.lw_compare.specs.bodies.Unread.{IsStopped}
use Rattle.lw_compare.proofs.ReadLemmas.{no_model_read, told_file, unread_cause, unread_exact, unread_refused, unread_untroubled}
use Rattle.lw_compare.proofs.UniqueLemmas.{one_comparison}

-- the end of a call has no model, keeps nothing and names no outputs
pub record IsBareEnd (end : End) : Type 0 where
  pub model : end.model ≡ None
  pub learner : IsWithoutLearner end
  pub kept : end.kept.answers ≡ []
  pub outputs : end.outputs ≡ None

-- a call that read no two models
pub unread_run : (one two : List ℕ) (f g : FilesState) (o e d : SinkState) (end : End) (was : Outcome) → IsStopped one two f g was → StandsOrWants was end.outcome → g.holds ≡ f.holds → IsBareEnd end
    → (¬ CountedFault e.faults d.faults → TakesAll (text end.outcome) e.taken d.taken) → TakesSome (text end.outcome) e.taken d.taken → IsCompareRun one two f g o o e d end
unread_run one two f g o e d end was is stands same bare said part = record {
  no_model = bare.model;
  no_learner = bare.learner;
  nothing_kept = bare.kept;
  no_outputs = bare.outputs;
  untouched = same;
  ended = inl (record { cause = unread_cause one two f g was end.outcome is stands; unwritten = refl; said = said; said_part = part });
  exact = λ first second c told_one told_two _. unread_exact one two f g was end.outcome is stands first second c told_one told_two;
  refused = λ _. unread_refused one two f g was end.outcome is stands;
  untroubled = λ first second told_one told_two quiet _. unread_untroubled one two f g was end.outcome is stands first second told_one told_two quiet;
}

abbrev made : (word first second : List (List ℕ)) → Difference
made word first second = record { word = word; first = first; second = second }

-- machines of one value compare alike
module _ (m n k l : Machine) (one : SameMachine m k) (two : SameMachine n l) where
  reply_same : (w : List ℕ) → reply m w ≡ reply k w
  reply_same w = ap₂ (λ (names : List (List ℕ)) (t : MealyMachine). named names (answer t.rows w)) one.outputs one.mealy

  second_same : (w : List ℕ) → second_reply m n w ≡ second_reply k l w
  second_same w =
      ap₂ (λ (names : List (List ℕ)) (t : MealyMachine). named names (answer t.rows (translated m.inputs n.inputs w))) two.outputs two.mealy
      ∙ ap₂ (λ (i j : List (List ℕ)). reply l (translated i j w)) one.inputs two.inputs

  agree_to : (w : List ℕ) → ModelsAgreeOn m n w → ModelsAgreeOn k l w
  agree_to w on = sym (reply_same w) ∙ (on ∙ second_same w)

  agree_back : (w : List ℕ) → ModelsAgreeOn k l w → ModelsAgreeOn m n w
  agree_back w on = reply_same w ∙ (on ∙ sym (second_same w))

  word_back : (w : List ℕ) → IsWord k.mealy.inputs w → IsWord m.mealy.inputs w
  word_back w is = subst (λ (t : MealyMachine). IsWord t.inputs w) (sym one.mealy) is

  least_to : (w : List ℕ) → IsLeastDifference m n w → IsLeastDifference k l w
  least_to w is = record {
    word = subst (λ (t : MealyMachine). IsWord t.inputs w) one.mealy is.word;
    differs = λ on. is.differs (agree_back w on);
    least = λ v lv before. agree_to v (is.least v (word_back v lv) before);
  }

  lack_same : lacking m.inputs n.inputs ≡ lacking k.inputs l.inputs
  lack_same = ap₂ lacking one.inputs two.inputs

  lack_back : lacking n.inputs m.inputs ≡ lacking l.inputs k.inputs
  lack_back = ap₂ lacking two.inputs one.inputs

  difference_same : (w : List ℕ) → made (named m.inputs w) (reply m w) (second_reply m n w) ≡ made (named k.inputs w) (reply k w) (second_reply k l w)
  difference_same w =
      ap (λ (u : List (List ℕ)). made u (reply m w) (second_reply m n w)) (ap (λ (names : List (List ℕ)). named names w) one.inputs)
      ∙ ap₂ (made (named k.inputs w)) (reply_same w) (second_same w)

  same_machine : (c : Comparison) → IsComparison m n c → IsComparison k l c
  same_machine Equal is = ((sym lack_same ∙ is.0.0, sym lack_back ∙ is.0.1), λ w lw. agree_to w (is.1 w (word_back w lw)))
  same_machine (Differ d) is = ((sym lack_same ∙ is.0.0, sym lack_back ∙ is.0.1), (is.1.0, least_to is.1.0 is.1.1, is.1.2 ∙ difference_same is.1.0))
  same_machine (OtherInputs a b) is = (λ same. is.0 (lack_same ∙ same.0, lack_back ∙ same.1), is.1 ∙ lack_same, is.2 ∙ lack_back)

-- a call that read two models
pub read_run : (one two : List ℕ) (f g : FilesState) (o p e d : SinkState) (end : End) (ends : EndsModelsRead one two f g o p e d end.outcome) → g.holds ≡ f.holds → IsBareEnd end → IsCompareRun one two f g o p e d end
read_run one two f g o p e d end ends same bare = record {
  no_model = bare.model;
  no_learner = bare.learner;
  nothing_kept = bare.kept;
  no_outputs = bare.outputs;
  untouched = same;
  ended = inr ends;
  exact = λ first second c told_one told_two is.
      let fm = told_file one f.holds first ends.read.first_file.bytes told_one ends.read.first_file.read.held in
      let fn = told_file two f.holds second ends.read.second_file.bytes told_two ends.read.second_file.read.held in
      let there = same_machine first second ends.first ends.second (one_value ends.read.first_file.bytes first ends.first fm ends.read.first_file.file) (one_value ends.read.second_file.bytes second ends.second fn ends.read.second_file.file) c is in
      ⊎_elim
      (λ (t : (b : Comparison) × IsComparison ends.first ends.second b × (end.outcome ≡ Compared b)). inl (t.2 ∙ ap (λ (x : Comparison). Compared x) (one_comparison ends.first ends.second t.0 c t.1 there)))
      (λ (t : (end.outcome ≡ NoMemory) ⊎ ((end.outcome ≡ SinkFault) × CountedFault o.faults p.faults × ((b : Comparison) × IsComparisonVerdict b × IsComparison ends.first ends.second b × TakesSome (text (Compared b)) o.taken p.taken))).
      inr (⊎_elim (λ (n : end.outcome ≡ NoMemory). inl n) (λ (b : (end.outcome ≡ SinkFault) × CountedFault o.faults p.faults × ((b : Comparison) × IsComparisonVerdict b × IsComparison ends.first ends.second b × TakesSome (text (Compared b)) o.taken p.taken)). inr (inl b.0)) t))
      ends.comes;
  refused = λ told. absurd (⊎_elim
      (λ (none : TellsNoModel f.holds one). no_model_read one f.holds ends.first ends.read.first_file.bytes none ends.read.first_file.read.held ends.read.first_file.read.short ends.read.first_file.file)
      (λ (none : TellsNoModel f.holds two). no_model_read two f.holds ends.second ends.read.second_file.bytes none ends.read.second_file.read.held ends.read.second_file.read.short ends.read.second_file.file)
      told);
  untroubled = λ _ _ _ _ _ quiet.
      ⊎_elim
      (λ (t : (b : Comparison) × IsComparison ends.first ends.second b × (end.outcome ≡ Compared b)). subst IsUntroubled (sym t.2) tt)
      (λ (t : (end.outcome ≡ NoMemory) ⊎ ((end.outcome ≡ SinkFault) × CountedFault o.faults p.faults × ((b : Comparison) × IsComparisonVerdict b × IsComparison ends.first ends.second b × TakesSome (text (Compared b)) o.taken p.taken))).
      ⊎_elim (λ (n : end.outcome ≡ NoMemory). subst IsUntroubled (sym n) tt) (λ (b : (end.outcome ≡ SinkFault) × CountedFault o.faults p.faults × ((b : Comparison) × IsComparisonVerdict b × IsComparison ends.first ends.second b × TakesSome (text (Compared b)) o.taken p.taken)). absurd (quiet b.1)) t)
      ends.comes;
}

-- what a told comparison comes to
pub comes_to : (m n : Machine) (o p : SinkState) (was outcome : Outcome) → HasCompared m n was → IsTold was outcome → (outcome ≡ SinkFault → ¬ (was ≡ SinkFault) → CountedFault o.faults p.faults) → TakesSome (text was) o.taken p.taken → ComesTo m n o p outcome
comes_to m n o p was outcome has told refused part =
    ⊎_elim
    (λ (t : (c : Comparison) × IsComparison m n c × (was ≡ Compared c)).
    ⊎_elim
    (λ (e : outcome ≡ was). inl (t.0, t.1, e ∙ t.2))
    (λ (r : (outcome ≡ NoMemory) ⊎ (IsAnswered was × (outcome ≡ SinkFault))). inr (⊎_elim
    (λ (none : outcome ≡ NoMemory). inl none)
    (λ (b : IsAnswered was × (outcome ≡ SinkFault)). inr (
      b.1,
      refused b.1 (λ e. let wrong : SinkFault ≡ Compared t.0 = sym e ∙ t.2 in absurd (cc)),
      (t.0, subst IsAnswered t.2 b.0, t.1, subst (λ (x : Outcome). TakesSome (text x) o.taken p.taken) t.2 part),
    ))
    r))
    told)
    (λ (none : was ≡ NoMemory).
    ⊎_elim
    (λ (e : outcome ≡ was). inr (inl (e ∙ none)))
    (λ (r : (outcome ≡ NoMemory) ⊎ (IsAnswered was × (outcome ≡ SinkFault))). ⊎_elim
    (λ (e : outcome ≡ NoMemory). inr (inl e))
    (λ (b : IsAnswered was × (outcome ≡ SinkFault)). absurd (subst IsAnswered none b.0)) r)
    told)
    has
