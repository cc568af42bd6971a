-- What a test comes to, by its suite.
use Rattle.std.proofs.Common.{◌≡◌, ℕ, ◌<◌, ◌≤◌, List, ◌++◌, length, Option, Some, None, Result, Ok, Err, IfOk, refl, ap, sym, ◌∙◌, subst, subst₂}
use Rattle.std.specs.List.{All}
use Rattle.lw_words.specs.Word.{Answer, AreAnswers, answers_of, IsWord}
use Rattle.lw_words.specs.declared.kept.KeptAnswer.{KeptAnswer}
use Rattle.lw_mealy.specs.Machine.{Gives, MealyMachine, IsWithinLimits, Rows, IsMachine, IsMinimal}
use Rattle.lw_separate.specs.Canonical.{IsCanonical}
use Rattle.lw_chunks.specs.Size.{suite_size, greatest_suite}
use Rattle.lw_chunks.specs.declared.method.Method.{Method}
use Rattle.lw_chunks.specs.declared.size.SuiteFault.{SuiteFault}
use Rattle.lw_chunks.specs.declared.size.SuiteFault.TheVariants as fault
use Rattle.lw_cache.specs.Settling.{OracleState, Keeps, Leaves}
use Rattle.lw_cache.proofs.SettlingLemmas.{kept_are_answers, leaves_short}
use Rattle.lw_certify.specs.Verdict.{IsSuiteBy, IsVerdict}
use Rattle.lw_certify.specs.declared.verdict.Verdict.TheVariants as verdict
use Rattle.lw_certify.proofs.EnoughLemmas.{suite_is_enough, suites_are_of_words}
use Rattle.lw_draw.specs.Walks.{AreWalks}
use Rattle.lw_draw.specs.declared.drawing.Drawn.{Drawn}
use Rattle.lw_rounds.specs.Learned.{AreWalked, IsCertified, IsEnoughFor, IsTooLarge}
use Rattle.lw_rounds.specs.Stops.{learn_stop}
use Rattle.lw_rounds.specs.bodies.Conformance.{Comes, ComesWalked, HasPassed, Passes}
use Rattle.lw_rounds.specs.bodies.Rounds.{HasCrowd, IsSureOf, StopsTest, of_fault}
use Rattle.lw_rounds.specs.declared.settings.Testing.{Testing}
use Rattle.lw_rounds.proofs.ConformanceLemmas.{known_more}
use Rattle.lw_rounds.proofs.CanonicalLemmas.{equal_gives, of_itself, no_more_states, as_many}

-- the words of a model's suite are words over the hypothesis's letters
pub suite_words : (method : Method) (a b : ℕ) (c : Rows) (k : ℕ) (suite : List (List ℕ)) → b ≡ a → IsSuiteBy method b c k suite → All (IsWord a) suite
suite_words method a b c k suite same is = subst (λ (n : ℕ). All (IsWord n) suite) same (suites_are_of_words method b c k suite is)

-- what an oracle keeps, as a cache has it, are answers to words over the letters of a machine
pub kept_words : (o : OracleState) (a : ℕ) (kept : List KeptAnswer) → a ≡ o.inputs → kept ≡ o.kept → Keeps o → All (λ k. IsWord a k.word) (answers_of kept)
kept_words o a kept inputs is keeps =
    subst (λ (l : List KeptAnswer). All (λ k. IsWord a k.word) (answers_of l)) (sym is) (λ i d lt. (kept_are_answers o a inputs keeps i d lt).0)

-- where all words of the suite are known, and the hypothesis gives the answers, the verdict is sure
pub passes_sure : (method : Method) (a b : ℕ) (h c : Rows) (ks : List Answer) (k : ℕ) (suite : List (List ℕ)) → b ≡ a → IsCanonical a h c → AreAnswers a ks → IsSuiteBy method b c k suite → suite_size (length c) b k ≤ greatest_suite → Passes h ks suite
    → IsVerdict method b c ks k verdict.Sure
passes_sure method a b h c ks k suite same is are whole size passes =
    let machine : IsMachine b c = subst (λ (n : ℕ). IsMachine n c) (sym same) is.machine in
    let minimal : IsMinimal b c = subst (λ (n : ℕ). IsMinimal n c) (sym same) is.minimal in
    let gives : Gives c ks = equal_gives a c h ks is.equal are passes.gives in
    (minimal, gives, size, suite_is_enough method b c ks k suite machine minimal gives whole passes.known)

-- a hypothesis that passed the suite of its model before, and its walks now: the answers are enough for the model
pub enough_walked : (testing : Testing) (a : ℕ) (h : Rows) (model : MealyMachine) (k : ℕ) (before gained now : List KeptAnswer) → now ≡ before ++ gained → model.inputs ≡ a → IsCanonical a h model.rows → AreAnswers a (answers_of now)
    → HasPassed h testing.suite model k (answers_of before) → suite_size (length model.rows) model.inputs k ≤ greatest_suite → Gives h (answers_of now) × AreWalked testing.walks model.inputs (answers_of now) model.rows
    → IsEnoughFor testing model.inputs k (answers_of now) model
enough_walked testing a h model k before gained now grown same is are passed size walked =
    record {
      verdict = passes_sure testing.suite a model.inputs h model.rows (answers_of now) k passed.suite same is are passed.made size
          (record { gives = walked.0; known = known_more before gained now passed.suite grown passed.passes.known });
      walked = walked.1;
    }

-- what the walks of a model come to, by what is found in them
pub comes_walked : {E : Type 0} (h : Rows) (a : ℕ) (model : Rows) (drawn : Drawn) (ks : List Answer) (words : List (List ℕ)) → AreWalks a model drawn words → (r : Result (Option (List ℕ)) E) → IfOk r (Comes h ks words) → IfOk r (ComesWalked h a model (Some drawn) ks)
comes_walked h a model drawn ks words are (Ok None) passes = (passes.gives, (words, are, passes.known))
comes_walked h a model drawn ks words are (Ok (Some word)) differs = differs
comes_walked h a model drawn ks words are (Err e) none = tt

-- a model that is certified, for the machine that was tested
pub sure_of : (h model same : MealyMachine) (testing : Testing) (k : ℕ) (ks now : List KeptAnswer) → (model.inputs ≡ h.inputs) × (model.outputs ≡ h.outputs) → same ≡ model → ks ≡ now
    → IsCertified model.inputs model.outputs k (answers_of ks) same → IsEnoughFor testing model.inputs k (answers_of ks) same → IsCanonical h.inputs h.rows model.rows → IsSureOf h testing k (answers_of now) same
sure_of h model same testing k ks now alphabets is kept certified enough canonical =
    let Sure : List KeptAnswer → MealyMachine → Type 0 = λ l m. IsSureOf h testing k (answers_of l) m in
    subst (λ (l : List KeptAnswer). Sure l same) kept
    (record {
      certified = subst₂ (λ (a b : ℕ). IsCertified a b k (answers_of ks) same) alphabets.0 alphabets.1 certified;
      enough = subst (λ (a : ℕ). IsEnoughFor testing a k (answers_of ks) same) alphabets.0 enough;
      canonical = subst (λ (m : MealyMachine). IsCanonical h.inputs h.rows m.rows) (sym is) canonical;
    })

module _ (h model : MealyMachine) (ks : List Answer) (k : ℕ) (machine : IsMachine h.inputs h.rows) (inputs : model.inputs ≡ h.inputs) (outputs : model.outputs ≡ h.outputs) (complete : IsWithinLimits model)
    (is : IsCanonical h.inputs h.rows model.rows) (are : AreAnswers h.inputs ks) (gives : Gives h.rows ks) (crowd : HasCrowd ks (length h.rows)) where
  too_large : (number : ℕ) → (number ≡ suite_size (length model.rows) model.inputs k) × (greatest_suite < number) → IsTooLarge h.inputs h.outputs k (length h.rows) ks model number
  too_large number size =
      record {
        inputs = inputs;
        outputs = outputs;
        complete = complete;
        few = no_more_states h.inputs h.rows model.rows machine is;
        canonical = of_itself h.inputs h.rows model.rows is;
        gives = equal_gives h.inputs model.rows h.rows ks is.equal are gives;
        words = crowd.words;
        crowd = crowd.crowd;
        each = as_many h.inputs h.rows model.rows machine is ks crowd.words are gives crowd.crowd crowd.each;
        size = size.0 ∙ ap (λ (n : ℕ). suite_size (length model.rows) n k) inputs;
        large = size.1;
      }

  pub without_suite_stops : (why : SuiteFault) → ((number : ℕ) → why ≡ fault.TooLarge number → (number ≡ suite_size (length model.rows) model.inputs k) × (greatest_suite < number)) → StopsTest h.inputs h.outputs k (length h.rows) ks (of_fault model why)
  without_suite_stops (fault.TooLarge number) size = too_large number (size number refl)
  without_suite_stops fault.NoMemory size = tt

pub without_suite_leaves : (X : Type 0) (o : OracleState) (model : MealyMachine) (why : SuiteFault) → Leaves o o None → Leaves o o (learn_stop {X = X} (Err (of_fault model why)))
without_suite_leaves X o model (fault.TooLarge number) leaves = leaves
without_suite_leaves X o model fault.NoMemory leaves = leaves_short o o leaves
