-- Bytes have one first fault of each kind of file.
use Rattle.std.proofs.Common.{◌≡◌, ◌≢◌, ◌∙◌, ℕ, List, [], Bool, Option, Some, None, length, slice_index_or, refl, sym, ap, subst}
use Rattle.std.specs.List.{All}
use Rattle.std.proofs.lemmas.Option.{none-some}
use Rattle.json.proofs.Found.{Some_inj}
use Rattle.lw_words.specs.First.{FailsFirst}
use Rattle.lw_words.specs.declared.kept.KeptAnswer.{KeptAnswer}
use Rattle.lw_words.specs.declared.names.NamesFault.{NamesFault}
use Rattle.lw_mealy.specs.Fault as rows
use Rattle.lw_mealy.specs.Machine.{Rows}
use Rattle.lw_mealy.specs.declared.fault.MealyFault.{MealyFault}
use Rattle.lw_json.specs.AnswersFault.{AnswerHasWords, SaysAnswersFault, HasAnswersFault, answers_tests}
use Rattle.lw_json.specs.Formats.{IsDocument, WrittenAnswer, WrittenAnswers, SaysAnswers, numbered_answer, each_of, NamedRow, WrittenMachine, SaysMachine, IsJson}
use Rattle.lw_json.specs.Fault.{HasFault, HasOneFault, first_failing}
use Rattle.lw_words.specs.Word.{IsWholeKept}
use Rattle.lw_json.specs.MachineFault.{HasOutputIn, UnknownFirst, SaysMachineFault, HasMachineFault, machine_tests}
use Rattle.lw_json.specs.SetupFile.{WrittenSetup, table, command, SaysSetup, SaysSetupFault, HasSetupFault, DeclaredFault, setup_tests}
use Rattle.lw_json.specs.declared.fault.Field.{Field}
use Rattle.lw_json.specs.declared.fault.JsonFault.{JsonFault}
use Rattle.lw_json.specs.declared.fault.JsonFault.TheVariants.{NotJson, Shape, Inputs, Outputs, UnknownOutput, Mealy, BadWord, Lengths, NoMemory}
use Rattle.lw_json.proofs.FilesNoFault.{unknown_none, machine_passes, setup_passes, answers_passes, machine_same, answers_same}
use Rattle.lw_json.proofs.FirstFault.{first_one, one_names, one_rows}
use Rattle.lw_json.proofs.NoFault.{names_none, each_some}
use Rattle.lw_json.proofs.OneAnswers.{one_document, one_json}

one_unknown : (outputs : List (List ℕ)) (states : List NamedRow) (q x r y : ℕ) → UnknownFirst outputs states q x → UnknownFirst outputs states r y → (q ≡ r) × (x ≡ y)
one_unknown outputs states q x r y h k =
    let same : q ≡ r = first_one [] (All (HasOutputIn outputs)) states q r h.0 k.0 in
    (same, first_one (0, []) (HasOutputIn outputs) (slice_index_or states r []) x y (subst (λ (i : ℕ). FailsFirst (HasOutputIn outputs) (slice_index_or states i []) x) same h.1) k.1)

abbrev no_answer : WrittenAnswer
no_answer = record { instance = 0; run = 0; word = []; outs = [] }

abbrev no_kept : KeptAnswer
no_kept = record { instance = 0; run = 0; word = []; outs = [] }

no_bad_word : (inputs outputs : List (List ℕ)) (answers : List WrittenAnswer) (kept : List KeptAnswer) (place : ℕ) → each_of (numbered_answer inputs outputs) answers ≡ Some kept → ¬ FailsFirst (AnswerHasWords inputs outputs) answers place
no_bad_word inputs outputs answers kept place is h =
    let each = each_some (numbered_answer inputs outputs) answers (rw is refl) in
    h.fails no_answer (each place no_answer h.within)

declared_one : (outputs : Option (List (List ℕ))) (a b : NamesFault) → DeclaredFault outputs a → DeclaredFault outputs b → a ≡ b
declared_one None a b h k = absurd h
declared_one (Some outputs) a b h k = one_names 4096 outputs a b h.0 k.0 h.1 k.1

setup_inputs_one : (w : WrittenSetup) (a b : NamesFault) → SaysSetupFault w (Inputs a) → SaysSetupFault w (Inputs b) → a ≡ b
setup_inputs_one (table name) a b h k = absurd h
setup_inputs_one (command words inputs outputs) a b h k = one_names 64 inputs a b h.0 k.0 h.1 k.1

setup_outputs_one : (w : WrittenSetup) (a b : NamesFault) → SaysSetupFault w (Outputs a) → SaysSetupFault w (Outputs b) → a ≡ b
setup_outputs_one (table name) a b h k = absurd h
setup_outputs_one (command words inputs outputs) a b h k = declared_one outputs a b h.1 k.1

setup_cross : (w : WrittenSetup) (a b : NamesFault) → SaysSetupFault w (Inputs a) → ¬ SaysSetupFault w (Outputs b)
setup_cross (table name) a b h k = h
setup_cross (command words inputs outputs) a b h k = names_none 64 inputs a k.0.0 k.0.1 h

machine_one : (w : WrittenMachine) (f g : JsonFault) → SaysMachineFault w f → SaysMachineFault w g → f ≢ NoMemory → g ≢ NoMemory → f ≡ g
machine_one w NotJson g h k n n' = absurd h
machine_one w (Shape field) g h k n n' = absurd h
machine_one w (BadWord place) g h k n n' = absurd h
machine_one w (Lengths place) g h k n n' = absurd h
machine_one w NoMemory g h k n n' = absurd (n refl)
machine_one w (Inputs a) NotJson h k n n' = absurd k
machine_one w (Inputs a) (Shape field') h k n n' = absurd k
machine_one w (Inputs a) (BadWord place') h k n n' = absurd k
machine_one w (Inputs a) (Lengths place') h k n n' = absurd k
machine_one w (Inputs a) NoMemory h k n n' = absurd (n' refl)
machine_one w (Inputs a) (Inputs b) h k n n' = ap (λ (x : NamesFault). Inputs x) (one_names 64 w.inputs a b h.0 k.0 h.1 k.1)
machine_one w (Inputs a) (Outputs b) h k n n' = absurd (names_none 64 w.inputs a k.0.0 k.0.1 h)
machine_one w (Inputs a) (UnknownOutput r y) h k n n' = absurd (names_none 64 w.inputs a k.0.0 k.0.1 h)
machine_one w (Inputs a) (Mealy b) h k n n' = absurd (names_none 64 w.inputs a k.0.0 k.0.1 h)
machine_one w (Outputs a) NotJson h k n n' = absurd k
machine_one w (Outputs a) (Shape field') h k n n' = absurd k
machine_one w (Outputs a) (BadWord place') h k n n' = absurd k
machine_one w (Outputs a) (Lengths place') h k n n' = absurd k
machine_one w (Outputs a) NoMemory h k n n' = absurd (n' refl)
machine_one w (Outputs a) (Inputs b) h k n n' = absurd (names_none 64 w.inputs b h.0.0 h.0.1 k)
machine_one w (Outputs a) (Outputs b) h k n n' = ap (λ (x : NamesFault). Outputs x) (one_names 4096 w.outputs a b h.1.0 k.1.0 h.1.1 k.1.1)
machine_one w (Outputs a) (UnknownOutput r y) h k n n' = absurd (names_none 4096 w.outputs a k.1 k.1.few h.1)
machine_one w (Outputs a) (Mealy b) h k n n' = absurd (names_none 4096 w.outputs a k.1 k.1.few h.1)
machine_one w (UnknownOutput q x) NotJson h k n n' = absurd k
machine_one w (UnknownOutput q x) (Shape field') h k n n' = absurd k
machine_one w (UnknownOutput q x) (BadWord place') h k n n' = absurd k
machine_one w (UnknownOutput q x) (Lengths place') h k n n' = absurd k
machine_one w (UnknownOutput q x) NoMemory h k n n' = absurd (n' refl)
machine_one w (UnknownOutput q x) (Inputs b) h k n n' = absurd (names_none 64 w.inputs b h.0.0 h.0.1 k)
machine_one w (UnknownOutput q x) (Outputs b) h k n n' = absurd (names_none 4096 w.outputs b h.1 h.1.few k.1)
machine_one w (UnknownOutput q x) (UnknownOutput r y) h k n n' = let c = one_unknown w.outputs w.states q x r y h.2 k.2 in ap (λ (i : ℕ). UnknownOutput i x) c.0 ∙ ap (λ (i : ℕ). UnknownOutput r i) c.1
machine_one w (UnknownOutput q x) (Mealy b) h k n n' = absurd (unknown_none w.outputs w.states k.2.0 q x k.2.1 h.2)
machine_one w (Mealy a) NotJson h k n n' = absurd k
machine_one w (Mealy a) (Shape field') h k n n' = absurd k
machine_one w (Mealy a) (BadWord place') h k n n' = absurd k
machine_one w (Mealy a) (Lengths place') h k n n' = absurd k
machine_one w (Mealy a) NoMemory h k n n' = absurd (n' refl)
machine_one w (Mealy a) (Inputs b) h k n n' = absurd (names_none 64 w.inputs b h.0.0 h.0.1 k)
machine_one w (Mealy a) (Outputs b) h k n n' = absurd (names_none 4096 w.outputs b h.1 h.1.few k.1)
machine_one w (Mealy a) (UnknownOutput r y) h k n n' = absurd (unknown_none w.outputs w.states h.2.0 r y h.2.1 k.2)
machine_one w (Mealy a) (Mealy b) h k n n' = ap (λ (x : MealyFault). Mealy x) (one_rows (length w.inputs) (length w.outputs) k.2.0 a b (subst (λ (m : Rows). rows.RowsHaveFault (length w.inputs) (length w.outputs) m a) (Some_inj h.2.0 k.2.0 (sym h.2.1 ∙ k.2.1)) h.2.2) k.2.2 h.2.3 k.2.3)

setup_one : (w : WrittenSetup) (f g : JsonFault) → SaysSetupFault w f → SaysSetupFault w g → f ≢ NoMemory → g ≢ NoMemory → f ≡ g
setup_one w NotJson g h k n n' = absurd h
setup_one w (Shape field) g h k n n' = absurd h
setup_one w (UnknownOutput q x) g h k n n' = absurd h
setup_one w (Mealy fault) g h k n n' = absurd h
setup_one w (BadWord place) g h k n n' = absurd h
setup_one w (Lengths place) g h k n n' = absurd h
setup_one w NoMemory g h k n n' = absurd (n refl)
setup_one w (Inputs a) NotJson h k n n' = absurd k
setup_one w (Inputs a) (Shape field') h k n n' = absurd k
setup_one w (Inputs a) (UnknownOutput r y) h k n n' = absurd k
setup_one w (Inputs a) (Mealy fault') h k n n' = absurd k
setup_one w (Inputs a) (BadWord place') h k n n' = absurd k
setup_one w (Inputs a) (Lengths place') h k n n' = absurd k
setup_one w (Inputs a) NoMemory h k n n' = absurd (n' refl)
setup_one w (Inputs a) (Inputs b) h k n n' = ap (λ (x : NamesFault). Inputs x) (setup_inputs_one w a b h k)
setup_one w (Inputs a) (Outputs b) h k n n' = absurd (setup_cross w a b h k)
setup_one w (Outputs a) NotJson h k n n' = absurd k
setup_one w (Outputs a) (Shape field') h k n n' = absurd k
setup_one w (Outputs a) (UnknownOutput r y) h k n n' = absurd k
setup_one w (Outputs a) (Mealy fault') h k n n' = absurd k
setup_one w (Outputs a) (BadWord place') h k n n' = absurd k
setup_one w (Outputs a) (Lengths place') h k n n' = absurd k
setup_one w (Outputs a) NoMemory h k n n' = absurd (n' refl)
setup_one w (Outputs a) (Inputs b) h k n n' = absurd (setup_cross w b a k h)
setup_one w (Outputs a) (Outputs b) h k n n' = ap (λ (x : NamesFault). Outputs x) (setup_outputs_one w a b h k)

answers_one : (w : WrittenAnswers) (f g : JsonFault) → SaysAnswersFault w f → SaysAnswersFault w g → f ≢ NoMemory → g ≢ NoMemory → f ≡ g
answers_one w NotJson g h k n n' = absurd h
answers_one w (Shape field) g h k n n' = absurd h
answers_one w (UnknownOutput q x) g h k n n' = absurd h
answers_one w (Mealy fault) g h k n n' = absurd h
answers_one w NoMemory g h k n n' = absurd (n refl)
answers_one w (Inputs a) NotJson h k n n' = absurd k
answers_one w (Inputs a) (Shape field') h k n n' = absurd k
answers_one w (Inputs a) (UnknownOutput r y) h k n n' = absurd k
answers_one w (Inputs a) (Mealy fault') h k n n' = absurd k
answers_one w (Inputs a) NoMemory h k n n' = absurd (n' refl)
answers_one w (Inputs a) (Inputs b) h k n n' = ap (λ (x : NamesFault). Inputs x) (one_names 64 w.inputs a b h.0 k.0 h.1 k.1)
answers_one w (Inputs a) (Outputs b) h k n n' = absurd (names_none 64 w.inputs a k.0.0 k.0.1 h)
answers_one w (Inputs a) (BadWord b) h k n n' = absurd (names_none 64 w.inputs a k.0.0 k.0.1 h)
answers_one w (Inputs a) (Lengths b) h k n n' = absurd (names_none 64 w.inputs a k.0.0 k.0.1 h)
answers_one w (Outputs a) NotJson h k n n' = absurd k
answers_one w (Outputs a) (Shape field') h k n n' = absurd k
answers_one w (Outputs a) (UnknownOutput r y) h k n n' = absurd k
answers_one w (Outputs a) (Mealy fault') h k n n' = absurd k
answers_one w (Outputs a) NoMemory h k n n' = absurd (n' refl)
answers_one w (Outputs a) (Inputs b) h k n n' = absurd (names_none 64 w.inputs b h.0.0 h.0.1 k)
answers_one w (Outputs a) (Outputs b) h k n n' = ap (λ (x : NamesFault). Outputs x) (one_names 4096 w.outputs a b h.1.0 k.1.0 h.1.1 k.1.1)
answers_one w (Outputs a) (BadWord b) h k n n' = absurd (names_none 4096 w.outputs a k.1 k.1.few h.1)
answers_one w (Outputs a) (Lengths b) h k n n' = absurd (names_none 4096 w.outputs a k.1 k.1.few h.1)
answers_one w (BadWord a) NotJson h k n n' = absurd k
answers_one w (BadWord a) (Shape field') h k n n' = absurd k
answers_one w (BadWord a) (UnknownOutput r y) h k n n' = absurd k
answers_one w (BadWord a) (Mealy fault') h k n n' = absurd k
answers_one w (BadWord a) NoMemory h k n n' = absurd (n' refl)
answers_one w (BadWord a) (Inputs b) h k n n' = absurd (names_none 64 w.inputs b h.0.0 h.0.1 k)
answers_one w (BadWord a) (Outputs b) h k n n' = absurd (names_none 4096 w.outputs b h.1 h.1.few k.1)
answers_one w (BadWord a) (BadWord b) h k n n' = ap (λ (x : ℕ). BadWord x) (first_one no_answer (AnswerHasWords w.inputs w.outputs) w.answers a b h.2 k.2)
answers_one w (BadWord a) (Lengths b) h k n n' = absurd (no_bad_word w.inputs w.outputs w.answers k.2.0 a k.2.1 h.2)
answers_one w (Lengths a) NotJson h k n n' = absurd k
answers_one w (Lengths a) (Shape field') h k n n' = absurd k
answers_one w (Lengths a) (UnknownOutput r y) h k n n' = absurd k
answers_one w (Lengths a) (Mealy fault') h k n n' = absurd k
answers_one w (Lengths a) NoMemory h k n n' = absurd (n' refl)
answers_one w (Lengths a) (Inputs b) h k n n' = absurd (names_none 64 w.inputs b h.0.0 h.0.1 k)
answers_one w (Lengths a) (Outputs b) h k n n' = absurd (names_none 4096 w.outputs b h.1 h.1.few k.1)
answers_one w (Lengths a) (BadWord b) h k n n' = absurd (no_bad_word w.inputs w.outputs w.answers h.2.0 b h.2.1 k.2)
answers_one w (Lengths a) (Lengths b) h k n n' = ap (λ (x : ℕ). Lengths x) (first_one no_kept IsWholeKept k.2.0 a b (subst (λ (l : List KeptAnswer). FailsFirst IsWholeKept l a) (Some_inj h.2.0 k.2.0 (sym h.2.1 ∙ k.2.1)) h.2.2) k.2.2)

-- bytes, for each kind
module _ {D S : Type 0} (IsRead : List ℕ → D → Type 0) (tests : D → List (Field × Bool)) (Says : D → S → Type 0) (SaysFault : S → JsonFault → Type 0) (one_read : (bytes : List ℕ) (d e : D) → IsRead bytes d → IsRead bytes e → d ≡ e)
    (passes : (d : D) (s : S) → Says d s → first_failing (tests d) ≡ None) (same : (d : D) (s t : S) → Says d s → Says d t → s ≡ t) (one : (s : S) (f g : JsonFault) → SaysFault s f → SaysFault s g → f ≢ NoMemory → g ≢ NoMemory → f ≡ g) where
  -- at which stage a fault stands
  data Stage (bytes : List ℕ) (f : JsonFault) : Type 0 where
    wanting : f ≡ NoMemory → Stage bytes f
    unread : f ≡ NotJson → ((d : D) → ¬ IsRead bytes d) → Stage bytes f
    misshapen : (field : Field) (d : D) → f ≡ Shape field → IsRead bytes d → first_failing (tests d) ≡ Some field → Stage bytes f
    said : (d : D) (s : S) → IsRead bytes d → Says d s → SaysFault s f → Stage bytes f

  stage : (bytes : List ℕ) (f : JsonFault) → HasFault IsRead tests Says SaysFault bytes f → Stage bytes f
  stage bytes NotJson h = unread refl h
  stage bytes (Shape field) h = misshapen field h.0 refl h.1 h.2
  stage bytes (Inputs fault) h = said h.0 h.2.0 h.1 h.2.1 h.2.2
  stage bytes (Outputs fault) h = said h.0 h.2.0 h.1 h.2.1 h.2.2
  stage bytes (UnknownOutput q x) h = said h.0 h.2.0 h.1 h.2.1 h.2.2
  stage bytes (Mealy fault) h = said h.0 h.2.0 h.1 h.2.1 h.2.2
  stage bytes (BadWord place) h = said h.0 h.2.0 h.1 h.2.1 h.2.2
  stage bytes (Lengths place) h = said h.0 h.2.0 h.1 h.2.1 h.2.2
  stage bytes NoMemory h = wanting refl

  no_shape : (bytes : List ℕ) (d e : D) (s : S) (field : Field) → IsRead bytes d → IsRead bytes e → Says d s → ¬ (first_failing (tests e) ≡ Some field)
  no_shape bytes d e s field j i says bad = none-some field (sym (passes d s says) ∙ (ap (λ (x : D). first_failing (tests x)) (one_read bytes d e j i) ∙ bad))

  one_said : (bytes : List ℕ) (d e : D) (s t : S) (f g : JsonFault) → IsRead bytes d → IsRead bytes e → Says d s → Says e t → SaysFault s f → SaysFault t g → f ≢ NoMemory → g ≢ NoMemory → f ≡ g
  one_said bytes d e s t f g j i says tells h k n n' =
      let here : Says e s = subst (λ (x : D). Says x s) (one_read bytes d e j i) says in
      one t f g (subst (λ (x : S). SaysFault x f) (same e s t here tells) h) k n n'

  one_stage : (bytes : List ℕ) (f g : JsonFault) → Stage bytes f → Stage bytes g → f ≢ NoMemory → g ≢ NoMemory → f ≡ g
  one_stage bytes f g (wanting e) k n n' = absurd (n e)
  one_stage bytes f g (unread e never) (wanting e') n n' = absurd (n' e')
  one_stage bytes f g (unread e never) (unread e' never') n n' = e ∙ sym e'
  one_stage bytes f g (unread e never) (misshapen field d e' j bad) n n' = absurd (never d j)
  one_stage bytes f g (unread e never) (said d s j says k) n n' = absurd (never d j)
  one_stage bytes f g (misshapen field d e j bad) (wanting e') n n' = absurd (n' e')
  one_stage bytes f g (misshapen field d e j bad) (unread e' never) n n' = absurd (never d j)
  one_stage bytes f g (misshapen field d e j bad) (misshapen field' d' e' j' bad') n n' =
      e ∙ (ap (λ (x : Field). Shape x) (Some_inj field field' (sym bad ∙ (ap (λ (x : D). first_failing (tests x)) (one_read bytes d d' j j') ∙ bad'))) ∙ sym e')
  one_stage bytes f g (misshapen field d e j bad) (said d' s j' says k) n n' = absurd (no_shape bytes d' d s field j' j says bad)
  one_stage bytes f g (said d s j says h) (wanting e') n n' = absurd (n' e')
  one_stage bytes f g (said d s j says h) (unread e' never) n n' = absurd (never d j)
  one_stage bytes f g (said d s j says h) (misshapen field d' e' j' bad) n n' = absurd (no_shape bytes d d' s field j j' says bad)
  one_stage bytes f g (said d s j says h) (said d' t j' says' k) n n' = one_said bytes d d' s t f g j j' says says' h k n n'

  pub one_fault : (bytes : List ℕ) (f g : JsonFault) → HasFault IsRead tests Says SaysFault bytes f → HasFault IsRead tests Says SaysFault bytes g → f ≢ NoMemory → g ≢ NoMemory → f ≡ g
  one_fault bytes f g h k n n' = one_stage bytes f g (stage bytes f h) (stage bytes g k) n n'

pub machines : HasOneFault HasMachineFault
machines = one_fault IsJson machine_tests SaysMachine SaysMachineFault one_json machine_passes machine_same machine_one

pub setups : HasOneFault HasSetupFault
setups = one_fault IsJson setup_tests SaysSetup SaysSetupFault one_json setup_passes (λ d v w s t. Some_inj v w (sym s ∙ t)) setup_one

pub all_answers : HasOneFault HasAnswersFault
all_answers = one_fault IsDocument answers_tests SaysAnswers SaysAnswersFault one_document answers_passes answers_same answers_one
