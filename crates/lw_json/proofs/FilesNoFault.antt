-- What is in the grammar of a kind of file has no fault of that kind.
use Rattle.std.proofs.Common.{◌≡◌, ◌∙◌, ℕ, List, [], Bool, Option, Some, None, length, codes, slice_index_or, refl, sym, ap, subst, true, false, not, ◌&&◌, ◌||◌, ◌++◌, ◌∷◌, is_some, option_map, option_and_then, if◌then◌else◌}
use Rattle.std.specs.List.{All}
use Rattle.std.proofs.lemmas.Option.{none-some}
use Rattle.json.proofs.Found.{Some_inj}
use Rattle.serde_json.specs.Data.{Data, null, boolean, number, string, array, object}
use Rattle.lw_words.specs.Word.{IsNames, IsWholeKept}
use Rattle.lw_words.specs.declared.kept.KeptAnswer.{KeptAnswer}
use Rattle.lw_mealy.specs.Machine.{Rows}
use Rattle.lw_json.specs.AnswersFault.{SaysAnswersFault, HasAnswersFault, answers_tests}
use Rattle.lw_json.specs.Formats.{Document, whole, lines, IsDocument, WrittenAnswer, WrittenAnswers, format_at, answers_in, SaysAnswers, SpellsAnswers, IsAnswersFile, numbered_answer, each_of, NamedRow, WrittenMachine, SaysMachine, SpellsMachine, IsMachineFile, AreInputs, numbered_cell, numbered_rows, IsJson, is_object, list_at, texts_at}
use Rattle.lw_json.specs.Fault.{HasFault, NoneIsFaulty, first_failing}
use Rattle.lw_json.specs.MachineFault.{UnknownFirst, SaysMachineFault, HasMachineFault, machine_tests}
use Rattle.lw_json.specs.SetupFile.{WrittenSetup, table, command, SaysSetup, SpellsSetup, IsSetupFile, SaysSetupFault, HasSetupFault, AreOutputs, DeclaredFault, has_member, text_at, command_at, outputs_at, setup_tests}
use Rattle.lw_json.specs.bodies.MachineParts.{IsFaultOfRows}
use Rattle.lw_json.specs.declared.files.Answers.{Answers}
use Rattle.lw_json.specs.declared.fault.Field.{Field}
use Rattle.lw_json.specs.declared.fault.Field.TheVariants as field
use Rattle.lw_json.specs.declared.fault.JsonFault.{JsonFault}
use Rattle.lw_json.specs.declared.fault.JsonFault.TheVariants.{NotJson, Shape, Inputs, Outputs, UnknownOutput, Mealy, BadWord, Lengths, NoMemory}
use Rattle.lw_json.specs.declared.files.Machine.{Machine}
use Rattle.lw_json.specs.declared.setup.Setup.{Setup}
use Rattle.lw_json.specs.declared.setup.Setup.TheVariants.{Table, Command}
use Rattle.lw_words.specs.declared.names.NamesFault.{NamesFault}
use Rattle.lw_json.proofs.MachineFaults.{known_row}
use Rattle.lw_json.proofs.NoFault.{names_none, rows_none, each_some}
use Rattle.lw_json.proofs.OneAnswers as answers
use Rattle.lw_json.proofs.OneAnswers.{one_json}
use Rattle.lw_json.proofs.OneValue as machine

-- a machine that is said
pub unknown_none : (outputs : List (List ℕ)) (states : List NamedRow) (rows : Rows) (q x : ℕ) → numbered_rows outputs states ≡ Some rows → ¬ UnknownFirst outputs states q x
unknown_none outputs states rows q x is h =
    let each = each_some (each_of (numbered_cell outputs)) states (rw is refl) in
    h.0.fails [] (known_row outputs (slice_index_or states q []) (each q [] h.0.within))

module _ (w : WrittenMachine) (m : Machine) (s : SpellsMachine w m) where
  said_inputs : AreInputs w.inputs
  said_inputs = subst (λ (l : List (List ℕ)). AreInputs l) (sym s.inputs) s.named.inputs

  said_outputs : IsNames w.outputs
  said_outputs = subst (λ (l : List (List ℕ)). IsNames l) (sym s.outputs) s.named.outputs

  said_rows : numbered_rows w.outputs w.states ≡ Some m.mealy.rows
  said_rows = subst (λ (o : List (List ℕ)). numbered_rows o w.states ≡ Some m.mealy.rows) (sym s.outputs) s.states

  said_mealy : (fault : _) (rows : Rows) → numbered_rows w.outputs w.states ≡ Some rows → ¬ IsFaultOfRows (length w.inputs) (length w.outputs) rows fault
  said_mealy fault rows is h =
      let same : rows ≡ m.mealy.rows = Some_inj rows m.mealy.rows (sym is ∙ said_rows) in
      let one : IsFaultOfRows (length w.inputs) (length w.outputs) m.mealy.rows fault = subst (λ (r : Rows). IsFaultOfRows (length w.inputs) (length w.outputs) r fault) same h in
      let two : IsFaultOfRows m.mealy.inputs (length w.outputs) m.mealy.rows fault = subst (λ (a : ℕ). IsFaultOfRows a (length w.outputs) m.mealy.rows fault) (ap length s.inputs ∙ sym s.named.letters) one in
      rows_none m.mealy fault s.named.complete (subst (λ (b : ℕ). IsFaultOfRows m.mealy.inputs b m.mealy.rows fault) (ap length s.outputs ∙ sym s.named.answers) two)

  machine_none : (fault : JsonFault) → SaysMachineFault w fault → fault ≡ NoMemory
  machine_none NotJson h = absurd h
  machine_none (Shape field) h = absurd h
  machine_none (Inputs fault) h = absurd (names_none 64 w.inputs fault said_inputs.0 said_inputs.1 h)
  machine_none (Outputs fault) h = absurd (names_none 4096 w.outputs fault said_outputs said_outputs.few h.1)
  machine_none (UnknownOutput q x) h = absurd (unknown_none w.outputs w.states m.mealy.rows q x said_rows h.2)
  machine_none (Mealy fault) h = absurd (said_mealy fault h.2.0 h.2.1 (h.2.2, h.2.3))
  machine_none (BadWord place) h = absurd h
  machine_none (Lengths place) h = absurd h
  machine_none NoMemory h = refl

-- a setup that is said
declared_none : (outputs : Option (List (List ℕ))) (fault : NamesFault) → AreOutputs outputs → ¬ DeclaredFault outputs fault
declared_none None fault named h = h
declared_none (Some outputs) fault named h = names_none 4096 outputs fault named named.few h

setup_inputs : (w : WrittenSetup) (s : Setup) (fault : NamesFault) → SpellsSetup w s → ¬ SaysSetupFault w (Inputs fault)
setup_inputs (table name) s fault spells h = h
setup_inputs (command words inputs outputs) (Table t) fault spells h = spells
setup_inputs (command words inputs outputs) (Command c) fault spells h = names_none 64 inputs fault spells.3.0 spells.3.1 h

setup_outputs : (w : WrittenSetup) (s : Setup) (fault : NamesFault) → SpellsSetup w s → ¬ SaysSetupFault w (Outputs fault)
setup_outputs (table name) s fault spells h = h
setup_outputs (command words inputs outputs) (Table t) fault spells h = spells
setup_outputs (command words inputs outputs) (Command c) fault spells h = declared_none outputs fault spells.4 h.1

setup_none : (w : WrittenSetup) (s : Setup) → SpellsSetup w s → (fault : JsonFault) → SaysSetupFault w fault → fault ≡ NoMemory
setup_none w s spells NotJson h = absurd h
setup_none w s spells (Shape field) h = absurd h
setup_none w s spells (Inputs fault) h = absurd (setup_inputs w s fault spells h)
setup_none w s spells (Outputs fault) h = absurd (setup_outputs w s fault spells h)
setup_none w s spells (UnknownOutput q x) h = absurd h
setup_none w s spells (Mealy fault) h = absurd h
setup_none w s spells (BadWord place) h = absurd h
setup_none w s spells (Lengths place) h = absurd h
setup_none w s spells NoMemory h = refl

-- answers that are said
module _ (w : WrittenAnswers) (a : Answers) (s : SpellsAnswers w a) where
  answered_inputs : AreInputs w.inputs
  answered_inputs = subst (λ (l : List (List ℕ)). AreInputs l) (sym s.inputs) s.inputs_named

  answered_outputs : IsNames w.outputs
  answered_outputs = subst (λ (l : List (List ℕ)). IsNames l) (sym s.outputs) s.outputs_named

  answered : each_of (numbered_answer w.inputs w.outputs) w.answers ≡ Some a.kept.answers
  answered =
      subst (λ (o : List (List ℕ)). each_of (numbered_answer w.inputs o) w.answers ≡ Some a.kept.answers) (sym s.outputs)
      (subst (λ (i : List (List ℕ)). each_of (numbered_answer i a.outputs) w.answers ≡ Some a.kept.answers) (sym s.inputs) s.answers)

  words_none : (place : ℕ) → ¬ SaysAnswersFault w (BadWord place)
  words_none place h =
      let each = each_some (numbered_answer w.inputs w.outputs) w.answers (rw answered refl) in
      let none : WrittenAnswer = record { instance = 0; run = 0; word = []; outs = [] } in
      h.2.fails none (each place none h.2.within)

  lengths_none : (place : ℕ) → ¬ SaysAnswersFault w (Lengths place)
  lengths_none place h =
      let same : h.2.0 ≡ a.kept.answers = Some_inj h.2.0 a.kept.answers (sym h.2.1 ∙ answered) in
      let even : All IsWholeKept h.2.0 = subst (λ (l : List KeptAnswer). All IsWholeKept l) (sym same) s.even in
      let none : KeptAnswer = record { instance = 0; run = 0; word = []; outs = [] } in
      h.2.2.fails none (even place none h.2.2.within)

  answers_none : (fault : JsonFault) → SaysAnswersFault w fault → fault ≡ NoMemory
  answers_none NotJson h = absurd h
  answers_none (Shape field) h = absurd h
  answers_none (Inputs fault) h = absurd (names_none 64 w.inputs fault answered_inputs.0 answered_inputs.1 h)
  answers_none (Outputs fault) h = absurd (names_none 4096 w.outputs fault answered_outputs answered_outputs.few h.1)
  answers_none (UnknownOutput q x) h = absurd h
  answers_none (Mealy fault) h = absurd h
  answers_none (BadWord place) h = absurd (words_none place h)
  answers_none (Lengths place) h = absurd (lengths_none place h)
  answers_none NoMemory h = refl

-- bytes of the grammar, for each kind
module _ {D S V : Type 0} (IsRead : List ℕ → D → Type 0) (tests : D → List (Field × Bool)) (Says : D → S → Type 0) (SaysFault : S → JsonFault → Type 0) (Spelt : S → V → Type 0) (one_read : (bytes : List ℕ) (d e : D) → IsRead bytes d → IsRead bytes e → d ≡ e)
    (passes : (d : D) (s : S) → Says d s → first_failing (tests d) ≡ None) (same : (d : D) (s t : S) → Says d s → Says d t → s ≡ t) (none : (s : S) (v : V) → Spelt s v → (fault : JsonFault) → SaysFault s fault → fault ≡ NoMemory) where
  abbrev IsFile : List ℕ → V → Type 0
  IsFile bytes v = (d : D) × IsRead bytes d × ((s : S) × Says d s × Spelt s v)

  abbrev Said : List ℕ → JsonFault → Type 0
  Said bytes fault = (d : D) × IsRead bytes d × ((s : S) × Says d s × SaysFault s fault)

  said_none : (bytes : List ℕ) (v : V) (fault : JsonFault) → IsFile bytes v → Said bytes fault → fault ≡ NoMemory
  said_none bytes v fault file h =
      let here : file.0 ≡ h.0 = one_read bytes file.0 h.0 file.1 h.1 in
      let there : Says h.0 file.2.0 = subst (λ (d : D). Says d file.2.0) here file.2.1 in
      let one : file.2.0 ≡ h.2.0 = same h.0 file.2.0 h.2.0 there h.2.1 in
      none file.2.0 v file.2.2 fault (subst (λ (s : S). SaysFault s fault) (sym one) h.2.2)

  pub file_none : (bytes : List ℕ) (v : V) (fault : JsonFault) → IsFile bytes v → HasFault IsRead tests Says SaysFault bytes fault → fault ≡ NoMemory
  file_none bytes v NotJson file h = absurd (h file.0 file.1)
  file_none bytes v (Shape field) file h =
      let here : file.0 ≡ h.0 = one_read bytes file.0 h.0 file.1 h.1 in
      absurd (none-some field (sym (passes file.0 file.2.0 file.2.1) ∙ (ap (λ (d : D). first_failing (tests d)) here ∙ h.2)))
  file_none bytes v (Inputs fault) file h = said_none bytes v (Inputs fault) file h
  file_none bytes v (Outputs fault) file h = said_none bytes v (Outputs fault) file h
  file_none bytes v (UnknownOutput q x) file h = said_none bytes v (UnknownOutput q x) file h
  file_none bytes v (Mealy fault) file h = said_none bytes v (Mealy fault) file h
  file_none bytes v (BadWord place) file h = said_none bytes v (BadWord place) file h
  file_none bytes v (Lengths place) file h = said_none bytes v (Lengths place) file h
  file_none bytes v NoMemory file h = refl

-- only an object has members
object_texts : (key : List ℕ) (d : Data) (l : List (List ℕ)) → texts_at key d ≡ Some l → is_object d ≡ true
object_texts key null l e = absurd (none-some l e)
object_texts key (boolean b) l e = absurd (none-some l e)
object_texts key (number n) l e = absurd (none-some l e)
object_texts key (string s) l e = absurd (none-some l e)
object_texts key (array ds) l e = absurd (none-some l e)
object_texts key (object ms) l e = refl

object_setup : (d : Data) (w : WrittenSetup) → SaysSetup d w → is_object d ≡ true
object_setup null w e = absurd (none-some w e)
object_setup (boolean b) w e = absurd (none-some w e)
object_setup (number n) w e = absurd (none-some w e)
object_setup (string s) w e = absurd (none-some w e)
object_setup (array ds) w e = absurd (none-some w e)
object_setup (object ms) w e = refl

pub machine_passes : (d : Data) (w : WrittenMachine) → SaysMachine d w → first_failing (machine_tests d) ≡ None
machine_passes d w s = rw (object_texts (codes "inputs") d w.inputs s.inputs, s.inputs, s.outputs, s.states) refl

format_some : (f : Option ℕ) (g : ℕ → Option (List WrittenAnswer)) (l : List WrittenAnswer) → option_and_then g f ≡ Some l → is_some f ≡ true
format_some None g l e = absurd (none-some l e)
format_some (Some n) g l e = refl

pub answers_passes : (d : Document) (w : WrittenAnswers) → SaysAnswers d w → first_failing (answers_tests d) ≡ None
answers_passes (lines ds) w s = rw (s.inputs, s.answers) refl
answers_passes (whole d) w s =
    rw (object_texts (codes "inputs") d w.inputs s.inputs, format_some (format_at d) (λ format. option_and_then (answers_in format) (list_at (codes "answers") d)) w.answers s.answers, s.inputs, s.outputs, s.answers) refl

-- the tests of a setup, by what its members are
setup_cases : (has_command has_table : Bool) (inputs : Option (List (List ℕ))) (outputs : Option (Option (List (List ℕ)))) (words : Option (List (List ℕ))) (name : Option (List ℕ)) (w : WrittenSetup)
    → (if has_command then (if has_table then None else option_and_then (λ i. option_and_then (λ o. option_map (λ l. command l i o) words) outputs) inputs) else option_map table name) ≡ Some w
    → first_failing ((if has_command && not has_table then (field.Inputs, is_some inputs) ∷ (field.Outputs, is_some outputs) ∷ [] else []) ++ ((field.Both, not (has_command && has_table)) ∷ (field.Neither, has_command || is_some name) ∷ (field.Command, not has_command || is_some words) ∷ [])) ≡ None
setup_cases true true inputs outputs words name w e = absurd (none-some w e)
setup_cases true false None outputs words name w e = absurd (none-some w e)
setup_cases true false (Some i) None words name w e = absurd (none-some w e)
setup_cases true false (Some i) (Some o) None name w e = absurd (none-some w e)
setup_cases true false (Some i) (Some o) (Some l) name w e = refl
setup_cases false has_table inputs outputs words None w e = absurd (none-some w e)
setup_cases false has_table inputs outputs words (Some n) w e = refl

pub setup_passes : (d : Data) (w : WrittenSetup) → SaysSetup d w → first_failing (setup_tests d) ≡ None
setup_passes d w s =
    rw (object_setup d w s) (setup_cases (has_member (codes "command") d) (has_member (codes "table") d) (texts_at (codes "inputs") d) (outputs_at d) (command_at d) (text_at (codes "table") d) w s)

abbrev said_as : List (List ℕ) → List (List ℕ) → List NamedRow → WrittenMachine
said_as i o r = record { inputs = i; outputs = o; states = r }

abbrev answered_as : List (List ℕ) → List (List ℕ) → List WrittenAnswer → WrittenAnswers
answered_as i o l = record { inputs = i; outputs = o; answers = l }

pub machine_same : (d : Data) (v w : WrittenMachine) → SaysMachine d v → SaysMachine d w → v ≡ w
machine_same d v w s t =
    let same = machine.says_same d d v w refl s t in
    ap (λ (i : List (List ℕ)). said_as i v.outputs v.states) same.inputs ∙ (ap (λ (o : List (List ℕ)). said_as w.inputs o v.states) same.outputs ∙ ap (λ (r : List NamedRow). said_as w.inputs w.outputs r) same.states)

pub answers_same : (d : Document) (v w : WrittenAnswers) → SaysAnswers d v → SaysAnswers d w → v ≡ w
answers_same d v w s t =
    let same = answers.says_same d v w s t in
    ap (λ (i : List (List ℕ)). answered_as i v.outputs v.answers) same.inputs ∙ (ap (λ (o : List (List ℕ)). answered_as w.inputs o v.answers) same.outputs ∙ ap (λ (l : List WrittenAnswer). answered_as w.inputs w.outputs l) same.answers)

pub machines : NoneIsFaulty IsMachineFile HasMachineFault
machines = file_none IsJson machine_tests SaysMachine SaysMachineFault SpellsMachine one_json machine_passes machine_same machine_none

pub setups : NoneIsFaulty IsSetupFile HasSetupFault
setups = file_none IsJson setup_tests SaysSetup SaysSetupFault SpellsSetup one_json setup_passes (λ d v w s t. Some_inj v w (sym s ∙ t)) setup_none

pub all_answers : NoneIsFaulty IsAnswersFile HasAnswersFault
all_answers = file_none IsDocument answers_tests SaysAnswers SaysAnswersFault SpellsAnswers answers.one_document answers_passes answers_same answers_none
