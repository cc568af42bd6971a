-- How the command ends.
use Rattle.std.proofs.Common.{◌≡◌, ◌⊎◌, inl, inr, ⊎_elim, ℕ, List, length, Option, Some, None, refl, sym, ap, ◌∙◌, subst, arith}
use Rattle.lw_words.specs.Word.{answers_of}
use Rattle.lw_words.specs.Cause.{CountedFault}
use Rattle.lw_mealy.specs.Machine.{IsMachine}
use Rattle.lw_json.specs.Formats.{IsAnswersFile, SameAnswers, SameMachine}
use Rattle.lw_json.specs.declared.files.Answers.{Answers}
use Rattle.lw_json.specs.declared.files.Machine.{Machine}
use Rattle.lw_json.proofs.OneAnswers.{one_answers}
use Rattle.lw_outside.specs.Files.{File, Holds, HoldsLong, file_at, longest_of, FilesState}
use Rattle.lw_chunks.specs.declared.method.Method.{Method}
use Rattle.lw_certify.proofs.SureLemmas.{sure_is_sure}
use Rattle.lw_report.specs.Outcomes.{HasOwnText, StandsOrWants}
use Rattle.lw_report.specs.Text.{text_of}
use Rattle.lw_report.specs.Writing.{TakesSome}
use Rattle.lw_report.specs.declared.role.Role.TheVariants as role
use Rattle.lw_report.specs.declared.outcome.Outcome.{Outcome}
use Rattle.lw_report.specs.declared.outcome.Outcome.TheVariants.{Learned, Trial, Yes, Served, No, Usage, BadFile, Alphabets, FileTooLong, Nondeterministic, NoMemory, SulFailed, Gone, BadLine, BadAsk, TooManyStates, SuiteTooLarge, FileFault, SourceFault, SinkFault, Compared, Asked, Helped, Rechecked, UnknownLetter, Unstarted, Accepted, BadAcceptor, NotAcceptor}
use Rattle.lw_check.specs.Decision.{IsYesOrNo, IsDecision, IsFixed, Pair, pair_of}
use Rattle.lw_names.specs.Naming.{Naming}
use Rattle.lw_check.specs.Ending.{ComesTo, DecidesAs}
use Rattle.lw_check.specs.Naming.{NamesOutputs, declared_as}
use Rattle.lw_outside.specs.Streams.{SinkState}
use Rattle.lw_system.specs.Goals.{IsModelFile}
use Rattle.lw_system.specs.Reading.{TellsFile}
use Rattle.lw_system.specs.declared.goal.Goal.{Goal}
use Rattle.lw_check.specs.Reading.{IsUnread, ReadsPair}
use Rattle.lw_check.specs.Telling.{OutcomeIsTold}
use Rattle.lw_check.proofs.DecideLemmas.{one_decision}
use Rattle.lw_check.proofs.ModelLemmas.{one_model}

pub comes_to : (method : Method) (p : Pair) (extra : ℕ) (out now : SinkState) (decision outcome : Outcome) → (decision ≡ NoMemory) ⊎ IsDecision method p extra decision → OutcomeIsTold decision outcome
    → (outcome ≡ SinkFault → ¬ (decision ≡ SinkFault) → CountedFault out.faults now.faults) → TakesSome (text_of p.inputs p.outputs p.kept extra decision) out.taken now.taken → ComesTo method p extra out now outcome
comes_to method p extra out now decision outcome decided told counted some =
    ⊎_elim
    (λ (stands : outcome ≡ decision). ⊎_elim (λ (none : decision ≡ NoMemory). inr (inl (stands ∙ none))) (λ (d : IsDecision method p extra decision). inl (subst (IsDecision method p extra) (sym stands) d)) decided)
    (λ (r : (outcome ≡ NoMemory) ⊎ (IsYesOrNo decision × (outcome ≡ SinkFault))). ⊎_elim
    (λ (none : outcome ≡ NoMemory). inr (inl none))
    (λ (s : IsYesOrNo decision × (outcome ≡ SinkFault)). ⊎_elim
    (λ (none : decision ≡ NoMemory). absurd (subst IsYesOrNo none s.0))
    (λ (d : IsDecision method p extra decision). inr (inr (s.1, counted s.1 (λ e. subst IsYesOrNo e s.0), (decision, s.0, d, some))))
    decided)
    r)
    told

-- the names of the outputs, once an outcome was told
pub still_named : (p : Pair) (decision outcome : Outcome) (outputs : Option Naming) → NamesOutputs p decision outputs → OutcomeIsTold decision outcome → NamesOutputs p outcome outputs
still_named p decision outcome outputs named told =
    ⊎_elim
    (λ (some : outputs ≡ Some (declared_as p.answer_outputs)). inl some)
    (λ (none : (decision ≡ NoMemory) × (outputs ≡ None)). inr (still none.0, none.1))
    named
  where
    still : decision ≡ NoMemory → outcome ≡ NoMemory
    still none =
        ⊎_elim
        (λ (stands : outcome ≡ decision). stands ∙ none)
        (λ (r : (outcome ≡ NoMemory) ⊎ (IsYesOrNo decision × (outcome ≡ SinkFault))). ⊎_elim (λ (e : outcome ≡ NoMemory). e) (λ (s : IsYesOrNo decision × (outcome ≡ SinkFault)). absurd (subst IsYesOrNo none s.0)) r)
        told

-- where memory runs out in telling a cause, the calls were its calls
no_text : (aim : Goal) (model answers : List ℕ) (before now : FilesState) (o : Outcome) → HasOwnText o → IsUnread aim model answers before now o → IsUnread aim model answers before now NoMemory
no_text aim model answers before now (BadFile role.Model fault) own u = inr (inl u.1)
no_text aim model answers before now (BadFile role.Answers fault) own u = inr (inr u.1)
no_text aim model answers before now (BadFile role.Setup fault) own u = absurd u
no_text aim model answers before now (BadFile role.Table fault) own u = absurd u
no_text aim model answers before now (BadFile role.Prior fault) own u = absurd u
no_text aim model answers before now (BadFile role.Second fault) own u = absurd u
no_text aim model answers before now (BadFile role.Words fault) own u = absurd u
no_text aim model answers before now (BadFile role.Kept fault) own u = absurd u
no_text aim model answers before now (BadFile role.Last fault) own u = absurd u
no_text aim model answers before now (FileTooLong r) own u = absurd own
no_text aim model answers before now (FileFault r) own u = absurd own
no_text aim model answers before now NoMemory own u = absurd own
no_text aim model answers before now (Learned h r) own u = absurd u
no_text aim model answers before now (Trial tried) own u = absurd u
no_text aim model answers before now (Yes n) own u = absurd u
no_text aim model answers before now (No v) own u = absurd u
no_text aim model answers before now Usage own u = absurd u
no_text aim model answers before now (Served served) own u = absurd u
no_text aim model answers before now (SulFailed instance) own u = absurd u
no_text aim model answers before now (Gone instance) own u = absurd u
no_text aim model answers before now (BadLine instance line) own u = absurd u
no_text aim model answers before now (BadAsk number) own u = absurd u
no_text aim model answers before now SourceFault own u = absurd u
no_text aim model answers before now (Compared comparison) own u = absurd u
no_text aim model answers before now Asked own u = absurd u
no_text aim model answers before now Helped own u = absurd u
no_text aim model answers before now (Rechecked count) own u = absurd u
no_text aim model answers before now (Accepted states refinements) own u = absurd u
no_text aim model answers before now (BadAcceptor bad) own u = inr (inl u.1)
no_text aim model answers before now (NotAcceptor state letter) own u = absurd u
no_text aim model answers before now (UnknownLetter w place) own u = absurd u
no_text aim model answers before now (Unstarted cause) own u = absurd u
no_text aim model answers before now (Alphabets role) own u = absurd u
no_text aim model answers before now (Nondeterministic c) own u = absurd u
no_text aim model answers before now (TooManyStates ws) own u = absurd u
no_text aim model answers before now (SuiteTooLarge n s) own u = absurd u
no_text aim model answers before now SinkFault own u = absurd u

-- a cause stands, or memory runs out in telling it
pub still_unread : (aim : Goal) (model answers : List ℕ) (before now : FilesState) (o r : Outcome) → IsUnread aim model answers before now o → StandsOrWants o r → IsUnread aim model answers before now r
still_unread aim model answers before now o r u s =
    ⊎_elim
    (λ (e : r ≡ o). subst (IsUnread aim model answers before now) (sym e) u)
    (λ (w : HasOwnText o × (r ≡ NoMemory)). subst (IsUnread aim model answers before now) (sym w.1) (no_text aim model answers before now o w.0 u))
    s

-- bytes that are told and those that were read are the same
told_bytes : (fs : List File) (name told read : List ℕ) → file_at name fs ≡ Some told → file_at name fs ≡ Some read → read ≡ told
told_bytes fs name told read t r = cc

module _ {V : Type 0} (IsFile : List ℕ → V → Type 0) (name : List ℕ) (v : V) where
  not_bad : (holds : Option (List File)) (bytes : List ℕ) → TellsFile IsFile holds name v → Holds holds name bytes → ((w : V) → ¬ IsFile bytes w) → ⊥
  not_bad None bytes t h bad = t
  not_bad (Some fs) bytes t h bad = bad v (subst (λ (b : List ℕ). IsFile b v) (sym (told_bytes fs name t.0 bytes t.1 h)) t.3)

  not_long : (holds : Option (List File)) → TellsFile IsFile holds name v → HoldsLong holds name → ⊥
  not_long None t h = t
  not_long (Some fs) t h =
      let e : h.0 ≡ t.0 = told_bytes fs name t.0 h.0 t.1 h.1 in
      let long = h.2 in
      let short = t.2 in
      absurd (omega (arith, ap (λ (b : List ℕ). length b) e, ap longest_of e))

  told_file : (holds : Option (List File)) (bytes : List ℕ) → TellsFile IsFile holds name v → Holds holds name bytes → IsFile bytes v
  told_file None bytes t h = absurd t
  told_file (Some fs) bytes t h = subst (λ (b : List ℕ). IsFile b v) (sym (told_bytes fs name t.0 bytes t.1 h)) t.3

pub exact_unread : (aim : Goal) (model answers : List ℕ) (before now : FilesState) (m : Machine) (a : Answers) (decision outcome : Outcome) → IsUnread aim model answers before now outcome → TellsFile (IsModelFile aim) before.holds model m → TellsFile IsAnswersFile before.holds answers a
    → DecidesAs decision outcome
exact_unread aim model answers before now m a decision (BadFile role.Model fault) u tm ta = absurd (not_bad (IsModelFile aim) model m before.holds u.0.bytes tm u.0.read.held (subst (λ (g : Goal). (w : Machine) → ¬ IsModelFile g u.0.bytes w) (sym u.2) u.0.bad))
exact_unread aim model answers before now m a decision (BadFile role.Answers fault) u tm ta = absurd (not_bad IsAnswersFile answers a before.holds u.0.3.bytes ta u.0.3.read.held u.0.3.bad)
exact_unread aim model answers before now m a decision (BadFile role.Setup fault) u tm ta = absurd u
exact_unread aim model answers before now m a decision (BadFile role.Table fault) u tm ta = absurd u
exact_unread aim model answers before now m a decision (BadFile role.Prior fault) u tm ta = absurd u
exact_unread aim model answers before now m a decision (BadFile role.Second fault) u tm ta = absurd u
exact_unread aim model answers before now m a decision (BadFile role.Words fault) u tm ta = absurd u
exact_unread aim model answers before now m a decision (BadFile role.Kept fault) u tm ta = absurd u
exact_unread aim model answers before now m a decision (BadFile role.Last fault) u tm ta = absurd u
exact_unread aim model answers before now m a decision (FileTooLong role.Model) u tm ta = absurd (not_long (IsModelFile aim) model m before.holds tm u.0)
exact_unread aim model answers before now m a decision (FileTooLong role.Answers) u tm ta = absurd (not_long IsAnswersFile answers a before.holds ta u.0)
exact_unread aim model answers before now m a decision (FileTooLong role.Setup) u tm ta = absurd u
exact_unread aim model answers before now m a decision (FileTooLong role.Table) u tm ta = absurd u
exact_unread aim model answers before now m a decision (FileTooLong role.Prior) u tm ta = absurd u
exact_unread aim model answers before now m a decision (FileTooLong role.Second) u tm ta = absurd u
exact_unread aim model answers before now m a decision (FileTooLong role.Words) u tm ta = absurd u
exact_unread aim model answers before now m a decision (FileTooLong role.Kept) u tm ta = absurd u
exact_unread aim model answers before now m a decision (FileTooLong role.Last) u tm ta = absurd u
exact_unread aim model answers before now m a decision (FileFault r) u tm ta = inr (inr (inr (r, refl)))
exact_unread aim model answers before now m a decision NoMemory u tm ta = inr (inl refl)
exact_unread aim model answers before now m a decision (Learned h r) u tm ta = absurd u
exact_unread aim model answers before now m a decision (Trial tried) u tm ta = absurd u
exact_unread aim model answers before now m a decision (Yes n) u tm ta = absurd u
exact_unread aim model answers before now m a decision (No v) u tm ta = absurd u
exact_unread aim model answers before now m a decision Usage u tm ta = absurd u
exact_unread aim model answers before now m a decision (Served served) u tm ta = absurd u
exact_unread aim model answers before now m a decision (SulFailed instance) u tm ta = absurd u
exact_unread aim model answers before now m a decision (Gone instance) u tm ta = absurd u
exact_unread aim model answers before now m a decision (BadLine instance line) u tm ta = absurd u
exact_unread aim model answers before now m a decision (BadAsk number) u tm ta = absurd u
exact_unread aim model answers before now m a decision SourceFault u tm ta = absurd u
exact_unread aim model answers before now m a decision (Compared comparison) u tm ta = absurd u
exact_unread aim model answers before now m a decision Asked u tm ta = absurd u
exact_unread aim model answers before now m a decision Helped u tm ta = absurd u
exact_unread aim model answers before now m a decision (Rechecked count) u tm ta = absurd u
exact_unread aim model answers before now m a decision (Accepted states refinements) u tm ta = absurd u
exact_unread aim model answers before now m a decision (BadAcceptor bad) u tm ta = absurd (not_bad (IsModelFile aim) model m before.holds u.0.bytes tm u.0.read.held (subst (λ (g : Goal). (w : Machine) → ¬ IsModelFile g u.0.bytes w) (sym u.2) u.0.bad))
exact_unread aim model answers before now m a decision (NotAcceptor state letter) u tm ta = absurd u
exact_unread aim model answers before now m a decision (UnknownLetter w place) u tm ta = absurd u
exact_unread aim model answers before now m a decision (Unstarted cause) u tm ta = absurd u
exact_unread aim model answers before now m a decision (Alphabets role) u tm ta = absurd u
exact_unread aim model answers before now m a decision (Nondeterministic c) u tm ta = absurd u
exact_unread aim model answers before now m a decision (TooManyStates ws) u tm ta = absurd u
exact_unread aim model answers before now m a decision (SuiteTooLarge n s) u tm ta = absurd u
exact_unread aim model answers before now m a decision SinkFault u tm ta = absurd u

same_pair : (m n : Machine) (a b : Answers) → SameMachine m n → SameAnswers a b → pair_of m a ≡ pair_of n b
same_pair m n a b sm sa = cc (sm.inputs, sm.outputs, sm.mealy, sa.inputs, sa.outputs, sa.answers)

pub exact_read : (aim : Goal) (method : Method) (model answers : List ℕ) (before now : FilesState) (p : Pair) (extra : ℕ) (out out_now : SinkState) (m : Machine) (a : Answers) (decision outcome : Outcome) → ReadsPair aim model answers before now p → ComesTo method p extra out out_now outcome
    → TellsFile (IsModelFile aim) before.holds model m → TellsFile IsAnswersFile before.holds answers a → IsDecision method (pair_of m a) extra decision → DecidesAs decision outcome
exact_read aim method model answers before now p extra out out_now m a decision outcome r comes tm ta d =
    let fm : IsModelFile aim r.model_file.bytes m = told_file (IsModelFile aim) model m before.holds r.model_file.bytes tm r.model_file.read.held in
    let fa : IsAnswersFile r.answers_file.bytes a = told_file IsAnswersFile answers a before.holds r.answers_file.bytes ta r.answers_file.read.held in
    let e : pair_of m a ≡ p = same_pair m r.machine a r.read_answers (one_model aim r.model_file.bytes m r.machine fm r.model_file.file) (one_answers r.answers_file.bytes a r.read_answers fa r.answers_file.file) ∙ sym r.pair in
    let d' : IsDecision method p extra decision = subst (λ (q : Pair). IsDecision method q extra decision) e d in
    ⊎_elim
    (λ (o : IsDecision method p extra outcome). inl (one_decision method p extra outcome decision o d'))
    (λ (s : (outcome ≡ NoMemory) ⊎ ((outcome ≡ SinkFault) × CountedFault out.faults out_now.faults × ((t : Outcome) × IsYesOrNo t × IsDecision method p extra t × TakesSome (text_of p.inputs p.outputs p.kept extra t) out.taken out_now.taken))). ⊎_elim
    (λ (none : outcome ≡ NoMemory). inr (inl none))
    (λ (f : (outcome ≡ SinkFault) × CountedFault out.faults out_now.faults × ((t : Outcome) × IsYesOrNo t × IsDecision method p extra t × TakesSome (text_of p.inputs p.outputs p.kept extra t) out.taken out_now.taken)). inr (inr (inl f.0)))
    s)
    comes

pub yes_is_fixed : (method : Method) (p : Pair) (extra : ℕ) (out out_now : SinkState) (states : ℕ) (outcome : Outcome) → IsMachine p.mealy.inputs p.mealy.rows → ComesTo method p extra out out_now outcome → outcome ≡ Yes states → IsFixed p extra × (states ≡ length p.mealy.rows)
yes_is_fixed method p extra out out_now states outcome machine comes is =
    ⊎_elim
    (λ (o : IsDecision method p extra outcome). let d : IsDecision method p extra (Yes states) = subst (IsDecision method p extra) is o in (
      record {
        names = d.0.0;
        minimal = d.0.2.0;
        gives = d.0.2.1;
        sure = sure_is_sure method p.mealy.inputs p.mealy.rows (answers_of p.kept) extra machine d.0.2;
      },
      d.1,
    ))
    (λ (s : (outcome ≡ NoMemory) ⊎ ((outcome ≡ SinkFault) × CountedFault out.faults out_now.faults × ((t : Outcome) × IsYesOrNo t × IsDecision method p extra t × TakesSome (text_of p.inputs p.outputs p.kept extra t) out.taken out_now.taken))). ⊎_elim
    (λ (none : outcome ≡ NoMemory). let no : NoMemory ≡ Yes states = sym none ∙ is in absurd (cc))
    (λ (f : (outcome ≡ SinkFault) × CountedFault out.faults out_now.faults × ((t : Outcome) × IsYesOrNo t × IsDecision method p extra t × TakesSome (text_of p.inputs p.outputs p.kept extra t) out.taken out_now.taken)). let no : SinkFault ≡ Yes states = sym f.0 ∙ is in absurd (cc))
    s)
    comes
