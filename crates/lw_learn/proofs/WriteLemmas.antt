-- Writing out: what the files hold, which calls were made, and what `out` took, by the outcome.
use Rattle.std.proofs.Common.{◌≡◌, ◌≢◌, ◌⊎◌, ◌∙◌, inl, inr, ℕ, ◌++◌, List, [], ◌∷◌, take, Option, Some, None, Result, Ok, Err, OnOk, IsErrAnd, length, refl, sym, subst, ap, append_assoc, append-nil}
use Rattle.lw_words.specs.Cause.{CountedFault}
use Rattle.lw_words.specs.declared.kept.KeptAnswer.{KeptAnswer}
use Rattle.lw_mealy.specs.Machine.{MealyMachine}
use Rattle.lw_json.specs.AnswersText.{IsAnswersText}
use Rattle.lw_json.specs.declared.files.Machine.{Machine}
use Rattle.lw_outside.specs.Files.{Call, File, Holds}
use Rattle.lw_report.specs.Stops.{tell_outcome}
use Rattle.lw_report.specs.Text.{text_of}
use Rattle.lw_report.specs.declared.stops.TellStop.{TellStop}
use Rattle.lw_report.specs.declared.stops.TellStop.TheVariants.{File as FileStop, Sink, NoMemory as NoMemoryToTell}
use Rattle.lw_report.specs.declared.outcome.Outcome.{Outcome}
use Rattle.lw_report.specs.declared.role.Role.{Role}
use Rattle.lw_report.specs.declared.role.Role.TheVariants.{Answers, Kept, Model}
use Rattle.lw_report.specs.declared.outcome.Outcome.TheVariants.{Learned, Trial, Yes, Served, No, Usage, BadFile, Alphabets, FileTooLong, Nondeterministic, NoMemory, SulFailed, Gone, BadLine, BadAsk, TooManyStates, SuiteTooLarge, FileFault, SourceFault, SinkFault, Compared, Asked, Helped, Rechecked, UnknownLetter, Unstarted, Accepted, BadAcceptor, NotAcceptor}
use Rattle.lw_outside.proofs.SinkLemmas.{sink_none}
use Rattle.lw_learn.specs.Arguments.{LearnValues}
use Rattle.lw_learn.specs.Calls.{MadeWrites, all_writes}
use Rattle.lw_system.specs.Reads.{gained}
use Rattle.lw_learn.specs.Outcomes.{IsBeforeOut, IsBehindOut, IsLearnedOutcome, ReportIsTold, told_outcome}
use Rattle.lw_learn.specs.Writing.{AnswersStand, PutsAll, PutsSome, StandsInFile, StaysBesides, WritesFiles, WritesOut}

-- calls gained in two steps
pub gained_twice : (a b : List Call) (first second third : Option (List Call)) → second ≡ gained a first → third ≡ gained b second → third ≡ gained (a ++ b) first
gained_twice a b None second third one two = two ∙ ap (gained b) one
gained_twice a b (Some cs) second third one two = two ∙ (ap (gained b) one ∙ ap (λ (l : List Call). Some l) (append_assoc cs a b))

pub gained_none : (first : Option (List Call)) → first ≡ gained [] first
gained_none None = refl
gained_none (Some cs) = ap (λ (l : List Call). Some l) (sym (append-nil cs))

-- files that stay
pub stays_same : (m a k : Option (List ℕ)) (holds : Option (List File)) → StaysBesides m a k holds holds
stays_same m a k None = refl
stays_same m a k (Some fs) = (fs, refl, λ other one two three. refl)

none_some : (name : List ℕ) → ◌≡◌ {A = Option (List ℕ)} None (Some name) → ⊥
none_some name e = cc

-- what stands in a file stands while others are written
pub holds_beside : (name : List ℕ) (m a k : Option (List ℕ)) (before now : Option (List File)) (bytes : List ℕ) → m ≢ Some name → a ≢ Some name → k ≢ Some name → StaysBesides m a k before now → Holds before name bytes → Holds now name bytes
holds_beside name m a k None now bytes one two three stays holds = subst (λ (h : Option (List File)). Holds h name bytes) (sym stays) tt
holds_beside name m a k (Some fs) now bytes one two three stays holds = subst (λ (h : Option (List File)). Holds h name bytes) (sym stays.1) (stays.2 name one two three ∙ holds)

-- the file of the kept answers is written, then those of the model and the answers
pub stays_joined : (m a k : Option (List ℕ)) (one two three : Option (List File)) → StaysBesides k None None one two → StaysBesides m a None two three → StaysBesides m a k one three
stays_joined m a k None two three first second = subst (λ (h : Option (List File)). StaysBesides m a None h three) first second
stays_joined m a k (Some fs) two three first second =
    let later = subst (λ (h : Option (List File)). StaysBesides m a None h three) first.1 second in
    (later.0, later.1, λ other nm na nk. later.2 other nm na (none_some other) ∙ first.2 other nk (none_some other) (none_some other))

-- what stands in a file stands while another is written
pub stands_beside : (m a : Option (List ℕ)) (before now : Option (List File)) (bytes : List ℕ) → m ≢ a → StaysBesides a None None before now → StandsInFile m before bytes → StandsInFile m now bytes
stands_beside None a before now bytes differ stays stands = tt
stands_beside (Some name) a before now bytes differ stays stands = holds_beside name a None None before now bytes (λ e. differ (sym e)) (none_some name) (none_some name) stays stands

pub take_front : {X : Type 0} (xs ys : List X) → take (length xs) (xs ++ ys) ≡ xs
take_front [] ys = refl
take_front (x ∷ xs) ys = ap (λ l. x ∷ l) (take_front xs ys)

-- what holds anyway
pub always : {T E P : Type 0} (r : Result T E) → P → OnOk r P
always (Ok x) p = p
always (Err e) p = tt

-- an error that is handed on
pub told_err : {T : Type 0} (told : Outcome) (r : Result T TellStop) (stop : TellStop) → IsErrAnd r (λ e. e ≡ stop) → told_outcome told r ≡ tell_outcome stop
told_err told (Ok x) stop h = absurd h
told_err told (Err e) stop h = ap tell_outcome h

puts_none : (file : Option (List ℕ)) (text : List ℕ) (taken : Option (List ℕ)) → PutsSome file text taken taken
puts_none None text taken = (0, sink_none taken text)
puts_none (Some name) text taken = refl

-- what became of `out` where a write ended the call before it
pub out_before : (file : Option (List ℕ)) (text : List ℕ) (taken : Option (List ℕ)) (faults : ℕ × ℕ) (stop : TellStop) → (stop ≡ Sink → ⊥) → (stop ≡ FileStop Kept → ⊥) → WritesOut file text (tell_outcome stop) (taken, taken) faults
out_before file text taken faults (FileStop role) other early = record {
  told = λ is. absurd (early (ap (λ (r : Role). FileStop r) is));
  whole = λ is. let wrong : FileFault role ≡ SinkFault = is in absurd (cc);
  part = puts_none file text taken;
  before = λ _. refl;
}
out_before file text taken faults Sink other early = absurd (other refl)
out_before file text taken faults NoMemoryToTell other early = record { told = λ u. absurd u; whole = λ is. let wrong : NoMemory ≡ SinkFault = is in absurd (cc); part = puts_none file text taken; before = λ _. refl }

-- nor where nothing is written of a model
pub out_untold : (file : Option (List ℕ)) (text : List ℕ) (taken : Option (List ℕ)) (faults : ℕ × ℕ) (outcome : Outcome) → (IsBehindOut outcome → ⊥) → (outcome ≡ SinkFault → ⊥) → WritesOut file text outcome (taken, taken) faults
out_untold file text taken faults outcome behind sink = record { told = λ is. absurd (behind is); whole = λ is. absurd (sink is); part = puts_none file text taken; before = λ _. refl }

pub not_kept : {A B : Type 0} → ((Kept ≡ Model) × A) ⊎ ((Kept ≡ Answers) × B) → ⊥
not_kept (inl both) = let wrong : Kept ≡ Model = both.0 in cc
not_kept (inr both) = let wrong : Kept ≡ Answers = both.0 in cc

-- what became of the files and of `out` where a stream refused, or where the kept answers' file failed before
pub files_behind : (a : LearnValues) (text : List ℕ) (m : Machine) (kept : List KeptAnswer) (holds : Option (List File)) (made : Option (List Call) × Option (List Call)) (stop : TellStop) → (stop ≡ Sink) ⊎ (stop ≡ FileStop Kept) → (a.model ≢ a.answers → StandsInFile a.model holds text) → AnswersStand a.answers holds m kept → made.1 ≡ gained (all_writes a) made.0 → WritesFiles a text m kept (tell_outcome stop) holds made
files_behind a text m kept holds made stop (inl sink) model answers calls = subst (λ (s : TellStop). WritesFiles a text m kept (tell_outcome s) holds made) (sym sink) (record { model = λ _. model; answers = λ _. answers; calls = calls })
files_behind a text m kept holds made stop (inr file) model answers calls = subst (λ (s : TellStop). WritesFiles a text m kept (tell_outcome s) holds made) (sym file) (record { model = λ _. model; answers = λ _. answers; calls = calls })

pub out_behind : (file : Option (List ℕ)) (text : List ℕ) (taken : Option (List ℕ) × Option (List ℕ)) (faults : ℕ × ℕ) (stop : TellStop) → (stop ≡ Sink) ⊎ (stop ≡ FileStop Kept) → (¬ CountedFault faults.0 faults.1 → PutsAll file text taken.0 taken.1) → (stop ≡ FileStop Kept → PutsAll file text taken.0 taken.1) → PutsSome file text taken.0 taken.1 → WritesOut file text (tell_outcome stop) taken faults
out_behind file text taken faults stop (inl sink) whole kept part =
    subst (λ (s : TellStop). WritesOut file text (tell_outcome s) taken faults) (sym sink) (record { told = λ u. absurd u; whole = λ _. whole; part = part; before = λ u. absurd u })
out_behind file text taken faults stop (inr failed) whole kept part = subst (λ (s : TellStop). WritesOut file text (tell_outcome s) taken faults) (sym failed) (record {
  told = λ _. kept failed;
  whole = λ is. let wrong : FileFault Kept ≡ SinkFault = is in absurd (cc);
  part = part;
  before = λ is. absurd (elim is as (λ _. ⊥) [
    | inl e ↦ let wrong : Kept ≡ Model = e in cc
    | inr e ↦ let wrong : Kept ≡ Answers = e in cc
  ]);
})

-- the answers' text stands where a file is named for it
pub answers_stand : (file : Option (List ℕ)) (holds : Option (List File)) (m : Machine) (kept : List KeptAnswer) (text : List ℕ) → (file ≢ None → IsAnswersText m.inputs m.outputs kept text) → StandsInFile file holds text → AnswersStand file holds m kept
answers_stand None holds m kept text is stands = tt
answers_stand (Some name) holds m kept text is stands = (text, is (λ e. let wrong : Some name ≡ None = e in absurd (cc)), stands)

-- the names and the answers in a text
pub text_same : (i j o p : List (List ℕ)) (k l : List KeptAnswer) (extra : ℕ) (outcome : Outcome) → i ≡ j → o ≡ p → k ≡ l → text_of i o k extra outcome ≡ text_of j p l extra outcome
text_same i j o p k l extra outcome one two three =
    ap (λ (x : List (List ℕ)). text_of x o k extra outcome) one ∙ (ap (λ (x : List (List ℕ)). text_of j x k extra outcome) two ∙ ap (λ (x : List KeptAnswer). text_of j p x extra outcome) three)

-- what holds of a model that is told, and of an acceptor that is
pub by_told : (P : Outcome → Type 0) → ((h : MealyMachine) (n : ℕ) → P (Learned h n)) → ((states n : ℕ) → P (Accepted states n)) → (o : Outcome) → IsLearnedOutcome o → P o
by_told P learned accepted (Learned h n) is = learned h n
by_told P learned accepted (Accepted states n) is = accepted states n
by_told P learned accepted (Trial tried) is = absurd is
by_told P learned accepted (Yes states) is = absurd is
by_told P learned accepted (Served served) is = absurd is
by_told P learned accepted (No verdict) is = absurd is
by_told P learned accepted Usage is = absurd is
by_told P learned accepted (BadFile role fault) is = absurd is
by_told P learned accepted (Alphabets role) is = absurd is
by_told P learned accepted (FileTooLong role) is = absurd is
by_told P learned accepted (Nondeterministic clash) is = absurd is
by_told P learned accepted NoMemory is = absurd is
by_told P learned accepted (SulFailed i) is = absurd is
by_told P learned accepted (Gone i) is = absurd is
by_told P learned accepted (BadLine i line) is = absurd is
by_told P learned accepted (BadAsk number) is = absurd is
by_told P learned accepted (TooManyStates words) is = absurd is
by_told P learned accepted (SuiteTooLarge states number) is = absurd is
by_told P learned accepted (FileFault role) is = absurd is
by_told P learned accepted SourceFault is = absurd is
by_told P learned accepted SinkFault is = absurd is
by_told P learned accepted (Compared comparison) is = absurd is
by_told P learned accepted Asked is = absurd is
by_told P learned accepted Helped is = absurd is
by_told P learned accepted (Rechecked answers) is = absurd is
by_told P learned accepted (UnknownLetter word place) is = absurd is
by_told P learned accepted (Unstarted cause) is = absurd is
by_told P learned accepted (BadAcceptor fault) is = absurd is
by_told P learned accepted (NotAcceptor state letter) is = absurd is

-- no write of it stopped
pub told_no_file : (o : Outcome) → IsLearnedOutcome o → (role : Role) → o ≡ FileFault role → ⊥
told_no_file o is role = by_told (λ x. x ≡ FileFault role → ⊥) (λ h n e. let wrong : Learned h n ≡ FileFault role = e in cc) (λ s n e. let wrong : Accepted s n ≡ FileFault role = e in cc) o is

pub told_no_sink : (o : Outcome) → IsLearnedOutcome o → o ≡ SinkFault → ⊥
told_no_sink o is = by_told (λ x. x ≡ SinkFault → ⊥) (λ h n e. let wrong : Learned h n ≡ SinkFault = e in cc) (λ s n e. let wrong : Accepted s n ≡ SinkFault = e in cc) o is

-- all of it was written
pub told_calls : (a : LearnValues) (o : Outcome) (before now : Option (List Call)) → IsLearnedOutcome o → now ≡ gained (all_writes a) before → MadeWrites a o before now
told_calls a o before now is calls = by_told (λ x. MadeWrites a x before now) (λ h n. calls) (λ s n. calls) o is

pub out_told : (file : Option (List ℕ)) (text : List ℕ) (taken : Option (List ℕ) × Option (List ℕ)) (faults : ℕ × ℕ) (o : Outcome) → IsLearnedOutcome o → PutsAll file text taken.0 taken.1 → PutsSome file text taken.0 taken.1 → WritesOut file text o taken faults
out_told file text taken faults o is all some =
    record { told = λ _. all; whole = λ sink. absurd (told_no_sink o is sink); part = some; before = by_told (λ x. IsBeforeOut x → taken.1 ≡ taken.0) (λ h n u. absurd u) (λ s n u. absurd u) o is }

pub report_told : (o result : Outcome) → IsLearnedOutcome o → result ≡ o → ReportIsTold o result
report_told o result is same = subst (ReportIsTold o) (sym same) (by_told (λ x. ReportIsTold x x) (λ h n. refl) (λ s n. refl) o is)
