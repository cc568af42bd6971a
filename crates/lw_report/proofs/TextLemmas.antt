-- Texts that take no memory.
use Rattle.std.proofs.Common.{◌≡◌, ℕ, List, Option, Some, None, IfNone, IfSome, refl}
use Rattle.std.specs.Prelude.{unwrap_or}
use Rattle.lw_accept.specs.declared.fault.AcceptorFault.{AcceptorFault}
use Rattle.lw_mealy.specs.Machine.{MealyMachine}
use Rattle.lw_json.specs.declared.fault.JsonFault.{JsonFault}
use Rattle.lw_cache.specs.declared.stops.Clash.{Clash}
use Rattle.lw_certify.specs.declared.verdict.Verdict.{Verdict}
use Rattle.lw_outside.specs.declared.links.StartFailure.{StartFailure}
use Rattle.lw_report.specs.Outcomes.{HasOwnText}
use Rattle.lw_report.specs.declared.comparison.Comparison.{Comparison}
use Rattle.lw_report.specs.declared.role.Role.{Role}
use Rattle.lw_report.specs.declared.outcome.Outcome.{Outcome}
use Rattle.lw_report.specs.declared.outcome.Tried.{Tried}
use Rattle.lw_report.specs.declared.outcome.Outcome.TheVariants.{Learned, Trial, Yes, Served, No, Usage, BadFile, Alphabets, FileTooLong, Nondeterministic, NoMemory, SulFailed, Gone, BadLine, BadAsk, TooManyStates, SuiteTooLarge, FileFault, SourceFault, SinkFault, Compared, Asked, Helped, Rechecked, UnknownLetter, Unstarted, Accepted, BadAcceptor, NotAcceptor}

-- an outcome that is none of those with a text of their own
pub not_own : (o : Outcome) → ((m : MealyMachine) (r : ℕ) → o ≡ Learned m r → ⊥) → ((t : Tried) → o ≡ Trial t → ⊥) → ((r : Role) (f : JsonFault) → o ≡ BadFile r f → ⊥) → ((ws : List (List ℕ)) → o ≡ TooManyStates ws → ⊥)
    → ((n : ℕ) → o ≡ Yes n → ⊥) → ((v : Verdict) → o ≡ No v → ⊥) → ((c : Clash) → o ≡ Nondeterministic c → ⊥) → ((n s : ℕ) → o ≡ SuiteTooLarge n s → ⊥)
    → ((i : ℕ) → o ≡ SulFailed i → ⊥) → ((i : ℕ) → o ≡ Gone i → ⊥) → ((i : ℕ) (l : List ℕ) → o ≡ BadLine i l → ⊥) → ((n : ℕ) → o ≡ BadAsk n → ⊥)
    → ((u : StartFailure) → o ≡ Unstarted u → ⊥) → ((k : Comparison) → o ≡ Compared k → ⊥) → ((n : ℕ) → o ≡ Rechecked n → ⊥) → ((w n : ℕ) → o ≡ UnknownLetter w n → ⊥) → ((n r : ℕ) → o ≡ Accepted n r → ⊥) → ((f : AcceptorFault) → o ≡ BadAcceptor f → ⊥) → ((q x : ℕ) → o ≡ NotAcceptor q x → ⊥) → HasOwnText o → ⊥
not_own (Learned m r) learned trial bad many y n c s failed gone line ask none two again letter accepted fault view own = learned m r refl
not_own (Trial t) learned trial bad many y n c s failed gone line ask none two again letter accepted fault view own = trial t refl
not_own (Yes states) learned trial bad many y n c s failed gone line ask none two again letter accepted fault view own = y states refl
not_own (No v) learned trial bad many y n c s failed gone line ask none two again letter accepted fault view own = n v refl
not_own (BadFile r f) learned trial bad many y n c s failed gone line ask none two again letter accepted fault view own = bad r f refl
not_own (Nondeterministic k) learned trial bad many y n c s failed gone line ask none two again letter accepted fault view own = c k refl
not_own (TooManyStates ws) learned trial bad many y n c s failed gone line ask none two again letter accepted fault view own = many ws refl
not_own (SuiteTooLarge states number) learned trial bad many y n c s failed gone line ask none two again letter accepted fault view own = s states number refl
not_own (SulFailed i) learned trial bad many y n c s failed gone line ask none two again letter accepted fault view own = failed i refl
not_own (Gone i) learned trial bad many y n c s failed gone line ask none two again letter accepted fault view own = gone i refl
not_own (BadLine i l) learned trial bad many y n c s failed gone line ask none two again letter accepted fault view own = line i l refl
not_own (BadAsk i) learned trial bad many y n c s failed gone line ask none two again letter accepted fault view own = ask i refl
not_own (Unstarted u) learned trial bad many y n c s failed gone line ask none two again letter accepted fault view own = none u refl
not_own (Compared k) learned trial bad many y n c s failed gone line ask none two again letter accepted fault view own = two k refl
not_own (Rechecked k) learned trial bad many y n c s failed gone line ask none two again letter accepted fault view own = again k refl
not_own (UnknownLetter w p) learned trial bad many y n c s failed gone line ask none two again letter accepted fault view own = letter w p refl
not_own (Accepted n r) learned trial bad many y n' c s failed gone line ask none two again letter accepted fault view own = accepted n r refl
not_own (BadAcceptor f) learned trial bad many y n c s failed gone line ask none two again letter accepted fault view own = fault f refl
not_own (NotAcceptor q x) learned trial bad many y n c s failed gone line ask none two again letter accepted fault view own = view q x refl
not_own Asked learned trial bad many y n c s failed gone line ask none two again letter accepted fault view own = own
not_own Helped learned trial bad many y n c s failed gone line ask none two again letter accepted fault view own = own
not_own (Served e) learned trial bad many y n c s failed gone line ask none two again letter accepted fault view own = own
not_own Usage learned trial bad many y n c s failed gone line ask none two again letter accepted fault view own = own
not_own (Alphabets r) learned trial bad many y n c s failed gone line ask none two again letter accepted fault view own = own
not_own (FileTooLong r) learned trial bad many y n c s failed gone line ask none two again letter accepted fault view own = own
not_own NoMemory learned trial bad many y n c s failed gone line ask none two again letter accepted fault view own = own
not_own (FileFault r) learned trial bad many y n c s failed gone line ask none two again letter accepted fault view own = own
not_own SourceFault learned trial bad many y n c s failed gone line ask none two again letter accepted fault view own = own
not_own SinkFault learned trial bad many y n c s failed gone line ask none two again letter accepted fault view own = own

-- the fixed text of an outcome that has one
pub fixed_or : {X : Type 0} (now : X → List ℕ) (o : Outcome) (r : Option X) (d : X) (text : List ℕ) → (HasOwnText o → ⊥) → IfNone r (HasOwnText o) → IfSome r (λ x. now x ≡ text) → now (unwrap_or r d) ≡ text
fixed_or now o None d text other none some = absurd (other none)
fixed_or now o (Some x) d text other none some = some

-- what holds of a text for all values holds for some
pub at_values : {X A B C D : Type 0} (now : X → List ℕ) (text : A → B → C → D → List ℕ) (r : Option X) (a : A) (b : B) (c : C) (d : D) → IfSome r (λ x. (a : A) (b : B) (c : C) (d : D) → now x ≡ text a b c d) → IfSome r (λ x. now x ≡ text a b c d)
at_values now text None a b c d some = some
at_values now text (Some x) a b c d some = some a b c d
