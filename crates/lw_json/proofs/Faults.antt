-- The first fault of a file, from what its parts told.
use Rattle.std.proofs.Common.{◌≡◌, ⊎_elim, ℕ, List, Bool, Some, subst, sym}
use Rattle.std.specs.Result.{IfOk, IfErr, IsErrAnd}
use Rattle.std.specs.declared.result.Result.{Result}
use Rattle.std.specs.declared.result.Result.TheVariants.{Ok, Err}
use Rattle.lw_json.specs.Fault.{HasFault, first_failing}
use Rattle.lw_json.specs.bodies.Told.{Told}
use Rattle.lw_json.specs.declared.fault.Field.{Field}
use Rattle.lw_json.specs.declared.fault.JsonFault.{JsonFault}
use Rattle.lw_json.specs.declared.fault.JsonFault.TheVariants.{NotJson, Shape, Inputs, Outputs, UnknownOutput, Mealy, BadWord, Lengths, NoMemory}

-- a fault that is handed on
pub handed_on : {T E : Type 0} (P : E → Type 0) (r : Result T E) (x : E) → IsErrAnd r (λ e. e ≡ x) → P x → IfErr r P
handed_on P (Ok y) x h p = tt
handed_on P (Err y) x h p = subst P (sym h) p

-- what holds of each value of which P holds
pub value_holds : {T E : Type 0} (P Q : T → Type 0) (r : Result T E) → ((x : T) → P x → Q x) → IfOk r P → IfOk r Q
value_holds P Q (Ok x) each h = each x h
value_holds P Q (Err e) each h = tt

-- what holds of each fault of which P holds
pub fault_holds : {T E : Type 0} (P Q : E → Type 0) (r : Result T E) → ((e : E) → P e → Q e) → IfErr r P → IfErr r Q
fault_holds P Q (Ok x) each h = tt
fault_holds P Q (Err e) each h = each e h

-- a fault that a part told is one of the whole, where each of the part's faults is
pub told_by : {F : Type 0} (wrap : F → JsonFault) (P : F → Type 0) (Q : JsonFault → Type 0) (told : JsonFault) → Told wrap P told → Q NoMemory → ((fault : F) → P fault → Q (wrap fault)) → Q told
told_by wrap P Q told h none each = ⊎_elim (λ e. subst Q (sym e) none) (λ w. subst Q (sym w.1) (each w.0 w.2)) h

module _ {D S : Type 0} (IsRead : List ℕ → D → Type 0) (tests : D → List (Field × Bool)) (Says : D → S → Type 0) (SaysFault : S → JsonFault → Type 0) where
  -- what is read has not its shape
  pub misshapen : (bytes : List ℕ) (d : D) (told : JsonFault) → IsRead bytes d → Told Shape (λ field. first_failing (tests d) ≡ Some field) told → HasFault IsRead tests Says SaysFault bytes told
  misshapen bytes d told read h = told_by Shape (λ field. first_failing (tests d) ≡ Some field) (HasFault IsRead tests Says SaysFault bytes) told h tt (λ field e. (d, read, e))

  -- a fault of what it says
  pub said_fault : (bytes : List ℕ) (d : D) (s : S) → ¬ SaysFault s NotJson → ((field : Field) → ¬ SaysFault s (Shape field)) → IsRead bytes d → Says d s → (told : JsonFault) → SaysFault s told → HasFault IsRead tests Says SaysFault bytes told
  said_fault bytes d s no_text no_shape read says NotJson h = absurd (no_text h)
  said_fault bytes d s no_text no_shape read says (Shape field) h = absurd (no_shape field h)
  said_fault bytes d s no_text no_shape read says (Inputs fault) h = (d, read, (s, says, h))
  said_fault bytes d s no_text no_shape read says (Outputs fault) h = (d, read, (s, says, h))
  said_fault bytes d s no_text no_shape read says (UnknownOutput q x) h = (d, read, (s, says, h))
  said_fault bytes d s no_text no_shape read says (Mealy fault) h = (d, read, (s, says, h))
  said_fault bytes d s no_text no_shape read says (BadWord place) h = (d, read, (s, says, h))
  said_fault bytes d s no_text no_shape read says (Lengths place) h = (d, read, (s, says, h))
  said_fault bytes d s no_text no_shape read says NoMemory h = tt
