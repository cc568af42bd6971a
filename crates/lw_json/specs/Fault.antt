-- The first fault of a file, for each kind of file.
use Rattle.std.specs.Prelude.{◌≡◌, ◌≢◌, ℕ, List, [], ◌∷◌, Bool, Option, Some, None, if◌then◌else◌}
use Rattle.lw_words.specs.Name as names
use Rattle.lw_words.specs.declared.names.NamesFault.{NamesFault}
use Rattle.lw_words.specs.declared.names.NamesFault.TheVariants as names_fault
use Rattle.lw_json.specs.declared.fault.Field.{Field}
use Rattle.lw_json.specs.declared.fault.JsonFault.{JsonFault}
use Rattle.lw_json.specs.declared.fault.JsonFault.TheVariants.{NotJson, Shape, Inputs, Outputs, UnknownOutput, Mealy, BadWord, Lengths, NoMemory}

-- the first of the tests that fails, by the field that it is of
abbrev pub first_failing : {F : Type 0} → List (F × Bool) → Option F
first_failing [] = None
first_failing (t ∷ ts) = if t.1 then first_failing ts else Some t.0

-- the first fault of a list that is to be of 1 to `limit` names
abbrev pub IsFaultOf : ℕ → List (List ℕ) → NamesFault → Type 0
IsFaultOf limit list fault = names.HasFault limit list fault × (fault ≢ names_fault.NoMemory)

-- the first fault of bytes: nothing is read of them; else a test of the shapes of what is read fails; else what it says has the fault.
-- Out of memory may come in place of any answer.
module _ {D S : Type 0} (IsRead : List ℕ → D → Type 0) (tests : D → List (Field × Bool)) (Says : D → S → Type 0) (SaysFault : S → JsonFault → Type 0) where
  abbrev SaidFault : List ℕ → JsonFault → Type 0
  SaidFault bytes fault = (d : D) × IsRead bytes d × ((s : S) × Says d s × SaysFault s fault)

  abbrev pub HasFault : List ℕ → JsonFault → Type 0
  HasFault bytes NotJson = (d : D) → ¬ IsRead bytes d
  HasFault bytes (Shape field) = (d : D) × IsRead bytes d × (first_failing (tests d) ≡ Some field)
  HasFault bytes (Inputs fault) = SaidFault bytes (Inputs fault)
  HasFault bytes (Outputs fault) = SaidFault bytes (Outputs fault)
  HasFault bytes (UnknownOutput state letter) = SaidFault bytes (UnknownOutput state letter)
  HasFault bytes (Mealy fault) = SaidFault bytes (Mealy fault)
  HasFault bytes (BadWord place) = SaidFault bytes (BadWord place)
  HasFault bytes (Lengths place) = SaidFault bytes (Lengths place)
  HasFault bytes NoMemory = Unit {0}

-- bytes of a grammar have no fault
abbrev pub NoneIsFaulty : {V : Type 0} → (List ℕ → V → Type 0) → (List ℕ → JsonFault → Type 0) → Type 0
NoneIsFaulty {V} IsFile HasFirst = (bytes : List ℕ) (v : V) (fault : JsonFault) → IsFile bytes v → HasFirst bytes fault → fault ≡ NoMemory

-- no bytes have two first faults, but that memory may be wanted
abbrev pub HasOneFault : (List ℕ → JsonFault → Type 0) → Type 0
HasOneFault HasFirst = (bytes : List ℕ) (f g : JsonFault) → HasFirst bytes f → HasFirst bytes g → f ≢ NoMemory → g ≢ NoMemory → f ≡ g
