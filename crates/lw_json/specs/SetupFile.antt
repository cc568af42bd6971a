-- The grammar of setup files, and their first fault.
use Rattle.std.specs.Prelude.{◌≡◌, ◌≢◌, ℕ, ◌++◌, List, [], ◌∷◌, Bool, false, not, ◌&&◌, ◌||◌, length, codes, Option, Some, None, is_some, option_map, option_and_then, nat_lt, if◌then◌else◌}
use Rattle.serde_json.specs.Data.{Data}
use Rattle.serde_json.specs.Find.{as_str, get}
use Rattle.lw_words.specs.Word.{IsNames}
use Rattle.lw_words.specs.declared.names.NamesFault.{NamesFault}
use Rattle.lw_json.specs.Fault.{IsFaultOf, HasFault}
use Rattle.lw_json.specs.Formats.{AreInputs, IsJson, is_object, texts_at}
use Rattle.lw_json.specs.declared.fault.Field.{Field}
use Rattle.lw_json.specs.declared.fault.Field.TheVariants as field
use Rattle.lw_json.specs.declared.fault.JsonFault.{JsonFault}
use Rattle.lw_json.specs.declared.fault.JsonFault.TheVariants.{NotJson, Shape, Inputs, Outputs, UnknownOutput, Mealy, BadWord, Lengths, NoMemory}
use Rattle.lw_json.specs.declared.setup.Setup.{Setup}
use Rattle.lw_json.specs.declared.setup.Setup.TheVariants.{Table, Command}

-- the object has this member, whatever its value
abbrev pub has_member : List ℕ → Data → Bool
has_member key d = is_some (get key d)

-- a member that is a text
abbrev pub text_at : List ℕ → Data → Option (List ℕ)
text_at key d = option_and_then as_str (get key d)

-- 1 to 64 texts, the first not empty
abbrev pub is_child_command : List (List ℕ) → Bool
is_child_command [] = false
is_child_command ([] ∷ words) = false
is_child_command ((b ∷ first) ∷ words) = nat_lt (length words) 64

abbrev pub command_at : Data → Option (List (List ℕ))
command_at d = option_and_then (λ words. if is_child_command words then Some words else None) (texts_at (codes "command") d)

-- the outputs, which may be left out
abbrev pub outputs_at : Data → Option (Option (List (List ℕ)))
outputs_at d = if has_member (codes "outputs") d then option_map (λ outputs. Some outputs) (texts_at (codes "outputs") d) else Some None

-- what a setup says, before its names are looked at
pub data WrittenSetup : Type 0 where
  table : List ℕ → WrittenSetup
  command : List (List ℕ) → List (List ℕ) → Option (List (List ℕ)) → WrittenSetup

abbrev pub command_said : Data → Option WrittenSetup
command_said d = option_and_then (λ inputs. option_and_then (λ outputs. option_map (λ words. command words inputs outputs) (command_at d)) (outputs_at d)) (texts_at (codes "inputs") d)

-- one of a table and a command, never both
abbrev pub setup_said : Data → Option WrittenSetup
setup_said d =
    if has_member (codes "command") d
    then (if has_member (codes "table") d then None else command_said d)
    else option_map table (text_at (codes "table") d)

abbrev pub SaysSetup : Data → WrittenSetup → Type 0
SaysSetup d w = setup_said d ≡ Some w

-- the shapes that a setup's members have, in the order of their faults; those of the names count where a command stands alone
abbrev pub setup_tests : Data → List (Field × Bool)
setup_tests d =
    (field.Root, is_object d)
    ∷ (if has_member (codes "command") d && not (has_member (codes "table") d) then (field.Inputs, is_some (texts_at (codes "inputs") d)) ∷ (field.Outputs, is_some (outputs_at d)) ∷ [] else [])
    ++ ((field.Both, not (has_member (codes "command") d && has_member (codes "table") d))
    ∷ (field.Neither, has_member (codes "command") d || is_some (text_at (codes "table") d))
    ∷ (field.Command, not (has_member (codes "command") d) || is_some (command_at d))
    ∷ [])

-- the names, where they aren't left out
abbrev pub AreOutputs : Option (List (List ℕ)) → Type 0
AreOutputs None = Unit {0}
AreOutputs (Some outputs) = IsNames outputs

-- what is said is the setup
abbrev pub SpellsSetup : WrittenSetup → Setup → Type 0
SpellsSetup (table name) (Table t) = t ≡ name
SpellsSetup (table name) (Command c) = ⊥
SpellsSetup (command words inputs outputs) (Table t) = ⊥
SpellsSetup (command words inputs outputs) (Command c) = (c.words ≡ words) × (c.inputs ≡ inputs) × (c.outputs ≡ outputs) × AreInputs inputs × AreOutputs outputs

-- the bytes are a setup file, and this is the setup
abbrev pub IsSetupFile : List ℕ → Setup → Type 0
IsSetupFile bytes s = (d : Data) × IsJson bytes d × ((w : WrittenSetup) × SaysSetup d w × SpellsSetup w s)

-- the first fault of the names of a command
abbrev pub DeclaredFault : Option (List (List ℕ)) → NamesFault → Type 0
DeclaredFault None fault = ⊥
DeclaredFault (Some outputs) fault = IsFaultOf 4096 outputs fault

abbrev pub InputsFault : WrittenSetup → NamesFault → Type 0
InputsFault (table name) fault = ⊥
InputsFault (command words inputs outputs) fault = IsFaultOf 64 inputs fault

abbrev pub OutputsFault : WrittenSetup → NamesFault → Type 0
OutputsFault (table name) fault = ⊥
OutputsFault (command words inputs outputs) fault = AreInputs inputs × DeclaredFault outputs fault

-- what the members of a setup say has this fault first
abbrev pub SaysSetupFault : WrittenSetup → JsonFault → Type 0
SaysSetupFault w NotJson = ⊥
SaysSetupFault w (Shape field) = ⊥
SaysSetupFault w (Inputs fault) = InputsFault w fault
SaysSetupFault w (Outputs fault) = OutputsFault w fault
SaysSetupFault w (UnknownOutput state letter) = ⊥
SaysSetupFault w (Mealy fault) = ⊥
SaysSetupFault w (BadWord place) = ⊥
SaysSetupFault w (Lengths place) = ⊥
SaysSetupFault w NoMemory = Unit {0}

abbrev pub HasSetupFault : List ℕ → JsonFault → Type 0
HasSetupFault bytes fault = HasFault IsJson setup_tests SaysSetup SaysSetupFault bytes fault

-- bytes that are no setup file have this fault first
abbrev pub IsSetupFault : List ℕ → JsonFault → Type 0
IsSetupFault bytes fault = HasSetupFault bytes fault × (fault ≢ NoMemory)
