-- What is observed of the model file.
use Rattle.std.specs.Prelude.{◌≡◌, ℕ, ◌<◌, List, [], ◌∷◌, ◌++◌, length, true, Option, Some, None}
use Rattle.lw_json.specs.Formats.{IsMachineFile}
use Rattle.lw_json.specs.declared.files.Machine.{Machine}
use Rattle.lw_outside.specs.Files.{Call, File, file_at, longest_of, read_call}

-- it is observed that these bytes stand under the name
abbrev pub FilesTell : Option (List File) → List ℕ → List ℕ → Type 0
FilesTell None name bytes = ⊥
FilesTell (Some fs) name bytes = file_at name fs ≡ Some bytes

-- it is observed that a machine's file stands under the name, which is not too long
abbrev pub TellsMachine : Option (List File) → List ℕ → Type 0
TellsMachine holds name = (bytes : List ℕ) × FilesTell holds name bytes × (¬ (longest_of bytes < length bytes)) × ((m : Machine) × IsMachineFile bytes m)

-- it is observed that the file of no machine stands under the name
abbrev pub TellsNoMachine : Option (List File) → List ℕ → Type 0
TellsNoMachine holds name = (bytes : List ℕ) × FilesTell holds name bytes × ((m : Machine) → ¬ IsMachineFile bytes m)

-- it is observed that a file that is too long stands under the name
abbrev pub TellsLong : Option (List File) → List ℕ → Type 0
TellsLong holds name = (bytes : List ℕ) × FilesTell holds name bytes × (longest_of bytes < length bytes)

-- it is observed that the one call was a read of the file that failed
abbrev pub TellsFailed : List ℕ → Option (List Call) → Option (List Call) → Type 0
TellsFailed name None now = ⊥
TellsFailed name (Some calls) now = now ≡ Some (calls ++ read_call name true ∷ [])
