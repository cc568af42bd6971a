-- What is reported of a setup file that was read.
use Rattle.std.specs.Prelude.{◌≡◌, ℕ, List, ◌∷◌, ◌++◌, Result, Ok, Err}
use Rattle.serde_json.specs.Data.{Data}
use Rattle.lw_json.specs.Formats.{IsJson}
use Rattle.lw_json.specs.declared.setup.Setup.{Setup}
use Rattle.lw_outside.specs.Files.{File}
use Rattle.lw_json.specs.Hint.{hint_of}
use Rattle.lw_json.specs.declared.hint.SetupFile.{SetupFile}
use Rattle.lw_json.specs.declared.fault.JsonFault.{JsonFault}
use Rattle.lw_system.specs.declared.stops.ReadStop.{ReadStop}

-- the setup in what was read
abbrev pub setup_in : Result SetupFile (ReadStop JsonFault) → Result Setup (ReadStop JsonFault)
setup_in (Ok file) = Ok file.setup
setup_in (Err stop) = Err stop

-- the first of these reads gave bytes of the named file, and the hint is that of their members
pub record TellsHint (name : List ℕ) (before after : List File) (hint : List ℕ) : Type 0 where
  pub bytes : List ℕ
  pub rest : List File
  pub given : after ≡ before ++ (name, bytes) ∷ rest
  pub told : (d : Data) → IsJson bytes d → hint ≡ hint_of d
