-- Systems, and the files that say one.
use Rattle.std.specs.Prelude.{◌≡◌, ℕ, ◌<◌, List, length, Option, Some, None}
use Rattle.lw_json.specs.FitNames.{FitNames}
use Rattle.lw_json.specs.Formats.{IsMachineFile}
use Rattle.lw_json.specs.SetupFile.{IsSetupFile}
use Rattle.lw_json.specs.declared.files.Answers.{Answers}
use Rattle.lw_json.specs.declared.files.Machine.{Machine}
use Rattle.lw_json.specs.declared.setup.Setup.{Setup}
use Rattle.lw_json.specs.declared.setup.Setup.TheVariants as setup
use Rattle.lw_outside.specs.Files.{File, ReadsFile}
use Rattle.lw_system.specs.declared.source.Source.{Source}
use Rattle.lw_system.specs.declared.source.Source.TheVariants as source
use Rattle.lw_system.specs.declared.system.System.{System}
use Rattle.lw_system.specs.declared.system.System.TheVariants.{Table, Children}

-- the names of a system's letters
abbrev pub letters_of : System → List (List ℕ)
letters_of (Table m) = m.inputs
letters_of (Children c) = c.inputs

-- the names of its outputs, where they are declared
abbrev pub declared_of : System → Option (List (List ℕ))
declared_of (Table m) = Some m.outputs
declared_of (Children c) = c.outputs

-- a child is started by some words
abbrev pub HasWords : System → Type 0
HasWords (Table m) = Unit {0}
HasWords (Children c) = 0 < length c.words

-- names that are there, or else these
abbrev pub or_these : List (List ℕ) → Option (List (List ℕ)) → List (List ℕ)
or_these names None = names
or_these names (Some declared) = declared

-- a setup says this system: a machine whose file was read next, or children
abbrev pub SaysSystem : Setup → Option (List File) → List File → List File → System → Type 0
SaysSystem (setup.Table name) holds before after s = (m : Machine) × ReadsFile IsMachineFile name holds before after m × (s ≡ Table m)
SaysSystem (setup.Command c) holds before after s = (after ≡ before) × (s ≡ Children c)

-- the bytes that were read of the system's file, and of the machine file that a setup names, say this system
abbrev pub ReadsSystem : Source → List ℕ → Option (List File) → List File → List File → System → Type 0
ReadsSystem source.Table name holds before after s = (m : Machine) × ReadsFile IsMachineFile name holds before after m × (s ≡ Table m)
ReadsSystem source.Setup name holds before after s = (between : List File) × (v : Setup) × ReadsFile IsSetupFile name holds before between v × SaysSystem v holds between after s

-- the names of answers' letters are the system's, and those of their outputs are among the system's, where these are declared
abbrev pub FitsSystem : Answers → System → Type 0
FitsSystem p s = FitNames p.inputs p.outputs (letters_of s) (or_these p.outputs (declared_of s))
