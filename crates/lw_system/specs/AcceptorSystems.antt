-- Systems that are asked for an acceptor, and the files that say one.
use Rattle.std.specs.Prelude.{◌≡◌, ℕ, List, length, Option, Some}
use Rattle.lw_accept.specs.Acceptor.{NamedAcceptor}
use Rattle.lw_accept.specs.AcceptorFile.{AreAcceptorLetters, IsAcceptorFile}
use Rattle.lw_accept.specs.View.{answer_names, asked_names, viewed_machine}
use Rattle.lw_json.specs.SetupFile.{IsSetupFile}
use Rattle.lw_json.specs.declared.files.Machine.{Machine}
use Rattle.lw_json.specs.declared.setup.Command.{Command}
use Rattle.lw_json.specs.declared.setup.Setup.{Setup}
use Rattle.lw_json.specs.declared.setup.Setup.TheVariants as setup
use Rattle.lw_outside.specs.Files.{File, ReadsFile}
use Rattle.lw_system.specs.Systems.{declared_of, letters_of}
use Rattle.lw_system.specs.declared.source.Source.{Source}
use Rattle.lw_system.specs.declared.source.Source.TheVariants as source
use Rattle.lw_system.specs.declared.system.System.{System}
use Rattle.lw_system.specs.declared.system.System.TheVariants.{Table, Children}

-- the machine of an acceptor, with its names
pub record IsViewOf (m : NamedAcceptor) (machine : Machine) : Type 0 where
  pub inputs : machine.inputs ≡ asked_names m.inputs
  pub outputs : machine.outputs ≡ answer_names
  pub mealy : machine.mealy ≡ viewed_machine (length m.inputs) m.automaton

-- the bytes are an acceptor's file, and this is the machine that is asked in its place
abbrev pub IsViewFile : List ℕ → Machine → Type 0
IsViewFile bytes machine = (m : NamedAcceptor) × IsAcceptorFile bytes m × IsViewOf m machine

-- a command whose children are asked `?` too, and answer `yes`, `no` and `ok`; outputs that it declares don't count
abbrev pub asked_command : Command → Command
asked_command c = record { words = c.words; inputs = asked_names c.inputs; outputs = Some answer_names }

-- a setup says this system: the machine of an acceptor whose file was read next, or children
abbrev pub SaysAcceptorSystem : Setup → Option (List File) → List File → List File → System → Type 0
SaysAcceptorSystem (setup.Table name) holds before after s =
    (m : NamedAcceptor) × ReadsFile IsAcceptorFile name holds before after m × ((machine : Machine) × IsViewOf m machine × (s ≡ Table machine))
SaysAcceptorSystem (setup.Command c) holds before after s = (after ≡ before) × AreAcceptorLetters c.inputs × (s ≡ Children (asked_command c))

-- the bytes that were read of the system's file, and of the acceptor file that a setup names, say this system
abbrev pub ReadsAcceptorSystem : Source → List ℕ → Option (List File) → List File → List File → System → Type 0
ReadsAcceptorSystem source.Table name holds before after s = SaysAcceptorSystem (setup.Table name) holds before after s
ReadsAcceptorSystem source.Setup name holds before after s =
    (between : List File) × (v : Setup) × ReadsFile IsSetupFile name holds before between v × SaysAcceptorSystem v holds between after s

-- the system is asked `?` and such letters, and answers `yes`, `no` and `ok`
pub record IsAskedFor (letters : List (List ℕ)) (s : System) : Type 0 where
  pub free : AreAcceptorLetters letters
  pub inputs : letters_of s ≡ asked_names letters
  pub outputs : declared_of s ≡ Some answer_names
