-- The names of the letters of an acceptor's machine.
use Rattle.std.specs.Prelude.{◌≡◌, ℕ, List, Some, slice_get}
use Rattle.lw_json.specs.Fault.{IsFaultOf}
use Rattle.lw_accept.specs.Acceptor.{AreFewInputs, question}
use Rattle.lw_accept.specs.AcceptorFile.{AreAcceptorLetters}
use Rattle.lw_accept.specs.declared.fault.AcceptorFault.{AcceptorFault}
use Rattle.lw_accept.specs.declared.fault.AcceptorFault.TheVariants.{Inputs, Reserved, NoMemory}

-- why `?` can't stand before these names: they are more than 63, or `?` is one of them; or memory ran out, and they have room
abbrev pub HaveNoRoom : List (List ℕ) → AcceptorFault → Type 0
HaveNoRoom names (Inputs fault) = IsFaultOf 63 names fault
HaveNoRoom names (Reserved place) = AreFewInputs names × (slice_get names place ≡ Some question)
HaveNoRoom names NoMemory = AreAcceptorLetters names
HaveNoRoom names _ = ⊥
