-- What is told of a setup file.
use Rattle.std.proofs.Common.{◌≡◌, ℕ, List, [], ◌∷◌, ◌++◌, Result, Ok, Err, IfOk, subst, sym}
use Rattle.serde_json.specs.Data.{Data}
use Rattle.lw_json.specs.Formats.{IsJson}
use Rattle.lw_outside.specs.Files.{File}
use Rattle.lw_json.specs.Hint.{hint_of}
use Rattle.lw_system.specs.SetupHint.{TellsHint}
use Rattle.lw_json.specs.declared.hint.SetupFile.{SetupFile}
use Rattle.lw_json.specs.declared.fault.JsonFault.{JsonFault}
use Rattle.lw_system.specs.declared.stops.ReadStop.{ReadStop}

-- of the bytes that one read gave
pub tells_hint : (name bytes seen : List ℕ) (before after : List File) (r : Result SetupFile (ReadStop JsonFault)) → after ≡ before ++ (name, bytes) ∷ [] → seen ≡ bytes → ((d : Data) → IsJson seen d → IfOk r (λ file. file.hint.items ≡ hint_of d)) → IfOk r (λ file. TellsHint name before after file.hint.items)
tells_hint name bytes seen before after (Ok file) given same has = record {
  bytes = bytes;
  rest = [];
  given = given;
  told = λ d is. has d (subst (λ (b : List ℕ). IsJson b d) (sym same) is);
}
tells_hint name bytes seen before after (Err stop) given same has = tt
