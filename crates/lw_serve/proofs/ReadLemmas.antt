-- Reads of the model file, and what is told of them.
use Rattle.std.proofs.Common.{◌≡◌, ℕ, ◌<◌, List, [], ◌∷◌, ◌++◌, length, true, false, Option, Some, None, sym, ◌∙◌, ap, subst, arith, length-append}
use Rattle.std.proofs.lemmas.List.{append_cancel_left}
use Rattle.lw_json.specs.Formats.{IsMachineFile}
use Rattle.lw_json.specs.MachineFault.{IsMachineFault}
use Rattle.lw_json.specs.declared.fault.JsonFault.{JsonFault}
use Rattle.lw_json.specs.declared.files.Machine.{Machine}
use Rattle.lw_outside.specs.Files.{Call, File, Holds, HoldsLong, file_at, longest_of, noted, read_call, ReadsFile}
use Rattle.lw_system.specs.Reading.{ReadsBadFile}
use Rattle.lw_serve.specs.Reading.{FilesTell, TellsFailed, TellsLong, TellsMachine, TellsNoMachine}

-- a read that was answered isn't told as failed
one_call : (name : List ℕ) (calls : List Call) → calls ++ read_call name false ∷ [] ≡ calls ++ read_call name true ∷ [] → ⊥
one_call name calls e =
    let last : read_call name false ∷ [] ≡ read_call name true ∷ [] = append_cancel_left calls (read_call name false ∷ []) (read_call name true ∷ []) e in
    let one : read_call name false ≡ read_call name true = cc in
    let no : false ≡ true = ap (λ (c : Call). c.failed) one in
    cc

pub not_failed : (name : List ℕ) (before now : Option (List Call)) → now ≡ noted (read_call name false) before → TellsFailed name before now → ⊥
not_failed name None now is told = told
not_failed name (Some calls) now is told =
    let both : Some (calls ++ read_call name false ∷ []) ≡ Some (calls ++ read_call name true ∷ []) = sym is ∙ told in
    one_call name calls (cc)

-- nor is no call at all
pub not_called : (name : List ℕ) (before now : Option (List Call)) → now ≡ before → TellsFailed name before now → ⊥
not_called name None now is told = told
not_called name (Some calls) now is told =
    let both : Some calls ≡ Some (calls ++ read_call name true ∷ []) = sym is ∙ told in
    let same : calls ≡ calls ++ read_call name true ∷ [] = cc in
    let longer = length-append calls (read_call name true ∷ []) in
    let sizes : length calls ≡ length (calls ++ read_call name true ∷ []) = ap (λ (l : List Call). length l) same in
    omega (arith, longer, sizes)

-- what is told of a file is what was read of it
same_bytes : (held : Option (List ℕ)) (b c : List ℕ) → held ≡ Some b → held ≡ Some c → b ≡ c
same_bytes held b c one two = cc

told_is_read : (holds : Option (List File)) (name b c : List ℕ) → FilesTell holds name b → Holds holds name c → b ≡ c
told_is_read None name b c told held = absurd told
told_is_read (Some fs) name b c told held = same_bytes (file_at name fs) b c told held

module _ (holds : Option (List File)) (before now : List File) (name : List ℕ) where
  pub long_not_read : (m : Machine) → TellsLong holds name → ReadsFile IsMachineFile name holds before now m → ⊥
  long_not_read m told r =
      let e = told_is_read holds name told.0 r.bytes told.1 r.read.held in
      omega (arith, told.2, r.read.short, ap (λ (l : List ℕ). length l) e, ap longest_of e)

  pub long_not_bad : (fault : JsonFault) → TellsLong holds name → ReadsBadFile IsMachineFile IsMachineFault name holds before now fault → ⊥
  long_not_bad fault told r =
      let e = told_is_read holds name told.0 r.bytes told.1 r.read.held in
      omega (arith, told.2, r.read.short, ap (λ (l : List ℕ). length l) e, ap longest_of e)

  pub bad_not_read : (m : Machine) → TellsNoMachine holds name → ReadsFile IsMachineFile name holds before now m → ⊥
  bad_not_read m told r = told.2 m (subst (λ (b : List ℕ). IsMachineFile b m) (sym (told_is_read holds name told.0 r.bytes told.1 r.read.held)) r.file)

  pub machine_not_bad : (fault : JsonFault) → TellsMachine holds name → ReadsBadFile IsMachineFile IsMachineFault name holds before now fault → ⊥
  machine_not_bad fault told r = r.bad told.3.0 (subst (λ (b : List ℕ). IsMachineFile b told.3.0) (told_is_read holds name told.0 r.bytes told.1 r.read.held) told.3.1)

pub machine_not_long : (holds : Option (List File)) (name : List ℕ) → TellsMachine holds name → HoldsLong holds name → ⊥
machine_not_long None name told long = absurd told.1
machine_not_long (Some fs) name told long = told.2 (subst (λ (b : List ℕ). longest_of b < length b) (sym (same_bytes (file_at name fs) told.0 long.0 told.1 long.1)) long.2)
