-- Reads of files that were made one after the other, and why the last one may have given nothing.
use Rattle.std.specs.Prelude.{◌≡◌, ℕ, List, [], ◌∷◌, ◌++◌, map, true, false, Option, option_map}
use Rattle.lw_words.specs.Cause.{CountedFault}
use Rattle.lw_outside.specs.Files.{Call, File, HoldsLong, read_call, FilesState}
use Rattle.lw_system.specs.Reading.{ReadsBadFile}
use Rattle.lw_system.specs.declared.stops.ReadStop.{ReadStop}
use Rattle.lw_system.specs.declared.stops.ReadStop.TheVariants as stop

-- observed calls, and these
abbrev pub gained : List Call → Option (List Call) → Option (List Call)
gained more calls = option_map (λ cs. cs ++ more) calls

-- reads that gave bytes, one after the other, and then these calls
abbrev pub MadeReads : FilesState → FilesState → List Call → Type 0
MadeReads files_before files_now last = (more : List File) × (files_now.reads ≡ files_before.reads ++ more) × (files_now.calls ≡ gained (map (λ r. read_call r.0 false) more ++ last) files_before.calls)

-- reads of which none failed, some of which gave bytes
abbrev pub MadeSomeReads : FilesState → FilesState → Type 0
MadeSomeReads files_before files_now = ((more : List File) × (files_now.reads ≡ files_before.reads ++ more)) × ((names : List (List ℕ)) × (files_now.calls ≡ gained (map (λ n. read_call n false) names) files_before.calls))

-- why a file of a kind wasn't read
abbrev pub IsNotRead : {V F : Type 0} → (List ℕ → V → Type 0) → (List ℕ → F → Type 0) → List ℕ → FilesState → FilesState → ReadStop F → Type 0
IsNotRead IsFile HasFirst name files_before files_now (stop.Bad fault) = ReadsBadFile IsFile HasFirst name files_before.holds files_before.reads files_now.reads fault × MadeReads files_before files_now []
IsNotRead IsFile HasFirst name files_before files_now stop.TooLong = HoldsLong files_before.holds name × (files_now.reads ≡ files_before.reads) × MadeReads files_before files_now (read_call name false ∷ [])
IsNotRead IsFile HasFirst name files_before files_now stop.Failed = CountedFault files_before.faults files_now.faults × (files_now.reads ≡ files_before.reads) × MadeReads files_before files_now (read_call name true ∷ [])
IsNotRead IsFile HasFirst name files_before files_now stop.NoMemory = MadeSomeReads files_before files_now
