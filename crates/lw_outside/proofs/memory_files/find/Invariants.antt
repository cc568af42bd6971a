use Rattle.std.proofs.Common.{◌≡◌, map, take, option_map, string_bytes}
use Rattle.lw_outside.specs.Files.{file_at}
use Rattle.lw_outside.proofs.memory_files.find.Given as goal

abbrev pub invariant-loop-file : goal.invariant-loop-file
invariant-loop-file l = option_map (λ v. v.now.items) l.found ≡ file_at l.name (take l.file-index (map (λ f. (string_bytes f.0, f.1.items)) l.files))
