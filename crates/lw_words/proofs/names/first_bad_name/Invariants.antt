use Rattle.std.proofs.Common.{map, string_bytes}
use Rattle.std.specs.List.{AllWithin}
use Rattle.lw_words.specs.Word.{IsName}
use Rattle.lw_words.proofs.names.first_bad_name.Given as goal

abbrev pub invariant-loop-place : goal.invariant-loop-place
invariant-loop-place l = AllWithin IsName (map (λ s. string_bytes s) l.list) 0 l.place
