use Rattle.std.proofs.Common.{◌≡◌, map, take, is_none, string_bytes}
use Rattle.std.specs.List.{filter}
use Rattle.lw_words.specs.Word.{number_of}
use Rattle.lw_compare.proofs.dictionary.lacking.Given as goal

abbrev pub invariant-loop-place : goal.invariant-loop-place
invariant-loop-place l = map (λ s. string_bytes s) l.list.items ≡ filter (λ n. is_none (number_of n l.others)) (take l.place l.names)
