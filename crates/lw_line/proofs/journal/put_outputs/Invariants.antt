use Rattle.std.proofs.Common.{◌≡◌, ◌++◌, take, codes, string_bytes}
use Rattle.std.specs.List.{flat_map}
use Rattle.lw_words.specs.Word.{name_at}
use Rattle.lw_line.proofs.journal.put_outputs.Given as goal

abbrev pub invariant-loop-y : goal.invariant-loop-y
invariant-loop-y l = string_bytes l.text ≡ string_bytes l.initial.text ++ flat_map (λ z. codes " " ++ name_at l.outputs.names z) (take l.y-index l.rest)
