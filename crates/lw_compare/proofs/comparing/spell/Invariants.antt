use Rattle.std.proofs.Common.{◌≡◌, map, take, string_bytes}
use Rattle.lw_words.specs.Word.{named}
use Rattle.lw_compare.proofs.comparing.spell.Given as goal

abbrev pub invariant-loop-number : goal.invariant-loop-number
invariant-loop-number l = map (λ s. string_bytes s) l.texts.items ≡ named l.names (take l.number-index l.numbers)
