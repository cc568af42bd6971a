use Rattle.std.proofs.Common.{◌≡◌, map, string_bytes, take}
use Rattle.lw_outside.proofs.links.copy_words.Given as goal

abbrev pub invariant-loop-word : goal.invariant-loop-word
invariant-loop-word l = map (λ w. string_bytes w) l.copies.items ≡ map (λ w. string_bytes w) (take l.word-index l.words)
