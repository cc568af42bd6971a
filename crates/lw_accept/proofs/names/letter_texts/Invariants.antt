use Rattle.std.proofs.Common.{◌≡◌, ◌≤◌, drop, map, string_bytes, take}
use Rattle.lw_accept.proofs.names.letter_texts.Given as goal

abbrev pub invariant-loop-n : goal.invariant-loop-n
invariant-loop-n l = (1 ≤ l.n) × (map (λ s. string_bytes s) l.list.items ≡ drop 1 (take l.n l.asked))
