use Rattle.std.proofs.Common.{◌≡◌, take, map, string_bytes}
use Rattle.lw_top.proofs.values.copies.Given as goal

abbrev pub invariant-loop-text : goal.invariant-loop-text
invariant-loop-text l = map (λ s. string_bytes s) l.copies.items ≡ map (λ t. t.now) (take l.text-index l.texts)
