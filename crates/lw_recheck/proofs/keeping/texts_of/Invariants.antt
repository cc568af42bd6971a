use Rattle.std.proofs.Common.{◌≡◌, map, take, string_bytes}
use Rattle.lw_recheck.proofs.keeping.texts_of.Given as goal

-- the names so far
abbrev pub invariant-loop-n : goal.invariant-loop-n
invariant-loop-n l = map (λ s. string_bytes s) l.texts.items ≡ take l.n l.names
