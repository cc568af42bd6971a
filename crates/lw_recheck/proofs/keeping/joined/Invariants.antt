use Rattle.std.proofs.Common.{map, string_bytes}
use Rattle.lw_names.specs.Names.{IsGrown}
use Rattle.lw_recheck.proofs.keeping.joined.Given as goal

-- nothing but names behind the others
abbrev pub invariant-loop-y : goal.invariant-loop-y
invariant-loop-y g l = IsGrown l.names (map (λ s. string_bytes s) l.texts.items)
