use Rattle.std.proofs.Common.{◌≡◌, ◌∷◌, map, string_bytes, take}
use Rattle.lw_accept.specs.Acceptor.{question}
use Rattle.lw_accept.proofs.names.asked_texts.Given as goal

abbrev pub invariant-loop-n : goal.invariant-loop-n
invariant-loop-n l = map (λ s. string_bytes s) l.list.items ≡ question ∷ take l.n l.inputs
