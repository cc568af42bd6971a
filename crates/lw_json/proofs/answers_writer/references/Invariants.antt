use Rattle.std.proofs.Common.{◌≡◌, map, take}
use Rattle.lw_json.proofs.answers_writer.references.Given as goal

abbrev pub invariant-loop-i : goal.invariant-loop-i
invariant-loop-i l = map (λ k. k.now) l.all.items ≡ take l.i l.kept.answers
