use Rattle.std.proofs.Common.{◌≡◌, ◌++◌, drop, map, string_bytes}
use Rattle.lw_json.proofs.output_names.owned.Given as goal

abbrev pub invariant-loop-text : goal.invariant-loop-text
invariant-loop-text l = map (λ s. string_bytes s) l.owned.items ++ map (λ t. t.now) (drop l.text-index l.texts) ≡ map (λ t. t.now) l.texts
