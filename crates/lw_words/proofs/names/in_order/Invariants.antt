use Rattle.std.proofs.Common.{◌≡◌, map, take, string_bytes}
use Rattle.lw_words.specs.Word.{AllDiffer}
use Rattle.lw_words.proofs.names.in_order.Given as goal

abbrev pub invariant-loop-place : goal.invariant-loop-place
invariant-loop-place l = record {
  so_far : map (λ t. t.now) l.names.keys ≡ take l.place (map (λ s. string_bytes s) l.list);
  differ : AllDiffer (take l.place (map (λ s. string_bytes s) l.list));
}
