-- Shortlex is an order.
use Rattle.std.proofs.Common.{◌≡◌, ℕ, List, length, nat_cmp}
use Rattle.std.specs.Ordering.{ordering_then}
use Rattle.std.specs.declared.cmp.Ordering.{Ordering}
use Rattle.std.specs.declared.cmp.Ordering.TheVariants.{Less, Equal, Greater}
use Rattle.std.specs.Cmp.Lexicographic.{slice_cmp}
use Rattle.std.specs.FinMap.{slice_cmp-IsAntisymmetric, nat_cmp-IsAntisymmetric}
use Rattle.std.proofs.lemmas.Cmp.{then_total, on_total, nat_cmp_total, nat_list_cmp_total}
use Rattle.lw_words.specs.Word.{IsOrderOfWords}

second-equal : (r s : Ordering) → ordering_then r s ≡ Equal → s ≡ Equal
second-equal r s = elim r as (λ r. ordering_then r s ≡ Equal → s ≡ Equal) [
  | Less ↦ λ e. Prim.cc e
  | Equal ↦ λ e. e
  | Greater ↦ λ e. Prim.cc e
]

pub is_order : IsOrderOfWords
is_order = (
  then_total (on_total (λ (w : List ℕ). length w) nat_cmp_total) nat_list_cmp_total,
  λ a b e. slice_cmp-IsAntisymmetric nat_cmp-IsAntisymmetric a b
      (second-equal (nat_cmp (length a) (length b)) (slice_cmp nat_cmp a b) e),
)
