use Rattle.std.proofs.Common.{List, ℕ, is_lt, nat_cmp, arith, rules}
use Rattle.std.specs.Cmp.Lexicographic.{slice_cmp}
use Rattle.std.proofs.lemmas.Fn.{always_returns_same}
use Rattle.lw_names.proofs.NameOrder.{names_rank, differ_moved, sorted_is}
use Rattle.lw_names.proofs.sorting.sort_names.Goals as goal

pub returns-clause-sorted : goal.returns-clause-sorted
returns-clause-sorted c =
    let now = c.sort_unstable_by.new.self.items in
    sorted_is now (differ_moved c.args.names.now.items now c.sort_unstable_by.ensures.permutation c.requires.differ) (λ k d lt.
    c.sort_unstable_by.ensures.sorted (λ (a b : List ℕ). is_lt (slice_cmp nat_cmp a b)) names_rank (always_returns_same _ _ _ (λ a r q k. search rules)) k d (omega arith) lt)
