-- The pigeonhole principle: different numbers below n are at most n.
use Rattle.std.proofs.Common.{◌≡◌, ◌≢◌, ℕ, ◌<◌, ◌≤◌, List, length, true, eqb, refl, zero-add}
use Rattle.std.specs.List.{All, AllPairs, range_with_len}
use Rattle.std.specs.Set.{is_member}
use Rattle.std.specs.Cmp.{unsigned_Decides}
use Rattle.std.proofs.lemmas.Cmp.{nat_eq_equiv}
use Rattle.std.proofs.lemmas.List.Folds.{list_any_at}
use Rattle.std.proofs.lemmas.List.FromFn.{length-range_with_len, get_or-range_with_len}
use Rattle.std.proofs.lemmas.List.Elements.{All-contains}
use Rattle.std.proofs.lemmas.Map.Made.{length-le_from_is_member, IsDistinct-from_AllPairs, is_member-Decides}

in_range : (n q : ℕ) → q < n → is_member eqb (range_with_len 0 n) q ≡ true
in_range n q lt =
    let len : q < length (range_with_len 0 n) = rw (length-range_with_len 0 n) lt in
    list_any_at (eqb q) (range_with_len 0 n) q 0 len (rw (get_or-range_with_len 0 n q 0 lt, zero-add) ((unsigned_Decides q q).1 refl))

below : (n q : ℕ) (xs : List ℕ) → All (λ x. x < n) xs → is_member eqb xs q ≡ true → q < n
below n q xs all m = All-contains (λ x. x < n) xs q all ((is_member-Decides unsigned_Decides xs q).0 m)

pub no_more_than : (n : ℕ) (xs : List ℕ) → All (λ x. x < n) xs → AllPairs (λ x y. x ≢ y) xs → length xs ≤ n
no_more_than n xs all differ = rw (← length-range_with_len 0 n) (length-le_from_is_member nat_eq_equiv xs (range_with_len 0 n) (IsDistinct-from_AllPairs unsigned_Decides xs differ) (λ q m. in_range n q (below n q xs all m)))
