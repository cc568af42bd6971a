-- What the answers of a learning mean.
use Rattle.std.proofs.Common.{ℕ, ◌+◌, ◌*◌, ◌≤◌, length, sym, subst, arith}
use Rattle.std.proofs.Math.Nat.{mul-le-mul_right}
use Rattle.lw_chunks.specs.Size.{powers, suite_size}
use Rattle.lw_cache.proofs.CrowdLemmas.{crowd_needs_states}
use Rattle.lw_rounds.specs.Learner.{access_of}
use Rattle.lw_rounds.specs.Laws.{ModelIsCanonical, ModelIsLeast, TooManyIsNone, TooLargeIsLeast, TooLargeForAll}

pub model_is_canonical : ModelIsCanonical
model_is_canonical a b k ks model is m machine few gives =
    let canonical = is.canonical in
    let same = is.sure m machine few gives in
    record {
      machine = canonical.machine;
      equal = λ w letters. sym (same w letters);
      minimal = canonical.minimal;
      words = canonical.words;
      least = canonical.least;
      rising = canonical.rising;
    }

pub model_is_least : ModelIsLeast
model_is_least kind a b k most ks model l are is m machine gives =
    subst (λ (n : ℕ). n ≤ length m) is.carried.each (crowd_needs_states a m ks (access_of l) machine are gives is.carried.crowd)

pub too_many_is_none : TooManyIsNone
too_many_is_none a most ks words are is m machine few gives =
    let count = is.count in
    let needed : length words ≤ length m = crowd_needs_states a m ks words machine are gives is.crowd in
    omega arith

pub too_large_is_least : TooLargeIsLeast
too_large_is_least a b k most ks model number are is m machine gives =
    subst (λ (n : ℕ). n ≤ length m) is.each (crowd_needs_states a m ks is.words machine are gives is.crowd)

size_rises : (n m a k : ℕ) → n ≤ m → suite_size n a k ≤ suite_size m a k
size_rises n m a k le =
    let one : n * n ≤ m * n = mul-le-mul_right n le in
    let other : n * m ≤ m * m = mul-le-mul_right m le in
    let squares : n * n ≤ m * m = omega arith in
    mul-le-mul_right (powers a (k + 1)) squares

pub too_large_for_all : TooLargeForAll
too_large_for_all a b k most ks model number are is m machine gives =
    let rises = size_rises (length model.rows) (length m) a k (too_large_is_least a b k most ks model number are is m machine gives) in
    omega (arith, is.size, is.large, rises)
