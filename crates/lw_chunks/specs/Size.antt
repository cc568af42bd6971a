-- The number that bounds a suite. Source: the count of test words of Vasilevskii (1973) and Chow (1978).
use Rattle.std.specs.Prelude.{ℕ, zero, suc, ◌+◌, ◌*◌, ◌^◌}

-- 1 + a + .. + a^n, the number of words of at most n letters
abbrev pub powers : ℕ → ℕ → ℕ
powers a zero = 1
powers a (suc n) = powers a n + a ^ suc n

-- n·n·(1 + a + .. + a^(k+1)), for n states, a letters and k extra states
abbrev pub suite_size : ℕ → ℕ → ℕ → ℕ
suite_size n a k = n * n * powers a (k + 1)

-- the greatest size of a suite
abbrev pub greatest_suite : ℕ
greatest_suite = 8388608
