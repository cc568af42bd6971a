-- Words that are drawn by a number. The generator is that of O'Neill (2014), PCG with 128 bits of state.
use Rattle.std.specs.Prelude.{ℕ, ◌*◌, ◌%◌, List, map}
use Rattle.std.specs.List.{range_with_len}
use Rattle.rand_core.specs.Pcg32Seed.{pcg32_seed}
use Rattle.rand_pcg.specs.Lcg.{Lcg, advance}
use Rattle.rand_pcg.specs.Pcg.{multiplier_128, pcg64, pcg64_of_seed}

-- the generator of a seed
abbrev pub seeded : ℕ → Lcg
seeded seed = pcg64_of_seed (pcg32_seed 32 seed)

-- a generator after this many numbers, and the number that it gives then
abbrev pub after_draws : Lcg → ℕ → Lcg
after_draws g i = advance 128 multiplier_128 i g

abbrev pub draw_at : Lcg → ℕ → ℕ
draw_at g i = (pcg64 (after_draws g i)).0

-- a word of n letters, each below a: one number for each
abbrev pub drawn_word : (a n : ℕ) → Lcg → List ℕ
drawn_word a n g = map (λ i. draw_at g i % a) (range_with_len 0 n)

-- as many words of n letters, which take their numbers one after the other
abbrev pub drawn_words : (a count n seed : ℕ) → List (List ℕ)
drawn_words a count n seed = map (λ k. drawn_word a n (after_draws (seeded seed) (k * n))) (range_with_len 0 count)
