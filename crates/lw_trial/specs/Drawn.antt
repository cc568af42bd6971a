-- Machines that are drawn by a number.
use Rattle.std.specs.Prelude.{ℕ, zero, suc, ◌+◌, ◌*◌, ◌-◌, ◌%◌, nat_eq, map, if◌then◌else◌}
use Rattle.std.specs.List.{range_with_len}
use Rattle.rand_pcg.specs.Lcg.{Lcg}
use Rattle.lw_mealy.specs.Machine.{Row, Rows}
use Rattle.lw_draw.specs.Drawn.{after_draws, draw_at, seeded}

-- of n states, the target and the output of state q at a letter: letter 0 goes round, with output 1 at the last state alone; for
-- each further letter a number says the target, and the next one the output
abbrev pub drawn_cell : Lcg → ℕ → ℕ → ℕ → ℕ × ℕ
drawn_cell g n q zero = ((q + 1) % n, if nat_eq (q + 1) n then 1 else 0)
drawn_cell g n q (suc x) = (draw_at g (2 * x) % n, draw_at g (2 * x + 1) % 2)

-- a row over a letters takes two words for each letter but the first; the rows take theirs one after the other
abbrev pub words_before : ℕ → ℕ → ℕ
words_before a q = q * (2 * (a - 1))

abbrev pub drawn_row : Lcg → ℕ → ℕ → ℕ → Row
drawn_row g n a q = map (drawn_cell (after_draws g (words_before a q)) n q) (range_with_len 0 a)

abbrev pub drawn_rows : ℕ → ℕ → ℕ → Rows
drawn_rows n a seed = map (drawn_row (seeded seed) n a) (range_with_len 0 n)
