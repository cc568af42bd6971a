-- Counts of faults, which never fall and stop at the last value of a u64.
use Rattle.std.specs.Prelude.{ℕ, ◌+◌, ◌-◌, ◌^◌, ◌≤◌, min}

-- the count rose, or stands at its last value
abbrev pub CountedFault : ℕ → ℕ → Type 0
CountedFault before now = min (before + 1) (2 ^ 64 - 1) ≤ now
