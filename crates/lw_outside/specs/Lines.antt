-- Lines of bytes, each of which ends in a line feed.
use Rattle.std.specs.Prelude.{ℕ, ◌==◌, List, [], ◌∷◌, if◌then◌else◌}

-- whole lines without their line feeds, and what stands behind the last of them
pub record Split : Type 0 where
  pub lines : List (List ℕ)
  pub rest : List ℕ

-- one more byte in front
abbrev pub led_by : ℕ → List (List ℕ) → List ℕ → Split
led_by b [] rest = record { lines = []; rest = b ∷ rest }
led_by b (l ∷ ls) rest = record { lines = (b ∷ l) ∷ ls; rest = rest }

abbrev pub split_bytes : List ℕ → Split
split_bytes [] = record { lines = []; rest = [] }
split_bytes (b ∷ bs) = if b == 10 then record { lines = [] ∷ (split_bytes bs).lines; rest = (split_bytes bs).rest } else led_by b (split_bytes bs).lines (split_bytes bs).rest

-- the lines that some bytes have, and the bytes behind the last line feed
abbrev pub lines_of : List ℕ → List (List ℕ)
lines_of bytes = (split_bytes bytes).lines

abbrev pub rest_of : List ℕ → List ℕ
rest_of bytes = (split_bytes bytes).rest
