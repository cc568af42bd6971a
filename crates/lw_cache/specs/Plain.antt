-- What the plain body keeps: for each answer whether it is clear.
use Rattle.std.specs.Prelude.{◌≡◌, ◌↔◌, ℕ, ◌<◌, Bool, true, false, List, length, slice_index_or}
use Rattle.lw_words.specs.Word.{Answer}
use Rattle.lw_cache.specs.Clash.{IsClear}

-- one flag for each of the first n answers, true exactly where it is clear
pub record AreFlags (ks : List Answer) (n : ℕ) (flags : List Bool) : Type 0 where
  pub long : length flags ≡ n
  pub each : (i : ℕ) → i < n → (slice_index_or flags i false ≡ true) ↔ IsClear ks i
