-- Outputs under other names: what a bijection of the numbers makes of rows and of answers.
use Rattle.std.specs.Prelude.{◌≡◌, ℕ, ◌<◌, List, map}
use Rattle.std.specs.List.{All}
use Rattle.lw_words.specs.Word.{Answer}
use Rattle.lw_mealy.specs.Machine.{Row, Rows}

-- g takes back what f does, and f what g does
pub record Renames (f g : ℕ → ℕ) : Type 0 where
  pub back : (y : ℕ) → g (f y) ≡ y
  pub forth : (y : ℕ) → f (g y) ≡ y

abbrev pub renamed_cell : (ℕ → ℕ) → ℕ × ℕ → ℕ × ℕ
renamed_cell f c = (c.0, f c.1)

abbrev pub renamed_row : (ℕ → ℕ) → Row → Row
renamed_row f r = map (renamed_cell f) r

-- each output replaced; targets stay
abbrev pub renamed_rows : (ℕ → ℕ) → Rows → Rows
renamed_rows f m = map (renamed_row f) m

abbrev pub renamed_answer : (ℕ → ℕ) → Answer → Answer
renamed_answer f k = record { word = k.word; outs = map f k.outs }

-- the outputs of each answer replaced; words stay
abbrev pub renamed_answers : (ℕ → ℕ) → List Answer → List Answer
renamed_answers f ks = map (renamed_answer f) ks

-- the outputs of the answers are below a number
abbrev pub OutsBelow : ℕ → List Answer → Type 0
OutsBelow n ks = All (λ k. All (λ y. y < n) k.outs) ks
