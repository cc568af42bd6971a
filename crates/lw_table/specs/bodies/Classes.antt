-- Rows by class.
use Rattle.std.specs.Prelude.{◌≡◌, ℕ, ◌<◌, ◌≤◌, List, [], ◌∷◌, ◌++◌, length, take, slice_index_or}

-- the row of a class
abbrev pub row_of : List (List (List ℕ)) → ℕ → List (List ℕ)
row_of rows class = slice_index_or rows class []

-- a class has the row of another with a cell more, and the rows before it stay
pub record HasEntered (before now : List (List (List ℕ))) (class : ℕ) (outputs : List ℕ) (entered : ℕ) : Type 0 where
  pub within : entered < length now
  pub row : row_of now entered ≡ row_of before class ++ outputs ∷ []
  pub more : List (List (List ℕ))
  pub stay : now ≡ before ++ more

-- the outputs of the first cells of a row, each of which has one
pub record AreSingles (row : List (List ℕ)) (many : ℕ) (outs : List ℕ) : Type 0 where
  pub count : length outs ≡ many
  pub each : (k : ℕ) → k < many → slice_index_or row k [] ≡ slice_index_or outs k 0 ∷ []

-- the outputs of the first cells so far, from the last one on: this many cells are left, those of a class
pub record InSingles (rows : List (List (List ℕ))) (row : List (List ℕ)) (many left class : ℕ) (outs : List ℕ) : Type 0 where
  pub within : class < length rows
  pub size : length (row_of rows class) ≡ left
  pub front : take left row ≡ row_of rows class
  pub count : length outs ≡ many
  pub each : (k : ℕ) → left ≤ k → k < many → slice_index_or row k [] ≡ slice_index_or outs k 0 ∷ []
