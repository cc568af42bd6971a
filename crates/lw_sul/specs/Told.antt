-- What a system that tells its machine, or its runs, keeps at each call.
use Rattle.std.specs.Prelude.{◌≡◌, ℕ, List, Option, Some, None}
use Rattle.lw_mealy.specs.Machine.{Rows, next, output, answer}

-- a reset of an observed machine goes to state 0
abbrev pub Starts : Option Rows → ℕ → Type 0
Starts None q = Unit {0}
Starts (Some m) q = q ≡ 0

-- a step of an observed machine is the machine's
abbrev pub Steps : Option Rows → ℕ → ℕ → ℕ → ℕ → Type 0
Steps None q x y r = Unit {0}
Steps (Some m) q x y r = (y ≡ output m q x) × (r ≡ next m q x)

-- outputs that are an observed machine's answer to a word
abbrev pub Answers : Option Rows → List ℕ → List ℕ → Type 0
Answers None w o = Unit {0}
Answers (Some m) w o = answer m w ≡ o
