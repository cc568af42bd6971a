-- Four machines by hand, and what the definitions say of them.
use Rattle.std.specs.Prelude.{◌≡◌, [], ◌∷◌}
use Rattle.lw_mealy.specs.Machine.{Rows, after, answer, out, IsMinimal, Reached}

-- one state that answers 0
abbrev pub one : Rows
one = ((0, 0) ∷ []) ∷ []

-- a counter modulo three
abbrev pub counter_of_three : Rows
counter_of_three = ((1, 0) ∷ []) ∷ ((2, 0) ∷ []) ∷ ((0, 1) ∷ []) ∷ []

-- states 0 and 2 are alike, and no word leads to state 3
abbrev pub with_equal_states : Rows
with_equal_states = ((1, 0) ∷ []) ∷ ((2, 1) ∷ []) ∷ ((1, 0) ∷ []) ∷ ((0, 1) ∷ []) ∷ []

-- three states in a ring, each with its own output
abbrev pub ring : Rows
ring = ((1, 0) ∷ []) ∷ ((2, 1) ∷ []) ∷ ((0, 2) ∷ []) ∷ []

pub record AsWorked : Type 0 where
  pub one_answers : answer one (0 ∷ 0 ∷ []) ≡ 0 ∷ 0 ∷ []
  pub counter_of_three_answers : answer counter_of_three (0 ∷ 0 ∷ 0 ∷ 0 ∷ 0 ∷ 0 ∷ 0 ∷ []) ≡ 0 ∷ 0 ∷ 1 ∷ 0 ∷ 0 ∷ 1 ∷ 0 ∷ []
  pub counter_of_three_after : after counter_of_three 0 (0 ∷ 0 ∷ 0 ∷ 0 ∷ []) ≡ 1
  pub with_equal_states_answers : answer with_equal_states (0 ∷ 0 ∷ 0 ∷ []) ≡ 0 ∷ 1 ∷ 0 ∷ []
  pub with_equal_states_alike : out with_equal_states 0 (0 ∷ 0 ∷ 0 ∷ []) ≡ out with_equal_states 2 (0 ∷ 0 ∷ 0 ∷ [])
  pub with_equal_states_unreached : ¬ Reached 1 with_equal_states 3
  pub with_equal_states_not_minimal : ¬ IsMinimal 1 with_equal_states
  pub ring_answers : answer ring (0 ∷ 0 ∷ 0 ∷ 0 ∷ []) ≡ 0 ∷ 1 ∷ 2 ∷ 0 ∷ []
  pub one_minimal : IsMinimal 1 one
  pub ring_minimal : IsMinimal 1 ring
