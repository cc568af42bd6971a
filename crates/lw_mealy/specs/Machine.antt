-- Mealy machines (Mealy 1955), and what is said of them.
use Rattle.std.specs.Prelude.{◌≡◌, ℕ, ◌<◌, List, [], ◌∷◌, length, slice_index_or, ◌≢◌, ◌≤◌, ◌+◌}
use Rattle.std.specs.List.{All}
use Rattle.lw_words.specs.Word.{IsWord, Answer}

-- Mealy machines and their answers. Source: Mealy (1955).
-- A machine is one row for each state; a row has one pair for each letter, the next state and the output.

abbrev pub Row : Type 0
Row = List (ℕ × ℕ)

abbrev pub Rows : Type 0
Rows = List Row

-- a machine over a letters: at least one state, and for each state and letter a next state and an output
pub record IsMachine (a : ℕ) (m : Rows) : Type 0 where
  pub some_state : 0 < length m
  pub complete : All (λ r. (length r ≡ a) × All (λ c. c.0 < length m) r) m

abbrev pub row : Rows → ℕ → Row
row m q = slice_index_or m q []

abbrev pub cell : Rows → ℕ → ℕ → ℕ × ℕ
cell m q x = slice_index_or (row m q) x (0, 0)

-- the next state and the output of a state at a letter
abbrev pub next : Rows → ℕ → ℕ → ℕ
next m q x = (cell m q x).0

abbrev pub output : Rows → ℕ → ℕ → ℕ
output m q x = (cell m q x).1

-- the state after a word
abbrev pub after : Rows → ℕ → List ℕ → ℕ
after m q [] = q
after m q (x ∷ w) = after m (next m q x) w

-- the outputs on the way, from a state
abbrev pub out : Rows → ℕ → List ℕ → List ℕ
out m q [] = []
out m q (x ∷ w) = output m q x ∷ out m (next m q x) w

-- the answer of a machine to a word: the outputs on the way from state 0
abbrev pub answer : Rows → List ℕ → List ℕ
answer m w = out m 0 w

-- Minimal machines. Source: Moore (1956).

-- some word leads to the state
abbrev pub Reached : ℕ → Rows → ℕ → Type 0
Reached a m q = (w : List ℕ) × IsWord a w × (after m 0 w ≡ q)

-- on some word the outputs of two states differ
abbrev pub Differ : ℕ → Rows → ℕ → ℕ → Type 0
Differ a m p q = (w : List ℕ) × IsWord a w × (out m p w ≢ out m q w)

-- every state is reached, and any two differ
pub record IsMinimal (a : ℕ) (m : Rows) : Type 0 where
  pub reached : (q : ℕ) → q < length m → Reached a m q
  pub apart : (p q : ℕ) → p < q → q < length m → Differ a m p q

-- Machines that answer alike. Source: Moore (1956).

-- the answers of both to every word over a letters are equal
abbrev pub Equal : ℕ → Rows → Rows → Type 0
Equal a m n = (w : List ℕ) → IsWord a w → answer m w ≡ answer n w

-- What it means that a machine agrees with answers. Source: the observation tables of Angluin (1987).

-- the machine's outputs on the word of each answer are those of the answer
abbrev pub Gives : Rows → List Answer → Type 0
Gives m ks = All (λ k. answer m k.word ≡ k.outs) ks

-- What recorded answers are worth. Source: Vasilevskii (1973) and Chow (1978).

-- every machine over the letters that has at most k states more than h and agrees with the answers equals h on all
-- words.
-- `Worked.antt` of lw_certify shows a machine with answers of which it holds, and answers with a gap of which it doesn't.
abbrev pub Sure : ℕ → Rows → List Answer → ℕ → Type 0
Sure a h ks k = (m : Rows) → IsMachine a m → length m ≤ length h + k → Gives m ks → Equal a m h

-- A machine with its numbers of inputs and outputs.

pub record MealyMachine : Type 0 where
  pub inputs : ℕ
  pub outputs : ℕ
  pub rows : Rows

abbrev pub mealy_of : ℕ → ℕ → Rows → MealyMachine
mealy_of inputs outputs rows = record { inputs = inputs; outputs = outputs; rows = rows }

-- the outputs are below their number
abbrev pub AnswersBelow : ℕ → Rows → Type 0
AnswersBelow b m = All (λ r. All (λ c. c.1 < b) r) m

-- 1 to 64 inputs, 1 to 4,096 outputs and 1 to 1,024 states
pub record IsWithinLimits (t : MealyMachine) : Type 0 where
  pub inputs : (1 ≤ t.inputs) × (t.inputs ≤ 64)
  pub outputs : (1 ≤ t.outputs) × (t.outputs ≤ 4096)
  pub few : length t.rows ≤ 1024
  pub machine : IsMachine t.inputs t.rows
  pub answers : AnswersBelow t.outputs t.rows
