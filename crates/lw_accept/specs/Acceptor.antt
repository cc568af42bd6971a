-- Deterministic acceptors (Rabin and Scott 1959), and what is said of them.
use Rattle.std.specs.Prelude.{◌≡◌, ℕ, ◌<◌, ◌≤◌, List, [], ◌∷◌, Bool, false, length, slice_index_or, codes, Contains}
use Rattle.std.specs.List.{All}
use Rattle.lw_words.specs.Word.{IsWord, IsNames}

-- An acceptor is, for each state, whether it accepts, and a row of the next state for each letter. State 0 is initial.
pub record Automaton : Type 0 where
  pub accepting : List Bool
  pub targets : List (List ℕ)

-- each row has one next state for each of a letters, and each next state is one of n
abbrev pub AreComplete : ℕ → ℕ → List (List ℕ) → Type 0
AreComplete a n targets = All (λ r. (length r ≡ a) × All (λ t. t < n) r) targets

-- an acceptor over a letters: at least one state, a bit for each, and for each state and letter a next state
pub record IsAcceptor (a : ℕ) (m : Automaton) : Type 0 where
  pub some_state : 0 < length m.targets
  pub bits : length m.accepting ≡ length m.targets
  pub complete : AreComplete a (length m.targets) m.targets

-- the next state of a state at a letter
abbrev pub target : List (List ℕ) → ℕ → ℕ → ℕ
target targets q x = slice_index_or (slice_index_or targets q []) x 0

-- the state after a word
abbrev pub reached : List (List ℕ) → ℕ → List ℕ → ℕ
reached targets q [] = q
reached targets q (x ∷ w) = reached targets (target targets q x) w

-- whether a state accepts
abbrev pub accepts_in : Automaton → ℕ → Bool
accepts_in m q = slice_index_or m.accepting q false

-- whether a word is accepted: whether the state after it accepts
abbrev pub accepts : Automaton → List ℕ → Bool
accepts m w = accepts_in m (reached m.targets 0 w)

-- both accept the same words over a letters
abbrev pub AcceptAlike : ℕ → Automaton → Automaton → Type 0
AcceptAlike a m n = (w : List ℕ) → IsWord a w → accepts m w ≡ accepts n w

-- An acceptor with the names of its letters.
pub record NamedAcceptor : Type 0 where
  pub inputs : List (List ℕ)
  pub automaton : Automaton

-- 1 to 63 names, so that one more letter fits beside them
abbrev pub AreFewInputs : List (List ℕ) → Type 0
AreFewInputs names = IsNames names × (length names ≤ 63)

-- the name of the letter that asks whether the word before it is accepted
abbrev pub question : List ℕ
question = codes "?"

-- 1 to 63 names, none of them `?`, and an acceptor of 1 to 1,024 states over this many letters
pub record IsNamedAcceptor (m : NamedAcceptor) : Type 0 where
  pub inputs : AreFewInputs m.inputs
  pub free : ¬ Contains m.inputs question
  pub acceptor : IsAcceptor (length m.inputs) m.automaton
  pub few : length m.automaton.targets ≤ 1024
