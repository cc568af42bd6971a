-- An acceptor as a Mealy machine that is asked whether the word before is accepted, and what answers tell of an acceptor.
use Rattle.std.specs.Prelude.{◌≡◌, ℕ, zero, suc, ◌<◌, ◌+◌, List, [], ◌∷◌, ◌++◌, Bool, length, map, flat_map, ◌==◌, if◌then◌else◌, codes}
use Rattle.std.specs.List.{All}
use Rattle.lw_words.specs.Word.{Answer}
use Rattle.lw_mealy.specs.Machine.{Row, Rows, row, cell, MealyMachine, mealy_of}
use Rattle.lw_accept.specs.Acceptor.{Automaton, accepts, question}

-- The letters of the machine are `?`, with number 0, and those of the acceptor, each with one more. The outputs are `yes`, `no` and `ok`.

abbrev pub verdict : Bool → ℕ
verdict accepting = if accepting then 0 else 1

-- the row of a state: `?` stays there and says whether it accepts; another letter goes where it goes, and gives `ok`
abbrev pub viewed_row : ℕ → Bool → List ℕ → Row
viewed_row q accepting r = (q, verdict accepting) ∷ map (λ t. (t, 2)) r

-- the rows of the states from q on
abbrev pub viewed_from : ℕ → List Bool → List (List ℕ) → Rows
viewed_from q [] rows = []
viewed_from q (b ∷ bits) [] = []
viewed_from q (b ∷ bits) (r ∷ rows) = viewed_row q b r ∷ viewed_from (q + 1) bits rows

-- the machine of an acceptor
abbrev pub viewed : Automaton → Rows
viewed m = viewed_from 0 m.accepting m.targets

-- the machine of an acceptor over a letters, with its numbers of letters and outputs
abbrev pub viewed_machine : ℕ → Automaton → MealyMachine
viewed_machine a m = mealy_of (a + 1) 3 (viewed m)

abbrev pub asked_names : List (List ℕ) → List (List ℕ)
asked_names inputs = question ∷ inputs

abbrev pub answer_names : List (List ℕ)
answer_names = codes "yes" ∷ codes "no" ∷ codes "ok" ∷ []

-- What an answer tells: at each `?` whether the word of the other letters before it is accepted. (`yes` says so; `ok`, which no
-- acceptor's machine gives there, would count as `no`.)
abbrev pub told_from : List ℕ → List ℕ → List ℕ → List (List ℕ × Bool)
told_from before [] outs = []
told_from before (x ∷ word) [] = []
told_from before (zero ∷ word) (y ∷ outs) = (before, y == 0) ∷ told_from before word outs
told_from before (suc x ∷ word) (y ∷ outs) = told_from (before ++ x ∷ []) word outs

abbrev pub told : List Answer → List (List ℕ × Bool)
told ks = flat_map (λ k. told_from [] k.word k.outs) ks

-- the acceptor says so of each word
abbrev pub SaysAsTold : Automaton → List (List ℕ × Bool) → Type 0
SaysAsTold m ts = All (λ t. accepts m t.0 ≡ t.1) ts

-- the pair of a state and a letter may be one of an acceptor's machine: `?` stays and gives `yes` or `no`; another letter gives `ok`
abbrev pub MayView : ℕ → ℕ → ℕ × ℕ → Type 0
MayView q zero c = (c.0 ≡ q) × (c.1 < 2)
MayView q (suc x) c = c.1 ≡ 2

-- the pair of this state and letter is in no acceptor's machine, and each before it may be: by state, then by letter
pub record IsFirstUnviewed (m : Rows) (q x : ℕ) : Type 0 where
  pub state : q < length m
  pub letter : x < length (row m q)
  pub fails : ¬ MayView q x (cell m q x)
  pub states : (p y : ℕ) → p < q → y < length (row m p) → MayView p y (cell m p y)
  pub letters : (y : ℕ) → y < x → MayView q y (cell m q y)
