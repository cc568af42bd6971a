-- Words that are drawn to test a machine: each goes to one of its states, on by drawn letters, and ends with a word that separates
-- states. Source: the random W-method, with random words between access words and separating words (Smeenk, Moerman, Vaandrager and
-- Jansen 2015); the order of the states and of the numbers is this project's.
use Rattle.std.specs.Prelude.{◌≡◌, ℕ, ◌+◌, ◌*◌, ◌%◌, ◌≤◌, List, [], ◌∷◌, ◌++◌, length, map, slice_index_or}
use Rattle.std.specs.List.{All, range_with_len}
use Rattle.rand_pcg.specs.Lcg.{Lcg}
use Rattle.lw_words.specs.Word.{IsWord}
use Rattle.lw_mealy.specs.Machine.{Rows, IsMachine, IsMinimal}
use Rattle.lw_separate.specs.Canonical.{AreLeastAccess}
use Rattle.lw_separate.specs.Separators.{IsSeparators}
use Rattle.lw_draw.specs.Drawn.{after_draws, draw_at, drawn_word, seeded}
use Rattle.lw_draw.specs.declared.drawing.Drawn.{Drawn}

-- the word that a number says among these: by what it leaves when it is divided by how many they are; of none the empty word
abbrev pub word_by : List (List ℕ) → ℕ → List ℕ
word_by [] number = []
word_by (w ∷ ws) number = slice_index_or (w ∷ ws) (number % length (w ∷ ws)) []

-- walk k over a letters: the access word that k says, n drawn letters, and the end that the next number says
abbrev pub walk_word : (access ends : List (List ℕ)) (a n k : ℕ) → Lcg → List ℕ
walk_word access ends a n k g = (word_by access k ++ drawn_word a n g) ++ word_by ends (draw_at g n)

-- as many walks as are to be drawn. They take their numbers one after the other, from behind those that the walks of machines with fewer
-- states may take: so the walks of another model are drawn anew
abbrev pub walks : (access ends : List (List ℕ)) (a : ℕ) → Drawn → List (List ℕ)
walks access ends a d =
    map (λ k. walk_word access ends a d.length k (after_draws (seeded d.seed) ((length access * d.count + k) * (d.length + 1)))) (range_with_len 0 d.count)

-- the walks of a machine: from each of its states in turn, by the least access words, and with its separating words at their ends
pub record AreWalks (a : ℕ) (m : Rows) (d : Drawn) (words : List (List ℕ)) : Type 0 where
  pub access : List (List ℕ)
  pub ends : List (List ℕ)
  pub least : AreLeastAccess a m access
  pub separating : IsSeparators a m ends
  pub are : words ≡ walks access ends a d

-- a machine has one list of walks of a kind at most
abbrev pub OneWalks : Type 0
OneWalks = (a : ℕ) (m : Rows) (d : Drawn) (u v : List (List ℕ)) → AreWalks a m d u → AreWalks a m d v → u ≡ v

-- a minimal machine has one
abbrev pub SomeWalks : Type 0
SomeWalks = (a : ℕ) (m : Rows) (d : Drawn) → IsMachine a m → IsMinimal a m → (words : List (List ℕ)) × AreWalks a m d words

-- walks are words over the machine's letters
abbrev pub WalksAreOfWords : Type 0
WalksAreOfWords = (a : ℕ) (m : Rows) (d : Drawn) (words : List (List ℕ)) → 1 ≤ a → AreWalks a m d words → All (IsWord a) words
