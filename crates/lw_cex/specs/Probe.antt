-- Counterexample analysis: the words that are asked, and where the counterexample is cut.
-- Source: the binary search of Rivest and Schapire (1993).
use Rattle.std.specs.Prelude.{◌≡◌, ℕ, ◌<◌, List, ◌∷◌, ◌++◌, length}
use Rattle.std.specs.List.{All}
use Rattle.lw_words.specs.declared.kept.KeptAnswer.{KeptAnswer}
use Rattle.lw_mealy.specs.Machine.{Rows, after}
use Rattle.lw_cache.specs.declared.cut.Cut.{Cut}
use Rattle.lw_plain.specs.Table.{probe}

-- the probe at a place within the word; the one at its start would be the word itself
abbrev pub IsProbe : Rows → List (List ℕ) → List ℕ → List ℕ → Type 0
IsProbe m access w v = (i : ℕ) × (0 < i) × (i < length w) × (v ≡ probe m access w i)

-- the recorded answers gain some at their end, each to a probe of the word
pub record AsksProbes (m : Rows) (access : List (List ℕ)) (w : List ℕ) (before now : List KeptAnswer) : Type 0 where
  pub gained : List KeptAnswer
  pub at_end : now ≡ before ++ gained
  pub probes : All (λ k. IsProbe m access w k.word) gained

-- the cut's letter and suffix end the word, and the letters before lead to its state
abbrev pub CutsWord : Rows → List ℕ → Cut → Type 0
CutsWord m w cut = (u : List ℕ) × (w ≡ u ++ cut.letter ∷ cut.suffix) × (cut.state ≡ after m 0 u)
