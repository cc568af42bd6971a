-- Recorded answers over numbered letters and outputs.
use Rattle.std.specs.Prelude.{ℕ, ◌≤◌, List}
use Rattle.std.specs.List.{All}
use Rattle.lw_words.specs.Word.{IsWholeKept, IsWord}
use Rattle.lw_words.specs.declared.kept.KeptAnswer.{KeptAnswer}

-- a recorded answer over a inputs and b outputs, of an instance up to 16
pub record IsKeptOver (a b : ℕ) (k : KeptAnswer) : Type 0 where
  pub instance : k.instance ≤ 16
  pub word : IsWord a k.word
  pub outs : IsWord b k.outs
  pub even : IsWholeKept k

abbrev pub AreKeptOver : ℕ → ℕ → List KeptAnswer → Type 0
AreKeptOver a b ks = All (IsKeptOver a b) ks
