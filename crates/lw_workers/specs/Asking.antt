-- What is kept of words that were asked before a learning.
use Rattle.std.specs.Prelude.{◌≡◌, ◌⊎◌, ℕ, List, [], Contains}
use Rattle.std.specs.List.{All}
use Rattle.lw_words.specs.Word.{IsPrefix}
use Rattle.lw_words.specs.declared.kept.KeptAnswer.{KeptAnswer}

-- the word is empty, or a prefix of the word of a recorded answer
abbrev pub WordIsAnswered : List KeptAnswer → List ℕ → Type 0
WordIsAnswered kept w = (w ≡ []) ⊎ ((k : KeptAnswer) × Contains kept k × IsPrefix w k.word)

-- each of the words is
abbrev pub AnswersWords : List (List ℕ) → List KeptAnswer → Type 0
AnswersWords words kept = All (WordIsAnswered kept) words
