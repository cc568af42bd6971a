-- Where a model has to be split, by what is known. Source: the splitters of Rivest and Schapire (1993).
use Rattle.std.specs.Prelude.{◌≡◌, ◌≢◌, ℕ, ◌<◌, List, [], ◌∷◌, ◌++◌, length, slice_index_or}
use Rattle.std.specs.List.{All}
use Rattle.lw_words.specs.Word.{Answer, IsWord}
use Rattle.lw_mealy.specs.Machine.{Rows, next, after, answer}
use Rattle.lw_cache.specs.Crowd.{Separates}
use Rattle.lw_cache.specs.Known.{Reads}
use Rattle.lw_cache.specs.declared.cut.Cut.{Cut}

abbrev pub word_at : List (List ℕ) → ℕ → List ℕ
word_at words q = slice_index_or words q []

-- a word for each state of a machine over a letters, which leads to it; the empty one for state 0
pub record AreAccess (a : ℕ) (m : Rows) (access : List (List ℕ)) : Type 0 where
  pub words : All (IsWord a) access
  pub count : length access ≡ length m
  pub lead : (q : ℕ) → q < length m → after m 0 (word_at access q) ≡ q
  pub first : word_at access 0 ≡ []

-- each access word followed by each letter is known, with the machine's outputs
abbrev pub StepsAreRead : List Answer → ℕ → Rows → List (List ℕ) → Type 0
StepsAreRead ks a m access = (q x : ℕ) → q < length m → x < a → Reads ks (word_at access q ++ x ∷ []) (answer m (word_at access q ++ x ∷ []))

-- a cut of a machine over a letters: the known outputs on the suffix, which isn't empty, differ after the state's access word
-- followed by the letter and after that of the target
pub record IsCut (ks : List Answer) (a : ℕ) (m : Rows) (access : List (List ℕ)) (cut : Cut) : Type 0 where
  pub state : cut.state < length m
  pub letter : cut.letter < a
  pub target : cut.target ≡ next m cut.state cut.letter
  pub suffix : IsWord a cut.suffix
  pub some : cut.suffix ≢ []
  pub separates : Separates ks cut.suffix (word_at access cut.state ++ cut.letter ∷ []) (word_at access cut.target)
