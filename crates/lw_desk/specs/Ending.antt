-- What a desk leaves: which runs the recorded answers are, by names.
use Rattle.std.specs.Prelude.{ℕ, ◌<◌, ◌==◌, List, length, map, filter, Contains}
use Rattle.lw_words.specs.declared.kept.KeptAnswer.{KeptAnswer}
use Rattle.lw_words.specs.Word.{name_at, named}
use Rattle.lw_names.specs.Naming.{Naming, IsFree, own_names}

-- a run, its word and its outputs by their names
pub record NamedRun : Type 0 where
  pub run : ℕ
  pub word : List ℕ
  pub names : List (List ℕ)

-- the answers of an instance among kept ones, by the names of their outputs
abbrev pub kept_runs : List (List ℕ) → ℕ → List KeptAnswer → List NamedRun
kept_runs names instance kept = map (λ k. record { run = k.run; word = k.word; names = named names k.outs }) (filter (λ k. k.instance == instance) kept)

-- each name that an instance's own numbers stand for is in the shared list
abbrev pub IsShared : Naming → Type 0
IsShared naming = (instance y : ℕ) → y < length (own_names naming instance) → Contains naming.names (name_at (own_names naming instance) y)

-- each of these names came up in a recorded answer: its number is one of the answer's outputs
abbrev pub ComeUp : List KeptAnswer → List (List ℕ) → Type 0
ComeUp kept names = (y : ℕ) → y < length names → (k : KeptAnswer) × Contains kept k × Contains k.outs y

-- where names are free each of the shared list did
abbrev pub FreeComeUp : List KeptAnswer → Naming → Type 0
FreeComeUp kept naming = IsFree naming.brought → ComeUp kept naming.names
