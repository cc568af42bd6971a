-- Batches that are asked of an oracle one after the other, where it asks exactly the words that have to be asked.
use Rattle.std.specs.Prelude.{◌≡◌, List, ℕ, [], ◌∷◌, ◌++◌, map, true, Ok}
use Rattle.lw_words.specs.Word.{answers_of}
use Rattle.lw_words.specs.declared.kept.KeptAnswer.{KeptAnswer}
use Rattle.lw_mealy.specs.Machine.{Rows, Gives}
use Rattle.lw_cache.specs.Settling.{OracleState, Settles}
use Rattle.lw_plain.specs.Known.{KnowsWords}
use Rattle.lw_plain.specs.Rounds.{asked_words}
use Rattle.lw_plain.specs.Taken.{AreTakenInTurn}

-- batches were asked behind others: what is known gains their words, and the answers that came are to the words taken from them
pub record AsksInTurn (m : Rows) (before now : List (List (List ℕ))) (was is : List KeptAnswer) : Type 0 where
  pub more : List (List (List ℕ))
  pub behind : now ≡ before ++ more
  pub gained : List KeptAnswer
  pub at_end : is ≡ was ++ gained
  pub knows : KnowsWords m (asked_words now) (answers_of is)
  pub taken : AreTakenInTurn (asked_words before) more (map (λ k. k.word) gained)

-- an oracle before a call and after it: it asks exactly what has to be asked, these batches were asked of it, and all of its answers
-- are a machine's
pub record IsPlainOracle (m : Rows) (asked : List (List (List ℕ))) (before now : OracleState) : Type 0 where
  pub exact : before.exact ≡ true
  pub knows : KnowsWords m (asked_words asked) (answers_of before.kept)
  pub gives : Gives m (answers_of now.kept)

-- of such an oracle one batch more is asked
abbrev pub AsksBatch : List (List ℕ) → OracleState → OracleState → Type 0
AsksBatch batch before now = (m : Rows) (asked : List (List (List ℕ))) → IsPlainOracle m asked before now → AsksInTurn m asked (asked ++ batch ∷ []) before.kept now.kept

-- a batch that was settled is asked
abbrev pub SettledIsAsked : Type 0
SettledIsAsked = (batch : List (List ℕ)) (before now : OracleState) → Settles batch before now (Ok tt) → AsksBatch batch before now

-- batches behind others
abbrev pub AsksOnAndOn : Type 0
AsksOnAndOn = (m : Rows) (first next last : List (List (List ℕ))) (was between is : List KeptAnswer) → AsksInTurn m first next was between
    → AsksInTurn m next last between is → AsksInTurn m first last was is
