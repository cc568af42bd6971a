-- The rounds as the plain learner makes them.
use Rattle.std.specs.Prelude.{◌≡◌, ℕ, ◌+◌, ◌≤◌, List, length, Option, MatchOption, Some, None}
use Rattle.lw_words.specs.declared.kept.KeptAnswer.{KeptAnswer}
use Rattle.lw_mealy.specs.Machine.{MealyMachine, Rows}
use Rattle.lw_cache.specs.Settling.{OracleState}
use Rattle.lw_separate.specs.Canonical.{IsCanonical}
use Rattle.lw_chunks.specs.Size.{suite_size, greatest_suite}
use Rattle.lw_certify.specs.Verdict.{IsSuiteBy}
use Rattle.lw_plain.specs.Rounds.{Task, IsTableAfter, closed_by}
use Rattle.lw_plain.specs.Table.{PlainTable, search_word, split_by}
use Rattle.lw_plain.specs.Tested.{HasTested, TestsWords}
use Rattle.lw_plain.specs.Turns.{AsksInTurn, IsPlainOracle}
use Rattle.lw_table.specs.Plain.{ClosesPlainly, RefinesPlainly}
use Rattle.lw_table.specs.Table.{new_table}
use Rattle.lw_rounds.specs.Learner.{inputs_of, most_of, refinements_of}
use Rattle.lw_rounds.specs.Plain.{by_w, IsLearnedPlainly, LearnsAsPlain}
use Rattle.lw_rounds.specs.declared.hypothesis.Tested.{Tested}
use Rattle.lw_rounds.specs.declared.hypothesis.Tested.TheVariants as tested
use Rattle.lw_rounds.specs.declared.learner.Kind.{Kind}
use Rattle.lw_rounds.specs.declared.learner.Kind.TheVariants as kind
use Rattle.lw_rounds.specs.declared.learner.Learner.{Learner}
use Rattle.lw_rounds.specs.declared.learner.Learner.TheVariants.{Table, Tree}
use Rattle.lw_rounds.specs.declared.settings.Testing.{Testing}

-- a new learner of this kind is the new table
abbrev pub IsNewTable : Kind → ℕ → ℕ → ℕ → Learner → Type 0
IsNewTable of_kind a b most l = of_kind ≡ kind.Table → l ≡ Table (new_table a b most)

-- what closing a table does, and refining it; of a tree nothing is said
abbrev pub ClosesAsPlain : Learner → Learner → OracleState → OracleState → Type 0
ClosesAsPlain (Table t) (Table u) before now = ClosesPlainly t u before now × (u.refinements ≡ t.refinements)
ClosesAsPlain (Table t) (Tree u) before now = ⊥
ClosesAsPlain (Tree t) l before now = Unit {0}

abbrev pub RefinesAsPlain : List ℕ → Learner → Learner → OracleState → OracleState → Type 0
RefinesAsPlain suffix (Table t) (Table u) before now = RefinesPlainly suffix t u before now × (u.refinements ≡ t.refinements + 1)
RefinesAsPlain suffix (Table t) (Tree u) before now = ⊥
RefinesAsPlain suffix (Tree t) l before now = Unit {0}

-- the learner is a table with the access words and the suffixes of this one
abbrev pub IsAt : Learner → PlainTable → Type 0
IsAt (Table t) p = (t.access ≡ p.access) × (t.suffixes ≡ p.suffixes)
IsAt (Tree t) p = ⊥

-- the numbers of a learner's task
pub record IsTaskOf (l : Learner) (k : ℕ) (task : Task) : Type 0 where
  pub letters : task.letters ≡ inputs_of l
  pub extra : task.extra ≡ k
  pub most : task.most ≡ most_of l

-- it is the plain learner's table after as many refinements
pub record IsAtPlain (task : Task) (given : List (List ℕ)) (l : Learner) (p : PlainTable) : Type 0 where
  pub at : IsAt l p
  pub after : IsTableAfter task given (refinements_of l) p

-- a learner was refined by a word on which its machine differs: it is at the table that was split by that word and closed again
pub record IsSplitAt (task : Task) (h : Rows) (w : List ℕ) (l now : Learner) (p : PlainTable) (was is : List KeptAnswer) (split : PlainTable) : Type 0 where
  pub at : IsAt now split
  pub once : refinements_of now ≡ refinements_of l + 1
  pub asks : AsksInTurn task.machine p.batches split.batches was is

abbrev pub RefinesByWord : Rows → List ℕ → Learner → Learner → OracleState → OracleState → Type 0
RefinesByWord h w l refined before now = (k : ℕ) (task : Task) (p : PlainTable) → IsTaskOf l k task → IsAt l p → IsPlainOracle task.machine p.batches before now
    → IsSplitAt task h w l refined p before.kept now.kept (closed_by task (split_by task.letters h p w (search_word task.machine h p.access (length w) w)))

-- words were tested as the plain learner tests them
pub record IsTestedPlainly (m h : Rows) (words : List (List ℕ)) (p : PlainTable) (found : Option (List ℕ)) (was is : List KeptAnswer) : Type 0 where
  pub table : PlainTable
  pub tests : TestsWords m h words p table found
  pub asks : AsksInTurn m p.batches table.batches was is

abbrev pub TestsPlainly : Rows → List (List ℕ) → Option (List ℕ) → OracleState → OracleState → Type 0
TestsPlainly h words found before now = (m : Rows) (p : PlainTable) → IsPlainOracle m p.batches before now → IsTestedPlainly m h words p found before.kept now.kept

-- this many chunks of them were tested
pub record AreTestedPlainly (m h : Rows) (words left : List (List ℕ)) (p : PlainTable) (was is : List KeptAnswer) : Type 0 where
  pub table : PlainTable
  pub tested : HasTested m h words left p table
  pub asks : AsksInTurn m p.batches table.batches was is

abbrev pub TestsOn : Rows → List (List ℕ) → List (List ℕ) → OracleState → OracleState → Type 0
TestsOn h words left before now = (m : Rows) (p : PlainTable) → IsPlainOracle m p.batches before now → AreTestedPlainly m h words left p before.kept now.kept

-- the result of a test of these words: a word that they find, or the model, where they find none
abbrev pub TellsPlainly : Rows → List (List ℕ) → MealyMachine → Tested → OracleState → OracleState → Type 0
TellsPlainly h words model (tested.Differs word) before now = TestsPlainly h words (Some word) before now
TellsPlainly h words model (tested.Sure sure) before now = (sure ≡ model) × TestsPlainly h words None before now

-- the words are the suite of the model, which isn't too large, and all that is asked where no walks are drawn
pub record TellsBySuite (h : Rows) (testing : Testing) (k : ℕ) (model : MealyMachine) (told : Tested) (before now : OracleState) : Type 0 where
  pub suite : List (List ℕ)
  pub made : IsSuiteBy testing.suite model.inputs model.rows k suite
  pub few : suite_size (length model.rows) model.inputs k ≤ greatest_suite
  pub tells : testing.walks ≡ None → TellsPlainly h suite model told before now

-- the model is the canonical form of the machine
pub record TellsByForm (h : MealyMachine) (testing : Testing) (k : ℕ) (told : Tested) (before now : OracleState) : Type 0 where
  pub model : MealyMachine
  pub inputs : model.inputs ≡ h.inputs
  pub canonical : IsCanonical h.inputs h.rows model.rows
  pub by_suite : TellsBySuite h.rows testing k model told before now

-- a learner goes on to a table of the plain learner, whose batches were asked
pub record GoesOnPlainly (task : Task) (given : List (List ℕ)) (now : Learner) (asked : List (List (List ℕ))) (was is : List KeptAnswer) : Type 0 where
  pub table : PlainTable
  pub at : IsAtPlain task given now table
  pub asks : AsksInTurn task.machine asked table.batches was is

-- what is so of a learner that goes on by the W-method from a table of the plain learner, and of one that ends with a model
abbrev pub GoesAsPlain : Learner → Learner → Testing → ℕ → OracleState → OracleState → Type 0
GoesAsPlain l on testing k before now = testing ≡ by_w → (task : Task) (given : List (List ℕ)) (p : PlainTable) → IsTaskOf l k task → IsAtPlain task given l p → IsPlainOracle task.machine p.batches before now
    → GoesOnPlainly task given on p.batches before.kept now.kept

abbrev pub EndsAsPlain : Learner → Learner → Testing → ℕ → Rows → OracleState → OracleState → Type 0
EndsAsPlain l on testing k model before now = testing ≡ by_w → (task : Task) (given : List (List ℕ)) (p : PlainTable) → IsTaskOf l k task → IsAtPlain task given l p → IsPlainOracle task.machine p.batches before now
    → IsLearnedPlainly task given model (refinements_of on) p.batches before.kept now.kept

-- a round does the one or the other
abbrev pub RoundsAsPlain : Learner → Learner → Testing → ℕ → Option MealyMachine → OracleState → OracleState → Type 0
RoundsAsPlain l on testing k found before now = MatchOption found (GoesAsPlain l on testing k before now) (λ model. EndsAsPlain l on testing k model.rows before now)

-- what is so of a learning that begins with a new table
abbrev pub LearnsFromNew : Learner → Learner → Testing → ℕ → Rows → OracleState → OracleState → Type 0
LearnsFromNew l on testing k model before now = (a b most : ℕ) → l ≡ Table (new_table a b most) → LearnsAsPlain kind.Table testing a k most model (refinements_of on) before now
