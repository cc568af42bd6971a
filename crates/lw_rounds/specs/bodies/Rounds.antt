-- The rounds: what is so of an oracle and a learner between them, and the result of a test.
use Rattle.std.specs.Prelude.{◌≡◌, ℕ, ◌+◌, ◌-◌, ◌<◌, ◌≤◌, List, length, Result, OnOk, IfErr}
use Rattle.lw_words.specs.Word.{Answer, answers_of}
use Rattle.lw_mealy.specs.Machine.{MealyMachine}
use Rattle.lw_cache.specs.Against.{Differs}
use Rattle.lw_cache.specs.Clash.{NothingClashes}
use Rattle.lw_cache.specs.Crowd.{IsCrowd}
use Rattle.lw_cache.specs.Settling.{OracleState, Keeps, MayAsk}
use Rattle.lw_separate.specs.Canonical.{IsCanonical}
use Rattle.lw_cache.specs.declared.stops.AskStop.TheVariants.{NoMemory}
use Rattle.lw_cache.specs.declared.stops.GrowStop.{GrowStop}
use Rattle.lw_cache.specs.declared.stops.GrowStop.TheVariants as grow
use Rattle.lw_chunks.specs.declared.size.SuiteFault.{SuiteFault}
use Rattle.lw_chunks.specs.declared.size.SuiteFault.TheVariants as fault
use Rattle.lw_settle.specs.declared.settling.Settled.{Settled}
use Rattle.lw_settle.specs.declared.settling.Settled.TheVariants.{NoBlock, Replaced}
use Rattle.lw_tree.specs.Tree.{final_discriminators}
use Rattle.lw_rounds.specs.Learner.{kind_of, inputs_of, outputs_of, most_of, access_of, IsLearner, IsRead, IsClosedLearner, HasNoTemporary}
use Rattle.lw_rounds.specs.declared.learner.Kind.{Kind}
use Rattle.lw_rounds.specs.declared.learner.Learner.{Learner}
use Rattle.lw_rounds.specs.declared.learner.Learner.TheVariants.{Table, Tree}
use Rattle.lw_rounds.specs.Learned.{IsCertified, IsEnoughFor, IsLearned, IsTooLarge, IsTooMany, StopsAs}
use Rattle.lw_rounds.specs.declared.settings.Testing.{Testing}
use Rattle.lw_rounds.specs.declared.stops.LearnStop.{LearnStop}
use Rattle.lw_rounds.specs.declared.stops.LearnStop.TheVariants as learn
use Rattle.lw_rounds.specs.declared.hypothesis.Tested.{Tested}
use Rattle.lw_rounds.specs.declared.hypothesis.Tested.TheVariants as tested

-- this many words are pairwise apart
pub record HasCrowd (ks : List Answer) (n : ℕ) : Type 0 where
  pub words : List (List ℕ)
  pub crowd : IsCrowd ks words
  pub each : length words ≡ n

-- a machine that is certified and that the answers are enough for, and that is canonical for the one that was tested
pub record IsSureOf (h : MealyMachine) (testing : Testing) (k : ℕ) (ks : List Answer) (model : MealyMachine) : Type 0 where
  pub certified : IsCertified h.inputs h.outputs k ks model
  pub enough : IsEnoughFor testing h.inputs k ks model
  pub canonical : IsCanonical h.inputs h.rows model.rows

-- the result of a test: a known word on which the machine differs, or its canonical form, which is certified
abbrev pub IsTested : MealyMachine → Testing → ℕ → List Answer → Tested → Type 0
IsTested h testing k ks (tested.Differs word) = Differs h.rows ks word
IsTested h testing k ks (tested.Sure model) = IsSureOf h testing k ks model

-- what is so where a test of a machine of n states stops; it never stops by too many states
abbrev pub StopsTest : ℕ → ℕ → ℕ → ℕ → List Answer → LearnStop → Type 0
StopsTest a b k n ks (learn.Ask stop) = Unit {0}
StopsTest a b k n ks (learn.Crowd words) = ⊥
StopsTest a b k n ks (learn.TooLarge model number) = IsTooLarge a b k n ks model number

-- what is so where a learner that was to grow stops
abbrev pub StopsGrowth : ℕ → List Answer → GrowStop → Type 0
StopsGrowth most ks (grow.Ask stop) = Unit {0}
StopsGrowth most ks (grow.Crowd words) = IsTooMany most ks words

-- why there is no suite of a model is why a test stops
abbrev pub of_fault : MealyMachine → SuiteFault → LearnStop
of_fault model (fault.TooLarge number) = learn.TooLarge model number
of_fault model fault.NoMemory = learn.Ask NoMemory

-- a learner before anything was asked, of which any answers say what it knows
pub record IsNew (kind : Kind) (a b most : ℕ) (l : Learner) : Type 0 where
  pub of_kind : kind_of l ≡ kind
  pub inputs : inputs_of l ≡ a
  pub outputs : outputs_of l ≡ b
  pub limit : most_of l ≡ most
  pub read : (ks : List Answer) → IsRead ks l

-- the kind and the numbers of a learner stay
pub record IsAlike (before now : Learner) : Type 0 where
  pub kind : kind_of now ≡ kind_of before
  pub inputs : inputs_of now ≡ inputs_of before
  pub outputs : outputs_of now ≡ outputs_of before
  pub most : most_of now ≡ most_of before

-- the final nodes of a tree
abbrev pub finals_of : Learner → ℕ
finals_of (Table t) = 0
finals_of (Tree t) = length (final_discriminators t.nodes)

-- how many states and final nodes there may be yet
abbrev pub left_of : Learner → ℕ
left_of l = (most_of l - length (access_of l)) + (most_of l - finals_of l)

abbrev pub GoesOn : Learner → Learner → Type 0
GoesOn before now = left_of now < left_of before

-- a learner once it was to grow: it has no fewer access words, what it knows is what the answers say, and it is closed
pub record Grows {X : Type 0} (ks : List Answer) (before now : Learner) (result : Result X GrowStop) : Type 0 where
  pub alike : IsAlike before now
  pub learner : IsLearner now
  pub read : IsRead ks now
  pub finals : finals_of before ≤ finals_of now
  pub longer : length (access_of before) ≤ length (access_of now)
  pub closed : OnOk result (IsClosedLearner now)
  pub stops : IfErr result (StopsGrowth (most_of before) ks)

-- what a settling did: nothing, where no node is temporary; else one is final that was temporary
abbrev pub SettlesBlock : Learner → Learner → Settled → Type 0
SettlesBlock before now NoBlock = HasNoTemporary now × (now ≡ before)
SettlesBlock before now Replaced = finals_of before < finals_of now

-- an oracle that may be asked, and a closed learner over what it knows
pub record IsReady (o : OracleState) (l : Learner) : Type 0 where
  pub inputs : inputs_of l ≡ o.inputs
  pub outputs : outputs_of l ≡ o.outputs
  pub may : MayAsk o.stop
  pub keeps : Keeps o
  pub nothing : NothingClashes (answers_of o.kept)
  pub learner : IsLearner l
  pub closed : IsClosedLearner l
  pub read : IsRead (answers_of o.kept) l

-- what is learned, and why it isn't, by the kind and the numbers of the learner that a learning began with
pub record IsLearnedFrom (before : Learner) (testing : Testing) (k : ℕ) (ks : List Answer) (model : MealyMachine) (now : Learner) : Type 0 where
  pub learned : IsLearned (kind_of before) (inputs_of before) (outputs_of before) k (most_of before) ks model now
  pub enough : IsEnoughFor testing (inputs_of before) k ks model

abbrev pub StopsFrom : Learner → ℕ → List Answer → LearnStop → Type 0
StopsFrom before k ks stop = StopsAs (inputs_of before) (outputs_of before) k (most_of before) ks stop
