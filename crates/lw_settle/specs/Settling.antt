-- What settling a block of a discrimination tree does, and that there is always one to settle. Source: Isberner, Howar and
-- Steffen (2014).
use Rattle.std.specs.Prelude.{◌≡◌, ◌≢◌, ◌⊎◌, ℕ, ◌<◌, false, List, Result, OnOk, OnErr, IfOk}
use Rattle.lw_words.specs.Word.{Answer}
use Rattle.lw_mealy.specs.Machine.{Gives, Rows, next, output}
use Rattle.lw_cache.specs.declared.stops.GrowStop.{GrowStop}
use Rattle.lw_tree.specs.Blocks.{IsBlock, IsMember, AreOfOneClass, HasFinal, KeepsOutside, StaysInside}
use Rattle.lw_tree.specs.Grown.{HasGrown, OutputsStay, TellsCrowd}
use Rattle.lw_tree.specs.Tree.{TreeState, node_at, temporaries, IsTree, BranchesAreRead, IsClosed, IsMachineOf}
use Rattle.lw_tree.specs.declared.nodes.Content.TheVariants.{Discriminator}
use Rattle.lw_settle.specs.declared.settling.Settled.{Settled}
use Rattle.lw_settle.specs.declared.settling.Settled.TheVariants.{NoBlock, Replaced}

-- a letter parts a block: two of its states answer it differently, or go on to states of different classes
pub record IsParted (t : TreeState) (m : Rows) (r letter : ℕ) : Type 0 where
  pub block : IsBlock t r
  pub small : letter < t.inputs
  pub one : ℕ
  pub other : ℕ
  pub one_member : IsMember t r one
  pub other_member : IsMember t r other
  pub parts : (output m one letter ≢ output m other letter) ⊎ ¬ (AreOfOneClass t (next m one letter) (next m other letter))

-- while a node is temporary, and the tree's machine agrees with the answers, some letter parts some block
abbrev pub SomeBlockIsParted : Type 0
SomeBlockIsParted = (ks : List Answer) (t : TreeState) (m : Rows) → IsTree t → BranchesAreRead ks t → IsClosed t → IsMachineOf t m → Gives m ks → 0 < temporaries t.nodes → (r letter : ℕ) × IsParted t m r letter

-- the root of a block is a final node now, of some word; the final nodes that there were stay, and so does what isn't below that
-- root; what stood below it stands at it or below it, and each output that there was stays
pub record IsReplaced (before now : TreeState) : Type 0 where
  pub root : ℕ
  pub word : List ℕ
  pub block : IsBlock before root
  pub final : HasFinal word before now
  pub content : (node_at now.nodes root).content ≡ Discriminator word false
  pub outside : KeepsOutside root before now
  pub inside : StaysInside root before now
  pub outputs : OutputsStay before now

-- what is answered: no node was temporary, and nothing was done; or one was replaced
abbrev pub IsSettled : TreeState → TreeState → Settled → Type 0
IsSettled before now NoBlock = (temporaries before.nodes ≡ 0) × (now ≡ before)
IsSettled before now Replaced = (0 < temporaries before.nodes) × IsReplaced before now

-- a tree once a block was to be settled; where that was refused, it is as before, or a node was replaced and the
-- tree maybe not closed
pub record HasSettledBlock (ks : List Answer) (before now : TreeState) (result : Result Settled GrowStop) : Type 0 where
  pub grown : HasGrown ks before now
  pub closed : OnOk result (IsClosed now)
  pub settled : IfOk result (IsSettled before now)
  pub left : OnErr result ((now ≡ before) ⊎ IsReplaced before now)
  pub refinements : now.refinements ≡ before.refinements
  pub crowd : TellsCrowd ks now result
