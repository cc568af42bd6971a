-- What a call that asks leaves of a tree.
use Rattle.std.specs.Prelude.{◌≡◌, ◌≢◌, ◌⊎◌, ℕ, ◌+◌, ◌<◌, List, [], ◌∷◌, ◌++◌, length, Bool, true, false, Some, Result, Err, OnOk, OnErr, IfOk, Contains, ⊤}
use Rattle.lw_words.specs.Word.{Answer}
use Rattle.lw_cache.specs.Crowd.{IsCrowd}
use Rattle.lw_cache.specs.Cut.{word_at}
use Rattle.lw_cache.specs.declared.cut.Cut.{Cut}
use Rattle.lw_cache.specs.declared.stops.GrowStop.{GrowStop}
use Rattle.lw_cache.specs.declared.stops.GrowStop.TheVariants.{Crowd}
use Rattle.lw_tree.specs.Tree.{TreeState, discriminator, discriminators, final_discriminators, temporaries, is_open, node_at, place_at, place_of, IsLive, IsAbove, IsTree, BranchesAreRead, IsClosed, HasOpen}
use Rattle.lw_tree.specs.declared.nodes.Content.TheVariants.{Discriminator}

-- the same numbers, more access words at the end, and a tree whose branches are what the answers say
pub record HasGrown (ks : List Answer) (before now : TreeState) : Type 0 where
  pub inputs : now.inputs ≡ before.inputs
  pub outputs : now.outputs ≡ before.outputs
  pub most : now.most ≡ before.most
  pub more : List (List ℕ)
  pub access : now.access ≡ before.access ++ more
  pub tree : IsTree now
  pub read : BranchesAreRead ks now

-- a node at which something stood is as it was
abbrev pub NodesStay : TreeState → TreeState → Type 0
NodesStay before now = (n : ℕ) → IsLive (node_at before.nodes n).content → node_at now.nodes n ≡ node_at before.nodes n

-- a transition that had a target stands where it stood, with the same output
abbrev pub TargetsStay : TreeState → TreeState → Type 0
TargetsStay before now = (k : ℕ) → is_open (node_at before.nodes) (place_at before.places k) ≡ false → place_at now.places k ≡ place_at before.places k

-- each transition stands where it stood, or below
abbrev pub PlacesDescend : TreeState → TreeState → Type 0
PlacesDescend before now = (k : ℕ) → IsAbove (node_at now.nodes) (place_at before.places k).node (place_at now.places k).node

-- an output that a transition had stays
abbrev pub OutputsStay : TreeState → TreeState → Type 0
OutputsStay before now = (k y : ℕ) → (place_at before.places k).output ≡ Some y → (place_at now.places k).output ≡ Some y

-- nodes, targets and outputs stay, and no transition stands higher up; the discriminators and the count of refinements are as
-- before
pub record KeepsTree (before now : TreeState) : Type 0 where
  pub nodes : NodesStay before now
  pub targets : TargetsStay before now
  pub descends : PlacesDescend before now
  pub outputs : OutputsStay before now
  pub discriminators_are : discriminators now.nodes ≡ discriminators before.nodes
  pub finals : final_discriminators now.nodes ≡ final_discriminators before.nodes
  pub temporary : temporaries now.nodes ≡ temporaries before.nodes
  pub refinements : now.refinements ≡ before.refinements

-- a word by which a level is asked: that of a transition that has no target, or that followed by the discriminator where it stands
pub record IsLevelWord (t : TreeState) (word : List ℕ) : Type 0 where
  pub state : ℕ
  pub letter : ℕ
  pub suffix : List ℕ
  pub from : state < length t.access
  pub small : letter < t.inputs
  pub stands : is_open (node_at t.nodes) (place_of t.inputs t.places state letter) ≡ true
  pub told : (suffix ≡ []) ⊎ (suffix ≡ discriminator (node_at t.nodes (place_of t.inputs t.places state letter).node).content)
  pub word_is : word ≡ word_at t.access state ++ letter ∷ suffix

-- a word by which a tree is sifted: an access word and a letter, or these followed by a discriminator
pub record IsSifted (t : TreeState) (word : List ℕ) : Type 0 where
  pub state : ℕ
  pub letter : ℕ
  pub suffix : List ℕ
  pub from : state < length t.access
  pub small : letter < t.inputs
  pub told : (suffix ≡ []) ⊎ Contains (discriminators t.nodes) suffix
  pub word_is : word ≡ word_at t.access state ++ letter ∷ suffix

-- the words are as many as there may be states, and one more; they are the access words and one of them with a letter more; and
-- any two are apart
pub record IsCrowdOf (ks : List Answer) (t : TreeState) (words : List (List ℕ)) : Type 0 where
  pub count : length words ≡ t.most + 1
  pub state : ℕ
  pub letter : ℕ
  pub from : state < length t.access
  pub small : letter < t.inputs
  pub all : words ≡ t.access ++ (word_at t.access state ++ letter ∷ []) ∷ []
  pub apart : IsCrowd ks words

abbrev pub TellsCrowd : {X : Type 0} → List Answer → TreeState → Result X GrowStop → Type 0
TellsCrowd ks now result = (words : List (List ℕ)) → result ≡ Err (Crowd words) → IsCrowdOf ks now words

-- a transition that has no target now had none before, and stood higher up
abbrev pub MovesOn : TreeState → TreeState → ℕ → Type 0
MovesOn before now k = is_open (node_at now.nodes) (place_at now.places k) ≡ true
    → (is_open (node_at before.nodes) (place_at before.places k) ≡ true) × ((place_at before.places k).node < (place_at now.places k).node)

-- that is so of each transition that there was
abbrev pub HasMoved : TreeState → TreeState → Type 0
HasMoved before now = (k : ℕ) → k < length before.places → MovesOn before now k

-- a transition stands where it stood, or at a node just below
abbrev pub StepsOnce : TreeState → TreeState → ℕ → Type 0
StepsOnce before now k = ((place_at now.places k).node ≡ (place_at before.places k).node)
    ⊎ ((0 < (place_at now.places k).node) × ((node_at now.nodes (place_at now.places k).node).parent ≡ (place_at before.places k).node))

-- that is so of each transition that there was
abbrev pub AllStepOnce : TreeState → TreeState → Type 0
AllStepOnce before now = (k : ℕ) → k < length before.places → StepsOnce before now k

-- a tree once a level was to be sifted; the answer is whether a transition is left that has no target
pub record HasLevelled (ks : List Answer) (before now : TreeState) (result : Result Bool GrowStop) : Type 0 where
  pub grown : HasGrown ks before now
  pub keeps : KeepsTree before now
  pub steps : AllStepOnce before now
  pub closed : IfOk result (λ is_left. is_left ≡ false → IsClosed now)
  pub left : IfOk result (λ is_left. is_left ≡ true → HasOpen now)
  pub moved : IfOk result (λ is_left. HasMoved before now)
  pub crowd : TellsCrowd ks now result

-- a tree once it was to be closed
pub record HasClosed (ks : List Answer) (before now : TreeState) (result : Result ⊤ GrowStop) : Type 0 where
  pub grown : HasGrown ks before now
  pub keeps : KeepsTree before now
  pub closed : OnOk result (IsClosed now)
  pub crowd : TellsCrowd ks now result

-- the access word of a cut's state, followed by its letter
abbrev pub cut_word : List (List ℕ) → Cut → List ℕ
cut_word access cut = word_at access cut.state ++ cut.letter ∷ []

-- this leaf became a temporary node with this discriminator, and keeps its parent and branch; each other node at which something
-- stood is as it was, and so is each transition that had another leaf as its target; each transition stands where it stood or
-- below, with the output that it had, if any; the first new access word is this one
pub record IsSplit (word suffix : List ℕ) (leaf : ℕ) (before now : TreeState) : Type 0 where
  pub more : List (List ℕ)
  pub access : now.access ≡ before.access ++ word ∷ more
  pub states : length before.access < length now.access
  pub front : List (List ℕ)
  pub back : List (List ℕ)
  pub discriminators_were : discriminators before.nodes ≡ front ++ back
  pub discriminators_are : discriminators now.nodes ≡ front ++ suffix ∷ back
  pub finals : final_discriminators now.nodes ≡ final_discriminators before.nodes
  pub temporary : temporaries now.nodes ≡ temporaries before.nodes + 1
  pub parent : (node_at now.nodes leaf).parent ≡ (node_at before.nodes leaf).parent
  pub branch : (node_at now.nodes leaf).branch ≡ (node_at before.nodes leaf).branch
  pub content : (node_at now.nodes leaf).content ≡ Discriminator suffix true
  pub nodes : (n : ℕ) → n ≢ leaf → IsLive (node_at before.nodes n).content → node_at now.nodes n ≡ node_at before.nodes n
  pub targets : (k : ℕ) → (place_at before.places k).node ≢ leaf → is_open (node_at before.nodes) (place_at before.places k) ≡ false → place_at now.places k ≡ place_at before.places k
  pub descends : PlacesDescend before now
  pub outputs : OutputsStay before now

-- a tree once this leaf was to be split with a suffix, for a new state with this access word; where that was refused, the tree is
-- as before, or was split and maybe not closed
pub record HasSplit (ks : List Answer) (word suffix : List ℕ) (leaf : ℕ) (before now : TreeState) (result : Result ⊤ GrowStop) : Type 0 where
  pub grown : HasGrown ks before now
  pub closed : OnOk result (IsClosed now)
  pub split : OnOk result (IsSplit word suffix leaf before now)
  pub left : OnErr result ((now ≡ before) ⊎ IsSplit word suffix leaf before now)
  pub refined : OnOk result (now.refinements ≡ before.refinements + 1)
  pub refused : OnErr result (now.refinements ≡ before.refinements)
  pub crowd : TellsCrowd ks now result
