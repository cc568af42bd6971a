-- A leaf that is split by a cut.
use Rattle.std.specs.Prelude.{ℕ, List}
use Rattle.lw_words.specs.Word.{Answer}
use Rattle.lw_cache.specs.Cut.{word_at}
use Rattle.lw_cache.specs.declared.cut.Cut.{Cut}
use Rattle.lw_tree.specs.Tree.{TreeState, Tells}
use Rattle.lw_tree.specs.bodies.Steps.{IsNextSplit}
use Rattle.lw_tree.specs.bodies.Transitions.{word_of}
use Rattle.lw_tree.specs.declared.transitions.Edge.{Edge}

-- the transition that leads to a cut's target
abbrev pub edge_of : Cut → Edge
edge_of cut = record { state = cut.state; letter = cut.letter }

-- the leaf of a state can be split by outputs that are what the answers say
pub record CanSplit (ks : List Answer) (t : TreeState) (edge : Edge) (q : ℕ) (suffix old new : List ℕ) : Type 0 where
  pub output : ℕ
  pub next : IsNextSplit t edge output q suffix old new
  pub old_told : Tells ks (word_at t.access q) suffix old
  pub new_told : Tells ks (word_of t edge) suffix new
