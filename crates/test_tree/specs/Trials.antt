-- An oracle and a closed tree over what it knows.
use Rattle.std.specs.Prelude.{◌≡◌}
use Rattle.lw_words.specs.Word.{answers_of}
use Rattle.lw_cache.specs.Settling.{OracleState, MayAsk}
use Rattle.lw_tree.specs.Tree.{TreeState, BranchesAreRead, IsClosed}

pub record IsReady (o : OracleState) (t : TreeState) : Type 0 where
  pub inputs : t.inputs ≡ o.inputs
  pub outputs : t.outputs ≡ o.outputs
  pub may : MayAsk o.stop
  pub read : BranchesAreRead (answers_of o.kept) t
  pub closed : IsClosed t
