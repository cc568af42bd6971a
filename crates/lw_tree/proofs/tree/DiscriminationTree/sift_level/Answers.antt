use Rattle.lw_tree.proofs.tree.DiscriminationTree.sift_level.Goals as goal

pub returns : goal.returns
returns g c =
    record {
      levels = c.sift.ensures.levels;
      asks = c.sift.ensures.asks;
      leaves = c.sift.ensures.leaves;
      can = c.sift.ensures.can;
    }
