use Rattle.lw_pool.proofs.oracle.ByCallOracle.settle.Goals as goal

pub returns-clause-settles : goal.returns-clause-settles
returns-clause-settles g c = c.requires.can.settles _ _ _ _ c.settle.ensures
