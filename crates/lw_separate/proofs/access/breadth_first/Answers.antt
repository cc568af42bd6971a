use Rattle.lw_separate.proofs.access.breadth_first.Goals as goal

pub returns-clause-complete : goal.returns-clause-complete
returns-clause-complete c = c.in_ok-s.ensures.complete
