use Rattle.lw_plain_run.proofs.DifferenceLemmas.{best_stays, least_of}
use Rattle.lw_plain_run.proofs.difference.better.Goals as goal

pub returns-in_default : goal.returns-in_default
returns-in_default c = λ words least.
    best_stays c.args.m.now.rows c.args.h.now.rows words c.args.word.now c.args.best (rw c.in_default.is at c.in_ok-found.ensures) least

pub returns : goal.returns
returns c = λ words least.
    least_of c.args.m.now.rows c.args.h.now.rows words c.args.word.now c.in-Some.front (rw c.in-Some.is at c.in_ok-found.ensures) c.args.best c.lesser.result c.lesser.ensures least
