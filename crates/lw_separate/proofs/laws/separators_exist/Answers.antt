use Rattle.std.proofs.Common.{inl, arith}
use Rattle.lw_separate.proofs.ExistenceWalk.{walked}
use Rattle.lw_separate.proofs.laws.separators_exist.Goals as goal

pub returns : goal.returns
returns c a m differ =
    let list = walked a m differ in
    let walk = list.1 in (
      list.0,
      record {
        pairs = walk.pairs;
        paired = walk.paired;
        states = walk.states;
        least = walk.least;
        needed = walk.needed;
        rising = walk.rising;
        whole = λ p q pq lq. walk.whole p q pq lq (inl (omega arith));
      },
    )
