use Rattle.std.proofs.Common.{arith}
use Rattle.lw_separate.proofs.ExistenceAccess.{least_words}
use Rattle.lw_separate.proofs.laws.least_access_exists.Goals as goal

pub returns : goal.returns
returns c a m machine reached =
    let list = least_words a m machine reached in
    (list.0, record { each = list.1; words = λ q lt. list.2 q (omega (arith, list.1)) })
