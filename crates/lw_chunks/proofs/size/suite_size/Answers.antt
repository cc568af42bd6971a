use Rattle.std.proofs.Common.{◌+◌, ◌*◌, arith}
use Rattle.std.proofs.lemmas.Nat.{mul-le}
use Rattle.lw_chunks.proofs.SizeLemmas.{powers_below}
use Rattle.lw_chunks.proofs.size.suite_size.Goals as goal

pub overflow_mul-result : goal.overflow_mul-result
overflow_mul-result c =
    let square = mul-le c.args.states c.args.states 1024 1024 c.requires.states c.requires.states in
    let middles = powers_below c.args.inputs (c.args.extra + 1) c.requires.letters (let few = c.requires.few in omega arith) in
    let all = mul-le (c.args.states * c.args.states) c.middle_count.result 1048576 6442450944 (omega arith) (omega arith) in
    rw (c.from.ensures, c.from-2.ensures) (omega (arith, all))
