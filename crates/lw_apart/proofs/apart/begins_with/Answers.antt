use Rattle.std.proofs.Common.{rules, ◌≡◌, length, take}
use Rattle.std.specs.Str.{bytes_eq}
use Rattle.lw_cache.proofs.PlainLemmas.{begins}
use Rattle.lw_apart.proofs.apart.begins_with.Goals as goal

pub returns : goal.returns
returns c =
    let is : c.starts_with.result ≡ bytes_eq c.args.word.now (take (length c.args.word.now) c.args.answer.now.word) = search rules in
    begins c.args.word.now c.args.answer.now.word c.starts_with.result is
