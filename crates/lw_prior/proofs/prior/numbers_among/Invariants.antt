use Rattle.std.proofs.Common.{◌≡◌, map, take}
use Rattle.std.specs.List.{All, Contains}
use Rattle.lw_words.specs.Word.{number_in}
use Rattle.lw_prior.proofs.prior.numbers_among.Given as goal

abbrev pub invariant-loop-y : goal.invariant-loop-y
invariant-loop-y l = record {
  numbers : l.to.items ≡ map (number_in l.names) (take l.y l.own);
  among : All (λ n. Contains l.names n) (take l.y l.own);
}
