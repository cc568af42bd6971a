use Rattle.std.proofs.Common.{◌≡◌, [], take}
use Rattle.lw_words.specs.Word.{answers_of}
use Rattle.lw_prior.specs.Prior.{HasFirstClash}
use Rattle.lw_prior.specs.bodies.Placed.{placed_from}
use Rattle.lw_prior.proofs.prior.place.Given as goal

abbrev pub invariant-loop-number : goal.invariant-loop-number
invariant-loop-number l = record {
  unclaimed : l.cache.claims ≡ [];
  kept : l.cache.kept ≡ placed_from 0 (take l.number l.kept.answers);
  so_far : HasFirstClash (answers_of l.cache.kept) l.clash;
}
