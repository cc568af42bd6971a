use Rattle.std.proofs.Common.{◌≡◌, take}
use Rattle.lw_desk.specs.bodies.Board.{without_all}
use Rattle.lw_desk.proofs.board.release_all.Given as goal

abbrev pub invariant-loop-place : goal.invariant-loop-place
invariant-loop-place l = record {
  kept : l.cache.kept ≡ l.fn.cache.kept;
  claims : l.cache.claims ≡ without_all (take l.place-index l.places) l.fn.cache.claims;
  words : l.cache.words ≡ l.fn.cache.words;
  letters : l.cache.letters ≡ l.fn.cache.letters;
}
