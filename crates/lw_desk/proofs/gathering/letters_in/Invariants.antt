use Rattle.std.proofs.Common.{◌≡◌, take}
use Rattle.lw_desk.specs.bodies.Board.{letters_of}
use Rattle.lw_desk.proofs.gathering.letters_in.Given as goal

abbrev pub invariant-loop-place : goal.invariant-loop-place
invariant-loop-place l = l.letters ≡ letters_of l.words (take l.place-index l.places)
