use Rattle.std.proofs.Common.{◌≡◌, map, take}
use Rattle.lw_tree.specs.bodies.Sprouts.{lifted_place}
use Rattle.lw_tree.proofs.replacing.lifted_places.Given as goal

abbrev pub invariant-loop-place : goal.invariant-loop-place
invariant-loop-place l = l.moved.items ≡ map (lifted_place l.below l.root) (take l.place-index l.places)
