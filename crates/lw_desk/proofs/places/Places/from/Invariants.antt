use Rattle.std.proofs.Common.{◌≡◌, ◌≤◌, length, take}
use Rattle.lw_desk.proofs.places.Places.from.Given as goal

abbrev pub invariant-loop-place : goal.invariant-loop-place
invariant-loop-place l = (l.rest ≡ take l.place-index l.place-items) × (length l.place-items ≤ 16)
