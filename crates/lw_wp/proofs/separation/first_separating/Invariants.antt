use Rattle.std.proofs.Common.{◌≡◌, drop}
use Rattle.std.specs.List.{filter}
use Rattle.lw_wp.specs.Identification.{separates}
use Rattle.lw_wp.proofs.separation.first_separating.Given as goal

abbrev pub invariant-loop-number : goal.invariant-loop-number
invariant-loop-number l = filter (separates l.m.rows l.q l.p) (drop l.number l.by.words) ≡ filter (separates l.m.rows l.q l.p) l.by.words
