use Rattle.std.proofs.Common.{◌≡◌, [], drop, map, get_or}
use Rattle.std.specs.List.{list_any}
use Rattle.lw_wp.specs.Identification.{separates}
use Rattle.lw_wp.proofs.separation.any_separates.Given as goal

abbrev pub invariant-loop-number : goal.invariant-loop-number
invariant-loop-number l =
    list_any (separates l.m.rows l.q l.p) (map (λ i. get_or l.by.words i []) (drop l.number-index l.numbers)) ≡ list_any (separates l.m.rows l.q l.p) (map (λ i. get_or l.by.words i []) l.numbers)
