use Rattle.std.proofs.Common.{◌≡◌, ◌≤◌, length, filter, map, take}
use Rattle.lw_top.specs.Reasons.{is_given}
use Rattle.lw_top.specs.Given.{given_values}
use Rattle.lw_top.proofs.text_reasons.count_given.Given as goal

abbrev pub invariant-loop-name : goal.invariant-loop-name
invariant-loop-name l = (l.count ≡ length (filter (is_given (map given_values l.given)) (map (λ n. n.now) (take l.name-index l.names)))) × (l.count ≤ l.name-index)
