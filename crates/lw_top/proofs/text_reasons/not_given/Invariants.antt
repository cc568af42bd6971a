use Rattle.std.proofs.Common.{◌≡◌, ◌++◌, ℕ, map, take, drop, length, filter, find, not, codes, option_map, string_bytes}
use Rattle.lw_top.specs.Reasons.{is_given}
use Rattle.lw_top.specs.Given.{given_values}
use Rattle.lw_top.proofs.text_reasons.not_given.Given as goal

abbrev pub invariant-loop-name : goal.invariant-loop-name
invariant-loop-name l = map (λ n. n.now) l.list.items ++ filter (λ o. not (is_given (map given_values l.given) o)) (map (λ n. n.now) (drop l.name-index l.names)) ≡ filter (λ o. not (is_given (map given_values l.given) o)) (map (λ n. n.now) l.names)
