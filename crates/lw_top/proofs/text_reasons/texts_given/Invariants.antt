use Rattle.std.proofs.Common.{◌≡◌, ◌++◌, ℕ, map, take, drop, length, filter, find, not, codes, option_map, string_bytes}
use Rattle.lw_top.specs.Reasons.{texts_given}
use Rattle.lw_top.specs.Given.{given_values}
use Rattle.lw_top.proofs.text_reasons.texts_given.Given as goal

abbrev pub invariant-loop-one : goal.invariant-loop-one
invariant-loop-one l = map (λ t. t.now) l.list.items ++ texts_given (map given_values (drop l.one-index l.given)) ≡ texts_given (map given_values l.given)
