use Rattle.std.proofs.Common.{◌≡◌, ◌++◌, ℕ, map, take, drop, length, filter, find, not, codes, option_map, string_bytes}
use Rattle.std.specs.List.{list_all}
use Rattle.lw_top.specs.Reasons.{is_printed}
use Rattle.lw_top.specs.Given.{given_values}
use Rattle.lw_top.proofs.reasons.are_printed.Given as goal

abbrev pub invariant-loop-byte : goal.invariant-loop-byte
invariant-loop-byte l = list_all is_printed (drop l.byte-index l.bytes) ≡ list_all is_printed l.bytes
