use Rattle.std.proofs.Common.{◌≡◌, ◌++◌, codes, take}
use Rattle.std.specs.List.{flat_map}
use Rattle.lw_json.specs.Hint.{printed}
use Rattle.lw_json.proofs.hint.hint_text.Given as goal

abbrev pub invariant-loop-byte : goal.invariant-loop-byte
invariant-loop-byte l = l.line.items ≡ codes "unknown member \"" ++ flat_map printed (take l.byte-index l.name)
