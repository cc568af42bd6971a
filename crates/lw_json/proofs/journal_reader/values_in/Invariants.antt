use Rattle.std.proofs.Common.{◌≡◌, ◌++◌, drop, map}
use Rattle.std.specs.List.{filter_map}
use Rattle.serde_json.specs.View.{view}
use Rattle.lw_json.specs.Formats.{json_in}
use Rattle.lw_json.proofs.journal_reader.values_in.Given as goal

abbrev pub invariant-loop-line : goal.invariant-loop-line
invariant-loop-line l = map view l.values.items ++ filter_map json_in (map (λ x. x.now) (drop l.line-index l.lines)) ≡ filter_map json_in (map (λ x. x.now) l.lines)
