use Rattle.std.proofs.Common.{◌≡◌, None, drop, map, option_map}
use Rattle.std.specs.List.{filter, last_or}
use Rattle.serde_json.specs.View.{view}
use Rattle.lw_json.specs.Formats.{is_object}
use Rattle.lw_json.proofs.journal_reader.last_head.Given as goal

abbrev pub invariant-loop-value : goal.invariant-loop-value
invariant-loop-value l = last_or (option_map (λ v. view v.now) l.head) (filter is_object (map view (drop l.value-index l.values))) ≡ last_or None (filter is_object (map view l.values))
