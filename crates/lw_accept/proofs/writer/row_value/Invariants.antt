use Rattle.std.proofs.Common.{◌≡◌, [], map, take, slice_index_or}
use Rattle.serde_json.specs.Data.{number, unsigned}
use Rattle.serde_json.specs.View.{view}
use Rattle.lw_accept.proofs.writer.row_value.Given as goal

abbrev pub invariant-loop-letter : goal.invariant-loop-letter
invariant-loop-letter l = map view l.targets.items ≡ map (λ t. number (unsigned t)) (take l.letter (slice_index_or l.a.automaton.targets l.state []))
