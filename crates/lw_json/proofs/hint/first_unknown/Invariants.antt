use Rattle.std.proofs.Common.{◌≡◌}
use Rattle.serde_json.specs.View.{members_view}
use Rattle.lw_json.specs.Hint.{first_unknown}
use Rattle.lw_json.proofs.hint.first_unknown.Given as goal

abbrev pub invariant-loop-name : goal.invariant-loop-name
invariant-loop-name l = first_unknown (members_view l.fn.members.entries) ≡ first_unknown (members_view l.name-iterator)
