use Rattle.std.proofs.Common.{map}
use Rattle.serde_json.specs.View.{view}
use Rattle.lw_json.proofs.EachLemmas.{listed}
use Rattle.lw_json.proofs.members.list.Goals as goal

pub returns : goal.returns
returns c = listed (λ v. map view v.now.items) c.as_array.result (view c.args.value.now) c.as_array.ensures
