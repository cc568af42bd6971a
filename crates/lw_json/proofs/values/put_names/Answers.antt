use Rattle.std.proofs.Common.{◌∙◌, ap}
use Rattle.serde_json.specs.Data.{Data, put}
use Rattle.serde_json.specs.View.{members_view}
use Rattle.lw_json.proofs.values.put_names.Goals as goal

pub returns-clause-value : goal.returns-clause-value
returns-clause-value c = c.in_ok-put_member.ensures ∙ ap (λ (d : Data). put c.args.name.now d (members_view c.args.members.now.entries)) c.in_ok-list.ensures.value
