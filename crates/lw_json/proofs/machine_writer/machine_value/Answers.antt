use Rattle.std.proofs.Common.{◌≡◌, ◌∙◌, ap, codes}
use Rattle.serde_json.specs.Data.{Data, Members, put, object, no_members}
use Rattle.serde_json.specs.View.{members_view}
use Rattle.serde_json.proofs.Views.{view-Object}
use Rattle.lw_json.specs.MachineText.{texts_data, rows_data}
use Rattle.lw_json.proofs.machine_writer.machine_value.Goals as goal

pub returns-clause-value : goal.returns-clause-value
returns-clause-value c =
    let m = c.args.m.now in
    let one : members_view c.put_names.new.members.entries ≡ put (codes "inputs") (texts_data m.inputs) no_members =
    c.in_ok-put_names.ensures.value ∙ ap (λ l. put (codes "inputs") (texts_data m.inputs) (members_view l)) c.new-members.ensures.empty in
    let two : members_view c.put_names-2.new.members.entries ≡ put (codes "outputs") (texts_data m.outputs) (put (codes "inputs") (texts_data m.inputs) no_members) =
    c.in_ok-put_names-2.ensures.value ∙ ap (λ (l : Members). put (codes "outputs") (texts_data m.outputs) l) one in
    let three : members_view c.put_member.new.members.entries ≡ put (codes "states") (rows_data m.outputs m.mealy.rows) (put (codes "outputs") (texts_data m.outputs) (put (codes "inputs") (texts_data m.inputs) no_members)) =
    c.in_ok-put_member.ensures ∙ (ap (λ (d : Data). put (codes "states") d (members_view c.put_names-2.new.members.entries)) c.in_ok-states.ensures.value ∙ ap (λ (l : Members). put (codes "states") (rows_data m.outputs m.mealy.rows) l) two) in
    view-Object c.put_member.new.members ∙ ap object three
