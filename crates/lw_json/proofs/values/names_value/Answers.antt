use Rattle.std.proofs.Common.{◌∙◌, ◌≤◌, length, ap, arith}
use Rattle.std.proofs.lemmas.Option.{slice_get_within, get_or_from_slice_get}
use Rattle.serde_json.specs.Data.{string, array}
use Rattle.serde_json.specs.View.{view, items_of}
use Rattle.serde_json.proofs.Views.{view-Array}
use Rattle.lw_json.proofs.EachLemmas.{written_more, written_all}
use Rattle.lw_json.proofs.values.names_value.Goals as goal

pub loop-n-preserved : goal.loop-n-preserved
loop-n-preserved c =
    written_more view string c.loop-n.items.items c.push.new.self.items c.in_ok-try_from_str.field-0 c.args.names.now c.loop-n.n c.name.result.now c.name.result.now
    c.in_ok-push.ensures.items c.in_ok-try_from_str.ensures (slice_get_within c.args.names.now c.loop-n.n c.name.result.now c.name.ensures.value)
    (get_or_from_slice_get c.args.names.now c.loop-n.n c.name.result.now c.name.result.now c.name.ensures.value) c.loop-n.invariant

pub returns-clause-value : goal.returns-clause-value
returns-clause-value c =
    let stop : length c.args.names.now ≤ c.loop-n.n = omega arith in
    view-Array c.loop-n.items ∙ ap (λ l. array (items_of l)) (written_all view string c.loop-n.items.items c.args.names.now c.loop-n.n stop c.loop-n.invariant)
