use Rattle.std.proofs.Common.{◌≡◌, ◌∙◌, ◌∷◌, [], ap, map, rules, Some, None}
use Rattle.std.proofs.lemmas.List.{map-append}
use Rattle.serde_json.specs.View.{view}
use Rattle.lw_json.proofs.EachLemmas.{going_more, going_none}
use Rattle.lw_accept.specs.AcceptorFile.{targets_of}
use Rattle.lw_accept.proofs.reader.rows.Goals as goal

pub returns-in_default : goal.returns-in_default
returns-in_default c =
    let none : targets_of (view c.item-item.result) ≡ None = search rules in
    going_none view targets_of (map (λ r. r.items) c.loop-item.all.items) c.args.items.now c.loop-item.item-index c.item-item.result c.loop-item-test.true c.item-item.is none c.loop-item.invariant

pub loop-item-preserved : goal.loop-item-preserved
loop-item-preserved c =
    let found : targets_of (view c.item-item.result) ≡ Some c.in-Some.targets.items = search rules in
    going_more view targets_of (map (λ r. r.items) c.loop-item.all.items) (map (λ r. r.items) c.push.new.self.items) c.args.items.now c.loop-item.item-index c.item-item.result c.in-Some.targets.items
    c.loop-item-test.true c.item-item.is found
    (ap (map (λ r. r.items)) c.in_ok-push.ensures.items ∙ map-append (λ r. r.items) c.loop-item.all.items (c.in-Some.targets ∷ []))
    c.loop-item.invariant
