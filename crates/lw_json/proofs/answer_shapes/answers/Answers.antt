use Rattle.std.proofs.Common.{◌∙◌, ◌∷◌, [], ap, map, option_map, sym}
use Rattle.std.proofs.lemmas.List.{map-append}
use Rattle.serde_json.specs.View.{view}
use Rattle.lw_json.specs.Formats.{written_answer_of}
use Rattle.lw_json.specs.bodies.AnswersParts.{said_answer}
use Rattle.lw_json.proofs.EachLemmas.{going_more, going_none}
use Rattle.lw_json.proofs.answer_shapes.answers.Goals as goal

pub returns-in_default : goal.returns-in_default
returns-in_default c =
    going_none view written_answer_of (map said_answer c.loop-item.all.items) c.args.items.now c.loop-item.item-index c.item-item.result c.loop-item-test.true c.item-item.is
    (sym c.answer.ensures ∙ ap (option_map said_answer) c.in_default.is) c.loop-item.invariant

pub loop-item-preserved : goal.loop-item-preserved
loop-item-preserved c =
    going_more view written_answer_of (map said_answer c.loop-item.all.items) (map said_answer c.push.new.self.items) c.args.items.now c.loop-item.item-index c.item-item.result (said_answer c.in-Some.one)
    c.loop-item-test.true c.item-item.is (sym c.answer.ensures ∙ ap (option_map said_answer) c.in-Some.is)
    (ap (map said_answer) c.in_ok-push.ensures.items ∙ map-append said_answer c.loop-item.all.items (c.in-Some.one ∷ []))
    c.loop-item.invariant
