use Rattle.std.proofs.Common.{◌≡◌, List, drop, map}
use Rattle.json.specs.Token.{Token}
use Rattle.serde_json.specs.View.{items_of}
use Rattle.serde_json.specs.Written.{WritesItems, WritesValue}
use Rattle.lw_json.specs.AnswersText.{answer_data, list_data}
use Rattle.lw_json.proofs.answers_tokens.put_list.Given as goal

abbrev pub invariant-loop-answer : goal.invariant-loop-answer
invariant-loop-answer l =
    (l.out.before ≡ l.fn.out.before)
    × ((end : List Token) → WritesItems (items_of (map (answer_data l.inputs l.outputs) (map (λ k. k.now) (drop l.answer-index l.answers)))) l.out.tokens end
    → WritesValue (list_data l.inputs l.outputs (map (λ k. k.now) l.answers)) l.fn.out.tokens end)
