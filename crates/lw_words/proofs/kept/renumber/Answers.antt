use Rattle.std.proofs.Common.{ℕ, ◌<◌, List, length, get_or, set, ap, ◌∙◌, arith}
use Rattle.std.proofs.lemmas.List.{get_or_default}
use Rattle.std.proofs.lemmas.List.Edits.{map_over_more}
use Rattle.lw_words.specs.Renumbering.{renumbered_answer}
use Rattle.lw_words.specs.declared.kept.KeptAnswer.{KeptAnswer}
use Rattle.lw_words.proofs.kept.renumber.Goals as goal

-- src/kept.rt:40:5
pub loop-answer-preserved : goal.loop-answer-preserved
loop-answer-preserved c =
    let answers = c.loop-answer.answers in
    let i : ℕ = c.loop-answer.answer-index in
    let x : KeptAnswer = get_or answers i c.answer-item.result in
    let within : i < length answers = omega arith in
    ap (λ (outs : List ℕ). set answers i (record { instance = x.instance; run = x.run; word = x.word; outs = outs })) c.renumber.ensures
    ∙ map_over_more (renumbered_answer c.args.to.now) c.args.answers.now answers i x (omega arith) c.loop-answer.invariant (get_or_default answers i c.answer-item.result x within)
