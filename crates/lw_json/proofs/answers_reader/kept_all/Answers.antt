use Rattle.std.proofs.Common.{◌≡◌, ◌∙◌, sym, Some, refl}
use Rattle.lw_words.proofs.Lists.{within-map_more}
use Rattle.lw_json.specs.Formats.{numbered_answer}
use Rattle.lw_json.specs.AnswersFault.{AnswerHasWords}
use Rattle.lw_json.specs.bodies.AnswersParts.{said_answer}
use Rattle.lw_json.proofs.EachLemmas.{going_more}
use Rattle.lw_json.proofs.answers_reader.kept_all.Goals as goal

pub loop-place-preserved : goal.loop-place-preserved
loop-place-preserved c =
    let xs = c.args.answers.now in
    let i = c.loop-place.place in
    let x = c.index-answers-place.result in
    let found : numbered_answer c.args.inputs.now c.args.outputs.now (said_answer x) ≡ Some c.in-Some.answer = sym c.in_ok-answer.ensures ∙ c.in-Some.is in
    record {
      so_far = going_more said_answer (numbered_answer c.args.inputs.now c.args.outputs.now) c.loop-place.kept.answers c.push.new.self.answers xs i x c.in-Some.answer c.loop-place-test.true c.index-answers-place.is found
          c.in-Ok.ensures.ok c.loop-place.invariant.so_far;
      words = within-map_more said_answer (AnswerHasWords c.args.inputs.now c.args.outputs.now) xs i x c.loop-place-test.true c.index-answers-place.is (rw found refl) c.loop-place.invariant.words;
    }
