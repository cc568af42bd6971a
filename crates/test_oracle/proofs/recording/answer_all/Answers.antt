use Rattle.std.proofs.Common.{◌≡◌, ℕ, List, [], get_or, subst, sym, ◌∙◌}
use Rattle.std.specs.List.{All}
use Rattle.std.proofs.lemmas.List.{get_or_default, take_all}
use Rattle.lw_words.specs.Word.{answers_of}
use Rattle.lw_cache.specs.Known.{IsKnown}
use Rattle.test_oracle.proofs.RecordingLemmas.{gains_more, known_more}
use Rattle.test_oracle.proofs.recording.answer_all.Goals as goal

pub returns-in_err-answer_one-clause-gains : goal.returns-in_err-answer_one-clause-gains
returns-in_err-answer_one-clause-gains c =
    gains_more c.args.batch.now c.args.m.now c.w-item.result c.args.cache.now.kept c.loop-w.cache.kept c.answer_one.new.cache.kept (c.loop-w.w-index, c.loop-w-test.true, sym c.w-item.is) c.loop-w.invariant.gains c.answer_one.ensures.asked

pub loop-w-preserved : goal.loop-w-preserved
loop-w-preserved c =
    let here : get_or c.args.batch.now c.loop-w.w-index [] ≡ c.w-item.result = get_or_default c.args.batch.now c.loop-w.w-index [] c.w-item.result c.loop-w-test.true ∙ sym c.w-item.is in
    record {
      known = known_more c.args.m.now c.w-item.result c.loop-w.cache.kept c.answer_one.new.cache.kept c.args.batch.now c.loop-w.w-index c.loop-w-test.true here c.answer_one.ensures.asked c.loop-w.invariant.known c.in_ok-answer_one.ensures.known;
      gains = gains_more c.args.batch.now c.args.m.now c.w-item.result c.args.cache.now.kept c.loop-w.cache.kept c.answer_one.new.cache.kept (c.loop-w.w-index, c.loop-w-test.true, sym c.w-item.is) c.loop-w.invariant.gains c.answer_one.ensures.asked;
      keeps = c.answer_one.ensures.asked.keeps;
      unclashed = λ nothing. c.in_ok-answer_one.ensures.unclashed (c.loop-w.invariant.unclashed nothing);
      claims = c.answer_one.ensures.claims;
    }

pub returns-clause-known : goal.returns-clause-known
returns-clause-known c =
    subst (λ (l : List (List ℕ)). All (IsKnown (answers_of c.loop-w.cache.kept)) l) (take_all c.loop-w.w-index c.args.batch.now c.loop-w-test.false) c.loop-w.invariant.known
