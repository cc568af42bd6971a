use Rattle.std.proofs.Common.{List, [], ◌∷◌, ◌++◌, subst, ap, ◌∙◌}
use Rattle.lw_words.specs.Word.{answer_of, answers_of}
use Rattle.lw_words.specs.declared.kept.KeptAnswer.{KeptAnswer}
use Rattle.lw_cache.specs.Caching.{kept_answer}
use Rattle.lw_cache.specs.FirstClash.{ClashesFirst, SameKnown}
use Rattle.lw_cache.proofs.cache.Cache.keep.Goals as goal

pub returns-in-Err-clause-err : goal.returns-in-Err-clause-err
returns-in-Err-clause-err c =
    let new : KeptAnswer = kept_answer c.args.instance c.args.run c.args.word c.args.outs in (
      c.keep_reserved.ensures.kept ∙ ap (λ (l : List KeptAnswer). l ++ new ∷ []) c.reserve.ensures.kept,
      subst (λ (l : List KeptAnswer). ClashesFirst (answers_of l) (answer_of new) c.in-Err.clash) c.reserve.ensures.kept c.in-Err.ensures.err,
      subst (λ (l : List KeptAnswer). SameKnown (answers_of l) (answers_of c.keep_reserved.new.self.kept)) c.reserve.ensures.kept c.in-Err.ensures.known,
    )
