use Rattle.std.proofs.Common.{List, sym, subst, arith}
use Rattle.lw_words.specs.Word.{answers_of}
use Rattle.lw_words.specs.declared.kept.KeptAnswer.{KeptAnswer}
use Rattle.lw_cache.specs.Clash.{NothingClashes}
use Rattle.lw_learner_tests.proofs.tests.rounds.cases.oracle_of.Goals as goal

-- before the batch nothing was kept
pub returns-clause-nothing : goal.returns-clause-nothing
returns-clause-nothing g c =
    c.in-Ok.ensures.settles.unclashed (subst (λ (kept : List KeptAnswer). NothingClashes (answers_of kept)) (sym c.new-oracle.ensures.kept) (λ i j d before within. absurd (omega arith)))
