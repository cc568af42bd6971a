use Rattle.std.proofs.Common.{List, sym, subst}
use Rattle.lw_words.specs.Word.{AreAnswers, answers_of}
use Rattle.lw_words.specs.declared.kept.KeptAnswer.{KeptAnswer}
use Rattle.lw_cache.proofs.SettlingLemmas.{kept_are_answers}
use Rattle.lw_learner_tests.proofs.tests.tree.replacing.replace_root.Goals as goal

pub replace-requires-clause-answers : goal.replace-requires-clause-answers
replace-requires-clause-answers g c =
    let o = g.O.Oracle.state c.args.oracle.now in
    subst (λ (k : List KeptAnswer). AreAnswers c.args.tree.now.inputs (answers_of k)) (sym c.cache-cache.ensures.kept) (kept_are_answers o c.args.tree.now.inputs c.requires.ready.inputs c.cache-cache.ensures.keeps)
