use Rattle.std.proofs.Common.{◌∙◌, ℕ, List, length, ap, sym, subst}
use Rattle.lw_words.specs.Word.{answers_of}
use Rattle.lw_words.specs.declared.kept.KeptAnswer.{KeptAnswer}
use Rattle.lw_cache.specs.Clash.{NothingClashes}
use Rattle.lw_prior.specs.Prior.{HasFirstClash}
use Rattle.lw_check.specs.Decision.{pair_of}
use Rattle.lw_check.proofs.OverLemmas.{all_words, decided_or}
use Rattle.lw_check.proofs.deciding.outcome_of_filled.Goals as goal

pub certified-requires-clause-letters : goal.certified-requires-clause-letters
certified-requires-clause-letters c = all_words _ _ _ c.args.answers.now.kept.answers c.args.filled.now.cache.kept c.args.answers.now.over (ap (λ (names : List (List ℕ)). length names) c.requires.names.0 ∙ sym c.args.machine.now.named.0) c.requires.kept

pub returns-in-None : goal.returns-in-None
returns-in-None c =
    let none = subst (HasFirstClash (answers_of c.args.filled.now.cache.kept)) c.in-None.is c.requires.clash in
    decided_or c.args.method (pair_of c.args.machine.now c.args.answers.now) c.args.extra c.args.filled.now.cache.kept c.certified.result c.requires.names (subst (λ (ks : List KeptAnswer). NothingClashes (answers_of ks)) c.requires.kept none) c.requires.kept c.certified.ensures
