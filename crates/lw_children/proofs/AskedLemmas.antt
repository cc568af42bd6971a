-- What is asked before a learning stays answered, and what was cut off stays so, when names are sorted.
use Rattle.std.proofs.Common.{◌≡◌, ℕ, List, [], ◌∷◌, map, Option, Some, None, Result, Ok, Err, IfOk, OnOk, IfSome, refl, ap, sym, ◌∙◌, subst}
use Rattle.lw_words.specs.Word.{answers_of}
use Rattle.lw_words.specs.Renumbering.{renumbered_answers}
use Rattle.lw_words.specs.declared.kept.KeptAnswer.{KeptAnswer}
use Rattle.lw_rounds.specs.declared.settings.Testing.{Testing}
use Rattle.lw_rounds.specs.Learned.{IsEnoughFor}
use Rattle.lw_rounds.specs.declared.learned.Learned.{Learned}
use Rattle.lw_rounds.specs.declared.stops.LearnStop.{LearnStop}
use Rattle.lw_renumber.specs.Sorting.{renamed_learned}
use Rattle.lw_workers.specs.Asking.{AnswersWords}
use Rattle.lw_workers.proofs.AskingLemmas.{answered_by_words}
use Rattle.lw_children.specs.Cuts.{IsStopOfInstance}
use Rattle.lw_workers.specs.declared.outcome.CutRun.{CutRun}

words_stay : (to : List ℕ) (ks : List KeptAnswer) → map (λ k. k.word) ks ≡ map (λ k. k.word) (renumbered_answers to ks)
words_stay to [] = refl
words_stay to (k ∷ ks) = ap (λ (ws : List (List ℕ)). k.word ∷ ws) (words_stay to ks)

-- words that were asked are answered under the new numbers too
asked_as : (words : List (List ℕ)) (to : List ℕ) (n : ℕ) (f : ℕ → ℕ) (was : Result Learned LearnStop) (ks : List KeptAnswer) → OnOk was (AnswersWords words ks) → OnOk (renamed_learned n f was) (AnswersWords words (renumbered_answers to ks))
asked_as words to n f (Ok l) ks asked = answered_by_words words ks (renumbered_answers to ks) (words_stay to ks) asked
asked_as words to n f (Err stop) ks asked = tt

pub asked_sorted : (words : List (List ℕ)) (to : List ℕ) (n : ℕ) (f : ℕ → ℕ) (was is : Result Learned LearnStop) (ks ls : List KeptAnswer) → is ≡ renamed_learned n f was → ls ≡ renumbered_answers to ks → OnOk was (AnswersWords words ks) → OnOk is (AnswersWords words ls)
asked_sorted words to n f was is ks ls same kept asked =
    subst (λ (l : List KeptAnswer). OnOk is (AnswersWords words l)) (sym kept)
    (subst (λ (r : Result Learned LearnStop). OnOk r (AnswersWords words (renumbered_answers to ks))) (sym same) (asked_as words to n f was ks asked))

-- the kept answers of a pool are those that are told
pub asked_kept : (words : List (List ℕ)) (r : Result Learned LearnStop) (ks ls : List KeptAnswer) → ls ≡ ks → OnOk r (AnswersWords words ks) → OnOk r (AnswersWords words ls)
asked_kept words r ks ls kept asked = subst (λ (l : List KeptAnswer). OnOk r (AnswersWords words l)) (sym kept) asked

-- where a learning stopped there is no model that answers are enough for
pub enough_never : (testing : Testing) (a k : ℕ) (r : Result Learned LearnStop) (stop : LearnStop) (ks : List KeptAnswer) → r ≡ Err stop → IfOk r (λ l. IsEnoughFor testing a k (answers_of ks) l.model)
enough_never testing a k r stop ks is = subst (λ (r : Result Learned LearnStop). IfOk r (λ l. IsEnoughFor testing a k (answers_of ks) l.model)) (sym is) tt

-- nor is anything said of words
pub asked_never : (words : List (List ℕ)) (r : Result Learned LearnStop) (stop : LearnStop) (ks : List KeptAnswer) → r ≡ Err stop → OnOk r (AnswersWords words ks)
asked_never words r stop ks is = subst (λ (r : Result Learned LearnStop). OnOk r (AnswersWords words ks)) (sym is) tt

-- a stop stays
pub cut_sorted : (n : ℕ) (f : ℕ → ℕ) (was is : Result Learned LearnStop) (cut : Option CutRun) → is ≡ renamed_learned n f was → IfSome cut (λ run. IsStopOfInstance run.instance was) → IfSome cut (λ run. IsStopOfInstance run.instance is)
cut_sorted n f was is None same stopped = tt
cut_sorted n f was is (Some run) same (stop, by) = (stop, same ∙ ap (λ (r : Result Learned LearnStop). renamed_learned n f r) by)

-- nothing was cut off
pub cut_never : (r : Result Learned LearnStop) (cut : Option CutRun) → cut ≡ None → IfSome cut (λ run. IsStopOfInstance run.instance r)
cut_never r cut is = subst (λ (cut : Option CutRun). IfSome cut (λ run. IsStopOfInstance run.instance r)) (sym is) tt
