-- A learning over children as the plain learner's, once the names of the outputs are sorted.
use Rattle.std.proofs.Common.{◌≡◌, ℕ, List, [], ◌∷◌, length, map, Result, Ok, Err, IfOk, refl, ap, sym, ◌∙◌, subst}
use Rattle.std.specs.List.{All}
use Rattle.lw_words.specs.Word.{Answer, AreAnswers, answers_of, IsWord}
use Rattle.lw_words.specs.Renumbering.{renumbered_answers}
use Rattle.lw_words.specs.declared.kept.KeptAnswer.{KeptAnswer}
use Rattle.lw_mealy.specs.Machine.{Gives, IsMachine, Rows}
use Rattle.lw_rounds.specs.declared.settings.Testing.{Testing}
use Rattle.lw_plain.specs.Rounds.{Task, LearnsPlainly}
use Rattle.lw_plain.specs.Taken.{AreTakenInTurn}
use Rattle.lw_rounds.specs.Learner.{refinements_of}
use Rattle.lw_rounds.specs.Plain.{plain_task}
use Rattle.lw_rounds.specs.declared.learned.Learned.{Learned}
use Rattle.lw_rounds.specs.declared.learner.Kind.{Kind}
use Rattle.lw_rounds.specs.declared.stops.LearnStop.{LearnStop}
use Rattle.lw_renumber.specs.Renaming.{renamed_answers, renamed_rows}
use Rattle.lw_renumber.specs.Sorting.{HasSorted, renamed_learned}
use Rattle.lw_renumber.proofs.MachineLemmas.{is_machine, rows_back, turned}
use Rattle.lw_renumber.proofs.PlainLemmas.{renamed_learns_plainly}
use Rattle.lw_renumber.proofs.SureLemmas.{gives_back}
use Rattle.lw_workers.specs.Plain.{HasPlainWords, RunsAsPlain}

words_stay : (to : List ℕ) (ks : List KeptAnswer) → map (λ (k : KeptAnswer). k.word) (renumbered_answers to ks) ≡ map (λ (k : KeptAnswer). k.word) ks
words_stay to [] = refl
words_stay to (k ∷ ks) = ap (λ (ws : List (List ℕ)). k.word ∷ ws) (words_stay to ks)

pub plain_sorted : (of_kind : Kind) (testing : Testing) (a k most : ℕ) (given : List (List ℕ)) (to : List ℕ) (before now : List (List ℕ)) (prior ks more : List KeptAnswer) (was is : Result Learned LearnStop)
    → HasSorted to before now (answers_of ks) (answers_of more) was is → more ≡ renumbered_answers to ks → All (IsWord a) given → AreAnswers a (answers_of ks)
    → RunsAsPlain of_kind testing a k most given was prior ks → RunsAsPlain of_kind testing a k most given is prior more
plain_sorted of_kind testing a k most given to before now prior ks more was is sorted same letters are runs is_table by_w none m machine gives =
    let f = sorted.f in
    let g = sorted.g in
    let r = sorted.renumbering.renames in
    let n : Rows = renamed_rows g m in
    let n_machine : IsMachine a n = is_machine g a m machine in
    let gives_n : Gives n (answers_of ks) = gives_back f g a m (answers_of ks) r are machine (subst (Gives m) sorted.answers gives) in
    let words : map (λ (k : KeptAnswer). k.word) more ≡ map (λ (k : KeptAnswer). k.word) ks = ap (λ (l : List KeptAnswer). map (λ (k : KeptAnswer). k.word) l) same ∙ words_stay to ks in
    subst (λ (x : Result Learned LearnStop). IfOk x (λ l. HasPlainWords (plain_task a m k most) given l.model.rows (refinements_of l.learner) more)) (sym sorted.renamed)
    (by_result was (runs is_table by_w none n n_machine gives_n) words n_machine)
  where
    by_result : (w : Result Learned LearnStop) → IfOk w (λ l. HasPlainWords (plain_task a (renamed_rows sorted.g m) k most) given l.model.rows (refinements_of l.learner) ks)
        → map (λ (k : KeptAnswer). k.word) more ≡ map (λ (k : KeptAnswer). k.word) ks → IsMachine a (renamed_rows sorted.g m)
        → IfOk (renamed_learned (length now) sorted.f w) (λ l. HasPlainWords (plain_task a m k most) given l.model.rows (refinements_of l.learner) more)
    by_result (Err stop) has words n_machine = tt
    by_result (Ok l) has words n_machine =
        let f = sorted.f in
        let g = sorted.g in
        let r = sorted.renumbering.renames in
        let n : Rows = renamed_rows g m in
        let there = renamed_learns_plainly f g (plain_task a n k most) given l.model.rows (refinements_of l.learner) has.batches r n_machine letters has.learns in
        record {
          batches = has.batches;
          learns = subst (λ (x : Rows). LearnsPlainly (plain_task a x k most) given (renamed_rows f l.model.rows) (refinements_of l.learner) has.batches) (rows_back g f (turned f g r) m) there;
          taken = subst (λ (ws : List (List ℕ)). AreTakenInTurn [] has.batches ws) (sym words) has.taken;
        }
