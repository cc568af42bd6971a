-- What the renamed answers are worth.
use Rattle.std.proofs.Common.{ℕ, ◌+◌, ◌≤◌, List, length, sym, subst, arith}
use Rattle.lw_words.specs.Word.{Answer, AreAnswers}
use Rattle.lw_mealy.specs.Machine.{Rows, IsMachine, Gives, Equal, MealyMachine, mealy_of, Sure}
use Rattle.lw_certify.specs.Verdict.{AreEnoughBy, IsVerdict}
use Rattle.lw_certify.specs.declared.verdict.Verdict.TheVariants as verdict
use Rattle.lw_chunks.specs.Size.{suite_size, greatest_suite}
use Rattle.lw_chunks.specs.declared.method.Method.{Method}
use Rattle.lw_chunks.specs.declared.method.Method.TheVariants.{W, Wp, H}
use Rattle.lw_rounds.specs.Learned.{IsEnoughFor}
use Rattle.lw_rounds.specs.declared.settings.Testing.{Testing}
use Rattle.lw_renumber.specs.Renaming.{Renames, renamed_rows, renamed_answers}
use Rattle.lw_renumber.proofs.MachineLemmas.{turned, answers_back, rows_back, states_same, is_machine, gives_too, answers_too, equal_too, minimal_too}
use Rattle.lw_renumber.proofs.CoverLemmas.{covers_too}
use Rattle.lw_renumber.proofs.SuiteLemmas.{known_too, suite_too, walked_too}
use Rattle.lw_renumber.proofs.WpLemmas.{wp_suite_too}

-- a machine that gives the renamed answers gives, renamed back, the answers
pub gives_back : (f g : ℕ → ℕ) (a : ℕ) (m : Rows) (ks : List Answer) → Renames f g → AreAnswers a ks → IsMachine a m → Gives m (renamed_answers f ks) → Gives (renamed_rows g m) ks
gives_back f g a m ks r are machine gives =
    subst (λ (l : List Answer). Gives (renamed_rows g m) l) (answers_back f g r ks)
    (gives_too g a m (renamed_answers f ks) machine (answers_too f a ks are) gives)

pub sure_too : (f g : ℕ → ℕ) (a : ℕ) (h : Rows) (ks : List Answer) (k : ℕ) → Renames f g → IsMachine a h → AreAnswers a ks → Sure a h ks k → Sure a (renamed_rows f h) (renamed_answers f ks) k
sure_too f g a h ks k r own are sure m machine few gives =
    let n = states_same f h in
    let s = states_same g m in
    let less : length (renamed_rows g m) ≤ length h + k = omega (arith, n, s, few) in
    let same : Equal a (renamed_rows g m) h = sure (renamed_rows g m) (is_machine g a m machine) less (gives_back f g a m ks r are machine gives) in
    subst (λ (o : Rows). Equal a o (renamed_rows f h)) (rows_back g f (turned f g r) m)
    (equal_too f a (renamed_rows g m) h (is_machine g a m machine) own same)

-- answers that are enough by a method are so renamed
enough_too : (f g : ℕ → ℕ) (method : Method) (a : ℕ) (h : Rows) (ks : List Answer) (k : ℕ) → Renames f g → IsMachine a h → AreAnswers a ks
    → AreEnoughBy method a h ks k → AreEnoughBy method a (renamed_rows f h) (renamed_answers f ks) k
enough_too f g W a h ks k r machine are is = known_too f g r a h machine W (suite_too f g r a h machine) ks k are is
enough_too f g Wp a h ks k r machine are is = known_too f g r a h machine Wp (wp_suite_too f g r a h machine) ks k are is
enough_too f g H a h ks k r machine are is = covers_too f g r a h ks machine are k is

verdict_too : (f g : ℕ → ℕ) (method : Method) (a : ℕ) (h : Rows) (ks : List Answer) (k : ℕ) → Renames f g → IsMachine a h → AreAnswers a ks
    → IsVerdict method a h ks k verdict.Sure → IsVerdict method a (renamed_rows f h) (renamed_answers f ks) k verdict.Sure
verdict_too f g method a h ks k r machine are is =
    let n = states_same f h in (
      minimal_too f g a h r machine is.0,
      gives_too f a h ks machine are is.1,
      subst (λ (s : ℕ). suite_size s a k ≤ greatest_suite) (sym n) is.2,
      enough_too f g method a h ks k r machine are is.3,
    )

-- answers that are enough for a model by such tests are so renamed
pub tested_too : (f g : ℕ → ℕ) (testing : Testing) (a b c : ℕ) (model : MealyMachine) (ks : List Answer) (k : ℕ) → Renames f g → IsMachine a model.rows → AreAnswers a ks
    → IsEnoughFor testing a k ks model → IsEnoughFor testing a k (renamed_answers f ks) (mealy_of b c (renamed_rows f model.rows))
tested_too f g testing a b c model ks k r machine are is = record {
  verdict = verdict_too f g testing.suite a model.rows ks k r machine are is.verdict;
  walked = walked_too f g r a model.rows machine testing.walks ks are is.walked;
}
