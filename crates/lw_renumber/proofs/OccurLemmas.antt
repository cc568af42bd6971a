-- Each output of a certified model came in an answer.
use Rattle.std.proofs.Common.{◌≡◌, ℕ, suc, ◌<◌, Bool, true, false, cond, ltb, List, [], ◌∷◌, ◌++◌, length, get_or, map, Result, Ok, Err, IfOk, refl, ap, ap₂, sym, ◌∙◌, subst, arith}
use Rattle.std.specs.List.{All}
use Rattle.std.proofs.lemmas.Bool.Decides.{Decides-ltb}
use Rattle.std.proofs.lemmas.List.{get_or-append-add}
use Rattle.std.proofs.lemmas.List.Elements.{All-map, All-from_get_or, All-append, All-cons, All-nil, All-head, All-tail}
use Rattle.lw_words.specs.Word.{Answer, AreAnswers, answer_of, answers_of, IsWord}
use Rattle.lw_words.specs.declared.kept.KeptAnswer.{KeptAnswer}
use Rattle.lw_mealy.specs.Machine.{Rows, IsMachine, row, output, after, out, answer, Gives, Equal, MealyMachine, AnswersBelow}
use Rattle.lw_mealy.proofs.RowLemmas.{is_row}
use Rattle.lw_mealy.proofs.WordLemmas.{out-append, length-out}
use Rattle.lw_rounds.specs.Learned.{IsCertified, IsLearned}
use Rattle.lw_rounds.specs.declared.learned.Learned.{Learned}
use Rattle.lw_rounds.specs.declared.learner.Kind.{Kind}
use Rattle.lw_rounds.specs.declared.stops.LearnStop.{LearnStop}
use Rattle.lw_renumber.specs.Laws.{OutputsOccur}
use Rattle.lw_renumber.specs.Renaming.{renamed_rows, renamed_answers, OutsBelow}
use Rattle.lw_renumber.proofs.MachineLemmas.{after_is, output_is, states_same, is_machine, gives_too}

-- what is below n stays, and all else changes
raised : ℕ → ℕ → ℕ
raised n y = cond (ltb y n) y (suc y)

raised_low : (n y : ℕ) → y < n → raised n y ≡ y
unfolding raised
raised_low n y lt = ap (λ (b : Bool). cond b y (suc y)) ((Decides-ltb y n).1 lt)

raised_high : (n y : ℕ) → raised n y ≡ y → y < n
unfolding raised
raised_high n y =
    elim (ltb y n) as (λ b. ltb y n ≡ b → cond b y (suc y) ≡ y → y < n) [
      | true ↦ λ e same. (Decides-ltb y n).0 e
      | false ↦ λ e same. absurd (omega (arith, same))
    ] refl

raised_outs : (n : ℕ) (o : List ℕ) → All (λ y. y < n) o → map (raised n) o ≡ o
raised_outs n [] below = refl
raised_outs n (y ∷ o) below = ap₂ (λ (x : ℕ) (p : List ℕ). x ∷ p) (raised_low n y (All-head (λ y. y < n) y o below)) (raised_outs n o (All-tail (λ y. y < n) y o below))

raised_answers : (n : ℕ) (ks : List Answer) → OutsBelow n ks → renamed_answers (raised n) ks ≡ ks
raised_answers n [] below = refl
raised_answers n (k ∷ ks) below =
    ap₂ (λ (x : Answer) (p : List Answer). x ∷ p)
    (ap (λ (o : List ℕ). record { word = k.word; outs = o }) (raised_outs n k.outs (All-head (λ k. All (λ y. y < n) k.outs) k ks below)))
    (raised_answers n ks (All-tail (λ k. All (λ y. y < n) k.outs) k ks below))

-- the last output on a word
last_out : (m : Rows) (u : List ℕ) (x : ℕ) → get_or (answer m (u ++ x ∷ [])) (length u) 0 ≡ output m (after m 0 u) x
last_out m u x =
    let e : answer m (u ++ x ∷ []) ≡ out m 0 u ++ output m (after m 0 u) x ∷ [] = out-append m 0 u (x ∷ []) in
    let n : length (out m 0 u) ≡ length u = length-out m 0 u in
    ap (λ (o : List ℕ). get_or o (length u) 0) e
    ∙ (ap (λ (i : ℕ). get_or (out m 0 u ++ output m (after m 0 u) x ∷ []) i 0) (omega (arith, n))
    ∙ get_or-append-add (out m 0 u) (output m (after m 0 u) x ∷ []) 0 0)

below_each : (n a : ℕ) (m : Rows) → IsMachine a m → ((q x : ℕ) → q < length m → x < a → output m q x < n) → AnswersBelow n m
below_each n a m machine each =
    All-from_get_or (λ r. All (λ c. c.1 < n) r) m [] (λ q lt.
    All-from_get_or (λ c. c.1 < n) (row m q) (0, 0) (λ x le. each q x lt (subst (λ (s : ℕ). x < s) (is_row a m q machine lt).0 le)))

module _ (a b k n : ℕ) (ks : List Answer) (model : MealyMachine) (are : AreAnswers a ks) (is : IsCertified a b k ks model) (below : OutsBelow n ks) where
  abbrev h : Rows
  h = model.rows

  abbrev other : Rows
  other = renamed_rows (raised n) h

  machine : IsMachine a h
  machine = is.canonical.machine

  same : Equal a other h
  same =
      let s = states_same (raised n) h in
      is.sure other (is_machine (raised n) a h machine) (omega (arith, s))
      (subst (λ (l : List Answer). Gives other l) (raised_answers n ks below) (gives_too (raised n) a h ks machine are is.gives))

  each_below : (q x : ℕ) → q < length h → x < a → output h q x < n
  each_below q x lt le =
      let r = is.canonical.minimal.reached q lt in
      let word : IsWord a (r.0 ++ x ∷ []) = All-append (λ y. y < a) r.0 (x ∷ []) r.1 (All-cons (λ y. y < a) x [] le (All-nil (λ y. y < a))) in
      let at : (m : Rows) → after m 0 r.0 ≡ q → get_or (answer m (r.0 ++ x ∷ [])) (length r.0) 0 ≡ output m q x = λ m leads. last_out m r.0 x ∙ ap (λ (p : ℕ). output m p x) leads in
      let equal : output other q x ≡ output h q x = sym (at other (after_is (raised n) h 0 r.0 ∙ r.2)) ∙ (ap (λ (o : List ℕ). get_or o (length r.0) 0) (same (r.0 ++ x ∷ []) word) ∙ at h r.2) in
      raised_high n (output h q x) (sym (output_is (raised n) a h q x machine lt le) ∙ equal)

  pub all_below : AnswersBelow n h
  all_below = below_each n a h machine each_below

pub outputs_occur : OutputsOccur
outputs_occur a b k n ks model are is below = all_below a b k n ks model are is below

-- the same of what a learning answers
pub learned_below : (kind : Kind) (a b k most n : ℕ) (ks : List Answer) (was : Result Learned LearnStop) → AreAnswers a ks → OutsBelow n ks
    → IfOk was (λ l. IsLearned kind a b k most ks l.model l.learner) → IfOk was (λ l. AnswersBelow n l.model.rows)
learned_below kind a b k most n ks (Ok l) are below is = outputs_occur a b k n ks l.model are is.certified below
learned_below kind a b k most n ks (Err stop) are below is = is

pub kept_below : (n : ℕ) (kept : List KeptAnswer) → All (λ k. IsWord n k.outs) kept → OutsBelow n (answers_of kept)
kept_below n kept below = All-map (λ k. All (λ y. y < n) k.outs) answer_of kept below
