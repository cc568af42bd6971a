-- The learner of the definition comes to one end at most.
use Rattle.std.proofs.Common.{◌≡◌, ⊎_elim, ℕ, zero, suc, ◌+◌, ◌/◌, ◌<◌, ◌≤◌, List, [], ◌∷◌, ◌++◌, length, take, get_or, Some, None, ap, sym, ◌∙◌, subst, arith}
use Rattle.std.proofs.lemmas.Bool.{cases_lt}
use Rattle.std.proofs.lemmas.List.{get_or-take}
use Rattle.lw_words.specs.First.{FailsFirst}
use Rattle.lw_mealy.specs.Machine.{Rows, answer}
use Rattle.lw_mealy.specs.Difference.{DifferFirst}
use Rattle.lw_separate.specs.Canonical.{IsCanonical}
use Rattle.lw_separate.proofs.Before.{neither_before}
use Rattle.lw_separate.proofs.UniqueLemmas.{one_canonical}
use Rattle.lw_chunks.specs.Size.{suite_size, greatest_suite}
use Rattle.lw_suite.specs.Suite.{IsSuite}
use Rattle.lw_suite.proofs.SuiteLemmas.{one_suite}
use Rattle.lw_cache.specs.Cut.{word_at}
use Rattle.lw_plain.specs.Table.{PlainTable, first_table}
use Rattle.lw_plain.specs.Rounds.{Task, AgreesOn, IsShortest, FailsWords, PassesWords, IsUnrefuted, IsSuiteFor, IsRevealed, IsFoundBySuite, IsCounterexample, IsRefined, IsRefinedTimes, LearnsPlainly, IsPlainCrowd, IsPlainTooLarge, first_chunks, hypothesis_of, new_row_of, closed_by, refined_by}
use Rattle.lw_plain.specs.Ends.{Learned, Crowd, TooLarge, OnePlainEnd}

-- two numbers are one where neither is below the other
one_number : (i j : ℕ) → (i < j → ⊥) → (j < i → ⊥) → i ≡ j
one_number i j p q =
    ⊎_elim (λ (lt : i < j). absurd (p lt)) (λ (le : j ≤ i). ⊎_elim (λ (lt : j < i). absurd (q lt)) (λ (ge : i ≤ j). omega arith) (cases_lt j i)) (cases_lt i j)

one_first : {X : Type 0} (P : X → Type 0) (xs : List X) (d : X) (i j : ℕ) → FailsFirst P xs i → FailsFirst P xs j → i ≡ j
one_first P xs d i j f g = one_number i j (λ lt. f.fails d (g.before i d (omega arith) lt)) (λ lt. g.fails d (f.before j d (omega arith) lt))

place_before : (a b : List ℕ) (i j : ℕ) → DifferFirst a b i → DifferFirst a b j → i < j → ⊥
place_before a b i j f g lt =
    f.here
    (sym (get_or-take j a i 0 lt) ∙ (ap (λ (o : List ℕ). get_or o i 0) g.before ∙ get_or-take j b i 0 lt))

one_place : (a b : List ℕ) (i j : ℕ) → DifferFirst a b i → DifferFirst a b j → i ≡ j
one_place a b i j f g = one_number i j (place_before a b i j f g) (place_before a b j i g f)

module _ (m h : Rows) (words : List (List ℕ)) where
  -- the first word of a list on which the machines differ, its front, and the chunks
  one_failure : (u v : List ℕ) (p q : List (List (List ℕ))) → FailsWords m h words u p → FailsWords m h words v q → (u ≡ v) × (p ≡ q)
  one_failure u v p q f g =
      let number = one_first (AgreesOn m h) words [] f.number g.number f.first g.first in
      let here : IsShortest m h (word_at words g.number) u = subst (λ (i : ℕ). IsShortest m h (word_at words i) u) number f.here in
      let place = one_place (answer h (word_at words g.number)) (answer m (word_at words g.number)) here.place g.here.place here.first g.here.first in (
        here.is ∙ (ap (λ (i : ℕ). take (i + 1) (word_at words g.number)) place ∙ sym g.here.is),
        f.chunks ∙ (ap (λ (i : ℕ). first_chunks words (i / 512 + 1)) number ∙ sym g.chunks),
      )

  passes_or_fails : (v : List ℕ) (p q : List (List (List ℕ))) → PassesWords m h words p → FailsWords m h words v q → ⊥
  passes_or_fails v p q passes fails = fails.first.fails [] (passes.agrees fails.number [] fails.first.within)

lt_le_false : {a b : ℕ} → a < b → b ≤ a → ⊥
lt_le_false p q = omega arith

module _ (task : Task) where
  -- the suite is one
  one_made : (h c d : Rows) (s t : List (List ℕ)) → IsSuiteFor task h c s → IsSuiteFor task h d t → (c ≡ d) × (s ≡ t)
  one_made h c d s t f g =
      let model = one_canonical task.letters h c d f.canonical g.canonical in
      (model, one_suite task.letters d task.extra s t (subst (λ (n : Rows). IsSuite task.letters n task.extra s) model f.of_model) g.of_model)

  -- a table has one counterexample
  one_counterexample : (t : PlainTable) (u v : List ℕ) (p q : List (List (List ℕ))) → IsCounterexample task t u p → IsCounterexample task t v q → (u ≡ v) × (p ≡ q)
  one_counterexample t u v p q f g =
      let h = hypothesis_of task t in
      ⊎_elim
      (λ (a : IsRevealed task t u × (p ≡ [])). ⊎_elim
      (λ (b : IsRevealed task t v × (q ≡ [])). (neither_before u v (b.0.least.least u a.0.least.does) (a.0.least.least v b.0.least.does), a.1 ∙ sym b.1))
      (λ (b : IsFoundBySuite task t v q). absurd (b.ready.gives u a.0.least.does))
      g)
      (λ (a : IsFoundBySuite task t u p). ⊎_elim
      (λ (b : IsRevealed task t v × (q ≡ [])). absurd (a.ready.gives v b.0.least.does))
      (λ (b : IsFoundBySuite task t v q).
      let suites = one_made h a.model b.model a.suite b.suite a.made b.made in
      one_failure task.machine h b.suite u v p q (subst (λ (s : List (List ℕ)). FailsWords task.machine h s u p) suites.1 a.fails) b.fails)
      g)
      f

  one_refined : (t x y : PlainTable) → IsRefined task t x → IsRefined task t y → x ≡ y
  one_refined t x y f g =
      let same = one_counterexample t f.word g.word f.asked g.asked f.counterexample g.counterexample in
      f.is ∙ (ap (λ (w : List ℕ). refined_by task t w f.asked) same.0 ∙ (ap (λ (p : List (List (List ℕ))). refined_by task t g.word p) same.1 ∙ sym g.is))

  one_table : (n : ℕ) (start x y : PlainTable) → IsRefinedTimes task n start x → IsRefinedTimes task n start y → x ≡ y
  one_table zero start x y f g = f ∙ sym g
  one_table (suc n) start x y (b, f, r) (c, g, s) =
      let same = one_table n start b c f g in
      one_refined c x y (subst (λ (t : PlainTable). IsRefined task t x) same r) s

  -- a table that is refined no further
  IsLast : PlainTable → Type 0
  IsLast t = (u : PlainTable) → IsRefined task t u → ⊥

  -- beyond a last table there is none
  none_beyond : (n k : ℕ) (start x y : PlainTable) → IsRefinedTimes task n start x → IsLast x → IsRefinedTimes task k start y → n < k → ⊥
  unfolding IsLast
  none_beyond n zero start x y f last g lt = absurd (omega arith)
  none_beyond n (suc k) start x y f last (c, g, s) lt =
      ⊎_elim
      (λ (below : n < k). none_beyond n k start x c f last g below)
      (λ (le : k ≤ n).
      let same : k ≡ n = omega arith in
      let table = one_table n start c x (subst (λ (i : ℕ). IsRefinedTimes task i start c) same g) f in
      last y (subst (λ (t : PlainTable). IsRefined task t y) table s))
      (cases_lt n k)

  one_last : (n k : ℕ) (start x y : PlainTable) → IsRefinedTimes task n start x → IsLast x → IsRefinedTimes task k start y → IsLast y → (n ≡ k) × (x ≡ y)
  one_last n k start x y f fl g gl =
      let same = one_number n k (none_beyond n k start x y f fl g) (none_beyond k n start y x g gl f) in
      (same, one_table k start x y (subst (λ (i : ℕ). IsRefinedTimes task i start x) same f) g)

  -- tables at which a learning ends
  crowd_last : (t : PlainTable) (w : List ℕ) → new_row_of task t ≡ Some w → IsLast t
  unfolding IsLast
  crowd_last t w new u r =
      ⊎_elim
      (λ (a : IsRevealed task t r.word × (r.asked ≡ [])). let closed = a.0.closed in let e : None ≡ Some w = sym closed ∙ new in absurd (cc))
      (λ (a : IsFoundBySuite task t r.word r.asked). let closed = a.ready.closed in let e : None ≡ Some w = sym closed ∙ new in absurd (cc))
      r.counterexample

  learned_last : (t : PlainTable) (model : Rows) (suite : List (List ℕ)) (asked : List (List (List ℕ))) → IsUnrefuted task t → IsSuiteFor task (hypothesis_of task t) model suite
      → PassesWords task.machine (hypothesis_of task t) suite asked → IsLast t
  unfolding IsLast
  learned_last t model suite asked ready made passes u r =
      ⊎_elim
      (λ (a : IsRevealed task t r.word × (r.asked ≡ [])). ready.gives r.word a.0.least.does)
      (λ (a : IsFoundBySuite task t r.word r.asked).
      let suites = one_made (hypothesis_of task t) a.model model a.suite suite a.made made in
      passes_or_fails task.machine (hypothesis_of task t) suite r.word asked r.asked passes (subst (λ (s : List (List ℕ)). FailsWords task.machine (hypothesis_of task t) s r.word r.asked) suites.1 a.fails))
      r.counterexample

  large_last : (t : PlainTable) (model : Rows) → IsUnrefuted task t → IsCanonical task.letters (hypothesis_of task t) model → greatest_suite < suite_size (length model) task.letters task.extra → IsLast t
  unfolding IsLast
  large_last t model ready canonical large u r =
      ⊎_elim
      (λ (a : IsRevealed task t r.word × (r.asked ≡ [])). ready.gives r.word a.0.least.does)
      (λ (a : IsFoundBySuite task t r.word r.asked).
      let same = one_canonical task.letters (hypothesis_of task t) a.model model a.made.canonical canonical in
      let few : suite_size (length model) task.letters task.extra ≤ greatest_suite = subst (λ (n : Rows). suite_size (length n) task.letters task.extra ≤ greatest_suite) same a.made.few in
      lt_le_false large few)
      r.counterexample

-- two ends at one table
module _ (task : Task) (given : List (List ℕ)) where
  one_learned : (c d : Rows) (i j : ℕ) (p q : List (List (List ℕ))) → LearnsPlainly task given c i p → LearnsPlainly task given d j q → Learned c i p ≡ Learned d j q
  one_learned c d i j p q f g =
      let last = one_last task i j (closed_by task (first_table task.letters given)) f.table g.table f.after (learned_last task f.table c f.suite f.asked f.ready f.made f.passes) g.after (learned_last task g.table d g.suite g.asked g.ready g.made g.passes) in
      let made : IsSuiteFor task (hypothesis_of task g.table) c f.suite = subst (λ (t : PlainTable). IsSuiteFor task (hypothesis_of task t) c f.suite) last.1 f.made in
      let same = one_made task (hypothesis_of task g.table) c d f.suite g.suite made g.made in
      let asked : f.asked ≡ g.asked = f.passes.chunks ∙ (ap (λ (s : List (List ℕ)). first_chunks s ((length s + 511) / 512)) same.1 ∙ sym g.passes.chunks) in
      let batches : p ≡ q = f.all ∙ (ap (λ (t : PlainTable). t.batches ++ f.asked) last.1 ∙ (ap (λ (a : List (List (List ℕ))). g.table.batches ++ a) asked ∙ sym g.all)) in
      let count : i ≡ j = last.0 in
      let model : c ≡ d = same.0 in
      cc

  one_crowd : (u v : List (List ℕ)) (p q : List (List (List ℕ))) → IsPlainCrowd task given u p → IsPlainCrowd task given v q → Crowd u p ≡ Crowd v q
  one_crowd u v p q f g =
      let last = one_last task f.refinements g.refinements (closed_by task (first_table task.letters given)) f.table g.table f.after (crowd_last task f.table f.word f.new) g.after (crowd_last task g.table g.word g.new) in
      let found : Some f.word ≡ Some g.word = sym f.new ∙ (ap (λ (t : PlainTable). new_row_of task t) last.1 ∙ g.new) in
      let word : f.word ≡ g.word = cc in
      let words : u ≡ v = f.is ∙ (ap (λ (t : PlainTable). t.access ++ f.word ∷ []) last.1 ∙ (ap (λ (w : List ℕ). g.table.access ++ w ∷ []) word ∙ sym g.is)) in
      let batches : p ≡ q = f.all ∙ (ap (λ (t : PlainTable). t.batches) last.1 ∙ sym g.all) in
      cc

  large_end : (c : Rows) (i : ℕ) (p : List (List (List ℕ))) → (f : IsPlainTooLarge task given c i p) → IsLast task f.table
  large_end c i p f = large_last task f.table c f.ready f.canonical (subst (λ (n : ℕ). greatest_suite < n) f.size f.large)

  one_large : (c d : Rows) (i j : ℕ) (p q : List (List (List ℕ))) → IsPlainTooLarge task given c i p → IsPlainTooLarge task given d j q → TooLarge c i p ≡ TooLarge d j q
  one_large c d i j p q f g =
      let last = one_last task f.refinements g.refinements (closed_by task (first_table task.letters given)) f.table g.table f.after (large_end c i p f) g.after (large_end d j q g) in
      let canonical : IsCanonical task.letters (hypothesis_of task g.table) c = subst (λ (t : PlainTable). IsCanonical task.letters (hypothesis_of task t) c) last.1 f.canonical in
      let model : c ≡ d = one_canonical task.letters (hypothesis_of task g.table) c d canonical g.canonical in
      let number : i ≡ j = f.size ∙ (ap (λ (n : Rows). suite_size (length n) task.letters task.extra) model ∙ sym g.size) in
      let batches : p ≡ q = f.all ∙ (ap (λ (t : PlainTable). t.batches) last.1 ∙ sym g.all) in
      cc

  not_both : (t : PlainTable) (w : List ℕ) → new_row_of task t ≡ None → new_row_of task t ≡ Some w → ⊥
  not_both t w none some = let e : None ≡ Some w = sym none ∙ some in absurd (cc)

  learned_or_crowd : (c : Rows) (i : ℕ) (p q : List (List (List ℕ))) (v : List (List ℕ)) → LearnsPlainly task given c i p → IsPlainCrowd task given v q → ⊥
  learned_or_crowd c i p q v f g =
      let last = one_last task i g.refinements (closed_by task (first_table task.letters given)) f.table g.table f.after (learned_last task f.table c f.suite f.asked f.ready f.made f.passes) g.after (crowd_last task g.table g.word g.new) in
      not_both g.table g.word (subst (λ (t : PlainTable). new_row_of task t ≡ None) last.1 f.ready.closed) g.new

  large_or_crowd : (c : Rows) (i : ℕ) (p q : List (List (List ℕ))) (v : List (List ℕ)) → IsPlainTooLarge task given c i p → IsPlainCrowd task given v q → ⊥
  large_or_crowd c i p q v f g =
      let last = one_last task f.refinements g.refinements (closed_by task (first_table task.letters given)) f.table g.table f.after (large_end c i p f) g.after (crowd_last task g.table g.word g.new) in
      not_both g.table g.word (subst (λ (t : PlainTable). new_row_of task t ≡ None) last.1 f.ready.closed) g.new

  learned_or_large : (c d : Rows) (i j : ℕ) (p q : List (List (List ℕ))) → LearnsPlainly task given c i p → IsPlainTooLarge task given d j q → ⊥
  learned_or_large c d i j p q f g =
      let last = one_last task i g.refinements (closed_by task (first_table task.letters given)) f.table g.table f.after (learned_last task f.table c f.suite f.asked f.ready f.made f.passes) g.after (large_end d j q g) in
      let canonical : IsCanonical task.letters (hypothesis_of task g.table) c = subst (λ (t : PlainTable). IsCanonical task.letters (hypothesis_of task t) c) last.1 f.made.canonical in
      let model : c ≡ d = one_canonical task.letters (hypothesis_of task g.table) c d canonical g.canonical in
      let few : suite_size (length d) task.letters task.extra ≤ greatest_suite = subst (λ (n : Rows). suite_size (length n) task.letters task.extra ≤ greatest_suite) model f.made.few in
      lt_le_false (subst (λ (n : ℕ). greatest_suite < n) g.size g.large) few

pub one_plain_end : OnePlainEnd
one_plain_end task given (Learned c i p) (Learned d j q) f g = one_learned task given c d i j p q f g
one_plain_end task given (Learned c i p) (Crowd v q) f g = absurd (learned_or_crowd task given c i p q v f g)
one_plain_end task given (Learned c i p) (TooLarge d j q) f g = absurd (learned_or_large task given c d i j p q f g)
one_plain_end task given (Crowd u p) (Learned d j q) f g = absurd (learned_or_crowd task given d j q p u g f)
one_plain_end task given (Crowd u p) (Crowd v q) f g = one_crowd task given u v p q f g
one_plain_end task given (Crowd u p) (TooLarge d j q) f g = absurd (large_or_crowd task given d j q p u g f)
one_plain_end task given (TooLarge c i p) (Learned d j q) f g = absurd (learned_or_large task given d c j i q p g f)
one_plain_end task given (TooLarge c i p) (Crowd v q) f g = absurd (large_or_crowd task given c i p q v f g)
one_plain_end task given (TooLarge c i p) (TooLarge d j q) f g = one_large task given c d i j p q f g
