-- The answers, the rows and what was learned, by the function that a list of new numbers makes.
use Rattle.std.proofs.Common.{◌≡◌, ℕ, ◌<◌, ◌≤◌, ⊎_elim, List, [], ◌∷◌, length, get_or, map, Result, Ok, Err, IfOk, IfErr, refl, ap, ap₂, sym, ◌∙◌, subst, arith}
use Rattle.std.specs.List.{All}
use Rattle.std.proofs.lemmas.Bool.{cases_lt}
use Rattle.std.proofs.lemmas.List.Elements.{All-head, All-tail, All-map}
use Rattle.lw_words.specs.Word.{Answer, AreAnswers, answers_of}
use Rattle.lw_words.specs.Renumbering.{renumbered_answers}
use Rattle.lw_words.specs.declared.kept.KeptAnswer.{KeptAnswer}
use Rattle.lw_cache.specs.Clash.{NothingClashes}
use Rattle.lw_mealy.specs.Machine.{IsMachine, MealyMachine, mealy_of, IsWithinLimits, AnswersBelow, Rows}
use Rattle.lw_mealy.specs.Renumbering.{renumbered_cell, renumbered_cells, renumbered_rows}
use Rattle.lw_rounds.specs.declared.settings.Testing.{Testing}
use Rattle.lw_rounds.specs.Learned.{IsEnoughFor, IsLearned, StopsAs}
use Rattle.lw_rounds.proofs.LawLemmas.{model_is_least}
use Rattle.lw_rounds.specs.declared.learned.Learned.{Learned}
use Rattle.lw_rounds.specs.declared.learner.Kind.{Kind}
use Rattle.lw_rounds.specs.declared.stops.LearnStop.{LearnStop}
use Rattle.lw_rounds.specs.declared.stops.LearnStop.TheVariants as learn
use Rattle.lw_renumber.specs.Renaming.{Renames, renamed_cell, renamed_row, renamed_rows, renamed_answers}
use Rattle.lw_renumber.specs.Sorting.{IsRenumbering, renumbered_learned, renamed_learned, IsCertifiedLeast, StillStops, HasSorted}
use Rattle.lw_renumber.proofs.MachineLemmas.{states_same, answers_too}
use Rattle.lw_renumber.proofs.SureLemmas.{tested_too}
use Rattle.lw_renumber.proofs.LawLemmas.{renamed_never_clash, renamed_is_certified, renamed_is_least, renamed_is_too_many, renamed_is_too_large}

-- two functions that agree where P holds
map_alike : {X Y : Type 0} (P : X → Type 0) (h k : X → Y) (xs : List X) → ((x : X) → P x → h x ≡ k x) → All P xs → map h xs ≡ map k xs
map_alike P h k [] same all = refl
map_alike P h k (x ∷ xs) same all = ap₂ (λ (y : _) (ys : List _). y ∷ ys) (same x (All-head P x xs all)) (map_alike P h k xs same (All-tail P x xs all))

module _ (to : List ℕ) (f : ℕ → ℕ) (n : ℕ) (listed : (y : ℕ) → y < n → get_or to y 0 ≡ f y) where
  pub rows_listed : (m : Rows) → AnswersBelow n m → renumbered_rows to m ≡ renamed_rows f m
  rows_listed m below =
      map_alike (λ r. All (λ c. c.1 < n) r) (renumbered_cells to) (renamed_row f) m
      (λ r each. map_alike (λ c. c.1 < n) (renumbered_cell to) (renamed_cell f) r (λ c lt. ap (λ (y : ℕ). (c.0, y)) (listed c.1 lt)) each) below

  pub answers_listed : (kept : List KeptAnswer) → All (λ k. All (λ y. y < n) k.outs) kept → answers_of (renumbered_answers to kept) ≡ renamed_answers f (answers_of kept)
  answers_listed [] below = refl
  answers_listed (k ∷ kept) below =
      ap₂ (λ (x : Answer) (ks : List Answer). x ∷ ks)
      (ap (λ (o : List ℕ). record { word = k.word; outs = o }) (map_alike (λ y. y < n) (λ y. get_or to y 0) f k.outs listed (All-head (λ k. All (λ y. y < n) k.outs) k kept below)))
      (answers_listed kept (All-tail (λ k. All (λ y. y < n) k.outs) k kept below))

-- outputs below a number stay below it
pub rows_below : (f : ℕ → ℕ) (n c : ℕ) (m : Rows) → ((y : ℕ) → y < n → f y < c) → AnswersBelow n m → AnswersBelow c (renamed_rows f m)
rows_below f n c m small below =
    All-map (λ r. All (λ c'. c'.1 < c) r) (renamed_row f) m (λ q d lt.
    All-map (λ c'. c'.1 < c) (renamed_cell f) (get_or m q d) (λ x e le. small (get_or (get_or m q d) x e).1 (below q d lt x e le)))

-- f stays below each number from n on
stays_below : (f : ℕ → ℕ) (n c y : ℕ) → ((y : ℕ) → y < n → f y < n) → ((y : ℕ) → n ≤ y → f y ≡ y) → n ≤ c → y < c → f y < c
stays_below f n c y within past le lt =
    ⊎_elim
    (λ (low : y < n). let h = within y low in omega (arith, h, le))
    (λ (high : n ≤ y). subst (λ (z : ℕ). z < c) (sym (past y high)) lt)
    (cases_lt y n)

-- the numbers that the limits ask: of outputs there is at least one
pub some_output : (t : MealyMachine) (n : ℕ) → IsWithinLimits t → AnswersBelow n t.rows → 1 ≤ n
some_output t n is below =
    let row = is.machine.complete 0 [] is.machine.some_state in
    let lt : 0 < length (get_or t.rows 0 []) = let e = row.0 in omega (arith, is.inputs, e) in
    let low = below 0 [] is.machine.some_state 0 (0, 0) lt in
    omega (arith, low)

module _ (f g : ℕ → ℕ) (r : Renames f g) (n : ℕ) (within : (y : ℕ) → y < n → f y < n) (past : (y : ℕ) → n ≤ y → f y ≡ y) (few : n ≤ 4096) (ks : List Answer) where
  -- the model is settled by the renamed answers
  settled : (kind : Kind) (a b k most : ℕ) (l : Learned) → AreAnswers a ks → AnswersBelow n l.model.rows → IsLearned kind a b k most ks l.model l.learner
      → IsCertifiedLeast a n k (renamed_answers f ks) (mealy_of l.model.inputs n (renamed_rows f l.model.rows))
  settled kind a b k most l are below is =
      let c = is.certified in
      let some : 1 ≤ n = some_output l.model n c.complete below in
      let model : MealyMachine = mealy_of a n (renamed_rows f l.model.rows) in
      subst (λ (i : ℕ). IsCertifiedLeast a n k (renamed_answers f ks) (mealy_of i n (renamed_rows f l.model.rows))) (sym c.inputs)
      (record {
        certified = renamed_is_certified f g a b n k ks l.model r are c (some, few) (rows_below f n n l.model.rows within below);
        least = renamed_is_least f g a (length model.rows) ks r are (λ m machine gives.
            subst (λ (s : ℕ). s ≤ length m) (sym (states_same f l.model.rows)) (model_is_least kind a b k most ks l.model l.learner are is m machine gives));
      })

  still : (a b k most : ℕ) (stop : LearnStop) → AreAnswers a ks → StopsAs a b k most ks stop → StillStops a k most f (renamed_answers f ks) stop
  still a b k most (learn.Ask stop) are is = tt
  still a b k most (learn.Crowd words) are is = renamed_is_too_many f g a most ks words r are is
  still a b k most (learn.TooLarge model number) are is =
      renamed_is_too_large f g a b 4096 k most ks model number r are is (omega arith, omega arith)
      (rows_below f 4096 4096 model.rows (λ y lt. stays_below f n 4096 y within past few lt)
      (λ q d lt x e le. let low = is.complete.answers q d lt x e le in omega (arith, low, is.complete.outputs)))

  learned_still : (kind : Kind) (a b k most : ℕ) (was : Result Learned LearnStop) → AreAnswers a ks → IfOk was (λ l. AnswersBelow n l.model.rows) → IfOk was (λ l. IsLearned kind a b k most ks l.model l.learner)
      → IfOk (renamed_learned n f was) (λ l. IsCertifiedLeast a n k (renamed_answers f ks) l.model)
  learned_still kind a b k most (Ok l) are below is = settled kind a b k most l are below is
  learned_still kind a b k most (Err stop) are below is = is

  enough_still : (testing : Testing) (a k : ℕ) (was : Result Learned LearnStop) → AreAnswers a ks → IfOk was (λ l. IsMachine a l.model.rows × IsEnoughFor testing a k ks l.model)
      → IfOk (renamed_learned n f was) (λ l. IsEnoughFor testing a k (renamed_answers f ks) l.model)
  enough_still testing a k (Ok l) are is = tested_too f g testing a l.model.inputs n l.model ks k r is.0 are is.1
  enough_still testing a k (Err stop) are is = is

  stopped_still : (a b k most : ℕ) (was : Result Learned LearnStop) → AreAnswers a ks → IfErr was (StopsAs a b k most ks)
      → IfErr (renamed_learned n f was) (StillStops a k most f (renamed_answers f ks))
  stopped_still a b k most (Ok l) are is = is
  stopped_still a b k most (Err stop) are is = still a b k most stop are is

pub has_sorted : (to : List ℕ) (before now : List (List ℕ)) (f g : ℕ → ℕ) (ks more : List Answer) (was is : Result Learned LearnStop)
    → IsRenumbering to before now f g → length before ≤ 4096 → IfOk was (λ l. AnswersBelow (length before) l.model.rows)
    → more ≡ renamed_answers f ks → is ≡ renamed_learned (length before) f was
    → HasSorted to before now ks more was is
has_sorted to before now f g ks more was is r few below answers renamed =
    let n : ℕ = length before in
    let same : n ≡ length now = sym r.count in
    record {
      f = f;
      g = g;
      renumbering = r;
      answers = answers;
      are = λ a are. subst (λ (ls : List Answer). AreAnswers a ls) (sym answers) (answers_too f a ks are);
      nothing = λ a are nothing. subst (λ (ls : List Answer). NothingClashes ls) (sym answers) (renamed_never_clash f g a ks r.renames are nothing);
      renamed = renamed ∙ ap (λ (c : ℕ). renamed_learned c f was) same;
      learned = λ kind a b k most are learned.
          subst (λ (c : ℕ). IfOk is (λ l. IsCertifiedLeast a c k more l.model)) same
          (subst (λ (ls : List Answer). IfOk is (λ l. IsCertifiedLeast a n k ls l.model)) (sym answers)
          (subst (λ (now : Result Learned LearnStop). IfOk now (λ l. IsCertifiedLeast a n k (renamed_answers f ks) l.model)) (sym renamed)
          (learned_still f g r.renames n r.within r.past few ks kind a b k most was are below learned)));
      enough = λ testing a k are enough.
          subst (λ (ls : List Answer). IfOk is (λ l. IsEnoughFor testing a k ls l.model)) (sym answers)
          (subst (λ (now : Result Learned LearnStop). IfOk now (λ l. IsEnoughFor testing a k (renamed_answers f ks) l.model)) (sym renamed)
          (enough_still f g r.renames n r.within r.past few ks testing a k was are enough));
      stopped = λ a b k most are stops.
          subst (λ (ls : List Answer). IfErr is (StillStops a k most f ls)) (sym answers)
          (subst (λ (now : Result Learned LearnStop). IfErr now (StillStops a k most f (renamed_answers f ks))) (sym renamed)
          (stopped_still f g r.renames n r.within r.past few ks a b k most was are stops));
    }

pub learned_listed : (to : List ℕ) (f : ℕ → ℕ) (n : ℕ) (was : Result Learned LearnStop) → ((y : ℕ) → y < n → get_or to y 0 ≡ f y) → IfOk was (λ l. AnswersBelow n l.model.rows)
    → renumbered_learned n to was ≡ renamed_learned n f was
learned_listed to f n (Ok l) listed below =
    ap (λ (m : Rows). Ok (record { model = mealy_of l.model.inputs n m; learner = l.learner })) (rows_listed to f n listed l.model.rows below)
learned_listed to f n (Err stop) listed below = refl
