-- Rows that go on, and their cells.
use Rattle.std.proofs.Common.{◌≡◌, ⊎_elim, ℕ, ◌+◌, ◌<◌, ◌≤◌, List, [], ◌∷◌, ◌++◌, length, get_or, Contains, ap, sym, ◌∙◌, subst, arith, append-nil, append_assoc}
use Rattle.std.specs.List.{All}
use Rattle.std.proofs.Math.ListN.{get_or-append}
use Rattle.std.proofs.Math.Seq.{get_or-append_seam}
use Rattle.std.proofs.lemmas.Bool.{cases_lt}
use Rattle.std.proofs.lemmas.List.{length-append}
use Rattle.std.proofs.lemmas.List.Elements.{All-append, All-push, All-weaker, Contains-push}
use Rattle.lw_words.specs.Word.{Answer, IsWord}
use Rattle.lw_cache.specs.Cut.{word_at}
use Rattle.lw_table.specs.bodies.Classes.{row_of}
use Rattle.lw_table.specs.bodies.Filling.{EachCell, EachRow, IsCellOf, GoesOn, GoOn}
use Rattle.lw_table.specs.bodies.Rows.{IsRowWord, no_cells, class_at, cells_at}
use Rattle.lw_table.specs.declared.rows.Row.{Row}
use Rattle.lw_table.proofs.RowLemmas.{row_word_once}
use Rattle.lw_table.proofs.StepLemmas.{row_stays}

-- what stood in a list stands in it with more behind
contains_more : (xs more : List (List ℕ)) (x : List ℕ) → Contains xs x → Contains (xs ++ more) x
contains_more xs more x has = (has.0, (let size = length-append xs more in let lt = has.1 in omega (arith, size, lt)), get_or-append xs more x has.0 has.1 ∙ has.2)

-- one word more
pub cell_added : (words now suffixes : List (List ℕ)) (word asked : List ℕ) (from k : ℕ) → now ≡ words ++ asked ∷ [] → asked ≡ word ++ word_at suffixes k → EachCell (Contains words) suffixes word from k → EachCell (Contains now) suffixes word from (k + 1)
cell_added words now suffixes word asked from k grown is each i le lt =
    subst (λ (l : List (List ℕ)). Contains l (word ++ word_at suffixes i)) (sym grown)
    (⊎_elim
    (λ (below : i < k). contains_more words (asked ∷ []) (word ++ word_at suffixes i) (each i le below))
    (λ (above : k ≤ i).
    let at : i ≡ k = omega arith in
    subst (Contains (words ++ asked ∷ [])) (is ∙ ap (λ (j : ℕ). word ++ word_at suffixes j) (sym at)) (Contains-push words asked))
    (cases_lt i k))

pub letters_added : (words now suffixes : List (List ℕ)) (word asked : List ℕ) (a k : ℕ) → now ≡ words ++ asked ∷ [] → asked ≡ word ++ word_at suffixes k → k < length suffixes → IsWord a word → All (IsWord a) suffixes → All (IsWord a) words → All (IsWord a) now
letters_added words now suffixes word asked a k grown is lt letters each was =
    subst (All (IsWord a)) (sym grown) (All-push (IsWord a) words asked was (subst (IsWord a) (sym is) (All-append (λ x. x < a) word (word_at suffixes k) letters (each k [] lt))))

pub more_then : {X : Type 0} (xs ys zs more : List X) → (first : List X) × (ys ≡ xs ++ first) → zs ≡ ys ++ more → (all : List X) × (zs ≡ xs ++ all)
more_then {X = X} xs ys zs more first grown = (first.0 ++ more, grown ∙ (ap (λ (l : List X). l ++ more) first.1 ∙ append_assoc xs first.0 more))

-- a row that is as it was
pub goes_nowhere : (ks : List Answer) (suffixes : List (List ℕ)) (word : List ℕ) (row : List (List ℕ)) → GoesOn ks suffixes word row row
goes_nowhere ks suffixes word row = record { cells = []; longer = sym (append-nil row); each = λ k le lt. absurd (omega arith) }

-- a row with one cell more
pub goes_further : (ks : List Answer) (suffixes : List (List ℕ)) (word : List ℕ) (before now next : List (List ℕ)) (cell : List ℕ) (k : ℕ) → GoesOn ks suffixes word before now → length now ≡ k → IsCellOf ks word (word_at suffixes k) cell → next ≡ now ++ cell ∷ [] → GoesOn ks suffixes word before next
goes_further ks suffixes word before now next cell k was size is grown =
    subst (GoesOn ks suffixes word before) (sym grown)
    (record {
      cells = was.cells ++ cell ∷ [];
      longer = ap (λ (l : List (List ℕ)). l ++ cell ∷ []) was.longer ∙ append_assoc before was.cells (cell ∷ []);
      each = λ i le lt.
          let long : length (now ++ cell ∷ []) ≡ length now + 1 = length-append now (cell ∷ []) in
          ⊎_elim
          (λ (below : i < length now). subst (IsCellOf ks word (word_at suffixes i)) (sym (get_or-append now (cell ∷ []) [] i below)) (was.each i le below))
          (λ (above : length now ≤ i).
          let at : i ≡ length now = omega arith in
          subst (λ (j : ℕ). IsCellOf ks word (word_at suffixes j) (word_at (now ++ cell ∷ []) j)) (sym at)
          (subst (IsCellOf ks word (word_at suffixes (length now))) (sym (get_or-append_seam now cell [] [])) (subst (λ (j : ℕ). IsCellOf ks word (word_at suffixes j) cell) (sym size) is)))
          (cases_lt i (length now));
    })

-- what holds of the cells of the rows so far, and of those of one row more
pub each_row_more : (P Q : List ℕ → Type 0) (a : ℕ) (access suffixes : List (List ℕ)) (rows : List Row) (first row : ℕ) (word : List ℕ) → ((w : List ℕ) → P w → Q w) → EachRow P a access suffixes rows first row → IsRowWord a access row word → EachCell Q suffixes word (cells_at rows row) (length suffixes) → EachRow Q a access suffixes rows first (row + 1)
each_row_more P Q a access suffixes rows first row word weaker was is here j w le lt is_w k low high =
    ⊎_elim
    (λ (below : j < row). weaker (w ++ word_at suffixes k) (was j w le below is_w k low high))
    (λ (above : row ≤ j).
    let at : j ≡ row = omega arith in
    let one : word ≡ w = row_word_once a access row word w is (subst (λ (i : ℕ). IsRowWord a access i w) at is_w) in
    subst (λ (v : List ℕ). Q (v ++ word_at suffixes k)) one (here k (subst (λ (i : ℕ). cells_at rows i ≤ k) at low) high))
    (cases_lt j row)

pub contained_more : (words now : List (List ℕ)) → (more : List (List ℕ)) × (now ≡ words ++ more) → (w : List ℕ) → Contains words w → Contains now w
contained_more words now grown w has = subst (λ (l : List (List ℕ)). Contains l w) (sym grown.1) (contains_more words grown.0 w has)

-- one row more
module _ (ks : List Answer) (a : ℕ) (access suffixes : List (List ℕ)) (before now next more : List (List (List ℕ))) (rows filled after : List Row) (first row : ℕ) (r : Row) (word : List ℕ) where
  pub go_on_more : GoOn ks a access suffixes before rows first now filled → first + length filled ≡ row → next ≡ now ++ more → r.class < length next → r.cells ≡ length (row_of next r.class) → r.cells ≡ length suffixes
      → IsRowWord a access row word → GoesOn ks suffixes word (row_of before (class_at rows row)) (row_of next r.class) → after ≡ filled ++ r ∷ [] → GoOn ks a access suffixes before rows first next after
  go_on_more was place grown within counts whole is goes_on grown_rows =
      let longer : length next ≡ length now + length more = ap (λ (l : List (List (List ℕ))). length l) grown ∙ length-append now more in
      let stays : (class : ℕ) → class < length now → row_of next class ≡ row_of now class = λ class lt. row_stays now more next class grown lt in
      let long : length (filled ++ r ∷ []) ≡ length filled + 1 = length-append filled (r ∷ []) in
      subst (GoOn ks a access suffixes before rows first next) (sym grown_rows)
      (record {
        within = All-push (λ s. s.class < length next) filled r (All-weaker (λ s. s.class < length now) (λ s. s.class < length next) (λ s lt. omega (arith, lt, longer)) filled was.within) within;
        counts = All-push (λ s. s.cells ≡ length (row_of next s.class)) filled r
            (λ i d lt. was.counts i d lt ∙ ap (λ (l : List (List ℕ)). length l) (sym (stays (get_or filled i d).class (was.within i d lt)))) counts;
        whole = All-push (λ s. s.cells ≡ length suffixes) filled r was.whole whole;
        each = λ i w lt is_w.
            ⊎_elim
            (λ (below : i < length filled).
            let at : class_at (filled ++ r ∷ []) i ≡ class_at filled i = ap (λ (s : Row). s.class) (get_or-append filled (r ∷ []) no_cells i below) in
            subst (GoesOn ks suffixes w (row_of before (class_at rows (first + i)))) (sym (stays (class_at filled i) (was.within i no_cells below)) ∙ ap (row_of next) (sym at)) (was.each i w below is_w))
            (λ (above : length filled ≤ i).
            let here : i ≡ length filled = omega (arith, long, above, lt) in
            let there : first + i ≡ row = omega (arith, here, place) in
            let at : class_at (filled ++ r ∷ []) i ≡ r.class = ap (class_at (filled ++ r ∷ [])) here ∙ ap (λ (s : Row). s.class) (get_or-append_seam filled r [] no_cells) in
            let one : word ≡ w = row_word_once a access row word w is (subst (λ (j : ℕ). IsRowWord a access j w) there is_w) in
            subst (GoesOn ks suffixes w (row_of before (class_at rows (first + i)))) (ap (row_of next) (sym at))
            (subst (λ (j : ℕ). GoesOn ks suffixes w (row_of before (class_at rows j)) (row_of next r.class)) (sym there)
            (subst (λ (v : List ℕ). GoesOn ks suffixes v (row_of before (class_at rows row)) (row_of next r.class)) one goes_on)))
            (cases_lt i (length filled));
      })

-- what holds of a batch's words holds of the cells that it asks for
pub rows_known : (P : List ℕ → Type 0) (batch : List (List ℕ)) (a : ℕ) (access suffixes : List (List ℕ)) (rows : List Row) (first to : ℕ) → EachRow (Contains batch) a access suffixes rows first to → All P batch → EachRow P a access suffixes rows first to
rows_known P batch a access suffixes rows first to each all j w le lt is k low high =
    let has = each j w le lt is k low high in
    subst P has.2 (all has.0 (w ++ word_at suffixes k) has.1)
