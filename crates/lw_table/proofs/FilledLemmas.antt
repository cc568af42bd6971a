-- A table whose rows were filled.
use Rattle.std.proofs.Common.{◌≡◌, ◌≢◌, inl, inr, ⊎_elim, ℕ, ◌+◌, ◌*◌, ◌-◌, ◌/◌, ◌%◌, ◌<◌, ◌≤◌, List, [], ◌∷◌, ◌++◌, length, take, refl, ap, sym, ◌∙◌, subst, arith}
use Rattle.std.specs.List.{All}
use Rattle.std.proofs.Math.ListN.{get_or-append}
use Rattle.std.proofs.Math.Seq.{take-append_seam}
use Rattle.std.proofs.lemmas.Bool.{cases_lt}
use Rattle.std.proofs.lemmas.List.{length-append, length-drop, get_or_past}
use Rattle.std.proofs.lemmas.List.Elements.{All-drop, All-take, All-nil, All-from_get_or}
use Rattle.lw_words.specs.Word.{Answer, AreAnswers, answer_at, IsWord, IsPrefix}
use Rattle.lw_cache.specs.Clash.{IsClear}
use Rattle.lw_cache.specs.Cut.{word_at}
use Rattle.lw_cache.specs.Known.{Reads}
use Rattle.lw_cache.proofs.ReadLemmas.{read_length}
use Rattle.lw_table.specs.Table.{TableState, row_number, row_at, home_at, access_row, IsTable, IsRow, Extends, RowIsRead, CellsAreRead}
use Rattle.lw_table.specs.bodies.Classes.{row_of}
use Rattle.lw_table.specs.bodies.Filling.{GoesOn, HasFilled, with_cells}
use Rattle.lw_table.specs.bodies.Rows.{IsRowWord}
use Rattle.lw_table.proofs.RowLemmas.{extension_word, home_row}

-- each row has a word
pub some_row_word : (a : ℕ) (access : List (List ℕ)) (j : ℕ) → 1 ≤ a → j < 1 + length access * a → (w : List ℕ) × IsRowWord a access j w
some_row_word a access j some lt =
    ⊎_elim
    (λ (after : 0 < j). (word_at access ((j - 1) / a) ++ (j - 1) % a ∷ [], extension_word a access j (word_at access ((j - 1) / a) ++ (j - 1) % a ∷ []) some after lt refl))
    (λ (none : j ≤ 0). ([], inl (omega arith, refl)))
    (cases_lt 0 j)

-- a row goes on, if it does where there is one
pub rows_on : (before now : List (List (List ℕ))) → ((j : ℕ) → j < length before → (cells : List (List ℕ)) × (row_of now j ≡ row_of before j ++ cells)) → (j : ℕ) → (cells : List (List ℕ)) × (row_of now j ≡ row_of before j ++ cells)
rows_on before now each j =
    ⊎_elim
    (λ (lt : j < length before). each j lt)
    (λ (past : length before ≤ j). (row_of now j, ap (λ (l : List (List ℕ)). l ++ row_of now j) (sym (get_or_past before j [] past))))
    (cases_lt j (length before))

-- outputs that are read are some that were answered
read_below : (b : ℕ) (ks : List Answer) (w o : List ℕ) → All (λ k. IsWord b k.outs) ks → Reads ks w o → IsWord b o
read_below b ks w o below read =
    ⊎_elim
    (λ (r : (w ≡ []) × (o ≡ [])). subst (IsWord b) (sym r.1) (All-nil (λ x. x < b)))
    (λ (r : (i : ℕ) × IsClear ks i × IsPrefix w (answer_at ks i).word × (o ≡ take (length w) (answer_at ks i).outs)).
    subst (IsWord b) (sym r.3) (All-take (λ x. x < b) (length w) (answer_at ks r.0).outs (below r.0 (record { word = []; outs = [] }) r.1.0)))
    read

-- an access word's row is a row
pub homes_in : (t : TableState) → IsTable t → (q : ℕ) → q < length t.access → home_at t q < length t.cells
homes_in t g q lt =
    ⊎_elim
    (λ (z : (q ≡ 0) × (word_at t.access q ≡ []) × (home_at t q ≡ 0)). omega (arith, z.2, g.rows))
    (λ (e : Extends t.inputs t.access q (home_at t q)). home_row t.inputs (length t.access) e.from e.letter (home_at t q) (length t.cells) (omega (arith, e.before, lt)) e.small e.row g.rows)
    (g.homes q lt)

module _ (ks : List Answer) (suffixes : List (List ℕ)) (w : List ℕ) (before now : List (List ℕ)) (on : GoesOn ks suffixes w before now) where
  -- the cells before stay
  pub cell_stays : (k : ℕ) → k < length before → word_at now k ≡ word_at before k
  cell_stays k lt = ap (λ (l : List (List ℕ)). word_at l k) on.longer ∙ get_or-append before on.cells [] k lt

  pub front_stays : take (length before) now ≡ before
  front_stays = ap (take (length before)) on.longer ∙ take-append_seam before on.cells

module _ (ks : List Answer) (t : TableState) (cells : List (List (List ℕ))) (g : IsTable t) (are : AreAnswers t.inputs ks) (below : All (λ k. IsWord t.outputs k.outs) ks) (f : HasFilled ks t cells) where
  rows : length cells ≡ 1 + length t.access * t.inputs
  rows = f.size ∙ g.rows

  shape_of : (j : ℕ) (w : List ℕ) → j < length cells → IsRowWord t.inputs t.access j w → IsRow t.outputs t.suffixes (row_of cells j)
  shape_of j w lt is_w =
      let row = row_of cells j in
      let on = f.each j w lt is_w in
      let was : IsRow t.outputs t.suffixes (row_at t j) = g.shape j [] (omega (arith, lt, f.size)) in
      let full = f.full j lt in
      let cell : (k : ℕ) → k < length row → (length (word_at row k) ≡ length (word_at t.suffixes k)) × IsWord t.outputs (word_at row k) = λ k le.
      ⊎_elim
      (λ (old : k < length (row_at t j)).
      let same = cell_stays ks t.suffixes w (row_at t j) row on k old in
      (ap (λ (c : List ℕ). length c) same ∙ was.whole k old, subst (IsWord t.outputs) (sym same) (was.below k [] old)))
      (λ (new : length (row_at t j) ≤ k).
      let r = on.each k new le in
      let size = read_length t.inputs ks (w ++ word_at t.suffixes k) r.0 are r.1 in
      let both = length-append w (word_at t.suffixes k) in
      let rest = length-drop (length w) r.0 in
      (ap (λ (c : List ℕ). length c) r.2 ∙ omega (arith, size, both, rest), subst (IsWord t.outputs) (sym r.2) (All-drop (λ x. x < t.outputs) (length w) r.0 (read_below t.outputs ks (w ++ word_at t.suffixes k) r.0 below r.1))))
      (cases_lt k (length (row_at t j))) in
      record {
        few = omega (arith, full);
        whole = λ k le. (cell k le).0;
        below = All-from_get_or (IsWord t.outputs) row [] (λ k le. (cell k le).1);
      }

  -- a home is a row
  pub home_within : (q : ℕ) → q < length t.access → home_at t q < length cells
  home_within q lt = let home = homes_in t g q lt in omega (arith, home, f.size)

  full_home : (q : ℕ) → q < length t.access → length (row_of cells (home_at t q)) ≡ length t.suffixes
  full_home q lt = f.full (home_at t q) (home_within q lt)

  word_of : (j : ℕ) → j < length cells → (w : List ℕ) × IsRowWord t.inputs t.access j w
  word_of j lt = some_row_word t.inputs t.access j g.inputs.0 (omega (arith, lt, rows))

  differ_of : (p q : ℕ) → p < q → q < length t.access → row_of cells (home_at t p) ≢ row_of cells (home_at t q)
  differ_of p q lt lq same =
      let lp : p < length t.access = omega (arith, lt, lq) in
      let hp = home_within p lp in
      let hq = home_within q lq in
      let wp = word_of (home_at t p) hp in
      let wq = word_of (home_at t q) hq in
      let fp = front_stays ks t.suffixes wp.0 (access_row t p) (row_of cells (home_at t p)) (f.each (home_at t p) wp.0 hp wp.1) in
      let fq = front_stays ks t.suffixes wq.0 (access_row t q) (row_of cells (home_at t q)) (f.each (home_at t q) wq.0 hq wq.1) in
      let size : length (access_row t p) ≡ length (access_row t q) = g.even p lp ∙ sym (g.even q lq) in
      g.differ p q lt lq (sym fp ∙ (ap (λ (n : ℕ). take n (row_of cells (home_at t p))) size ∙ (ap (take (length (access_row t q))) same ∙ fq)))

  pub filled_is_table : IsTable (with_cells t cells)
  filled_is_table =
      record {
        inputs = g.inputs;
        outputs = g.outputs;
        most = g.most;
        some = g.some;
        few = g.few;
        words = g.words;
        rows = rows;
        each_home = g.each_home;
        homes = g.homes;
        letters = g.letters;
        suffixes = g.suffixes;
        shape = All-from_get_or (IsRow t.outputs t.suffixes) cells [] (λ j lt. let w = word_of j lt in shape_of j w.0 lt w.1);
        even = λ q lt. full_home q lt ∙ sym (f.full 0 (omega (arith, rows)));
        differ = differ_of;
        refined = g.refined;
      }

  row_is_read : (j : ℕ) (w : List ℕ) → j < length cells → IsRowWord t.inputs t.access j w → RowIsRead ks w t.suffixes (row_at t j) → RowIsRead ks w t.suffixes (row_of cells j)
  row_is_read j w lt is_w was k le =
      let on = f.each j w lt is_w in
      ⊎_elim
      (λ (old : k < length (row_at t j)).
      let r = was k old in
      (r.0, r.1, cell_stays ks t.suffixes w (row_at t j) (row_of cells j) on k old ∙ r.2))
      (λ (new : length (row_at t j) ≤ k). on.each k new le)
      (cases_lt k (length (row_at t j)))

  pub filled_is_read : CellsAreRead ks t → CellsAreRead ks (with_cells t cells)
  filled_is_read read =
      record {
        first = row_is_read 0 [] (omega (arith, rows)) (inl (refl, refl)) read.first;
        extensions = λ q x lt small. row_is_read (row_number t.inputs q x) (word_at t.access q ++ x ∷ [])
            (home_row t.inputs (length t.access) q x (row_number t.inputs q x) (length cells) lt small refl rows) (inr (q, x, lt, small, refl, refl)) (read.extensions q x lt small);
      }
