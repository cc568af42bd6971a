-- A table with an access word more.
use Rattle.std.proofs.Common.{◌≡◌, ◌≢◌, inl, inr, ⊎_elim, ℕ, zero, suc, ◌+◌, ◌-◌, ◌*◌, ◌<◌, ◌≤◌, List, [], ◌∷◌, ◌++◌, length, replicate, get_or, refl, ap, sym, ◌∙◌, subst, arith, append-nil}
use Rattle.std.proofs.Math.ListN.{get_or-append}
use Rattle.std.proofs.Math.Seq.{get_or-append_seam}
use Rattle.std.proofs.lemmas.Bool.{cases_lt}
use Rattle.std.proofs.lemmas.List.{length-append, length-replicate, get_or-append_right, get_or_past}
use Rattle.std.proofs.lemmas.List.Elements.{All-append, All-push, All-replicate, All-nil}
use Rattle.lw_words.specs.Word.{Answer, IsWord}
use Rattle.lw_cache.specs.Cut.{word_at}
use Rattle.lw_table.specs.Grown.{HasGrown}
use Rattle.lw_table.specs.Table.{TableState, row_number, row_at, home_at, access_row, IsTable, IsRow, IsHome, Extends, RowIsRead, CellsAreRead}
use Rattle.lw_table.specs.bodies.Growing.{AreFull, HasState, with_access}
use Rattle.lw_table.specs.bodies.Rows.{IsRowWord}
use Rattle.lw_table.proofs.FilledLemmas.{homes_in, rows_on}
use Rattle.lw_table.proofs.RowLemmas.{home_row, row_word_letters}

nothing : (n i : ℕ) → get_or {A = List (List ℕ)} (replicate n []) i [] ≡ []
nothing zero i = refl
nothing (suc n) zero = refl
nothing (suc n) (suc i) = nothing n i

-- access word 0 has row 0
pub first_home : (t : TableState) → IsTable t → home_at t 0 ≡ 0
first_home t g =
    ⊎_elim
    (λ (z : (0 ≡ 0) × (word_at t.access 0 ≡ []) × (home_at t 0 ≡ 0)). z.2)
    (λ (e : Extends t.inputs t.access 0 (home_at t 0)). let before : e.from < 0 = e.before in absurd (omega arith))
    (g.homes 0 g.some)

module _ (t : TableState) (word : List ℕ) (j : ℕ) (g : IsTable t) (is : IsRowWord t.inputs t.access j word) (inside : j < length t.cells) where
  abbrev after : TableState
  after = with_access t word j

  access_longer : length after.access ≡ length t.access + 1
  access_longer = length-append t.access (word ∷ [])

  cells_longer : length after.cells ≡ length t.cells + t.inputs
  cells_longer = length-append t.cells (replicate t.inputs []) ∙ ap (λ (n : ℕ). length t.cells + n) (length-replicate {A = List (List ℕ)} t.inputs [])

  pub word_stays : (q : ℕ) → q < length t.access → word_at after.access q ≡ word_at t.access q
  word_stays q lt = get_or-append t.access (word ∷ []) [] q lt

  last_word : word_at after.access (length t.access) ≡ word
  last_word = get_or-append_seam t.access word [] []

  pub row_stays_at : (i : ℕ) → i < length t.cells → row_at after i ≡ row_at t i
  row_stays_at i lt = get_or-append t.cells (replicate t.inputs []) [] i lt

  pub home_stays : (q : ℕ) → q < length t.access → home_at after q ≡ home_at t q
  home_stays q lt = get_or-append t.homes (j ∷ []) 0 q (omega (arith, lt, g.each_home))

  pub last_home : home_at after (length t.access) ≡ j
  last_home = ap (home_at after) (sym g.each_home) ∙ get_or-append_seam t.homes j [] 0

  pub old_row : (q : ℕ) → q < length t.access → access_row after q ≡ access_row t q
  old_row q lt = ap (row_at after) (home_stays q lt) ∙ row_stays_at (home_at t q) (homes_in t g q lt)

  pub new_row : access_row after (length t.access) ≡ row_at t j
  new_row = ap (row_at after) last_home ∙ row_stays_at j inside

  at_last : (q : ℕ) → q < length after.access → length t.access ≤ q → q ≡ length t.access
  at_last q lt ge = omega (arith, lt, ge, access_longer)

  module _ (room : length t.access < t.most) (full : AreFull t) (new : (q : ℕ) → q < length t.access → row_at t j ≢ access_row t q) where
    home_old : (q : ℕ) → q < length t.access → IsHome t.inputs after.access q (home_at after q)
    home_old q lt =
        subst (IsHome t.inputs after.access q) (sym (home_stays q lt))
        (⊎_elim
        (λ (z : (q ≡ 0) × (word_at t.access q ≡ []) × (home_at t q ≡ 0)). inl (z.0, word_stays q lt ∙ z.1, z.2))
        (λ (e : Extends t.inputs t.access q (home_at t q)).
        let from : e.from < length t.access = omega (arith, e.before, lt) in
        inr (record { from = e.from; letter = e.letter; before = e.before; small = e.small; word = word_stays q lt ∙ (e.word ∙ ap (λ (w : List ℕ). w ++ e.letter ∷ []) (sym (word_stays e.from from))); row = e.row }))
        (g.homes q lt))

    home_new : IsHome t.inputs after.access (length t.access) (home_at after (length t.access))
    home_new =
        subst (IsHome t.inputs after.access (length t.access)) (sym last_home)
        (⊎_elim
        (λ (z : (j ≡ 0) × (word ≡ [])). absurd (new 0 g.some (ap (row_at t) (z.0 ∙ sym (first_home t g)))))
        (λ (e : (q : ℕ) × (x : ℕ) × (q < length t.access) × (x < t.inputs) × (j ≡ row_number t.inputs q x) × (word ≡ word_at t.access q ++ x ∷ [])).
        inr (record { from = e.0; letter = e.1; before = e.2; small = e.3; word = last_word ∙ (e.5 ∙ ap (λ (w : List ℕ). w ++ e.1 ∷ []) (sym (word_stays e.0 e.2))); row = e.4 }))
        is)

    rows_count : length after.cells ≡ 1 + length after.access * t.inputs
    rows_count =
        let more : suc (length t.access) * t.inputs ≡ length t.access * t.inputs + t.inputs = omega arith in
        let next : length after.access ≡ suc (length t.access) = omega (arith, access_longer) in
        cells_longer ∙ omega (arith, g.rows, more, ap (λ (n : ℕ). n * t.inputs) next)

    even_rows : (q : ℕ) → q < length after.access → length (access_row after q) ≡ length (row_at after 0)
    even_rows q lt =
        let first : row_at after 0 ≡ row_at t 0 = row_stays_at 0 (omega (arith, g.rows)) in
        let here : length (row_at t 0) ≡ length (row_at after 0) = ap (λ (l : List (List ℕ)). length l) (sym first) in
        ⊎_elim
        (λ (old : q < length t.access). ap (λ (l : List (List ℕ)). length l) (old_row q old) ∙ (g.even q old ∙ here))
        (λ (ge : length t.access ≤ q).
        let at = at_last q lt ge in
        ap (λ (p : ℕ). length (access_row after p)) at ∙ (ap (λ (l : List (List ℕ)). length l) new_row ∙ (full j inside ∙ (sym (full 0 (omega (arith, g.rows))) ∙ here))))
        (cases_lt q (length t.access))

    differ_rows : (p q : ℕ) → p < q → q < length after.access → access_row after p ≢ access_row after q
    differ_rows p q lt lq same =
        let lp : p < length t.access = omega (arith, lt, lq, access_longer) in
        ⊎_elim
        (λ (old : q < length t.access). g.differ p q lt old (sym (old_row p lp) ∙ (same ∙ old_row q old)))
        (λ (ge : length t.access ≤ q). new p lp (sym new_row ∙ (ap (access_row after) (sym (at_last q lq ge)) ∙ (sym same ∙ old_row p lp))))
        (cases_lt q (length t.access))

    pub accessed : IsTable after
    accessed =
        record {
          inputs = g.inputs;
          outputs = g.outputs;
          most = g.most;
          some = omega (arith, access_longer);
          few = omega (arith, access_longer, room);
          words = All-push (IsWord t.inputs) t.access word g.words (row_word_letters t.inputs t.access j word g.words is);
          rows = rows_count;
          each_home = length-append t.homes (j ∷ []) ∙ (ap (λ (n : ℕ). n + 1) g.each_home ∙ sym access_longer);
          homes = λ q lt. ⊎_elim
              (λ (old : q < length t.access). home_old q old)
              (λ (ge : length t.access ≤ q). subst (λ (p : ℕ). IsHome t.inputs after.access p (home_at after p)) (sym (at_last q lt ge)) home_new)
              (cases_lt q (length t.access));
          letters = g.letters;
          suffixes = g.suffixes;
          shape = All-append (IsRow t.outputs t.suffixes) t.cells (replicate t.inputs []) g.shape (All-replicate (IsRow t.outputs t.suffixes) t.inputs [] (record {
            few = omega arith;
            whole = λ k le. absurd (omega arith);
            below = All-nil (IsWord t.outputs);
          }));
          even = even_rows;
          differ = differ_rows;
          refined = omega (arith, g.refined, access_longer);
        }

  read_old : (ks : List Answer) (w v : List ℕ) (i : ℕ) → i < length t.cells → v ≡ w → RowIsRead ks w t.suffixes (row_at t i) → RowIsRead ks v t.suffixes (row_at after i)
  read_old ks w v i lt same read = subst (λ (u : List ℕ). RowIsRead ks u t.suffixes (row_at after i)) (sym same) (subst (RowIsRead ks w t.suffixes) (sym (row_stays_at i lt)) read)

  no_cells_new : (x : ℕ) → x < t.inputs → row_at after (row_number t.inputs (length t.access) x) ≡ []
  no_cells_new x lt =
      let place : row_number t.inputs (length t.access) x ≡ length t.cells + x = omega (arith, g.rows) in
      ap (row_at after) place ∙ (get_or-append_right t.cells (replicate t.inputs []) (length t.cells) (length t.cells + x) [] refl (omega arith) ∙ none (length t.cells + x - length t.cells))
    where
      none : (i : ℕ) → get_or {A = List (List ℕ)} (replicate t.inputs []) i [] ≡ []
      none i = nothing t.inputs i

  pub access_read : (ks : List Answer) → CellsAreRead ks t → CellsAreRead ks after
  access_read ks read =
      record {
        first = read_old ks [] [] 0 (omega (arith, g.rows)) refl read.first;
        extensions = λ q x lt small.
            ⊎_elim
            (λ (old : q < length t.access).
            read_old ks (word_at t.access q ++ x ∷ []) (word_at after.access q ++ x ∷ []) (row_number t.inputs q x) (home_row t.inputs (length t.access) q x (row_number t.inputs q x) (length t.cells) old small refl g.rows)
            (ap (λ (w : List ℕ). w ++ x ∷ []) (word_stays q old)) (read.extensions q x old small))
            (λ (ge : length t.access ≤ q).
            let at = at_last q lt ge in
            λ k le. absurd (omega (arith, le, ap (λ (l : List (List ℕ)). length l) (ap (λ (p : ℕ). row_at after (row_number t.inputs p x)) at ∙ no_cells_new x small))))
            (cases_lt q (length t.access));
      }

  -- past the rows that were there are rows without cells, or none
  empty_past : (i : ℕ) → length t.cells ≤ i → row_at after i ≡ []
  empty_past i past = get_or-append_right t.cells (replicate t.inputs []) (length t.cells) i [] refl past ∙ nothing t.inputs (i - length t.cells)

  row_still : (i : ℕ) → row_at after i ≡ row_at t i
  row_still i =
      ⊎_elim (λ (inside : i < length t.cells). row_stays_at i inside) (λ (past : length t.cells ≤ i). empty_past i past ∙ sym (get_or_past t.cells i [] past)) (cases_lt i (length t.cells))

  pub access_grown : (ks : List Answer) → IsTable after → CellsAreRead ks t → HasGrown ks t after
  access_grown ks table read =
      record {
        inputs = refl;
        outputs = refl;
        most = refl;
        more = word ∷ [];
        access = refl;
        rows = rows_on t.cells after.cells (λ i lt. ([], row_stays_at i lt ∙ sym (append-nil (row_at t i))));
        longer = omega (arith, cells_longer);
        whole = inl row_still;
        each_new = λ i ge lt. inl (empty_past i ge);
        homes = home_stays;
        table = table;
        read = access_read ks read;
      }

-- a row that no access word has is an extension's
pub extends_some : (t : TableState) (j : ℕ) (w : List ℕ) → IsTable t → IsRowWord t.inputs t.access j w → ((q : ℕ) → q < length t.access → row_at t j ≢ access_row t q) → (q : ℕ) × (x : ℕ) × (q < length t.access) × (x < t.inputs) × (w ≡ word_at t.access q ++ x ∷ [])
extends_some t j w g is new =
    ⊎_elim
    (λ (z : (j ≡ 0) × (w ≡ [])). absurd (new 0 g.some (ap (row_at t) (z.0 ∙ sym (first_home t g)))))
    (λ (e : (q : ℕ) × (x : ℕ) × (q < length t.access) × (x < t.inputs) × (j ≡ row_number t.inputs q x) × (w ≡ word_at t.access q ++ x ∷ [])). (e.0, e.1, e.2, e.3, e.5))
    is

-- after it each access word's row is one that was there before
pub homes_before : (t : TableState) (word : List ℕ) (j : ℕ) → IsTable t → IsRowWord t.inputs t.access j word → j < length t.cells → (q : ℕ) → q < length (with_access t word j).access → home_at (with_access t word j) q < length t.cells
homes_before t word j g is inside q lt =
    ⊎_elim
    (λ (old : q < length t.access). subst (λ (h : ℕ). h < length t.cells) (sym (home_stays t word j g is inside q old)) (homes_in t g q old))
    (λ (ge : length t.access ≤ q). subst (λ (p : ℕ). home_at (with_access t word j) p < length t.cells) (sym (at_last t word j g is inside q lt ge)) (subst (λ (h : ℕ). h < length t.cells) (sym (last_home t word j g is inside)) inside))
    (cases_lt q (length t.access))

-- and the row that was no access word's is one's, also once cells were filled
pub has_state : (ks : List Answer) (t added now : TableState) (word : List ℕ) (j : ℕ) → IsTable t → IsRowWord t.inputs t.access j word → j < length t.cells → added ≡ with_access t word j → HasGrown ks added now → HasState now j
has_state ks t added now word j g is inside same grown =
    let p : ℕ = length t.access in
    let many : length added.access ≡ p + 1 = ap (λ (u : TableState). length u.access) same ∙ length-append t.access (word ∷ []) in
    let there : p < length added.access = omega (arith, many) in
    let more : length now.access ≡ length added.access + length grown.more = ap (λ (l : List (List ℕ)). length l) grown.access ∙ length-append added.access grown.more in
    let home : home_at now p ≡ j = grown.homes p there ∙ (ap (λ (u : TableState). home_at u p) same ∙ last_home t word j g is inside) in
    (p, omega (arith, there, more), ap (row_at now) (sym home))
