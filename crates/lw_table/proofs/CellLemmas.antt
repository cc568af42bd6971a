-- What is known of the words of a table, and that its access words are apart.
use Rattle.std.proofs.Common.{◌≡◌, ◌≢◌, ℕ, zero, suc, ◌<◌, ◌≤◌, ◌⊎◌, inl, inr, ⊎_elim, List, [], ◌∷◌, ◌++◌, length, take, drop, get_or, refl, ap, sym, ◌∙◌, subst, arith}
use Rattle.std.specs.List.{All, range_with_len}
use Rattle.std.proofs.lemmas.Bool.{cases_lt, cases_eq}
use Rattle.std.proofs.lemmas.List.{length-take, length-map, get_or-take, get_or-map, get_or_default, ext_get_or, map-append}
use Rattle.std.proofs.lemmas.List.FromFn.{length-range_with_len, get_or-range_with_len}
use Rattle.std.proofs.lemmas.List.Elements.{All-map}
use Rattle.lw_words.specs.Word.{Answer, AreAnswers, answer_of, answers_of, IsWord}
use Rattle.lw_words.specs.declared.kept.KeptAnswer.{KeptAnswer}
use Rattle.lw_cache.specs.Crowd.{Separates}
use Rattle.lw_cache.specs.Cut.{word_at}
use Rattle.lw_cache.specs.Settling.{OracleState, Keeps}
use Rattle.lw_cache.proofs.GrowLemmas.{reads_stay}
use Rattle.lw_cache.proofs.SettlingLemmas.{kept_are_answers}
use Rattle.lw_table.specs.Table.{TableState, row_number, row_at, home_at, access_row, IsTable, Extends, RowIsRead, CellsAreRead}
use Rattle.lw_table.specs.bodies.Rows.{IsRowWord}
use Rattle.lw_table.specs.Laws.{AccessIsCrowd, CellsStay}

-- words are equal or not
cases_word : (u v : List ℕ) → (u ≡ v) ⊎ (u ≢ v)
cases_word [] [] = inl refl
cases_word [] (y ∷ v) = inr (λ e. absurd (omega (arith, ap (λ (w : List ℕ). length w) e)))
cases_word (x ∷ u) [] = inr (λ e. absurd (omega (arith, ap (λ (w : List ℕ). length w) e)))
cases_word (x ∷ u) (y ∷ v) =
    ⊎_elim
    (λ (same : x ≡ y). ⊎_elim
    (λ (rest : u ≡ v). inl (ap (λ (z : ℕ). z ∷ u) same ∙ ap (λ (w : List ℕ). y ∷ w) rest))
    (λ (other : u ≢ v). inr (λ e. other (ap (drop 1) e)))
    (cases_word u v))
    (λ (other : x ≢ y). inr (λ e. other (ap (λ (w : List ℕ). get_or w 0 0) e)))
    (cases_eq x y)

-- rows are equal in their first cells, or differ in one of them
apart_below : (r s : List (List ℕ)) (n : ℕ) → ((k : ℕ) → k < n → word_at r k ≡ word_at s k) ⊎ ((k : ℕ) × (k < n) × (word_at r k ≢ word_at s k))
apart_below r s zero = inl (λ k lt. absurd (omega arith))
apart_below r s (suc n) =
    ⊎_elim
    (λ (all : (k : ℕ) → k < n → word_at r k ≡ word_at s k). ⊎_elim
    (λ (same : word_at r n ≡ word_at s n). inl (λ k lt. ⊎_elim
    (λ (below : k < n). all k below)
    (λ (above : n ≤ k). let at : k ≡ n = omega arith in subst (λ (j : ℕ). word_at r j ≡ word_at s j) (sym at) same)
    (cases_lt k n)))
    (λ (other : word_at r n ≢ word_at s n). inr (n, omega arith, other))
    (cases_word (word_at r n) (word_at s n)))
    (λ (at : (k : ℕ) × (k < n) × (word_at r k ≢ word_at s k)). inr (at.0, let lt = at.1 in omega arith, at.2))
    (apart_below r s n)

-- rows of one length that aren't equal differ in a cell
pub differ_at : (r s : List (List ℕ)) → length r ≡ length s → r ≢ s → (k : ℕ) × (k < length r) × (word_at r k ≢ word_at s k)
differ_at r s size other =
    ⊎_elim
    (λ (all : (k : ℕ) → k < length r → word_at r k ≡ word_at s k). absurd (other (ext_get_or [] r s size all)))
    (λ (at : (k : ℕ) × (k < length r) × (word_at r k ≢ word_at s k)). at)
    (apart_below r s (length r))

module _ (t : TableState) (g : IsTable t) where
  -- access words with equal rows are one
  pub same_place : (p q : ℕ) → p < length t.access → q < length t.access → access_row t p ≡ access_row t q → p ≡ q
  same_place p q lp lq same =
      ⊎_elim
      (λ (lt : p < q). absurd (g.differ p q lt lq same))
      (λ (ge : q ≤ p). ⊎_elim
      (λ (lt : q < p). absurd (g.differ q p lt lp (sym same)))
      (λ (le : p ≤ q). omega arith)
      (cases_lt q p))
      (cases_lt p q)

  -- the letters are the first suffixes
  pub letter_suffix : (x : ℕ) → x < t.inputs → word_at t.suffixes x ≡ x ∷ []
  letter_suffix x lt =
      let size : length (range_with_len 0 t.inputs) ≡ t.inputs = length-range_with_len 0 t.inputs in
      let number : get_or (range_with_len 0 t.inputs) x 0 ≡ x = omega (arith, get_or-range_with_len 0 t.inputs x 0 lt) in
      sym (get_or-take t.inputs t.suffixes x [] lt)
      ∙ (ap (λ (l : List (List ℕ)). get_or l x []) g.letters
      ∙ (get_or-map (λ (y : ℕ). y ∷ []) (range_with_len 0 t.inputs) x 0 [] (omega arith)
      ∙ ap (λ (y : ℕ). y ∷ []) number))

  pub enough_suffixes : t.inputs ≤ length t.suffixes
  enough_suffixes =
      let front : length (take t.inputs t.suffixes) ≡ t.inputs = ap (λ (l : List (List ℕ)). length l) g.letters ∙ (length-map (range_with_len 0 t.inputs) (λ (y : ℕ). y ∷ []) ∙ length-range_with_len 0 t.inputs) in
      omega (arith, front, length-take t.inputs t.suffixes)

  module _ (ks : List Answer) (read : CellsAreRead ks t) where
    -- the cells of an access word are what the answers say
    pub access_read : (q : ℕ) → q < length t.access → RowIsRead ks (word_at t.access q) t.suffixes (access_row t q)
    access_read q lt =
        ⊎_elim
        (λ (z : (q ≡ 0) × (word_at t.access q ≡ []) × (home_at t q ≡ 0)).
        subst (λ (w : List ℕ). RowIsRead ks w t.suffixes (access_row t q)) (sym z.1)
        (subst (λ (h : ℕ). RowIsRead ks [] t.suffixes (row_at t h)) (sym z.2) read.first))
        (λ (e : Extends t.inputs t.access q (home_at t q)).
        let before : e.from < q = e.before in
        subst (λ (w : List ℕ). RowIsRead ks w t.suffixes (access_row t q)) (sym e.word)
        (subst (λ (h : ℕ). RowIsRead ks (word_at t.access e.from ++ e.letter ∷ []) t.suffixes (row_at t h)) (sym e.row) (read.extensions e.from e.letter (omega arith) e.small)))
        (g.homes q lt)

    separates : (p q : ℕ) → p < length t.access → q < length t.access → (k : ℕ) → k < length (access_row t p) → k < length (access_row t q) → word_at (access_row t p) k ≢ word_at (access_row t q) k → Separates ks (word_at t.suffixes k) (word_at t.access p) (word_at t.access q)
    separates p q lp lq k in_p in_q other =
        let one = access_read p lp k in_p in
        let two = access_read q lq k in_q in
        record {
          one = one.0;
          other = two.0;
          one_read = one.1;
          other_read = two.1;
          differ = λ same. other (one.2 ∙ (same ∙ sym two.2));
        }

    apart : (p q : ℕ) → p < q → q < length t.access → (e : List ℕ) × Separates ks e (word_at t.access p) (word_at t.access q)
    apart p q lt lq =
        let lp : p < length t.access = omega arith in
        let size : length (access_row t p) ≡ length (access_row t q) = g.even p lp ∙ sym (g.even q lq) in
        let at = differ_at (access_row t p) (access_row t q) size (g.differ p q lt lq) in
        (word_at t.suffixes at.0, separates p q lp lq at.0 at.1 (subst (λ (n : ℕ). at.0 < n) size at.1) at.2)

pub access_is_crowd : AccessIsCrowd
access_is_crowd ks t g read = λ i j d lt lj.
    let li : i < length t.access = omega arith in
    let pair = apart t g ks read i j lt lj in
    (pair.0, subst (λ (u : List ℕ). Separates ks pair.0 u (get_or t.access j d)) (get_or_default t.access i [] d li) (subst (λ (v : List ℕ). Separates ks pair.0 (word_at t.access i) v) (get_or_default t.access j [] d lj) pair.1))

-- what was read stays so where answers come
pub cells_stay : CellsStay
cells_stay ks more t read =
    record {
      first = λ k lt. let r = read.first k lt in (r.0, reads_stay ks more (word_at t.suffixes k) r.0 r.1, r.2);
      extensions = λ q x lq lx k lt. let r = read.extensions q x lq lx k lt in (r.0, reads_stay ks more ((word_at t.access q ++ x ∷ []) ++ word_at t.suffixes k) r.0 r.1, r.2);
    }

pub cells_more : (before gained now : List KeptAnswer) (t : TableState) → now ≡ before ++ gained → CellsAreRead (answers_of before) t → CellsAreRead (answers_of now) t
cells_more before gained now t grown read = subst (λ (ks : List Answer). CellsAreRead ks t) (sym (ap answers_of grown ∙ map-append answer_of before gained)) (cells_stay (answers_of before) (answers_of gained) t read)

-- the answers that an oracle keeps, over a table's numbers
pub kept_words : (o : OracleState) (a b : ℕ) → a ≡ o.inputs → b ≡ o.outputs → Keeps o → AreAnswers a (answers_of o.kept) × All (λ k. IsWord b k.outs) (answers_of o.kept)
kept_words o a b same_a same_b keeps = (
  kept_are_answers o a same_a keeps,
  subst (λ (n : ℕ). All (λ k. IsWord n k.outs) (answers_of o.kept)) (sym same_b) (All-map (λ k. IsWord o.outputs k.outs) answer_of o.kept keeps.outputs_below),
)

-- words of rows that are read, of one length and not equal, are apart
pub rows_apart : (ks : List Answer) (suffixes : List (List ℕ)) (u v : List ℕ) (r s : List (List ℕ)) → RowIsRead ks u suffixes r → RowIsRead ks v suffixes s → length r ≡ length s → r ≢ s → (e : List ℕ) × Separates ks e u v
rows_apart ks suffixes u v r s read_u read_v size other =
    let at = differ_at r s size other in
    let one = read_u at.0 at.1 in
    let two = read_v at.0 (subst (λ (n : ℕ). at.0 < n) size at.1) in (
      word_at suffixes at.0,
      record { one = one.0; other = two.0; one_read = one.1; other_read = two.1; differ = λ same. at.2 (one.2 ∙ (same ∙ sym two.2)) },
    )

-- each row is read of its word
pub row_word_read : (ks : List Answer) (t : TableState) (j : ℕ) (w : List ℕ) → CellsAreRead ks t → IsRowWord t.inputs t.access j w → RowIsRead ks w t.suffixes (row_at t j)
row_word_read ks t j w read is =
    ⊎_elim
    (λ (z : (j ≡ 0) × (w ≡ [])). subst (λ (v : List ℕ). RowIsRead ks v t.suffixes (row_at t j)) (sym z.1) (subst (λ (i : ℕ). RowIsRead ks [] t.suffixes (row_at t i)) (sym z.0) read.first))
    (λ (e : (q : ℕ) × (x : ℕ) × (q < length t.access) × (x < t.inputs) × (j ≡ row_number t.inputs q x) × (w ≡ word_at t.access q ++ x ∷ [])).
    subst (λ (v : List ℕ). RowIsRead ks v t.suffixes (row_at t j)) (sym e.5) (subst (λ (i : ℕ). RowIsRead ks (word_at t.access e.0 ++ e.1 ∷ []) t.suffixes (row_at t i)) (sym e.4) (read.extensions e.0 e.1 e.2 e.3)))
    is
