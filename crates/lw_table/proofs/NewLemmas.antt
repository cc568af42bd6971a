-- A new table.
use Rattle.std.proofs.Common.{◌≡◌, ◌≢◌, ℕ, zero, suc, ◌+◌, ◌<◌, ◌≤◌, inl, List, [], ◌∷◌, ◌++◌, length, map, replicate, get_or, Option, Some, None, cond, nat_eq, refl, ap, sym, ◌∙◌, subst, arith}
use Rattle.std.specs.List.{range_with_len}
use Rattle.std.proofs.lemmas.List.{length-map, length-replicate, get_or-replicate, get_or-map, take_all}
use Rattle.std.proofs.lemmas.List.FromFn.{length-range_with_len, get_or-range_with_len, map-range_with_len_more}
use Rattle.std.proofs.lemmas.List.Elements.{All-from_get_or}
use Rattle.lw_words.specs.Word.{Answer, IsWord}
use Rattle.lw_cache.specs.Cut.{word_at}
use Rattle.lw_table.specs.Table.{row_number, IsTable, IsRow, RowIsRead, new_table}
use Rattle.lw_table.specs.bodies.Classes.{row_of}
use Rattle.lw_table.specs.bodies.Numbered.{AreNumbered}
use Rattle.lw_table.specs.bodies.Rows.{no_cells, class_at, table_of, AreIndexed}
use Rattle.lw_table.specs.declared.rows.Row.{Row}
use Rattle.lw_table.specs.Laws.{NewIsRead}
use Rattle.lw_table.proofs.NumberedLemmas.{numbered_none, numbered_more}

-- each row of a new table is without cells
without_cells : (n j : ℕ) → length (get_or {A = List (List ℕ)} (replicate n []) j []) ≡ 0
without_cells zero j = refl
without_cells (suc n) zero = refl
without_cells (suc n) (suc j) = without_cells n j

nothing_read : (ks : List Answer) (word : List ℕ) (suffixes : List (List ℕ)) (n j : ℕ) → RowIsRead ks word suffixes (get_or (replicate n []) j [])
nothing_read ks word suffixes n j k lt = absurd (omega (arith, lt, without_cells n j))

pub new_is_read : NewIsRead
new_is_read ks a b most = record {
  first = nothing_read ks [] (map (λ (x : ℕ). x ∷ []) (range_with_len 0 a)) (1 + a) 0;
  extensions = λ q x lt small. nothing_read ks (word_at ([] ∷ []) q ++ x ∷ []) (map (λ (y : ℕ). y ∷ []) (range_with_len 0 a)) (1 + a) (row_number a q x);
}

single : (a x : ℕ) → x < a → word_at (map (λ (y : ℕ). y ∷ []) (range_with_len 0 a)) x ≡ x ∷ []
single a x lt =
    let size : length (range_with_len 0 a) ≡ a = length-range_with_len 0 a in
    let number : get_or (range_with_len 0 a) x 0 ≡ x = omega (arith, get_or-range_with_len 0 a x 0 lt) in
    get_or-map (λ (y : ℕ). y ∷ []) (range_with_len 0 a) x 0 [] (omega arith) ∙ ap (λ (y : ℕ). y ∷ []) number

letter_word : (a x : ℕ) → x < a → IsWord a (x ∷ []) × (x ∷ [] ≢ [])
letter_word a x lt = (All-from_get_or (λ y. y < a) (x ∷ []) 0 (λ k le. let at : k ≡ 0 = omega arith in subst (λ (j : ℕ). get_or (x ∷ []) j 0 < a) (sym at) lt), λ e. absurd (omega (arith, ap (λ (w : List ℕ). length w) e)))

pub new_is_table : (a b most : ℕ) → (1 ≤ a) × (a ≤ 64) → (1 ≤ b) × (b ≤ 4096) → (1 ≤ most) × (most ≤ 1024) → IsTable (new_table a b most)
new_is_table a b most in_a in_b in_most =
    let letters : List (List ℕ) = map (λ (x : ℕ). x ∷ []) (range_with_len 0 a) in
    let count : length letters ≡ a = length-map (range_with_len 0 a) (λ (x : ℕ). x ∷ []) ∙ length-range_with_len 0 a in
    let rows : length (replicate {A = List (List ℕ)} (1 + a) []) ≡ 1 + a = length-replicate {A = List (List ℕ)} (1 + a) [] in
    record {
      inputs = in_a;
      outputs = in_b;
      most = in_most;
      some = omega arith;
      few = in_most.0;
      words = λ k d lt. let at : k ≡ 0 = omega arith in subst (λ (j : ℕ). IsWord a (get_or ([] ∷ []) j d)) (sym at) (λ i e le. absurd (omega arith));
      rows = omega (arith, rows);
      each_home = refl;
      homes = λ q lt. let at : q ≡ 0 = omega arith in inl (at, subst (λ (j : ℕ). word_at ([] ∷ []) j ≡ []) (sym at) refl, subst (λ (j : ℕ). ◌≡◌ {A = ℕ} (get_or {A = ℕ} (0 ∷ []) j 0) 0) (sym at) refl);
      letters = take_all a letters (omega (arith, count));
      suffixes = All-from_get_or (λ e. IsWord a e × (e ≢ [])) letters [] (λ k lt. let le : k < a = omega (arith, count) in subst (λ (e : List ℕ). IsWord a e × (e ≢ [])) (sym (single a k le)) (letter_word a k le));
      shape = All-from_get_or (IsRow b letters) (replicate (1 + a) []) [] (λ j lt. record {
        few = omega (arith, without_cells (1 + a) j);
        whole = λ k le. absurd (omega (arith, le, without_cells (1 + a) j));
        below = λ k d le. absurd (omega (arith, le, without_cells (1 + a) j));
      });
      even = λ q lt. without_cells (1 + a) (get_or {A = ℕ} (0 ∷ []) q 0) ∙ sym (without_cells (1 + a) 0);
      differ = λ p q lt le. absurd (omega arith);
      refined = omega arith;
    }

-- one letter more
pub letters_more : (n : ℕ) → map (λ (x : ℕ). x ∷ []) (range_with_len 0 (n + 1)) ≡ map (λ (x : ℕ). x ∷ []) (range_with_len 0 n) ++ (n ∷ []) ∷ []
letters_more n = map-range_with_len_more (λ (x : ℕ). x ∷ []) 0 n n (omega arith)

-- rows of class 0 are without cells
of_class_none : (n : ℕ) → map (λ (r : Row). row_of ([] ∷ []) r.class) (replicate n no_cells) ≡ replicate n []
of_class_none zero = refl
of_class_none (suc n) = ap (λ (rows : List (List (List ℕ))). [] ∷ rows) (of_class_none n)

pub made_new : (a b most : ℕ) (access suffixes : List (List ℕ)) (classes : List (List (List ℕ))) (rows : List Row) (homes : List ℕ) → access ≡ [] ∷ [] → suffixes ≡ map (λ (x : ℕ). x ∷ []) (range_with_len 0 a) → classes ≡ [] ∷ [] → rows ≡ replicate (a + 1) no_cells → homes ≡ 0 ∷ []
    → table_of a b most access suffixes classes rows homes 0 ≡ new_table a b most
made_new a b most access suffixes classes rows homes e f g h i =
    let letters : List (List ℕ) = map (λ (x : ℕ). x ∷ []) (range_with_len 0 a) in
    let count : a + 1 ≡ 1 + a = omega arith in
    ap (λ (l : List (List ℕ)). table_of a b most l suffixes classes rows homes 0) e
    ∙ (ap (λ (l : List (List ℕ)). table_of a b most ([] ∷ []) l classes rows homes 0) f
    ∙ (ap (λ (l : List (List (List ℕ))). table_of a b most ([] ∷ []) letters l rows homes 0) g
    ∙ (ap (λ (l : List Row). table_of a b most ([] ∷ []) letters ([] ∷ []) l homes 0) (h ∙ ap (λ (n : ℕ). replicate n no_cells) count)
    ∙ (ap (λ (l : List ℕ). table_of a b most ([] ∷ []) letters ([] ∷ []) (replicate (1 + a) no_cells) l 0) i
    ∙ ap (λ (rows : List (List (List ℕ))). record { inputs = a; outputs = b; most = most; access = [] ∷ []; suffixes = letters; cells = rows; homes = 0 ∷ []; refinements = 0 }) (of_class_none (1 + a))))))

all_empty : (n j : ℕ) (d : Row) → j < n → get_or (replicate n no_cells) j d ≡ no_cells
all_empty n j d lt = get_or-replicate {A = Row} n j no_cells d lt

pub new_is_indexed : (classes : List (List (List ℕ))) (rows : List Row) (homes : List ℕ) (find : ℕ → Option ℕ) (a : ℕ) → classes ≡ [] ∷ [] → rows ≡ replicate (a + 1) no_cells → homes ≡ 0 ∷ [] → ((q : ℕ) → find q ≡ cond (nat_eq 0 q) (Some 0) None) → AreIndexed classes rows homes find
new_is_indexed classes rows homes find a e f g h =
    let size : length (replicate {A = Row} (a + 1) no_cells) ≡ a + 1 = length-replicate {A = Row} (a + 1) no_cells in
    subst (λ (l : List (List (List ℕ))). AreIndexed l rows homes find) (sym e)
    (subst (λ (l : List Row). AreIndexed ([] ∷ []) l homes find) (sym f)
    (record {
      some = omega arith;
      first = refl;
      differ = λ i j d lt le. absurd (omega arith);
      within = λ j d lt. subst (λ (r : Row). r.class < 1) (sym (all_empty (a + 1) j d (omega arith))) (omega arith);
      counts = λ j d lt. subst (λ (r : Row). r.cells ≡ length (row_of ([] ∷ []) r.class)) (sym (all_empty (a + 1) j d (omega arith))) refl;
      states = subst (λ (keys : List ℕ). AreNumbered nat_eq keys find) (ap (λ (k : ℕ). k ∷ []) (sym (ap (λ (r : Row). r.class) (all_empty (a + 1) 0 no_cells (omega arith)))) ∙ ap (map (class_at (replicate (a + 1) no_cells))) (sym g))
          (numbered_more nat_eq [] (λ _. None) find 0 0 (numbered_none nat_eq (λ _. None) (λ q. refl)) (λ q. refl) h);
    }))
