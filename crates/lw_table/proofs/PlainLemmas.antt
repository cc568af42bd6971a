-- A table and the plain one.
use Rattle.std.proofs.Common.{◌≡◌, ◌≢◌, inr, ⊎_elim, ℕ, zero, suc, ◌<◌, ◌≤◌, Bool, true, false, not, ◌||◌, List, [], ◌∷◌, ◌++◌, length, map, drop, get_or, Some, None, refl, ap, ap₂, sym, ◌∙◌, subst, arith}
use Rattle.std.specs.List.{find, list_any, range_with_len}
use Rattle.std.proofs.Math.Seq.{drop-append_seam}
use Rattle.std.proofs.lemmas.Bool.{cases_lt, and_parts, and_from}
use Rattle.std.proofs.lemmas.List.{length-map, get_or-map, ext_get_or}
use Rattle.std.proofs.lemmas.List.Elements.{All-get_or}
use Rattle.std.proofs.lemmas.List.FromFn.{length-range_with_len, get_or-range_with_len}
use Rattle.std.proofs.lemmas.List.Sums.{position_or_len_is}
use Rattle.std.proofs.lemmas.Slice.Eq.{bytes_eq-Decides}
use Rattle.lw_words.specs.Word.{Answer}
use Rattle.lw_mealy.specs.Machine.{Row, Rows, Gives, row, next, output, after, out}
use Rattle.lw_mealy.proofs.WordLemmas.{length-out, out-append}
use Rattle.lw_cache.specs.Cut.{word_at}
use Rattle.lw_cache.specs.Known.{Reads}
use Rattle.lw_plain.specs.Table.{PlainTable, row_words, outputs_behind, has_same_cell, has_same_row, is_new, first_new, row_state, transition_of, transitions_of, machine_of}
use Rattle.lw_plain.proofs.KnownLemmas.{reads_answer}
use Rattle.lw_table.specs.Table.{TableState, row_number, row_at, home_at, access_row, extension_row, IsTable, RowIsRead, CellsAreRead, IsClosedTable, IsMachineOf}
use Rattle.lw_table.specs.Plain.{plain_of, MachineIsPlain}
use Rattle.lw_table.specs.bodies.Growing.{AreFull, HasState, HaveStates}
use Rattle.lw_table.specs.bodies.Rows.{IsRowWord}
use Rattle.lw_table.proofs.AccessLemmas.{first_home}
use Rattle.lw_table.proofs.CellLemmas.{access_read, row_word_read, letter_suffix, enough_suffixes}
use Rattle.lw_table.proofs.FilledLemmas.{homes_in, some_row_word}
use Rattle.lw_table.proofs.RowLemmas.{home_row}
use Rattle.lw_table.proofs.OpenLemmas.{row_word_at, length-row_words}

-- Tests over lists, place by place.

pub find_at : {X : Type 0} (p : X → Bool) (xs : List X) (i : ℕ) (d : X) → i < length xs → p (get_or xs i d) ≡ true → ((k : ℕ) → k < i → p (get_or xs k d) ≡ false) → find p xs ≡ Some (get_or xs i d)
find_at p [] i d lt hit before = absurd (omega arith)
find_at p (x ∷ xs) zero d lt hit before = rw hit refl
find_at p (x ∷ xs) (suc i) d lt hit before =
    let head : p x ≡ false = before 0 (omega arith) in
    rw head (find_at p xs i d (omega arith) hit (λ k low. before (suc k) (omega arith)))

pub find_none : {X : Type 0} (p : X → Bool) (xs : List X) (d : X) → ((k : ℕ) → k < length xs → p (get_or xs k d) ≡ false) → find p xs ≡ None
find_none p [] d all = refl
find_none p (x ∷ xs) d all =
    let head : p x ≡ false = all 0 (omega arith) in
    rw head (find_none p xs d (λ k lt. all (suc k) (omega arith)))

or_later : (b c : Bool) → c ≡ true → (b || c) ≡ true
or_later true c is = refl
or_later false c is = is

any_here : {X : Type 0} (p : X → Bool) (xs : List X) (i : ℕ) (d : X) → i < length xs → p (get_or xs i d) ≡ true → list_any p xs ≡ true
any_here p [] i d lt hit = absurd (omega arith)
any_here p (x ∷ xs) zero d lt hit = rw hit refl
any_here p (x ∷ xs) (suc i) d lt hit = or_later (p x) (list_any p xs) (any_here p xs i d (omega arith) hit)

none_here : {X : Type 0} (p : X → Bool) (xs : List X) (d : X) → ((k : ℕ) → k < length xs → p (get_or xs k d) ≡ false) → list_any p xs ≡ false
none_here p [] d all = refl
none_here p (x ∷ xs) d all =
    let head : p x ≡ false = all 0 (omega arith) in
    rw head (none_here p xs d (λ k lt. all (suc k) (omega arith)))

is_false : (b : Bool) → (b ≡ true → ⊥) → b ≡ false
is_false true never = absurd (never refl)
is_false false never = refl

-- rows are the same where the outputs on all suffixes are
module _ (m : Rows) (u v : List ℕ) where
  pub same_rows : (suffixes : List (List ℕ)) → map (outputs_behind m u) suffixes ≡ map (outputs_behind m v) suffixes → has_same_row m suffixes u v ≡ true
  same_rows [] same = refl
  same_rows (e ∷ es) same =
      let head : outputs_behind m u e ≡ outputs_behind m v e = ap (λ (l : List (List ℕ)). get_or l 0 []) same in
      let rest : map (outputs_behind m u) es ≡ map (outputs_behind m v) es = ap (drop 1) same in
      and_from (has_same_cell m u v e) (has_same_row m es u v) ((bytes_eq-Decides (outputs_behind m u e) (outputs_behind m v e)).1 head) (same_rows es rest)

  pub rows_same : (suffixes : List (List ℕ)) → has_same_row m suffixes u v ≡ true → map (outputs_behind m u) suffixes ≡ map (outputs_behind m v) suffixes
  rows_same [] same = refl
  rows_same (e ∷ es) same =
      let both = and_parts (has_same_cell m u v e) (has_same_row m es u v) same in
      ap₂ (λ (o : List ℕ) (l : List (List ℕ)). o ∷ l) ((bytes_eq-Decides (outputs_behind m u e) (outputs_behind m v e)).0 both.0) (rows_same es both.1)

-- what is read of a word and a suffix is what the machine puts out behind the word
pub cell_is : (m : Rows) (ks : List Answer) (w e cell o : List ℕ) → Gives m ks → Reads ks (w ++ e) o → cell ≡ drop (length w) o → cell ≡ outputs_behind m w e
cell_is m ks w e cell o gives read is =
    let whole : o ≡ out m 0 w ++ out m (after m 0 w) e = reads_answer m ks (w ++ e) o gives read ∙ out-append m 0 w e in
    is ∙ (ap₂ (λ (n : ℕ) (l : List ℕ). drop n l) (sym (length-out m 0 w)) whole ∙ drop-append_seam (out m 0 w) (out m (after m 0 w) e))

-- so a row that has all cells is that of the machine's outputs
pub row_is : (m : Rows) (ks : List Answer) (w : List ℕ) (suffixes row : List (List ℕ)) → Gives m ks → RowIsRead ks w suffixes row → length row ≡ length suffixes → row ≡ map (outputs_behind m w) suffixes
row_is m ks w suffixes row gives read size =
    let long : length (map (outputs_behind m w) suffixes) ≡ length suffixes = length-map suffixes (outputs_behind m w) in
    ext_get_or [] row (map (outputs_behind m w) suffixes) (size ∙ sym long) (λ k lt.
    let r = read k lt in
    cell_is m ks w (word_at suffixes k) (word_at row k) r.0 gives r.1 r.2 ∙ sym (get_or-map (outputs_behind m w) suffixes k [] [] (subst (λ (n : ℕ). k < n) size lt)))

module _ (m : Rows) (ks : List Answer) (t : TableState) (asked : List (List (List ℕ))) (g : IsTable t) (gives : Gives m ks) (read : CellsAreRead ks t) (full : AreFull t) where
  abbrev plain : PlainTable
  plain = plain_of t asked

  abbrev words : List (List ℕ)
  words = row_words t.inputs t.access

  pub row_count : length words ≡ length t.cells
  row_count = length-row_words t.inputs t.access ∙ sym g.rows

  -- each row, by its number
  pub row_of_word : (j : ℕ) → j < length t.cells → row_at t j ≡ map (outputs_behind m (get_or words j [])) t.suffixes
  row_of_word j lt =
      let w = some_row_word t.inputs t.access j g.inputs.0 (subst (λ (n : ℕ). j < n) g.rows lt) in
      let here : row_at t j ≡ map (outputs_behind m w.0) t.suffixes = row_is m ks w.0 t.suffixes (row_at t j) gives (row_word_read ks t j w.0 read w.1) (full j lt) in
      here ∙ ap (λ (v : List ℕ). map (outputs_behind m v) t.suffixes) (sym (row_word_at t.inputs t.access j w.0 w.1))

  pub row_of_access : (q : ℕ) → q < length t.access → access_row t q ≡ map (outputs_behind m (word_at t.access q)) t.suffixes
  row_of_access q lt = row_is m ks (word_at t.access q) t.suffixes (access_row t q) gives (access_read t g ks read q lt) (full (home_at t q) (homes_in t g q lt))

  -- a row that an access word has is not new
  pub old_row : (j : ℕ) → j < length t.cells → HasState t j → is_new m plain (get_or words j []) ≡ false
  old_row j lt has =
      let w = get_or words j [] in
      let same : map (outputs_behind m w) t.suffixes ≡ map (outputs_behind m (word_at t.access has.0)) t.suffixes = sym (row_of_word j lt) ∙ (has.2 ∙ row_of_access has.0 has.1) in
      ap not (any_here (has_same_row m t.suffixes w) t.access has.0 [] has.1 (same_rows m w (word_at t.access has.0) t.suffixes same))

  pub new_row : (j : ℕ) → j < length t.cells → ((q : ℕ) → q < length t.access → row_at t j ≢ access_row t q) → is_new m plain (get_or words j []) ≡ true
  new_row j lt other =
      let w = get_or words j [] in
      ap not (none_here (has_same_row m t.suffixes w) t.access [] (λ q le. is_false (has_same_row m t.suffixes w (word_at t.access q)) (λ passes.
      other q le (row_of_word j lt ∙ (rows_same m w (word_at t.access q) t.suffixes passes ∙ sym (row_of_access q le))))))

  -- row 0 is an access word's
  first_old : HasState t 0
  first_old = (0, g.some, ap (row_at t) (sym (first_home t g)))

  old_below : (row : ℕ) → row ≤ length t.cells → HaveStates t 1 row → (k : ℕ) → k < row → is_new m plain (get_or words k []) ≡ false
  old_below row le states k lt =
      old_row k (omega arith)
      (⊎_elim (λ (none : k < 1). let at : k ≡ 0 = omega arith in subst (HasState t) (sym at) first_old) (λ (some : 1 ≤ k). states k some lt) (cases_lt k 1))

  -- the first row that is new
  pub first_is : (row : ℕ) (w : List ℕ) → row < length t.cells → HaveStates t 1 row → ((q : ℕ) → q < length t.access → row_at t row ≢ access_row t q) → IsRowWord t.inputs t.access row w → first_new t.inputs m plain ≡ Some w
  first_is row w lt states other of_row =
      find_at (is_new m plain) words row [] (subst (λ (n : ℕ). row < n) (sym row_count) lt) (new_row row lt other) (old_below row (omega arith) states)
      ∙ ap (λ (v : List ℕ). Some v) (row_word_at t.inputs t.access row w of_row)

  pub none_is : HaveStates t 1 (length t.cells) → first_new t.inputs m plain ≡ None
  none_is states = find_none (is_new m plain) words [] (λ k lt. old_below (length t.cells) (omega arith) states k (subst (λ (n : ℕ). k < n) row_count lt))

  -- the machine of a closed table
  module _ (h : Rows) (closed : IsClosedTable t) (is : IsMachineOf t h) where
    target_is : (q x : ℕ) → q < length t.access → x < t.inputs → row_state m plain (word_at t.access q ++ x ∷ []) ≡ next h q x
    target_is q x lt small =
        let u = word_at t.access q ++ x ∷ [] in
        let j = row_number t.inputs q x in
        let inside : j < length t.cells = home_row t.inputs (length t.access) q x j (length t.cells) lt small refl g.rows in
        let word : get_or words j [] ≡ u = row_word_at t.inputs t.access j u (inr (q, x, lt, small, refl, refl)) in
        let here : extension_row t q x ≡ map (outputs_behind m u) t.suffixes = row_of_word j inside ∙ ap (λ (v : List ℕ). map (outputs_behind m v) t.suffixes) word in
        let p = next h q x in
        let within : p < length t.access = is.within q x lt small in
        let target : extension_row t q x ≡ access_row t p = is.targets q x lt small in
        position_or_len_is (has_same_row m t.suffixes u) t.access p [] (omega arith)
        (λ k before. is_false (has_same_row m t.suffixes u (word_at t.access k)) (λ passes.
        g.differ k p before within (row_of_access k (omega arith) ∙ (sym (rows_same m u (word_at t.access k) t.suffixes passes) ∙ (sym here ∙ target)))))
        (λ le. same_rows m u (word_at t.access p) t.suffixes (sym here ∙ (target ∙ row_of_access p within)))

    output_is : (q x : ℕ) → q < length t.access → x < t.inputs → output m (after m 0 (word_at t.access q)) x ≡ output h q x
    output_is q x lt small =
        let u = word_at t.access q in
        let enough = enough_suffixes t g in
        let cell_at : word_at (access_row t q) x ≡ outputs_behind m u (word_at t.suffixes x) = ap (λ (r : List (List ℕ)). word_at r x) (row_of_access q lt) ∙ get_or-map (outputs_behind m u) t.suffixes x [] [] (omega arith) in
        let one : outputs_behind m u (word_at t.suffixes x) ≡ output m (after m 0 u) x ∷ [] = ap (outputs_behind m u) (letter_suffix t g x small) in
        ap (λ (w : List ℕ). get_or w 0 0) (sym one ∙ (sym cell_at ∙ is.outs q x lt small))

    row_same : (q : ℕ) → q < length t.access → row h q ≡ transitions_of t.inputs m plain (word_at t.access q)
    row_same q lt =
        let u = word_at t.access q in
        let letters = range_with_len 0 t.inputs in
        let count : length letters ≡ t.inputs = length-range_with_len 0 t.inputs in
        let in_h : length (row h q) ≡ t.inputs = All-get_or (λ (r : Row). length r ≡ t.inputs) h q [] (subst (λ (k : ℕ). q < k) (sym is.states) lt) is.complete in
        let in_m : length (transitions_of t.inputs m plain u) ≡ t.inputs = length-map letters (transition_of m plain u) ∙ count in
        ext_get_or (0, 0) (row h q) (transitions_of t.inputs m plain u) (in_h ∙ sym in_m) (λ x le.
        let small : x < t.inputs = subst (λ (k : ℕ). x < k) in_h le in
        let letter : get_or letters x 0 ≡ x = omega (arith, get_or-range_with_len 0 t.inputs x 0 small) in
        ap₂ (λ (p o : ℕ). (p, o)) (sym (target_is q x lt small)) (sym (output_is q x lt small))
        ∙ (ap (λ (y : ℕ). transition_of m plain u y) (sym letter) ∙ sym (get_or-map (transition_of m plain u) letters x 0 (0, 0) (subst (λ (k : ℕ). x < k) (sym count) small))))

    pub machine_same : h ≡ machine_of t.inputs m plain
    machine_same =
        let long : length (machine_of t.inputs m plain) ≡ length t.access = length-map t.access (transitions_of t.inputs m plain) in
        ext_get_or [] h (machine_of t.inputs m plain) (is.states ∙ sym long) (λ q le.
        let lt : q < length t.access = subst (λ (k : ℕ). q < k) is.states le in
        row_same q lt ∙ sym (get_or-map (transitions_of t.inputs m plain) t.access q [] [] lt))

    pub none_open : HaveStates t 1 (length t.cells)
    none_open j some lt =
        let w = some_row_word t.inputs t.access j g.inputs.0 (subst (λ (n : ℕ). j < n) g.rows lt) in
        ⊎_elim
        (λ (z : (j ≡ 0) × (w.0 ≡ [])). absurd (let at = z.0 in omega arith))
        (λ (e : (q : ℕ) × (x : ℕ) × (q < length t.access) × (x < t.inputs) × (j ≡ row_number t.inputs q x) × (w.0 ≡ word_at t.access q ++ x ∷ [])).
        let p = closed.targets e.0 e.1 e.2 e.3 in
        (p.0, p.1, ap (row_at t) e.4 ∙ p.2))
        w.1

pub machine_is_plain : MachineIsPlain
machine_is_plain m h ks t asked g gives read closed is =
    let full : AreFull t = λ j lt. closed.filled j [] lt in
    record {
      is = machine_same m ks t asked g gives read full h closed is;
      closed = none_is m ks t asked g gives read full (none_open m ks t asked g gives read full h closed is);
    }
