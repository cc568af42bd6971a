-- The words of cells that aren't filled, and the words of rows by number.
use Rattle.std.proofs.Common.{◌≡◌, ⊎_elim, ℕ, zero, suc, ◌+◌, ◌*◌, ◌<◌, ◌≤◌, List, [], ◌∷◌, ◌++◌, length, map, drop, replicate, get_or, refl, ap, ap₂, sym, ◌∙◌, arith, drop-cons, add-one, append_assoc, append-nil}
use Rattle.std.specs.List.{All, flat_map, range_with_len}
use Rattle.std.proofs.Math.ListN.{get_or-append}
use Rattle.std.proofs.Math.Seq.{drop-append_seam, get_or-append-add}
use Rattle.std.proofs.lemmas.List.{length-append, length-map, get_or-map, drop_all, flat_map_more, map-append}
use Rattle.std.proofs.lemmas.List.Elements.{All-head, All-tail}
use Rattle.std.proofs.lemmas.List.FromFn.{length-range_with_len, get_or-range_with_len}
use Rattle.lw_cache.specs.Cut.{word_at}
use Rattle.lw_plain.specs.Table.{extensions, row_words, row_cells, cell_words, unless_empty}
use Rattle.lw_table.specs.Table.{row_number, new_table}
use Rattle.lw_table.specs.Plain.{open_cells, open_words, plain_of, NewIsFirst}
use Rattle.lw_table.specs.bodies.Classes.{row_of}
use Rattle.lw_table.specs.bodies.Rows.{IsRowWord}
use Rattle.lw_table.specs.declared.rows.Row.{Row}

drop_step : {X : Type 0} (xs : List X) (i : ℕ) (d : X) → i < length xs → drop i xs ≡ get_or xs i d ∷ drop (i + 1) xs
drop_step xs i d lt = rw (add-one, drop-cons xs i d) refl

-- the extensions of a word, by letter
pub length-extensions : (a : ℕ) (u : List ℕ) → length (extensions a u) ≡ a
length-extensions a u = length-map (range_with_len 0 a) (λ (x : ℕ). u ++ x ∷ []) ∙ length-range_with_len 0 a

extension_at : (a : ℕ) (u : List ℕ) (x : ℕ) → x < a → get_or (extensions a u) x [] ≡ u ++ x ∷ []
extension_at a u x lt =
    let size : length (range_with_len 0 a) ≡ a = length-range_with_len 0 a in
    let number : get_or (range_with_len 0 a) x 0 ≡ x = omega (arith, get_or-range_with_len 0 a x 0 lt) in
    get_or-map (λ (y : ℕ). u ++ y ∷ []) (range_with_len 0 a) x 0 [] (omega arith) ∙ ap (λ (y : ℕ). u ++ y ∷ []) number

length-all : (a : ℕ) (access : List (List ℕ)) → length (flat_map (extensions a) access) ≡ length access * a
length-all a [] = omega arith
length-all a (u ∷ us) =
    let rest = length-all a us in
    let one = length-extensions a u in
    let both = length-append (extensions a u) (flat_map (extensions a) us) in
    let more : suc (length us) * a ≡ length us * a + a = omega arith in
    omega (arith, rest, one, both, more)

pub length-row_words : (a : ℕ) (access : List (List ℕ)) → length (row_words a access) ≡ 1 + length access * a
length-row_words a access = let rest = length-all a access in omega (arith, rest)

extension_of : (a : ℕ) (access : List (List ℕ)) (q x : ℕ) → q < length access → x < a → get_or (flat_map (extensions a) access) (q * a + x) [] ≡ word_at access q ++ x ∷ []
extension_of a [] q x lt small = absurd (omega arith)
extension_of a (u ∷ us) zero x lt small =
    let none : 0 * a + x ≡ x = omega arith in
    ap (λ (i : ℕ). get_or (flat_map (extensions a) (u ∷ us)) i []) none
    ∙ (get_or-append (extensions a u) (flat_map (extensions a) us) [] x (let size = length-extensions a u in omega arith) ∙ extension_at a u x small)
extension_of a (u ∷ us) (suc q) x lt small =
    let size = length-extensions a u in
    let more : suc q * a ≡ q * a + a = omega arith in
    let place : suc q * a + x ≡ length (extensions a u) + (q * a + x) = omega (arith, size, more) in
    ap (λ (i : ℕ). get_or (flat_map (extensions a) (u ∷ us)) i []) place
    ∙ (get_or-append-add (extensions a u) (flat_map (extensions a) us) (q * a + x) [] ∙ extension_of a us q x (omega arith) small)

-- the word of a row is that of its number
pub row_word_at : (a : ℕ) (access : List (List ℕ)) (j : ℕ) (w : List ℕ) → IsRowWord a access j w → get_or (row_words a access) j [] ≡ w
row_word_at a access j w is =
    ⊎_elim
    (λ (z : (j ≡ 0) × (w ≡ [])). ap (λ (i : ℕ). get_or (row_words a access) i []) z.0 ∙ sym z.1)
    (λ (e : (q : ℕ) × (x : ℕ) × (q < length access) × (x < a) × (j ≡ row_number a q x) × (w ≡ word_at access q ++ x ∷ [])).
    let place : row_number a e.0 e.1 ≡ suc (e.0 * a + e.1) = omega arith in
    ap (λ (i : ℕ). get_or (row_words a access) i []) (e.4 ∙ place) ∙ (extension_of a access e.0 e.1 e.2 e.3 ∙ sym e.5))
    is

-- an access word more has its extensions at the end
pub rows_longer : (a : ℕ) (access : List (List ℕ)) (w : List ℕ) → row_words a (access ++ w ∷ []) ≡ row_words a access ++ extensions a w
rows_longer a access w = sym (ap (λ (rs : List (List ℕ)). [] ∷ rs) (flat_map_more (extensions a) [] access w))

-- of rows without cells all are open
pub open_all : (suffixes ws : List (List ℕ)) (n : ℕ) → length ws ≡ n → open_cells suffixes ws (replicate n 0) ≡ cell_words ws suffixes
open_all suffixes [] n size = refl
open_all suffixes (w ∷ ws) zero size = absurd (omega arith)
open_all suffixes (w ∷ ws) (suc n) size = ap (λ (rest : List (List ℕ)). row_cells suffixes w ++ rest) (open_all suffixes ws n (omega arith))

-- of rows that have all cells but those of the last suffix, these are open
pub open_last : (suffixes : List (List ℕ)) (e : List ℕ) (ws : List (List ℕ)) (counts : List ℕ) → length ws ≡ length counts → All (λ n. n ≡ length suffixes) counts → open_cells (suffixes ++ e ∷ []) ws counts ≡ cell_words ws (e ∷ [])
open_last suffixes e [] counts size all = refl
open_last suffixes e (w ∷ ws) [] size all = absurd (omega arith)
open_last suffixes e (w ∷ ws) (n ∷ ns) size all =
    let here : n ≡ length suffixes = All-head (λ (k : ℕ). k ≡ length suffixes) n ns all in
    let left : drop n (suffixes ++ e ∷ []) ≡ e ∷ [] = ap (λ (k : ℕ). drop k (suffixes ++ e ∷ [])) here ∙ drop-append_seam suffixes (e ∷ []) in
    ap₂ (λ (es rest : List (List ℕ)). row_cells es w ++ rest) left (open_last suffixes e ws ns (omega arith) (All-tail (λ (k : ℕ). k ≡ length suffixes) n ns all))

-- the words of a row's open cells, and of the rows behind it
module _ (suffixes ws : List (List ℕ)) (counts : List ℕ) where
  pub open_step : (i : ℕ) → i < length ws → i < length counts → open_cells suffixes (drop i ws) (drop i counts) ≡ row_cells (drop (get_or counts i 0) suffixes) (get_or ws i []) ++ open_cells suffixes (drop (i + 1) ws) (drop (i + 1) counts)
  open_step i lw lc = ap₂ (open_cells suffixes) (drop_step ws i [] lw) (drop_step counts i 0 lc)

  pub open_more : (words now all : List (List ℕ)) (i : ℕ) (w : List ℕ) (n : ℕ) → i < length ws → i < length counts → get_or ws i [] ≡ w → get_or counts i 0 ≡ n → now ≡ words ++ row_cells (drop n suffixes) w
      → words ++ open_cells suffixes (drop i ws) (drop i counts) ≡ all → now ++ open_cells suffixes (drop (i + 1) ws) (drop (i + 1) counts) ≡ all
  open_more words now all i w n lw lc at_w at_n is was =
      let rest = open_cells suffixes (drop (i + 1) ws) (drop (i + 1) counts) in
      let here : row_cells (drop n suffixes) w ++ rest ≡ open_cells suffixes (drop i ws) (drop i counts) = ap₂ (λ (k : ℕ) (v : List ℕ). row_cells (drop k suffixes) v ++ rest) (sym at_n) (sym at_w) ∙ sym (open_step i lw lc) in
      ap (λ (l : List (List ℕ)). l ++ rest) is ∙ (append_assoc words (row_cells (drop n suffixes) w) rest ∙ (ap (λ (l : List (List ℕ)). words ++ l) here ∙ was))

  pub open_end : (words all : List (List ℕ)) (i : ℕ) → length ws ≤ i → words ++ open_cells suffixes (drop i ws) (drop i counts) ≡ all → words ≡ all
  open_end words all i le was =
      let none : open_cells suffixes (drop i ws) (drop i counts) ≡ [] = ap (λ (l : List (List ℕ)). open_cells suffixes l (drop i counts)) (drop_all i ws le) in
      sym (append-nil words) ∙ (ap (λ (l : List (List ℕ)). words ++ l) (sym none) ∙ was)

-- one cell's word more
pub cell_more : (suffixes words now all : List (List ℕ)) (w asked : List ℕ) (k : ℕ) → k < length suffixes → now ≡ words ++ asked ∷ [] → asked ≡ w ++ word_at suffixes k
    → words ++ row_cells (drop k suffixes) w ≡ all → now ++ row_cells (drop (k + 1) suffixes) w ≡ all
cell_more suffixes words now all w asked k lt grown is was =
    let rest = row_cells (drop (k + 1) suffixes) w in
    let here : asked ∷ rest ≡ row_cells (drop k suffixes) w = ap (λ (v : List ℕ). v ∷ rest) is ∙ ap (λ (es : List (List ℕ)). row_cells es w) (sym (drop_step suffixes k [] lt)) in
    ap (λ (l : List (List ℕ)). l ++ rest) grown ∙ (append_assoc words (asked ∷ []) rest ∙ (ap (λ (l : List (List ℕ)). words ++ l) here ∙ was))

pub cell_end : (suffixes words all : List (List ℕ)) (w : List ℕ) (k : ℕ) → length suffixes ≤ k → words ++ row_cells (drop k suffixes) w ≡ all → words ≡ all
cell_end suffixes words all w k le was =
    let none : row_cells (drop k suffixes) w ≡ [] = ap (λ (es : List (List ℕ)). row_cells es w) (drop_all k suffixes le) in
    sym (append-nil words) ∙ (ap (λ (l : List (List ℕ)). words ++ l) (sym none) ∙ was)

-- the numbers of the cells of rows
pub counts_are : (classes : List (List (List ℕ))) (rows : List Row) → All (λ r. r.cells ≡ length (row_of classes r.class)) rows → map (λ r. r.cells) rows ≡ map (λ row. length row) (map (λ r. row_of classes r.class) rows)
counts_are classes [] all = refl
counts_are classes (r ∷ rs) all =
    let P : Row → Type 0 = λ s. s.cells ≡ length (row_of classes s.class) in
    ap₂ (λ (n : ℕ) (ns : List ℕ). n ∷ ns) (All-head P r rs all) (counts_are classes rs (All-tail P r rs all))

-- a new table's cells are those of the first one
none_filled : (n : ℕ) → map (λ (row : List (List ℕ)). length row) (replicate n []) ≡ replicate n 0
none_filled zero = refl
none_filled (suc n) = ap (λ (ns : List ℕ). 0 ∷ ns) (none_filled n)

pub new_is_first : NewIsFirst
new_is_first a b most given =
    let access : List (List ℕ) = [] ∷ [] in
    let letters : List (List ℕ) = extensions a [] in
    let rows = row_words a access in
    let size : length rows ≡ 1 + a = (let long = length-row_words a access in omega (arith, long)) in
    let all : open_words (new_table a b most) ≡ cell_words rows letters = ap (λ (ns : List ℕ). open_cells letters rows ns) (none_filled (1 + a)) ∙ open_all letters rows (1 + a) size in
    ap (λ (batch : List (List ℕ)). plain_of (new_table a b most) (unless_empty given ++ batch ∷ [])) all

-- of a table with an access word more, whose extensions have no cells, these are open behind those of the rows before
pub open_of_new : (a : ℕ) (access suffixes : List (List ℕ)) (w : List ℕ) (cells : List (List (List ℕ))) (first : ℕ) → first ≡ length cells → length cells ≡ 1 + length access * a
    → open_cells suffixes (drop first (row_words a (access ++ w ∷ []))) (drop first (map (λ row. length row) (cells ++ replicate a []))) ≡ cell_words (extensions a w) suffixes
open_of_new a access suffixes w cells first here rows =
    let words : drop first (row_words a (access ++ w ∷ [])) ≡ extensions a w =
    ap₂ (λ (n : ℕ) (ws : List (List ℕ)). drop n ws) (here ∙ (rows ∙ sym (length-row_words a access))) (rows_longer a access w) ∙ drop-append_seam (row_words a access) (extensions a w) in
    let size : first ≡ length (map (λ (row : List (List ℕ)). length row) cells) = here ∙ sym (length-map cells (λ (row : List (List ℕ)). length row)) in
    let counts : drop first (map (λ (row : List (List ℕ)). length row) (cells ++ replicate a [])) ≡ replicate a 0 =
    ap₂ (λ (n : ℕ) (ns : List ℕ). drop n ns) size (map-append (λ (row : List (List ℕ)). length row) cells (replicate a []))
    ∙ (drop-append_seam (map (λ (row : List (List ℕ)). length row) cells) (map (λ (row : List (List ℕ)). length row) (replicate a [])) ∙ none_filled a) in
    ap₂ (open_cells suffixes) words counts ∙ open_all suffixes (extensions a w) a (length-extensions a w)
