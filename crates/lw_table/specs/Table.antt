-- The observation table, of which each row is a word and each column a suffix. Source: Angluin (1987), with outputs for
-- cells as in Niese (2003).
use Rattle.std.specs.Prelude.{◌≡◌, ◌≢◌, ◌⊎◌, ℕ, ◌+◌, ◌*◌, ◌<◌, ◌≤◌, List, [], ◌∷◌, ◌++◌, length, map, replicate, take, drop, slice_index_or}
use Rattle.std.specs.List.{All, range_with_len}
use Rattle.lw_words.specs.Word.{Answer, IsWord}
use Rattle.lw_mealy.specs.Machine.{Rows, next, output}
use Rattle.lw_cache.specs.Cut.{word_at}
use Rattle.lw_cache.specs.Known.{Reads}

-- the numbers of inputs and outputs; the greatest number of states; the access words and the suffixes; of each row, by its
-- number, the outputs of its filled cells, in the order of the suffixes; the row of each access word; and how often the table
-- was refined
pub record TableState : Type 0 where
  pub inputs : ℕ
  pub outputs : ℕ
  pub most : ℕ
  pub access : List (List ℕ)
  pub suffixes : List (List ℕ)
  pub cells : List (List (List ℕ))
  pub homes : List ℕ
  pub refinements : ℕ

-- the row of access word i followed by the letter x, over a letters; row 0 is that of the empty word
abbrev pub row_number : ℕ → ℕ → ℕ → ℕ
row_number a i x = 1 + (i * a + x)

abbrev pub row_at : TableState → ℕ → List (List ℕ)
row_at t j = slice_index_or t.cells j []

abbrev pub home_at : TableState → ℕ → ℕ
home_at t q = slice_index_or t.homes q 0

-- the filled cells of an access word, and those of its extension by a letter
abbrev pub access_row : TableState → ℕ → List (List ℕ)
access_row t q = row_at t (home_at t q)

abbrev pub extension_row : TableState → ℕ → ℕ → List (List ℕ)
extension_row t q x = row_at t (row_number t.inputs q x)

-- cells of the first suffixes, each with an output below b for each letter of its suffix
pub record IsRow (b : ℕ) (suffixes row : List (List ℕ)) : Type 0 where
  pub few : length row ≤ length suffixes
  pub whole : (k : ℕ) → k < length row → length (word_at row k) ≡ length (word_at suffixes k)
  pub below : All (IsWord b) row

-- the access word q is an extension of an earlier one, and has that extension's row
pub record Extends (a : ℕ) (access : List (List ℕ)) (q home : ℕ) : Type 0 where
  pub from : ℕ
  pub letter : ℕ
  pub before : from < q
  pub small : letter < a
  pub word : word_at access q ≡ word_at access from ++ letter ∷ []
  pub row : home ≡ row_number a from letter

-- access word 0 is the empty word, whose row is row 0; each other one is an extension of an earlier one
abbrev pub IsHome : ℕ → List (List ℕ) → ℕ → ℕ → Type 0
IsHome a access q home = ((q ≡ 0) × (word_at access q ≡ []) × (home ≡ 0)) ⊎ Extends a access q home

-- what is so of every table
pub record IsTable (t : TableState) : Type 0 where
  pub inputs : (1 ≤ t.inputs) × (t.inputs ≤ 64)
  pub outputs : (1 ≤ t.outputs) × (t.outputs ≤ 4096)
  pub most : (1 ≤ t.most) × (t.most ≤ 1024)
  pub some : 0 < length t.access
  pub few : length t.access ≤ t.most
  pub words : All (IsWord t.inputs) t.access
  pub rows : length t.cells ≡ 1 + length t.access * t.inputs
  pub each_home : length t.homes ≡ length t.access
  pub homes : (q : ℕ) → q < length t.access → IsHome t.inputs t.access q (home_at t q)
  pub letters : take t.inputs t.suffixes ≡ map (λ x. x ∷ []) (range_with_len 0 t.inputs)
  pub suffixes : All (λ e. IsWord t.inputs e × (e ≢ [])) t.suffixes
  pub shape : All (IsRow t.outputs t.suffixes) t.cells
  pub even : (q : ℕ) → q < length t.access → length (access_row t q) ≡ length (row_at t 0)
  pub differ : (p q : ℕ) → p < q → q < length t.access → access_row t p ≢ access_row t q
  pub refined : t.refinements < length t.access

-- each filled cell of a word's row has the last outputs of what is known of the word followed by the suffix
abbrev pub RowIsRead : List Answer → List ℕ → List (List ℕ) → List (List ℕ) → Type 0
RowIsRead ks word suffixes row = (k : ℕ) → k < length row → (o : List ℕ) × Reads ks (word ++ word_at suffixes k) o × (word_at row k ≡ drop (length word) o)

-- each filled cell is what the answers say
pub record CellsAreRead (ks : List Answer) (t : TableState) : Type 0 where
  pub first : RowIsRead ks [] t.suffixes (row_at t 0)
  pub extensions : (q x : ℕ) → q < length t.access → x < t.inputs → RowIsRead ks (word_at t.access q ++ x ∷ []) t.suffixes (extension_row t q x)

-- each cell is filled, and each extension has the row of an access word
pub record IsClosedTable (t : TableState) : Type 0 where
  pub filled : All (λ row. length row ≡ length t.suffixes) t.cells
  pub targets : (q x : ℕ) → q < length t.access → x < t.inputs → (p : ℕ) × (p < length t.access) × (extension_row t q x ≡ access_row t p)

-- a state for each access word: its output at a letter is the cell of that letter, its target the one with the extension's row
pub record IsMachineOf (t : TableState) (m : Rows) : Type 0 where
  pub states : length m ≡ length t.access
  pub complete : All (λ r. length r ≡ t.inputs) m
  pub outs : (q x : ℕ) → q < length t.access → x < t.inputs → word_at (access_row t q) x ≡ output m q x ∷ []
  pub within : (q x : ℕ) → q < length t.access → x < t.inputs → next m q x < length t.access
  pub targets : (q x : ℕ) → q < length t.access → x < t.inputs → extension_row t q x ≡ access_row t (next m q x)

-- the table before anything was asked: the empty word and its extensions by the letters, without cells
abbrev pub new_table : ℕ → ℕ → ℕ → TableState
new_table a b most = record {
  inputs = a;
  outputs = b;
  most = most;
  access = [] ∷ [];
  suffixes = map (λ x. x ∷ []) (range_with_len 0 a);
  cells = replicate (1 + a) [];
  homes = 0 ∷ [];
  refinements = 0;
}
