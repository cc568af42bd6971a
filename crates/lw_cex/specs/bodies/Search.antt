-- The search for the place at which a counterexample is cut.
use Rattle.std.specs.Prelude.{◌≡◌, ℕ, ◌+◌, ◌<◌, ◌≤◌, List, ◌-◌, ◌++◌, length, map, take, drop, slice_index_or, Bool, true, false}
use Rattle.lw_words.specs.Word.{Answer}
use Rattle.lw_words.specs.declared.kept.KeptAnswer.{KeptAnswer}
use Rattle.lw_mealy.specs.Machine.{Rows, after, next, answer}
use Rattle.lw_cache.specs.Against.{Differs}
use Rattle.lw_cache.specs.Known.{Reads}
use Rattle.lw_cache.specs.Settling.{OracleState}
use Rattle.lw_cache.specs.declared.cut.Cut.{Cut}
use Rattle.lw_plain.specs.Table.{Search, probe, agrees_at, search_cut, search_word, probe_batch}
use Rattle.lw_plain.specs.Turns.{AsksInTurn, IsPlainOracle}

-- the word is known with the machine's outputs
abbrev pub AgreesOn : Rows → List Answer → List ℕ → Type 0
AgreesOn m ks w = Reads ks w (answer m w)

-- what a test says of a known word: true, the machine agrees on it; false, it differs on it
abbrev pub Tells : Rows → List Answer → List ℕ → Bool → Type 0
Tells m ks w true = AgreesOn m ks w
Tells m ks w false = Differs m ks w

-- the machine differs on the probe at the lower place, and agrees on the one at the upper place
pub record IsBetween (m : Rows) (ks : List Answer) (access : List (List ℕ)) (w : List ℕ) (low high : ℕ) : Type 0 where
  pub order : low < high
  pub within : high ≤ length w
  pub differs : Differs m ks (probe m access w low)
  pub agrees : AgreesOn m ks (probe m access w high)

-- the cut at a place: the state before its letter, the letter, and the letters after it
pub record IsCutAt (m : Rows) (w : List ℕ) (place : ℕ) (cut : Cut) : Type 0 where
  pub state : cut.state ≡ after m 0 (take place w)
  pub letter : cut.letter ≡ slice_index_or w place 0
  pub suffix : cut.suffix ≡ drop (place + 1) w
  pub target : cut.target ≡ next m cut.state cut.letter

-- a place was found by a search of the plain learner, whose probes were asked
pub record IsFoundBy (m h : Rows) (access : List (List ℕ)) (w : List ℕ) (place : ℕ) (asked : List (List (List ℕ))) (was is : List KeptAnswer) (s : Search) : Type 0 where
  pub here : place ≡ s.low
  pub asks : AsksInTurn m asked (asked ++ map (probe_batch h access w) s.tried) was is

abbrev pub FindsPlainly : Rows → List (List ℕ) → List ℕ → ℕ → OracleState → OracleState → Type 0
FindsPlainly h access w place before now = (m : Rows) (asked : List (List (List ℕ))) → IsPlainOracle m asked before now → IsFoundBy m h access w place asked before.kept now.kept (search_word m h access (length w) w)

-- what is left of a search, after this many tries and between two places, gives the whole
pub record IsSearching (m h : Rows) (access : List (List ℕ)) (w : List ℕ) (low high : ℕ) (asked : List (List (List ℕ))) (was is : List KeptAnswer) : Type 0 where
  pub tries : ℕ
  pub tried : List ℕ
  pub few : high + tries ≤ low + length w
  pub left : search_cut (agrees_at m h access w) (length w - tries) (record { low = low; high = high; tried = tried }) ≡ search_word m h access (length w) w
  pub asks : AsksInTurn m asked (asked ++ map (probe_batch h access w) tried) was is

abbrev pub SearchesOn : Rows → List (List ℕ) → List ℕ → ℕ → ℕ → OracleState → OracleState → Type 0
SearchesOn h access w low high before now = (m : Rows) (asked : List (List (List ℕ))) → IsPlainOracle m asked before now → IsSearching m h access w low high asked before.kept now.kept
