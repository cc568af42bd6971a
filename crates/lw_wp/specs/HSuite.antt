-- Suites of the H-method, by what they are for. Source: Dorofeeva, El-Fakih and Koufareva (2005).
use Rattle.std.specs.Prelude.{ℕ, ◌≤◌, List, length}
use Rattle.std.specs.List.{All}
use Rattle.lw_words.specs.Word.{IsWord}
use Rattle.lw_mealy.specs.Machine.{Rows, IsMachine}
use Rattle.lw_chunks.specs.Size.{suite_size}
use Rattle.lw_wp.specs.WpSuite.{IsWpSuite}
use Rattle.lw_wp.specs.WpTells.{TellsStates}

-- words over the machine's letters that tell its states apart as far as answers need that are to fix it, for k extra states; at most
-- as many as the W-method's size says
pub record IsHSuite (a : ℕ) (h : Rows) (k : ℕ) (suite : List (List ℕ)) : Type 0 where
  pub letters : All (IsWord a) suite
  pub tells : TellsStates a h k suite
  pub few : length suite ≤ suite_size (length h) a k

-- a Wp-suite is one
abbrev pub WpSuiteIsHSuite : Type 0
WpSuiteIsHSuite = (a : ℕ) (h : Rows) (k : ℕ) (suite : List (List ℕ)) → IsMachine a h → IsWpSuite a h k suite → IsHSuite a h k suite
