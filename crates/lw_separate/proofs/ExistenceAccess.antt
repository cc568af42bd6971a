-- The least access words of a machine's states exist where all are reached.
use Rattle.std.proofs.Common.{◌≡◌, ℕ, ◌<◌, ◌⊎◌, inl, inr, ⊎_elim, List, [], length, get_or, Some, None}
use Rattle.lw_mealy.specs.Machine.{Rows, IsMachine, Reached}
use Rattle.lw_separate.specs.Canonical.{IsLeastAccess}
use Rattle.lw_separate.proofs.AccessLemmas.{word_of_place, unreached}
use Rattle.lw_separate.proofs.ExistenceLevels.{collected}
use Rattle.lw_separate.proofs.ExistenceSearch.{known_or_new, searched}

-- a state has a least access word, or no word leads to it
pub least_or_unreached : (a : ℕ) (m : Rows) → IsMachine a m → (q : ℕ) → ((w : List ℕ) × IsLeastAccess a m q w) ⊎ (¬ Reached a m q)
least_or_unreached a m machine q =
    let s = searched a m machine in
    ⊎_elim
    (λ (o : (k : ℕ) × (get_or s.places q None ≡ Some k)). inl (get_or s.words o.0 [], word_of_place a m s.words s.states s.places s.search q o.0 o.1))
    (λ (none : get_or s.places q None ≡ None). inr (unreached a m s.words s.states s.places s.search q none))
    (known_or_new (get_or s.places q None))

least_of_reached : (a : ℕ) (m : Rows) → IsMachine a m → (q : ℕ) → Reached a m q → (w : List ℕ) × IsLeastAccess a m q w
least_of_reached a m machine q reached = ⊎_elim (λ (l : (w : List ℕ) × IsLeastAccess a m q w). l) (λ (no : ¬ Reached a m q). absurd (no reached)) (least_or_unreached a m machine q)

-- one for each state, in the order of the states
pub least_words : (a : ℕ) (m : Rows) → IsMachine a m → ((q : ℕ) → q < length m → Reached a m q) → (list : List (List ℕ)) × (length list ≡ length m) × ((q : ℕ) → q < length list → IsLeastAccess a m q (get_or list q []))
least_words a m machine reached = collected (λ q w. IsLeastAccess a m q w) [] (length m) (λ q lt. least_of_reached a m machine q (reached q lt))
