-- The entries of one actor in a history.
use Rattle.std.specs.Prelude.{ℕ, ◌==◌, List, filter}
use Rattle.lw_turn.specs.declared.shared.Entry.{Entry}

-- an actor's own entries, in order
abbrev pub entries_of : {A B : Type 0} → ℕ → List (Entry A B) → List (Entry A B)
entries_of n = filter (λ e. e.actor == n)
