-- What a pass knows, and how its calls change it.
use Rattle.std.specs.Prelude.{◌≡◌, ℕ, ◌==◌, nat_le, ◌≤◌, List, [], ◌∷◌, ◌++◌, length, Option, Some, None, if◌then◌else◌}
use mathlib.Core.List.{IsPrefix}
use Rattle.lw_turn.specs.declared.shared.Entry.{Entry}
use Rattle.lw_turn.specs.declared.view.View.{View}
use Rattle.lw_turn.specs.declared.view.Ended.{Ended}
use Rattle.lw_turn.specs.History.{entries_of}
use Rattle.lw_turn.specs.Counting.{sum_below}

-- the longer of two lists
abbrev pub longer : {X : Type 0} → List X → List X → List X
longer xs ys = if nat_le (length xs) (length ys) then ys else xs

module _ {A B : Type 0} where
  -- the pass of that number among those that were joined
  abbrev pub ended_of : ℕ → List (Ended A B) → Option (Ended A B)
  ended_of n [] = None
  ended_of n (e ∷ es) = if e.number == n then Some e else ended_of n es

  -- the own entries that are kept of a pass that was joined
  abbrev pub mine_of : Option (Ended A B) → List (Entry A B)
  mine_of None = []
  mine_of (Some e) = e.mine

module _ {O A B : Type 0} where
  -- pass 0 when the turnstile is made
  abbrev pub first_view : O → View O A B
  first_view o = record { number = 0; opening = o; mine = []; seen = []; made = 1; ended = [] }

  -- the pass that is made next: it has made no call, and has seen as much
  abbrev pub next_view : View O A B → View O A B
  next_view v = record { number = v.made; opening = v.opening; mine = []; seen = v.seen; made = 0; ended = [] }

  -- what is kept of a pass that is joined
  abbrev pub ended_view : View O A B → Ended A B
  ended_view w = record { number = w.number; mine = w.mine; seen = w.seen }

  -- pass 0 after the pass w was joined
  abbrev pub joined_view : View O A B → View O A B → View O A B
  joined_view v w = record v { seen = longer v.seen w.seen; ended = ended_view w ∷ v.ended }

  -- After a turn: the history is one that a single thread gets, begins with what was seen, and ends with this entry,
  -- which is one more of the pass's own, and these are all that the history has of it
  pub record IsTurned (legal : O → List (Entry A B) → Type 0) (v : View O A B) (ask : A) (reply : B) (w : View O A B) : Type 0 where
    pub between : List (Entry A B)
    pub seen : w.seen ≡ (v.seen ++ between) ++ record { actor = v.number; ask = ask; reply = reply } ∷ []
    pub mine : w.mine ≡ v.mine ++ record { actor = v.number; ask = ask; reply = reply } ∷ []
    pub own : entries_of v.number w.seen ≡ w.mine
    pub lawful : legal v.opening w.seen
    pub same : w ≡ record v { seen = w.seen; mine = w.mine }

  -- the own entries of the pass of that number, as pass 0 has them
  abbrev pub own_of : View O A B → ℕ → List (Entry A B)
  own_of v n = if n == v.number then v.mine else mine_of (ended_of n v.ended)

  -- The history of a core at the end. For each number it has the own entries of the pass with that number, each once and in order,
  -- and no others, so it has as many as the passes made. It begins with what each pass had seen
  pub record IsWhole (legal : O → List (Entry A B) → Type 0) (v : View O A B) (history : List (Entry A B)) : Type 0 where
    pub lawful : legal v.opening history
    pub own : (n : ℕ) → entries_of n history ≡ own_of v n
    pub others : (n : ℕ) → v.made ≤ n → entries_of n history ≡ []
    pub total : length history ≡ sum_below v.made (λ n. length (own_of v n))
    pub seen : IsPrefix v.seen history
    pub ended : (n : ℕ) (e : Ended A B) → ended_of n v.ended ≡ Some e → IsPrefix e.seen history
