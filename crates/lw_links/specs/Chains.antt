-- How the lists are kept: each cell knows its owner and its neighbours, each owner its list's ends.
use Rattle.std.specs.Prelude.{◌≡◌, ℕ, ◌<◌, ◌==◌, Bool, true, false, if◌then◌else◌, List, [], ◌∷◌, length, map, slice_index_or, Option, Some, None, is_none, suc, zero}
use Rattle.lw_links.specs.Owners.{has}
use Rattle.lw_links.specs.declared.links.Place.{Place}
use Rattle.lw_links.specs.declared.links.Ends.{Ends}

-- the place of a cell that is in no list
abbrev pub place_in_no_list : Place
place_in_no_list = record { owner = None; previous = None; next = None }

-- the ends of an empty list
abbrev pub no_ends : Ends
no_ends = record { first = None; last = None }

abbrev pub place_of_cell : List Place → ℕ → Place
place_of_cell places cell = slice_index_or places cell place_in_no_list

abbrev pub ends_at : List Ends → ℕ → Ends
ends_at ends owner = slice_index_or ends owner no_ends

-- a list's first cell, or what comes after the list
abbrev pub first_or : List ℕ → Option ℕ → Option ℕ
first_or [] after = after
first_or (x ∷ xs) after = Some x

-- a list's last cell, or what comes before the list
abbrev pub last_or : List ℕ → Option ℕ → Option ℕ
last_or [] before = before
last_or (x ∷ xs) before = last_or xs (Some x)

abbrev pub ends_of : List ℕ → Ends
ends_of xs = record { first = first_or xs None; last = last_or xs None }

-- these cells are the owner's, and each knows its neighbours: `before` and `after` stand round them
abbrev pub IsChain : (ℕ → Place) → ℕ → Option ℕ → List ℕ → Option ℕ → Type 0
IsChain place owner before [] after = Unit {0}
IsChain place owner before (x ∷ xs) after =
    (place x ≡ record { owner = Some owner; previous = before; next = first_or xs after }) × IsChain place owner (Some x) xs after

-- the cells from a start by `next`, this many at most
abbrev pub walk : (ℕ → Place) → ℕ → Option ℕ → List ℕ
walk place zero start = []
walk place (suc n) None = []
walk place (suc n) (Some cell) = cell ∷ walk place n (place cell).next

-- the list of each owner
abbrev pub lists_in : List Ends → List Place → List (List ℕ)
lists_in ends places = map (λ e. walk (place_of_cell places) (length places) e.first) ends

-- each cell of a list stands in it once
abbrev pub StandsOnce : List ℕ → Type 0
StandsOnce [] = Unit {0}
StandsOnce (x ∷ xs) = (has x xs ≡ false) × StandsOnce xs

-- what places and ends keep of the lists, by owner
pub record IsLinked (place : ℕ → Place) (ends : ℕ → Ends) (cells : ℕ) (list : ℕ → List ℕ) : Type 0 where
  pub chain : (owner : ℕ) → IsChain place owner None (list owner) None
  pub ends_are : (owner : ℕ) → ends owner ≡ ends_of (list owner)
  pub once : (owner : ℕ) → StandsOnce (list owner)
  pub in_range : (owner cell : ℕ) → has cell (list owner) ≡ true → cell < cells
  pub owned : (cell owner : ℕ) → (place cell).owner ≡ Some owner → has cell (list owner) ≡ true
  pub free : (cell : ℕ) → (place cell).owner ≡ None → place cell ≡ place_in_no_list

abbrev pub KeepsLists : List Ends → List Place → Type 0
KeepsLists ends places =
    IsLinked (place_of_cell places) (ends_at ends) (length places) (λ owner. slice_index_or (lists_in ends places) owner [])

-- whether this is the cell
abbrev pub is_cell : Option ℕ → ℕ → Bool
is_cell None cell = false
is_cell (Some x) cell = cell == x

-- a cell's place once these two are neighbours
abbrev pub joined : Option ℕ → Option ℕ → ℕ → Place → Place
joined previous next cell p = record {
  owner = p.owner;
  previous = if is_cell next cell then previous else p.previous;
  next = if is_cell previous cell then next else p.next;
}

-- the ends of a list once the cell with this place is taken out
abbrev pub ends_without : Ends → Place → Ends
ends_without ends p = record {
  first = if is_none p.previous then p.next else ends.first;
  last = if is_none p.next then p.previous else ends.last;
}

-- the cells from a start by `next`
abbrev pub way_in : List Place → Option ℕ → List ℕ
way_in places start = walk (place_of_cell places) (length places) start

-- a cell's place once these cells are given to the owner
abbrev pub given : ℕ → List ℕ → ℕ → Place → Place
given owner xs cell p = record { owner = if has cell xs then Some owner else p.owner; previous = p.previous; next = p.next }
