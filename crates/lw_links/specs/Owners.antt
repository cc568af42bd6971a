-- Lists of cells by their owner: what contracts see of `Lists`, and what each call makes of it.
use Rattle.std.specs.Prelude.{◌≡◌, ◌≢◌, ℕ, ◌-◌, ◌<◌, ◌==◌, ◌↔◌, Bool, not, All, AllPairs, Contains, if◌then◌else◌, List, [], ◌∷◌, ◌++◌, length, map, filter, replicate, position, option_and_then, slice_index_or, slice_set, Option, Some, None}
use Rattle.std.specs.List.{list_any}

-- how many cells there are, and the list of each owner, in the owners' order
pub record ListsByOwner : Type 0 where
  pub cells : ℕ
  pub lists : List (List ℕ)

-- whether a list has a cell
abbrev pub has : ℕ → List ℕ → Bool
has cell xs = list_any (λ x. cell == x) xs

-- the first cell of a list
abbrev pub first_in : List ℕ → Option ℕ
first_in [] = None
first_in (x ∷ xs) = Some x

-- what stands behind a cell in a list
abbrev pub behind : ℕ → List ℕ → Option ℕ
behind cell [] = None
behind cell (x ∷ xs) = if cell == x then first_in xs else behind cell xs

-- a list without a cell, the others in their order
abbrev pub without : ℕ → List ℕ → List ℕ
without cell xs = filter (λ x. not (cell == x)) xs

-- the list of an owner
abbrev pub list_of : ListsByOwner → ℕ → List ℕ
list_of v owner = slice_index_or v.lists owner []

-- the owner whose list has the cell
abbrev pub owner_of : ListsByOwner → ℕ → Option ℕ
owner_of v cell = position (has cell) v.lists

-- the first cell of an owner's list
abbrev pub first_of : ListsByOwner → ℕ → Option ℕ
first_of v owner = first_in (list_of v owner)

-- what stands behind a cell in the list that has it
abbrev pub next_of : ListsByOwner → ℕ → Option ℕ
next_of v cell = option_and_then (λ owner. behind cell (list_of v owner)) (owner_of v cell)

-- an empty list for each owner
abbrev pub empty_lists : ℕ → ℕ → ListsByOwner
empty_lists owners cells = record { cells = cells; lists = replicate owners [] }

-- more owners with empty lists, and more cells; all else as before
abbrev pub grown : ListsByOwner → ℕ → ℕ → ListsByOwner
grown v owners cells = record { cells = cells; lists = v.lists ++ replicate (owners - length v.lists) [] }

-- another list for one owner
abbrev pub with_list : ListsByOwner → ℕ → List ℕ → ListsByOwner
with_list v owner xs = record { cells = v.cells; lists = slice_set v.lists owner xs }

-- the cell last in the owner's list
abbrev pub pushed : ListsByOwner → ℕ → ℕ → ListsByOwner
pushed v owner cell = with_list v owner (list_of v owner ++ cell ∷ [])

-- the cell in no list
abbrev pub unlinked : ListsByOwner → ℕ → ListsByOwner
unlinked v cell = record { cells = v.cells; lists = map (without cell) v.lists }

-- the cells of one owner behind those of another, and its own list empty
abbrev pub moved : ListsByOwner → ℕ → ℕ → ListsByOwner
moved v giver taker = with_list (with_list v taker (list_of v taker ++ list_of v giver)) giver []

-- each cell stands at most once in all lists together, and is one of the cells that there are
pub record HasEachOnce (v : ListsByOwner) : Type 0 where
  pub once : (owner : ℕ) → AllPairs (λ a b. a ≢ b) (list_of v owner)
  pub one_owner : (a b cell : ℕ) → Contains (list_of v a) cell → Contains (list_of v b) cell → a ≡ b
  pub in_range : (owner : ℕ) → All (λ cell. cell < v.cells) (list_of v owner)

-- the way from a start by `next` goes over these cells, and then there is none
abbrev pub Spells : (ℕ → Option ℕ) → Option ℕ → List ℕ → Type 0
Spells next start [] = start ≡ None
Spells next start (x ∷ xs) = (start ≡ Some x) × Spells next (next x) xs

-- from an owner's first cell by `next` one goes over the owner's list
abbrev pub NextSpellsEachList : Type 0
NextSpellsEachList = (v : ListsByOwner) → HasEachOnce v → (owner : ℕ)
    → Spells (next_of v) (first_of v owner) (list_of v owner)

-- a cell's owner is the one whose list has it
abbrev pub OwnerHasTheCell : Type 0
OwnerHasTheCell = (v : ListsByOwner) → HasEachOnce v → (owner cell : ℕ)
    → (owner_of v cell ≡ Some owner) ↔ Contains (list_of v owner) cell
