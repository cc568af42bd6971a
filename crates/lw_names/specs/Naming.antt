-- The shared names of outputs, and how the outputs of instances are read by them.
use Rattle.std.specs.Prelude.{◌≡◌, ℕ, ◌<◌, ◌≤◌, List, [], ◌++◌, length, map, slice_index_or, slice_set, Bool, true, false, Option, Some, None}
use Rattle.std.specs.List.{All, AllPairs}
use Rattle.std.specs.Ordering.{nat_cmp}
use Rattle.std.specs.declared.cmp.Ordering.TheVariants.{Less}
use Rattle.std.specs.Cmp.Lexicographic.{slice_cmp}
use Rattle.lw_words.specs.Word.{IsName, AllDiffer, name_at, named, number_in}
use Rattle.lw_names.specs.Names.{with_names}

-- the names, by the numbers that recorded answers have; and where they are free, the names that each instance brought,
-- by the instance's own numbers
pub record Naming : Type 0 where
  pub names : List (List ℕ)
  pub brought : Option (List (List (List ℕ)))

abbrev pub own_by : List (List ℕ) → Option (List (List (List ℕ))) → ℕ → List (List ℕ)
own_by names None instance = names
own_by names (Some brought) instance = slice_index_or brought instance []

-- the names that an instance's own numbers stand for: all of them, where they are declared
abbrev pub own_names : Naming → ℕ → List (List ℕ)
own_names naming instance = own_by naming.names naming.brought instance

abbrev pub brought_more : Option (List (List (List ℕ))) → ℕ → List (List ℕ) → Option (List (List (List ℕ)))
brought_more None instance names = None
brought_more (Some brought) instance names = Some (slice_set brought instance (slice_index_or brought instance [] ++ names))

-- an instance brings names: the shared list gains, at its end and in order, each of them that it lacks
abbrev pub bring : Naming → ℕ → List (List ℕ) → Naming
bring naming instance names = record { names = with_names naming.names names; brought = brought_more naming.brought instance names }

-- an instance's outputs, by the shared numbers of their names
abbrev pub shared : Naming → ℕ → List ℕ → List ℕ
shared naming instance outs = map (λ y. number_in naming.names (name_at (own_names naming instance) y)) outs

abbrev pub IsFree : Option (List (List (List ℕ))) → Type 0
IsFree None = ⊥
IsFree (Some brought) = Unit {0}

-- the names that an instance may bring with these outputs: they are those that its outputs name and it has not brought, in
-- the order in which they come; none where names are declared, and at most 256 in all where they are free
pub record MayBring (free : Bool) (own names : List (List ℕ)) (outs : List ℕ) : Type 0 where
  pub numbers : All (λ y. y < length (own ++ names)) outs
  pub new : own ++ names ≡ with_names own (named (own ++ names) outs)
  pub each : All IsName names
  pub differ : AllDiffer (own ++ names)
  pub declared : free ≡ false → names ≡ []
  pub few : free ≡ true → length (own ++ names) ≤ 256

-- the first of two names is before the other one, byte by byte
abbrev pub IsBefore : List ℕ → List ℕ → Type 0
IsBefore one other = slice_cmp nat_cmp one other ≡ Less

-- each name is before all that follow it
abbrev pub AreSorted : List (List ℕ) → Type 0
AreSorted names = AllPairs IsBefore names

-- each name has now the number that `to` has at the place of the one that it had before
abbrev pub Renumbers : List ℕ → List (List ℕ) → List (List ℕ) → Type 0
Renumbers to before now = (y : ℕ) → y < length before → (slice_index_or to y 0 < length now) × (name_at now (slice_index_or to y 0) ≡ name_at before y)

-- where names are free each actor has a list of those that it brought
abbrev pub HasLists : Option (List (List (List ℕ))) → ℕ → Type 0
HasLists None actors = Unit {0}
HasLists (Some brought) actors = actors ≤ length brought
